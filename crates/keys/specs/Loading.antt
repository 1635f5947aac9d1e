-- What loading's rows tell, and its two outcomes (document 01, "Sheet and book" and "What a call declines"). Assumes nothing.
use Rattle.std.specs.Prelude.{ℕ, ◌+◌, List, ◌&&◌, ◌≡◌, eqb, length, Float}
use Rattle.std.proofs.Math.Path.{refl}
use Rattle.std.proofs.Common.{sym, ◌∙◌, eqb-true, ne_eqb}
use Rattle.laws.specs.Tests.{both}
use Rattle.laws.specs.Rows.{declines, held, hold_at, held_at, row_in}
use Rattle.sheet.specs.Sizes.{key_count, frames_at, points_at}
use Rattle.sheet.specs.Checked.{Checked, checked}
use Rattle.keys.specs.Rules.{key_rules}
use Rattle.keys.specs.Keys.{keys_ok, keys_are}
use Rattle.keys.specs.Checked.{KeysChecked, keys_checked}
use Rattle.keys.specs.Stored.{floats_from, stored_frames, stored_values, stored_slopes, frames_long, values_long, slopes_long, Stored}
use Rattle.keys.specs.Load.{arrays_ok, lent_rows, load_table, loaded, load_of}

-- where nothing is declined, the sheet's keys can be read, the arrays are K long, and the keys keep the rules
pub record Loadable (s : List ℕ) (f v z : ℕ) : Type 0 where
  pub stored : Stored s
  pub frames : f ≡ key_count s
  pub values : v ≡ key_count s
  pub slopes : z ≡ key_count s
  pub keys : KeysChecked s (stored_frames s) (stored_values s) (stored_slopes s)

pub loadable : (s : List ℕ) (f v z : ℕ) → declines (load_table s f v z) ≡ 0 → Loadable s f v z
unfolding load_table arrays_ok
loadable s f v z e =
    let r = held (load_table s f v z) tt e in
    let h = keys_checked s (stored_frames s) (stored_values s) (stored_slopes s) (hold_at 4 (load_table s f v z) (search row_in) r) in
    let c = both (eqb f (key_count s) && eqb v (key_count s)) (eqb z (key_count s)) (hold_at 3 (load_table s f v z) (search row_in) r) in
    let b = both (eqb f (key_count s)) (eqb v (key_count s)) c.0 in
    record {
      stored = record { checked = checked s (hold_at 1 (load_table s f v z) (search row_in) r); numbers = h.numbers };
      frames = eqb-true f (key_count s) b.0;
      values = eqb-true v (key_count s) b.1;
      slopes = eqb-true z (key_count s) c.1;
      keys = h;
    }

-- where lent keys aren't declined, they are keys of the sheet
pub lent_checked : (s : List ℕ) (fs vs ss : List Float) → declines (lent_rows s fs vs ss) ≡ 0 → KeysChecked s fs vs ss
lent_checked s fs vs ss e = keys_checked s fs vs ss (held_at 4 (lent_rows s fs vs ss) (search row_in) tt e)

-- of a checked sheet's own keys the test is the key rules themselves
pub stored_rules : {s : List ℕ} → Checked s →
    keys_ok s (stored_frames s) (stored_values s) (stored_slopes s) ≡ key_rules s (stored_frames s) (stored_values s) (stored_slopes s)
stored_rules {s} w = keys_are w _ _ _ (frames_long s) (values_long s) (slopes_long s)

module _ (s : List ℕ) (fs vs ss : List Float) where
  abbrev refusal : ℕ
  refusal = declines (load_table s (length fs) (length vs) (length ss))

  -- the number that it gives is its table's
  pub load_number : (load_of s fs vs ss).refusal ≡ refusal
  unfolding load_of
  load_number = refl

  -- declined: the arrays are as they were
  pub load_keeps : (refusal ≡ 0 → ⊥) → load_of s fs vs ss ≡ loaded refusal fs vs ss
  unfolding load_of
  load_keeps h = rw (ne_eqb refusal 0 h)

  pub load_declined : (n : ℕ) → n ≡ refusal → (n ≡ 0 → ⊥) → loaded n fs vs ss ≡ load_of s fs vs ss
  load_declined n e h = rw e (sym (load_keeps (rw e at h)))

  -- done: they hold the sheet's keys
  pub load_done : (n : ℕ) → n ≡ refusal → n ≡ 0 → (xs ys zs : List Float) → xs ≡ floats_from s (frames_at s) 4 (length fs) → ys ≡ floats_from s (points_at s) 8 (length vs)
      → zs ≡ floats_from s (points_at s + 4) 8 (length ss) → loaded 0 xs ys zs ≡ load_of s fs vs ss
  unfolding load_of stored_frames stored_values stored_slopes
  load_done n e h xs ys zs p q r =
      let w = loadable s (length fs) (length vs) (length ss) (sym e ∙ h) in
      rw (sym e ∙ h, p, q, r, w.frames, w.values, w.slopes)
