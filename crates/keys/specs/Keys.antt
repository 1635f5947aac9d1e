-- Whether lent lists are keys of a sheet: row 4 of the table in document 01, "What a call declines". The test is total: it holds of any list of
-- bytes and any three lists of floats, so it also asks what rows 1 and 3 ask, as far as it needs that to look at the keys. Of a checked sheet
-- with lists as long as it says it is the key rules themselves (`keys_are`). Assumes nothing.
use Rattle.std.specs.Prelude.{ℕ, ◌+◌, ◌<◌, ◌≤◌, List, Bool, true, false, ◌&&◌, ◌≡◌, leb, eqb, length, Float}
use Rattle.std.proofs.Common.{ap, arith}
use borrow.Author.Tests.{leb-true, eqb-true, le-leb, lt-leb, eq-eqb}
use Rattle.laws.specs.Tests.{both}
use Rattle.laws.specs.Below.{all_below, all_same}
use Rattle.sheet.specs.Sizes.{target_count, key_count, head_bytes, sheet_bytes}
use Rattle.sheet.specs.Rows.{target_row}
use Rattle.sheet.specs.Sheet.{length_ok}
use Rattle.sheet.specs.Checked.{Checked, length_known, target_keys}
use Rattle.keys.specs.Rules.{finite_key, curve_ok, track_ok, key_rules}

-- s is as long as its sizes say, and the lists are K long
unfoldable pub keys_fit : List ℕ → List Float → List Float → List Float → Bool
keys_fit s fs vs ss = leb head_bytes (length s) && length_ok s && eqb (length fs) (key_count s) && eqb (length vs) (key_count s) && eqb (length ss) (key_count s)

-- the keys of track t are among the K, and keep their rules
unfoldable pub held_track : List ℕ → List Float → List Float → List Float → ℕ → Bool
held_track s fs vs ss t = leb ((target_row s t).first + (target_row s t).count) (key_count s) && track_ok s fs vs ss t

unfoldable pub keys_ok : List ℕ → List Float → List Float → List Float → Bool
keys_ok s fs vs ss = keys_fit s fs vs ss && all_below (key_count s) (finite_key fs vs ss) && all_below (target_count s) (held_track s fs vs ss)

-- the two answers on a track, from its fields
module _ (s : List ℕ) (fs vs ss : List Float) (t first count : ℕ) (f : first ≡ (target_row s t).first) (c : count ≡ (target_row s t).count) (k : length fs ≡ key_count s) where
  pub held_not : length fs < first + count → false ≡ held_track s fs vs ss t
  unfolding held_track
  held_not l = rw (← f, ← c, ← k, lt-leb (first + count) (length fs) l)

  pub held_by : {r : Bool} {curve : ℕ} → first + count ≤ length fs → curve ≡ (target_row s t).curve → r ≡ curve_ok curve fs vs ss first count → r ≡ held_track s fs vs ss t
  unfolding held_track track_ok
  held_by l e h = rw (← f, ← c, ← k, ← e, le-leb (first + count) (length fs) l) h

-- what `keys_fit` tells, for `omega`
pub record Fit (s : List ℕ) (fs vs ss : List Float) : Type 0 where
  pub sized : head_bytes ≤ length s
  pub long : length s ≡ sheet_bytes s
  pub frames : length fs ≡ key_count s
  pub values : length vs ≡ key_count s
  pub slopes : length ss ≡ key_count s

pub fit : (s : List ℕ) (fs vs ss : List Float) → keys_fit s fs vs ss ≡ true → Fit s fs vs ss
unfolding keys_fit
fit s fs vs ss e =
    let z = both _ _ e in
    let v = both _ _ z.0 in
    let f = both _ _ v.0 in
    let l = both (leb head_bytes (length s)) (length_ok s) f.0 in
    record {
      sized = leb-true head_bytes (length s) l.0;
      long = length_known s l.1;
      frames = eqb-true (length fs) (key_count s) f.1;
      values = eqb-true (length vs) (key_count s) v.1;
      slopes = eqb-true (length ss) (key_count s) z.1;
    }

module _ {s : List ℕ} (w : Checked s) (fs vs ss : List Float) (f : length fs ≡ key_count s) (v : length vs ≡ key_count s) (z : length ss ≡ key_count s) where
  -- Of a checked sheet with lists K long, the test is the key rules.
  pub keys_are : keys_ok s fs vs ss ≡ key_rules s fs vs ss
  unfolding keys_ok keys_fit key_rules length_ok
  keys_are =
      rw (le-leb head_bytes (length s) (omega arith), eq-eqb (length s) _ w.long, eq-eqb (length fs) (key_count s) f, eq-eqb (length vs) (key_count s) v, eq-eqb (length ss) (key_count s) z)
      (ap (λ (b : Bool). all_below (key_count s) (finite_key fs vs ss) && b) (all_same (target_count s) (held_track s fs vs ss) (track_ok s fs vs ss) held))
    where
      held : (t : ℕ) → t < target_count s → held_track s fs vs ss t ≡ track_ok s fs vs ss t
      held t l = unfold held_track in rw (le-leb _ _ (target_keys w t l))
