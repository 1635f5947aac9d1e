-- What a plan tells: the run that two searches give, and the numbers of its channels. Assumes nothing.
use Prim.Native.Nat.{ℕ, ◌+◌, ◌*◌, ◌<◌, ◌≤◌}
use mathlib.Core.Bool.{Bool, true, false}
use mathlib.Core.List.{List}
use mathlib.Core.Path.{◌≡◌, refl, sym, ◌∙◌, ap}
use native.Mathlib.Omega.{arith}
use borrow.Author.Tests.{ltb-true, ltb-false}
use mathlib.Core.Logic.{⊎_elim}
use native.Mathlib.Nat.{eq-or-lt_of_le, le_of_suc-le-suc}
use lib.Dec.{ltb}
use lib.ListN.{get_or, set, length-set}
use lib.Seq.{get_or-set_same, get_or-set_other}
use Rattle.laws.specs.Parted.{Parted, Climbs}
use Rattle.std.specs.Prelude.{Option, Some, None, IfSome}
use Rattle.sheet.specs.Sizes.{animation_count, content_count, target_count, target_bytes, targets_at}
use Rattle.sheet.specs.Rows.{target_at, target_row}
use Rattle.sheet.specs.declared.rows.Target.{Target}
use Rattle.sheet.specs.Checked.{Checked, target_content_lem, target_climbs, content_climbs, content_animation_lem}
use Rattle.book.specs.Checked.{CheckedBook}
use Rattle.channel.specs.Channel.{row_channel, target_channel}
use Rattle.channel.specs.Animation.{target_animation}
use Rattle.channel.specs.Held.{held_for}
use Rattle.channel.specs.Channel.{active_reach}
use Rattle.channel.specs.Within.{ReachedIn, SomeIn, active_in_lem}
use Rattle.channel.specs.declared.Reached.{Reached}
use Rattle.channel.specs.declared.reach.Held.{Held}
use Rattle.reading.specs.declared.plan.Plan.{Plan}
use Rattle.reading.specs.Plan.{no_channel, channel_number, Run, Numbered}
use Rattle.reading.specs.Numbers.{number_fits}

-- ---- the run

-- the animations of targets never fall
pub animations_climb : {s : List ℕ} → Checked s → Climbs (target_animation s) (target_count s)
unfolding target_animation
animations_climb {s} w = record { climbs = λ i j l m. content_climbs w _ _ (target_climbs w i j l m) (target_content_lem w j m) }

pub run_none : (s : List ℕ) (a : ℕ) → Checked s → animation_count s ≤ a → Run s (record { animation = a; from = 0; to = 0 })
unfolding target_animation
run_none s a w l =
    record {
      order = omega arith;
      within = omega arith;
      before = λ t m e. absurd (omega arith);
      behind = λ t m k e. omega (arith, content_animation_lem w (target_row s t).content (target_content_lem w t k));
    }

pub run_between : (s : List ℕ) {a from to : ℕ} → Parted (target_animation s) (target_count s) a from from → Parted (target_animation s) (target_count s) (a + 1) to to → Run s (record { animation = a; from = from; to = to })
run_between s {a} {from} {to} p q =
    record {
      order = ordered;
      within = q.within;
      before = λ t m e. omega (arith, p.below t m);
      behind = λ t m k e. omega (arith, q.above t m k);
    }
  where
    go : (r : Bool) → ltb to from ≡ r → from ≤ to
    go true e = let l = ltb-true to from e in absurd (omega (arith, p.below to l, q.above to (omega arith) (omega (arith, p.within))))
    go false e = ltb-false to from e

    ordered : from ≤ to
    ordered = go (ltb to from) refl

-- ---- the pass that numbers them

module _ (s : List ℕ) (i : ℕ) {row : Target} where
  pub row_is : {base : ℕ} → base ≡ targets_at s → row ≡ target_at s (base + i * target_bytes) → row ≡ target_row s i
  unfolding target_row
  row_is e q = rw e at q

  pub row_content : Checked s → i < target_count s → row ≡ target_row s i → row.content < content_count s
  row_content w l e = rw e (target_content_lem w i l)

pub held_in : (s b : List ℕ) (a c : ℕ) {h : Held} → h ≡ held_for s b a c → IfSome h.reached (ReachedIn b)
held_in s b a c e = rw e (go (active_reach s b a c) (active_in_lem s b a c))
  where
    go : (o : Option Reached) → SomeIn b o → IfSome o (ReachedIn b)
    go (Some r) h = h.some r refl
    go None h = tt

-- the channel of target t, by its row and by what its content reaches
pub channel_is : (s b : List ℕ) (a t : ℕ) {row : Target} {h : Held} {o : Option ℕ} → row ≡ target_row s t → h ≡ held_for s b a row.content → o ≡ row_channel b h.reached row → target_channel s b a t ≡ o
unfolding target_channel
channel_is s b a t e k q = sym (rw k at q ∙ rw e)

-- its number fits
pub number_is : (s b : List ℕ) (a t : ℕ) {row : Target} {h : Held} {o : Option ℕ} → row ≡ target_row s t → h ≡ held_for s b a row.content → o ≡ row_channel b h.reached row → CheckedBook b → channel_number o ≤ no_channel
number_is s b a t e k q w = rw (channel_is s b a t e k q) at (number_fits s b a t w)

-- one target more of the run has its channel in the list
module _ {s b : List ℕ} {p : Plan} {channels : List ℕ} where
  pub numbered_more : {i m : ℕ} {row : Target} {h : Held} {o : Option ℕ} → Numbered s b p channels i → i < target_count s → row ≡ target_row s i → h ≡ held_for s b p.animation row.content → o ≡ row_channel b h.reached row → m ≡ channel_number o → Numbered s b p (set channels i m) (i + 1)
  numbered_more {i} {m} {row} w l e k q z =
      record {
        room = omega (arith, length-set channels i m, w.room);
        numbered = λ t f g. ⊎_elim (λ (y : t ≡ i). here t y) (λ (y : t < i). get_or-set_other channels i t m 0 (λ v. omega arith) ∙ w.numbered t f y) (eq-or-lt_of_le (le_of_suc-le-suc (omega arith)));
      }
    where
      here : (t : ℕ) → t ≡ i → get_or (set channels i m) t 0 ≡ channel_number (target_channel s b p.animation t)
      here t y = rw y (get_or-set_same channels i m 0 (omega (arith, w.room)) ∙ z ∙ ap channel_number (sym (channel_is s b p.animation i e k q)))
