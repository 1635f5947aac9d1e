-- Twice a is exact, so its cut is below 2 ^ 24, and half of one more than that is the nearest whole number (`up_case`).
use Rattle.std.proofs.Common.{◌≡◌, ℕ, ◌+◌, ◌/◌, ◌<◌, ◌≤◌, false, T, sym, ap, ◌∙◌, subst, arith, le→leb}
use lib.Ieee.{binary32, round, of_int, in_float}
use Rattle.float.proofs.Whole.{Up, up_case}
use Rattle.float.proofs.whole_up.Goals as goal

pub overflow_add-k : goal.overflow_add-k
overflow_add-k c = let known : Up c.args.a = up_case c.args.a (subst T (sym c.well_formed.0.1) tt) c.requires.positive c.requires.small in omega (arith, (known).small)

pub int_to_float-result : goal.int_to_float-result
unfolding in_float
int_to_float-result c = let known : Up c.args.a = up_case c.args.a (subst T (sym c.well_formed.0.1) tt) c.requires.positive c.requires.small in le→leb _ _ (few _ _ c.cut_u64-n.ensures (known).small)
  where
    few : (n t : ℕ) → n ≡ t → t < 16777216 → (n + 1) / 2 ≤ 16777216
    few n t e h = omega arith

pub returns : goal.returns
unfolding of_int
returns c = let known : Up c.args.a = up_case c.args.a (subst T (sym c.well_formed.0.1) tt) c.requires.positive c.requires.small in ap (λ (n : ℕ). round binary32 false ((n + 1) / 2) 1) c.cut_u64-n.ensures ∙ (known).is
