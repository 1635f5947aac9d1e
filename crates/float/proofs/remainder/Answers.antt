-- The sign of y is left out, and that of x is put back. Each way is one law of `Doubled`.
use Rattle.std.proofs.Common.{false, T, pos, sym, ap, ◌∙◌, subst, true≢false}
use lib.Ieee.{Float, fin, binary32, fits, of_bits, lt, div, neg, rem}
use lib.Ieee.Bits.{is_true}
use lib.Ieee.Fits.{neg-fits}
use Rattle.float.specs.Numbers.{finite}
use Rattle.float.proofs.Doubled.{rem_neg_right, rem_neg_left, neg_up, neg_finite, rem_zero, rem_none, rem_infinite}
use Rattle.float.proofs.remainder.Goals as goal
use Rattle.float.proofs.remainder.Goals.{then-y, else-y}

pub returns-then-not-is_finite : goal.returns-then-not-is_finite
returns-then-not-is_finite c = rem_infinite _ _ (sym c.is_finite.ensures ∙ c.if-not-is_finite.true)

pub remainder_up-requires-clause-x_up : goal.remainder_up-requires-clause-x_up
unfolding of_bits
remainder_up-requires-clause-x_up c = neg_up _ (subst T (sym c.if-x.true) tt)

pub remainder_up-requires-clause-x_finite : goal.remainder_up-requires-clause-x_finite
remainder_up-requires-clause-x_finite c = neg_finite _ (subst T (sym (sym c.is_finite.ensures ∙ c.if-not-is_finite.false)) tt)

pub returns-then-x : goal.returns-then-x
unfolding of_bits
returns-then-x c =
    elim c.if-y.branch [
      | then-y w ↦ ap neg c.remainder_up.ensures ∙ rem_neg_left _ _ (subst T (sym c.if-x.true) tt) ∙ ap (rem binary32 c.args.x) w.t-is ∙ rem_neg_right _ _
      | else-y w ↦ ap neg c.remainder_up.ensures ∙ rem_neg_left _ _ (subst T (sym c.if-x.true) tt) ∙ ap (rem binary32 c.args.x) w.t-is
    ]

pub returns-then-x-2 : goal.returns-then-x-2
returns-then-x-2 c =
    elim c.if-y.branch [
      | then-y w ↦ c.remainder_up-then-x-2.ensures ∙ ap (rem binary32 c.args.x) w.t-is ∙ rem_neg_right _ _
      | else-y w ↦ c.remainder_up-then-x-2.ensures ∙ ap (rem binary32 c.args.x) w.t-is
    ]

pub returns-then-t : goal.returns-then-t
unfolding of_bits
returns-then-t c =
    let x_fits : T (fits binary32 c.args.x) = subst T (sym c.well_formed.0.1) tt in
    let y_fits : T (fits binary32 c.args.y) = subst T (sym c.well_formed.1.0.1) tt in
    let x_finite : T (finite c.args.x) = subst T (sym (sym c.is_finite.ensures ∙ c.if-not-is_finite.false)) tt in
    elim c.if-y.branch [
      | then-y w ↦ rem_zero _ (neg c.args.y) (x_fits) (neg-fits binary32 _ (y_fits)) (x_finite) c.if-x.false c.if-x-2.false (subst (λ (z : Float). T (lt (fin false 0 (pos 0)) z)) w.t-is (subst T (sym c.if-t.true) tt)) ∙ rem_neg_right _ _
      | else-y w ↦ rem_zero _ _ (x_fits) (y_fits) (x_finite) c.if-x.false c.if-x-2.false (subst (λ (z : Float). T (lt (fin false 0 (pos 0)) z)) w.t-is (subst T (sym c.if-t.true) tt))
    ]

pub returns : goal.returns
unfolding of_bits
returns c =
    let x_finite : T (finite c.args.x) = subst T (sym (sym c.is_finite.ensures ∙ c.if-not-is_finite.false)) tt in
    elim c.if-y.branch [
      | then-y w ↦ absurd (true≢false (sym (is_true _ (neg_up c.args.y (subst T (sym w.if-y.true) tt))) ∙ ap (lt (fin false 0 (pos 0))) (sym w.t-is) ∙ c.if-t.false))
      | else-y w ↦ ap (λ (z : Float). div binary32 z z) w.t-is ∙ rem_none _ _ (x_finite) w.if-y.false (ap (lt (fin false 0 (pos 0))) (sym w.t-is) ∙ c.if-t.false)
    ]
