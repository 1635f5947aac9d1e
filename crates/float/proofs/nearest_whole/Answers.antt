-- Each way returns the nearest whole number by one law of `Whole`.
use Rattle.std.proofs.Common.{T, sym, ap, ◌∙◌, subst}
use lib.Ieee.{binary32, fits, of_bits, neg}
use Rattle.float.proofs.Whole.{up_large, down_large, at_zero, turned, turned_up, turned_under}
use Rattle.float.proofs.nearest_whole.Goals as goal

pub whole_up-requires : goal.whole_up-requires
unfolding of_bits
whole_up-requires c = record { positive = subst T (sym c.if-x.true) tt; small = subst T (sym c.if-x-2.true) tt }

pub returns-then-x : goal.returns-then-x
unfolding of_bits
returns-then-x c = let held : T (fits binary32 c.args.x) = subst T (sym c.well_formed.0.1) tt in up_large _ (held) c.if-x.true c.if-x-2.false

pub whole_up-requires-then-x-4 : goal.whole_up-requires-then-x-4
unfolding of_bits
whole_up-requires-then-x-4 c = record { positive = turned_up _ c.if-x-3.true; small = turned_under _ c.if-x-4.true c.if-x-3.true }

pub returns-then-x-4 : goal.returns-then-x-4
returns-then-x-4 c = ap neg c.whole_up-then-x-4.ensures ∙ turned _

pub returns-then-x-3 : goal.returns-then-x-3
unfolding of_bits
returns-then-x-3 c = let held : T (fits binary32 c.args.x) = subst T (sym c.well_formed.0.1) tt in down_large _ (held) c.if-x-3.true c.if-x-4.false

pub returns : goal.returns
unfolding of_bits
returns c = let held : T (fits binary32 c.args.x) = subst T (sym c.well_formed.0.1) tt in at_zero _ (held) c.if-x.false c.if-x-3.false
