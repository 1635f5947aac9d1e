-- The test of the length is the definition's, and each way gives its four pairs.
use borrow.Author.Tests.{le-leb, lt-leb}
use native.Mathlib.Omega.{arith}
use Rattle.uv.specs.Sets.{four_same, lent_pair}
use Rattle.uv.specs.Uvs.{layer_uv, unit_square}
use Rattle.uv.proofs.block.get_uv_set.Goals as goal

pub returns-then-at-layers : goal.returns-then-at-layers
returns-then-at-layers c = let h = le-leb _ _ c.if-at-layers.true in
    four_same (layer_uv _ _) (lent_pair _ _ 0 h (omega arith) (omega arith)) (lent_pair _ _ 1 h (omega arith) (omega arith)) (lent_pair _ _ 2 h (omega arith) (omega arith)) (lent_pair _ _ 3 h (omega arith) (omega arith))

pub returns : goal.returns
unfolding layer_uv unit_square
returns c = rw (lt-leb _ _ c.if-at-layers.false)
