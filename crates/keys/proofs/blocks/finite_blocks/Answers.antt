-- A block further, each sum has seen one more key.
use Rattle.std.proofs.Common.{◌≡◌, ◌+◌, ◌*◌, arith}
use Rattle.keys.specs.Lanes.{lanes_none, lanes_more}
use Rattle.keys.proofs.blocks.finite_blocks.Goals as goal

pub loop-block-init : goal.loop-block-init
loop-block-init c = lanes_none _

pub loop-block-preserved : goal.loop-block-preserved
loop-block-preserved c =
    let e : (c.loop-block.block + 1) * 4 ≡ c.loop-block.block * 4 + 4 = omega arith in
    rw (e, c.left_of-a.ensures, c.left_of-b.ensures, c.left_of-c.ensures, c.left_of-d.ensures) (lanes_more c.loop-block.invariant)
