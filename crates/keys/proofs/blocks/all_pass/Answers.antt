-- A block further, the next starts four keys on.
use Rattle.std.proofs.Common.{◌≡◌, ◌+◌, ◌*◌, arith}
use Rattle.laws.specs.Blocks.{blocks_none, blocks_more}
use Rattle.keys.proofs.blocks.all_pass.Goals as goal

pub loop-block-init : goal.loop-block-init
loop-block-init g c =
    let e : c.args.first + 0 ≡ c.args.first = omega arith in
    rw e (blocks_none c.four_pass-ok.ensures)

pub loop-block-preserved : goal.loop-block-preserved
loop-block-preserved g c =
    let e : c.args.first + (c.loop-block.block + 1) * 4 ≡ c.args.first + c.loop-block.block * 4 + 4 = omega arith in
    rw e (blocks_more c.loop-block.invariant (omega arith) c.four_pass-ok-in-loop-block.ensures)
