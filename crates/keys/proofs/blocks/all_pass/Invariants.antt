use Rattle.std.proofs.Common.{◌+◌, ◌*◌}
use Rattle.laws.specs.Blocks.{Blocks}
use Rattle.keys.proofs.blocks.all_pass.Given as goal

-- the answer is that on the blocks so far and on the last
abbrev pub invariant-loop-block : goal.invariant-loop-block
invariant-loop-block g l = Blocks 4 l.first l.count (g.R.Rule.holds l.rule) l.ok (l.first + l.block * 4)
