use Rattle.std.proofs.Common.{◌*◌}
use Rattle.keys.specs.Rules.{finite_key}
use Rattle.keys.specs.Lanes.{Lanes}
use Rattle.keys.proofs.blocks.finite_blocks.Given as goal

-- the four sums tell of the blocks so far
abbrev pub invariant-loop-block : goal.invariant-loop-block
invariant-loop-block l = Lanes (finite_key l.keys.frames.now l.keys.values.now l.keys.slopes.now) (l.block * 4) l.a l.b l.c l.d
