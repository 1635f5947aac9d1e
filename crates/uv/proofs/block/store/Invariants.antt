-- The loop fills the output pair by pair.
use Rattle.std.proofs.Common.{◌*◌}
use Rattle.laws.specs.Table.{Filled}
use Rattle.uv.specs.Uvs.{number_of}
use Rattle.uv.proofs.block.store.Given as goal

abbrev pub invariant-loop-i : goal.invariant-loop-i
invariant-loop-i l = Filled 24 (number_of l.uvs) l.out (l.i * 2)
