-- One more place holds its float.
use Rattle.std.proofs.Common.{arith}
use Rattle.laws.specs.Table.{filled_more}
use Rattle.keys.proofs.load.copy_floats.Goals as goal

pub loop-i-preserved : goal.loop-i-preserved
loop-i-preserved c = filled_more c.loop-i.invariant (omega arith) c.f32_at.ensures
