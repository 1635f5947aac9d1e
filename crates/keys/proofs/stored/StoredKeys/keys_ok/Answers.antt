-- Before the first key none is passed.
use Rattle.std.proofs.Common.{arith}
use Rattle.laws.specs.Below.{passed_none}
use Rattle.keys.proofs.stored.StoredKeys.keys_ok.Goals as goal

pub loop-i-init : goal.loop-i-init
loop-i-init c = record { passed = passed_none _ _; before = omega arith }
