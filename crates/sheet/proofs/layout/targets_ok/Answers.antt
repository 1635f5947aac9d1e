-- Before the first row no count is summed, and no row is before it.
use Rattle.std.proofs.Common.{arith, sym}
use Rattle.laws.specs.Below.{passed_none}
use Rattle.laws.specs.Sum.{sum_none}
use Rattle.sheet.specs.Tested.{prior_none}
use Rattle.sheet.proofs.layout.targets_ok.Goals as goal

pub loop-i-init : goal.loop-i-init
loop-i-init c = record { passed = passed_none _ _; summed = sym (sum_none _); small = omega arith; before = sym (prior_none _) }
