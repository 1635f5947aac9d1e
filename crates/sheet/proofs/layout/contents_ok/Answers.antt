-- No row is before the first.
use Rattle.std.proofs.Common.{sym}
use Rattle.laws.specs.Below.{passed_none}
use Rattle.sheet.specs.Tested.{prior_none}
use Rattle.sheet.proofs.layout.contents_ok.Goals as goal

pub loop-i-init : goal.loop-i-init
loop-i-init c = record { passed = passed_none _ _; before = sym (prior_none _) }
