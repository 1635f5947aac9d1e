-- What passed the check is a sheet.
use Rattle.std.proofs.Common.{rules}
use Rattle.sheet.specs.Checked.{checked}
use Rattle.sheet.proofs.view.Sheet.new.Goals as goal

pub invariant_of-result : goal.invariant_of-result
invariant_of-result c = record { checked = checked _ (search rules) }
