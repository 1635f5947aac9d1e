-- The layout was kept.
use Rattle.std.proofs.Common.{rules}
use Rattle.faults.specs.Sheet.{sheet_kept}
use Rattle.faults.proofs.stored.loading_fault.Goals as goal

pub invariant_of-own_fault : goal.invariant_of-own_fault
invariant_of-own_fault c = record { checked = sheet_kept _ (search rules) }
