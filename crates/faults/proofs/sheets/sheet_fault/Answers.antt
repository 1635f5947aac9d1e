-- What the tests tell.
use Rattle.faults.specs.Sheet.{sheet_told}
use Rattle.faults.proofs.sheets.sheet_fault.Goals as goal

pub returns : goal.returns
returns c = sheet_told _ c.layout_fault.ensures
