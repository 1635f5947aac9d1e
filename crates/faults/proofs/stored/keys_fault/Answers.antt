-- What the tests tell.
use Rattle.faults.specs.Keys.{keys_told}
use Rattle.faults.proofs.stored.keys_fault.Goals as goal

pub returns : goal.returns
returns c = keys_told c.args.sheet.checked c.own_fault.ensures
