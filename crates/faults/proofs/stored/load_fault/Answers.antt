-- What the tests tell.
use Rattle.faults.specs.Load.{load_told}
use Rattle.faults.proofs.stored.load_fault.Goals as goal

pub returns : goal.returns
returns c = load_told _ c.loading_fault.ensures
