-- The sizes broke no rule.
use Rattle.std.proofs.Common.{rules}
use Rattle.faults.specs.Book.{head_sized}
use Rattle.faults.proofs.books.layout_fault.Goals as goal

pub parts_fault-requires-clause-sized : goal.parts_fault-requires-clause-sized
parts_fault-requires-clause-sized c = head_sized _ (search rules)
