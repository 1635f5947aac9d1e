-- What passed the check is a book.
use Rattle.std.proofs.Common.{rules}
use Rattle.book.specs.Checked.{checked_book}
use Rattle.book.proofs.view.Book.new.Goals as goal

pub invariant_of-result : goal.invariant_of-result
invariant_of-result c = record { checked = checked_book _ (search rules) }
