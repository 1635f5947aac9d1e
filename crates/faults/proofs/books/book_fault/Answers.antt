-- What the tests tell.
use Rattle.faults.specs.Book.{book_told}
use Rattle.faults.proofs.books.book_fault.Goals as goal

pub returns : goal.returns
returns c = book_told _ c.layout_fault.ensures
