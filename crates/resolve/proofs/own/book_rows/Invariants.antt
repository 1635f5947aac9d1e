-- After i turns the first i panes have what the book has.
use Rattle.laws.specs.Table.{Filled}
use Rattle.book.specs.Sizes.{pane_count}
use Rattle.resolve.specs.Resolve.{book_alpha}
use Rattle.resolve.specs.Own.{book_bit}
use Rattle.resolve.proofs.own.book_rows.Given as goal

abbrev pub invariant-loop-i : goal.invariant-loop-i
invariant-loop-i l =
    let b = l.book.bytes.now in
    Filled (pane_count b) (book_bit b) l.visible l.i × Filled (pane_count b) (book_alpha b) l.alpha l.i
