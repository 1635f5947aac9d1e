-- `indent` ends: a parent is a smaller row.
use Rattle.std.proofs.Common.{◌<◌}
use Rattle.book.specs.Sizes.{pane_count}
use Rattle.cli_info.proofs.book_rows.indent.Given as goal

abbrev pub invariant-loop-parent : goal.invariant-loop-parent
invariant-loop-parent l = l.at < pane_count l.book.bytes.now

abbrev pub decreases-loop-parent : goal.decreases-loop-parent
decreases-loop-parent l = l.at
