-- The rows above i are cascaded, and those from i on still hold each pane's own; a parent stands above its children.
use Rattle.resolve.proofs.Down.{Made}
use Rattle.resolve.proofs.rows.descend.Given as goal

abbrev pub invariant-loop-i : goal.invariant-loop-i
invariant-loop-i l = Made l.book.bytes.now l.initial.visible l.initial.alpha l.visible l.alpha l.influence l.i
