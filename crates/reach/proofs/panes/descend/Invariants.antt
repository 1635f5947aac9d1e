-- The rows above i are made, and what they hand their children is in the tables; a parent stands above its children.
use Rattle.reach.proofs.Down.{Made}
use Rattle.reach.proofs.panes.descend.Given as goal

abbrev pub invariant-loop-i : goal.invariant-loop-i
invariant-loop-i l = Made l.book.bytes.now l.channels l.visible l.influence l.panes l.i
