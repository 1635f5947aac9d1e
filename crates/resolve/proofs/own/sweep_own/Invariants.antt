-- After each target the tables are each pane's own visible and alpha by the targets so far, and what is held is true of its content.
use Rattle.std.proofs.Common.{IfSome}
use Rattle.channel.specs.Held.{Holds}
use Rattle.resolve.proofs.Pass.{Pass}
use Rattle.resolve.proofs.own.sweep_own.Given as goal

abbrev pub invariant-loop-t : goal.invariant-loop-t
invariant-loop-t l =
    let r = l.menu.ready in
    Pass r.sheet.bytes.now l.menu.book.bytes.now r.keys.frames.now r.keys.values.now r.keys.slopes.now l.at.animation l.at.frame l.visible l.alpha l.t
    × IfSome l.held (Holds r.sheet.bytes.now l.menu.book.bytes.now l.at.animation)
