-- After each target the targets of the run so far have their channels, and what is held is true of its content.
use Rattle.std.proofs.Common.{IfSome}
use Rattle.channel.specs.Held.{Holds}
use Rattle.reading.specs.Plan.{Numbered}
use Rattle.reading.proofs.plan.number_channels.Given as goal

abbrev pub invariant-loop-t : goal.invariant-loop-t
invariant-loop-t l =
    Numbered l.sheet.bytes.now l.names.book.bytes.now l.p l.channels l.t
    × IfSome l.held (Holds l.sheet.bytes.now l.names.book.bytes.now l.p.animation)
