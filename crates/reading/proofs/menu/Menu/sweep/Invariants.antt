-- After each target the tables are the whole reading of the targets so far.
use Rattle.reading.proofs.Pass.{Pass}
use Rattle.reading.proofs.menu.Menu.sweep.Given as goal

abbrev pub invariant-loop-t : goal.invariant-loop-t
invariant-loop-t l =
    let r = l.self.ready in
    Pass r.sheet.bytes.now l.self.book.bytes.now r.keys.frames.now r.keys.values.now r.keys.slopes.now l.fn.p l.x l.marks l.numbers l.t
