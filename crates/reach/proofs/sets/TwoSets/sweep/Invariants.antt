-- After each target the table has the marks of the targets so far.
use Rattle.edit.specs.Keys.{keys}
use Rattle.reach.proofs.Pass.{Pass}
use Rattle.reach.proofs.sets.TwoSets.sweep.Given as goal

abbrev pub invariant-loop-t : goal.invariant-loop-t
invariant-loop-t l =
    let o = l.self.old.keys in
    let n = l.self.new in
    Pass l.self.old.sheet.bytes.now l.book.bytes.now (keys o.frames.now o.values.now o.slopes.now) (keys n.frames.now n.values.now n.slopes.now) l.fn.p l.channels l.t
