use Rattle.field.specs.Index.{Indexed}
use Rattle.field.proofs.names.Names.index.Given as goal

-- each row so far is kept in its name's bucket, or a later one is
abbrev pub invariant-loop-i : goal.invariant-loop-i
invariant-loop-i l = Indexed l.self.table.now l.self.base l.self.stride l.i l.index
