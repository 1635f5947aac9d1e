use Rattle.laws.specs.Below.{Passed}
use Rattle.laws.specs.Noted.{Noted}
use Rattle.field.specs.Name.{name_ok}
use Rattle.field.specs.Bucket.{buckets, row_bucket}
use Rattle.field.proofs.names.Names.are_distinct.Given as goal

-- each row so far has a name of its own, and its bucket is seen
abbrev pub invariant-loop-i : goal.invariant-loop-i
invariant-loop-i l = record {
  passed : Passed l.self.rows (name_ok l.self.table.now l.self.base l.self.stride) l.i;
  noted : Noted buckets (row_bucket l.self.table.now l.self.base l.self.stride) l.seen l.i;
}
