use Rattle.std.proofs.Common.{◌≡◌, None}
use Rattle.laws.specs.Below.{Passed}
use Rattle.laws.specs.First.{Missed}
use Rattle.field.specs.Name.{name_bytes, same_byte, row_named}
use Rattle.field.proofs.names.Names.find.Given as goal

-- each row so far has another name, and none is found
abbrev pub invariant-rows : goal.invariant-rows
invariant-rows l = Missed l.self.rows (row_named l.self.table.now l.self.base l.self.stride l.names l.at) l.i × (l.found ≡ None)

-- and the first k bytes of this one are the name's
abbrev pub invariant-bytes : goal.invariant-bytes
invariant-bytes l = Passed name_bytes (same_byte l.self.table.now l.place l.names l.at) l.k
