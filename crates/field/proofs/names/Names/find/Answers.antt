-- A row that is left has another name, by its first eight bytes, its last eight or one between; the row that is found has the name.
use Rattle.std.proofs.Common.{sym, refl, ◌≡◌, arith, rules, eq-eqb, ne_eqb}
use Rattle.laws.specs.Below.{passed_more, passed_not, Passed}
use Rattle.laws.specs.First.{missed_none, missed_more, missed_at, missed_all}
use Rattle.field.specs.Name.{name_bytes, same_byte, same_name, row_named, find_name}
use Rattle.field.proofs.names.Names.find.Goals as goal

pub rows-init : goal.rows-init
rows-init c = (missed_none _ _, refl)

pub rows-preserved-then-not-same_head : goal.rows-preserved-then-not-same_head
unfolding row_named
rows-preserved-then-not-same_head c = (
  missed_more c.rows.invariant.0 (omega arith) (rw (← c.place-place.ensures.place) (c.same_head.ensures.other (search rules))),
  c.rows.invariant.1,
)

pub rows-preserved-then-not-same_tail : goal.rows-preserved-then-not-same_tail
unfolding row_named
rows-preserved-then-not-same_tail c = (
  missed_more c.rows.invariant.0 (omega arith) (rw (← c.place-place.ensures.place) (c.same_tail.ensures.other (search rules))),
  c.rows.invariant.1,
)

pub bytes-init : goal.bytes-init
bytes-init c = c.same_head.ensures.same (search rules)

pub rows-preserved : goal.rows-preserved
unfolding row_named same_name same_byte
rows-preserved c = (
  missed_more c.rows.invariant.0 (omega arith)
      (rw (← c.place-place.ensures.place) (sym (passed_not c.bytes.invariant (omega arith) (ne_eqb _ _ c.if-self-place.true)))),
  c.rows.invariant.1,
)

pub bytes-preserved : goal.bytes-preserved
unfolding same_byte
bytes-preserved c = passed_more c.bytes.invariant (omega arith) (eq-eqb _ _ c.if-self-place.false)

pub returns-after-rows : goal.returns-after-rows
unfolding find_name
returns-after-rows c = let r = c.rows in rw r.invariant.1 (missed_all r.invariant.0 (omega arith))

pub returns-after-bytes : goal.returns-after-bytes
unfolding find_name row_named
returns-after-bytes c =
    let a = c.args in
    let k : c.bytes.k ≡ 16 = omega arith in
    let p : Passed name_bytes (same_byte a.self.now.table.now c.place-place.result a.names.now a.at) 16 = rw k at c.bytes.invariant in
    missed_at c.rows.invariant.0 (omega arith) (rw (← c.place-place.ensures.place) (c.same_tail.ensures.same (search rules) p))
