use Rattle.std.proofs.Common.{arith, refl, sym, ◌∙◌}
use Rattle.reading.proofs.Planning.{row_is}
use Rattle.reading.proofs.Pass.{row_ready, read_is, pass_none, pass_past, pass_at, pass_room, pass_all}
use Rattle.reading.proofs.menu.Menu.sweep.Goals as goal

pub loop-t-init : goal.loop-t-init
loop-t-init c = pass_none c.requires.planned.run refl c.requires.marks_value c.requires.numbers_value

pub row_value-v-requires : goal.row_value-v-requires
row_value-v-requires c = let r = c.args.self.now.ready in row_ready _ _ r.sheet.checked r.ready (omega (arith, c.requires.planned.run.within)) (row_is _ _ c.targets_at-base.ensures c.target_at-row.ensures)

pub returns-clause-marks_after : goal.returns-clause-marks_after
returns-clause-marks_after c = (pass_all c.requires.planned.run c.loop-t.invariant (omega arith)).0

pub returns-clause-numbers_after : goal.returns-clause-numbers_after
returns-clause-numbers_after c = (pass_all c.requires.planned.run c.loop-t.invariant (omega arith)).1

pub loop-t-preserved-in_default : goal.loop-t-preserved-in_default
loop-t-preserved-in_default c =
    let p = c.requires.planned in
    pass_past p.run c.loop-t.invariant p.held c.loop-t-test.true refl c.args.self.now.book.checked (sym c.in_default.is ∙ c.numbered_channel.ensures) refl

pub put-requires : goal.put-requires
put-requires c =
    let p = c.requires.planned in
    pass_room p.run c.loop-t.invariant p.held c.loop-t-test.true refl c.args.self.now.book.checked (sym c.in-Some.is ∙ c.numbered_channel.ensures) refl

pub loop-t-preserved : goal.loop-t-preserved
loop-t-preserved c =
    let p = c.requires.planned in
    pass_at p.run c.loop-t.invariant p.held c.loop-t-test.true refl c.args.self.now.book.checked (sym c.in-Some.is ∙ c.numbered_channel.ensures) refl (row_is _ _ c.targets_at-base.ensures c.target_at-row.ensures)
    c.texture_count-textures.ensures (read_is _ _ _ _ _ _ c.row_value-v.ensures c.from.ensures refl) (c.put.ensures.marks_after, c.put.ensures.numbers_after)
