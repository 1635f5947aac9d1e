use Rattle.std.proofs.Common.{arith, refl, sym, ◌∙◌}
use Rattle.reach.proofs.Pass.{pass_none, pass_past, pass_room, pass_at, pass_all}
use Rattle.reach.proofs.sets.TwoSets.sweep.Goals as goal

pub loop-t-init : goal.loop-t-init
loop-t-init c = pass_none c.requires.planned.run refl c.requires.channels_value

pub loop-t-preserved-in_default : goal.loop-t-preserved-in_default
loop-t-preserved-in_default c =
    let p = c.requires.planned in
    pass_past p.run c.loop-t.invariant p.held c.loop-t-test.true refl c.args.book.now.checked (sym c.in_default.is ∙ c.numbered_channel.ensures) refl

pub bounds-channels-c : goal.bounds-channels-c
bounds-channels-c c =
    let p = c.requires.planned in
    pass_room p.run c.loop-t.invariant p.held c.loop-t-test.true refl c.args.book.now.checked (sym c.in-Some.is ∙ c.numbered_channel.ensures) refl

pub loop-t-preserved : goal.loop-t-preserved
loop-t-preserved c =
    let p = c.requires.planned in
    pass_at p.run c.loop-t.invariant p.held c.loop-t-test.true refl c.args.book.now.checked (sym c.in-Some.is ∙ c.numbered_channel.ensures) refl c.same_track.ensures c.from.ensures

pub returns : goal.returns
returns c = pass_all c.requires.planned.run c.loop-t.invariant (omega arith)
