-- `reach` gives `reach_of`, its outputs included: the channels' marks, and by them the panes'.
use Rattle.std.proofs.Common.{refl}
use Rattle.laws.specs.Refused as refusal
use Rattle.reach.proofs.Answers.{refused, made}
use Rattle.reach.proofs.call.reach.Goals as goal

pub returns-in-Ok : goal.returns-in-Ok
returns-in-Ok c =
    let o = c.in-Ok.ensures in
    made _ _ _ _ _ _ _ (rw c.in-Ok.is at c.checked.ensures.declined) refl (rw (o.sheet, o.book, o.old, o.new) at c.touched_channels.ensures) (rw o.book at c.touched_panes.ensures)

pub returns-in-Err : goal.returns-in-Err
returns-in-Err c = rw c.number.ensures (refused _ _ _ _ _ _ _ (rw c.in-Err.is at c.checked.ensures.declined) (refusal.refused _))
