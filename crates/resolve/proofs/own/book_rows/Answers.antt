use Rattle.std.proofs.Common.{arith, ◌∙◌}
use Rattle.laws.specs.Table.{filled_none, filled_more}
use Rattle.resolve.proofs.Down.{byte_is}
use Rattle.resolve.proofs.own.book_rows.Goals as goal

pub loop-i-init : goal.loop-i-init
loop-i-init c = (rw (← c.requires.visible_len) (filled_none _ _), rw (← c.requires.alpha_len) (filled_none _ _))

pub loop-i-preserved : goal.loop-i-preserved
loop-i-preserved c = let v = c.loop-i.invariant in
    (filled_more v.0 (omega arith) (c.from.ensures ∙ byte_is _ ∙ rw c.pane-row.ensures), filled_more v.1 (omega arith) (rw c.pane-row.ensures))
