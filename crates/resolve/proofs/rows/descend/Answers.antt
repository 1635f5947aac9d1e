use Rattle.std.proofs.Common.{arith, ◌∙◌}
use Rattle.resolve.proofs.Down.{byte_is, made_none, parent_within, made_more}
use Rattle.resolve.proofs.rows.descend.Goals as goal

pub loop-i-init : goal.loop-i-init
loop-i-init c = made_none _ _ _ _ c.requires.visible_len c.requires.alpha_len c.requires.influence_len

pub above-over-requires : goal.above-over-requires
above-over-requires c = λ d. parent_within c.loop-i.invariant c.args.book.now.checked (omega arith) c.pane-pane.ensures d

pub loop-i-preserved : goal.loop-i-preserved
loop-i-preserved c = made_more c.loop-i.invariant c.args.book.now.checked (omega arith) c.pane-pane.ensures c.above-over.ensures c.under-row.ensures (c.from.ensures ∙ byte_is _)
