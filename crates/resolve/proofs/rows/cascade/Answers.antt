-- Each pane's own visible and alpha first, then the way down by parent.
use Rattle.resolve.specs.Cascade.{visibles, alphas, influences}
use Rattle.resolve.proofs.Down.{own_rows_make}
use Rattle.resolve.proofs.rows.cascade.Goals as goal

pub returns-clause-visible_after : goal.returns-clause-visible_after
unfolding visibles
returns-clause-visible_after c = rw (own_rows_make _ _ _ _ _ _ c.own_rows.ensures.visible_after c.own_rows.ensures.alpha_after) at c.descend.ensures.visible_after

pub returns-clause-alpha_after : goal.returns-clause-alpha_after
unfolding alphas
returns-clause-alpha_after c = rw (own_rows_make _ _ _ _ _ _ c.own_rows.ensures.visible_after c.own_rows.ensures.alpha_after) at c.descend.ensures.alpha_after

pub returns-clause-influence_after : goal.returns-clause-influence_after
unfolding influences
returns-clause-influence_after c = rw (own_rows_make _ _ _ _ _ _ c.own_rows.ensures.visible_after c.own_rows.ensures.alpha_after) at c.descend.ensures.influence_after
