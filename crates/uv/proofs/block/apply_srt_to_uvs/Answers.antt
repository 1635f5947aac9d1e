-- A layer's three calls are its turn, and the three turns are `applied`. That the block has four corners is known of an array (`ok`, `good`).
use mathlib.Core.Path.{ap, ◌∙◌}
use Rattle.uv.specs.Uvs.{layer_applied}
use Rattle.uv.specs.Sets.{set_turn}
use borrow.Author.Rules.{rules}
use Rattle.uv.proofs.block.apply_srt_to_uvs.Goals as goal

pub returns : goal.returns
returns c = set_turn _ 2 _ c.with_set-second.type_inv.1.0.1 c.layer_set-3.ensures c.transform_set-c.ensures (search rules)
    ∙ ap (layer_applied _ 2) (set_turn _ 1 _ c.with_set-first.type_inv.1.0.1 c.layer_set-2.ensures c.transform_set-b.ensures c.with_set-second.ensures
    ∙ ap (layer_applied _ 1) (set_turn _ 0 _ c.well_formed.0.1.0.1 c.layer_set.ensures c.transform_set-a.ensures c.with_set-first.ensures))
