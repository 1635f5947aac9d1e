-- The row that is reached is one of the book's, and the channel one of its row's.
use Rattle.std.proofs.Common.{rules, arith, sym, ◌∙◌}
use Rattle.channel.specs.Within.{ReachedIn, pane_channel_below}
use Rattle.channel.proofs.Inside.{material_channel_below}
use Rattle.channel.proofs.address.row_channel.Goals as goal

pub of_pane-requires-clause-pane : goal.of_pane-requires-clause-pane
of_pane-requires-clause-pane c = let i : ReachedIn c.args.book.now.bytes.now c.in_ok-p.field-0 = search rules in omega (arith, i.pane _ c.in-Pane.is)

pub of_pane-requires-clause-channel : goal.of_pane-requires-clause-channel
of_pane-requires-clause-channel c = (pane_channel_below _ _).below _ (sym c.pane_row_channel.ensures ∙ c.in_ok-pane_row_channel-in-Pane.was)

pub of_material-requires-clause-material : goal.of_material-requires-clause-material
of_material-requires-clause-material c = let i : ReachedIn c.args.book.now.bytes.now c.in_ok-p.field-0 = search rules in i.material _ c.in-Material.is

pub of_material-requires-clause-channel : goal.of_material-requires-clause-channel
of_material-requires-clause-channel c = (material_channel_below _ _ _).below _ (sym c.material_row_channel.ensures ∙ c.in_ok-material_row_channel-in-Material.was)
