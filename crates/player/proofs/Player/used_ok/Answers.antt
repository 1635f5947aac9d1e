-- The rows are counted by edit numbers.
use Rattle.std.proofs.Common.{◌∙◌}
use Rattle.player.proofs.Whole.{used_rows}
use Rattle.player.proofs.Player.used_ok.Goals as goal

pub returns : goal.returns
returns c = c.names_keys.ensures ∙ used_rows _ c.args.self.now c.requires
