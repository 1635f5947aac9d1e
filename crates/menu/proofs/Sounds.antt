-- What the calls may count on where a player's state is not broken, and sheet and keys are checked. Assumes nothing.
use Rattle.std.specs.Prelude.{ℕ, ◌≡◌, true, List, Float}
use Rattle.std.proofs.Common.{arith}
use Rattle.sheet.specs.Checked.{Checked}
use Rattle.curve.specs.Lists.{keys}
use Rattle.edit.specs.declared.spot.Spot.{Spot}
use Rattle.edit.specs.Keys.{Within}
use Rattle.edit.specs.Spot.{InsideAll}
use Rattle.edit.specs.Edit.{has_key}
use Rattle.player.specs.declared.Player.{Player}
use Rattle.player.specs.declared.undo.Way.{Way}
use Rattle.player.specs.declared.undo.Way.TheVariants.{Undo, Redo}
use Rattle.player.specs.Player.{player_ok}
use Rattle.player.specs.Undo.{entries}
use Rattle.player.specs.Counts.{CanEdit, CanTake}
use Rattle.player.specs.Sound.{Sound, sound, selected_below}
use Rattle.player.specs.Dragged.{open_has}
use Rattle.player.specs.Ticked.{Selected}

module _ (s : List ℕ) (p : Player) (e : player_ok s p ≡ true) where
  sound_of : Sound s p
  sound_of = sound s p e

  pub selected : Checked s → Selected s p
  selected w = record { sheet = w; selection = selected_below sound_of }

  pub can_edit : CanEdit p
  can_edit = let c = sound_of.counts in record { reach = omega (arith, c.room); accepted = c.accepts; standing = c.stands }

  pub open_key : p.drag.«open» ≡ true → has_key s p.drag.track p.drag.key ≡ true
  open_key o = open_has s p.drag sound_of.drag o

  pub can_take : (way : Way) → (entries way p ≡ 0 → ⊥) → CanTake way p
  can_take Undo d = let c = sound_of.counts in record { reach = omega arith; standing = omega (arith, c.below); redo = omega (arith, c.room); undone = c.undoes }
  can_take Redo d = let c = sound_of.counts in record { redo = omega arith; reach = omega (arith, c.room); redone = c.redoes; standing = c.stands }

-- a key's place is one of each array
pub within : (fs vs ss : List Float) (p : Spot) → InsideAll fs vs ss p → Within (keys fs vs ss) p.at
within fs vs ss p i = record { frames = i.frames.here; values = i.values; slopes = i.slopes }
