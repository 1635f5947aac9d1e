-- The player after a drop, and row 5's question of an open drag as one about its key and its neighbours (document 02, 2/13 and 4/13). Assumes nothing.
use Rattle.std.specs.Prelude.{ℕ, ◌<◌, ◌≡◌, true, cond, List}
use Rattle.sheet.specs.Sizes.{target_count}
use Rattle.sheet.specs.Rows.{target_row}
use Rattle.sheet.specs.Checked.{Checked}
use Rattle.curve.specs.declared.Key.{Key}
use Rattle.edit.specs.Keys.{Keys, keys_ok_of}
use Rattle.edit.specs.Edit.{has_key, spot_of}
use Rattle.edit.specs.Spot.{InsideAll}
use Rattle.edit.specs.Put.{has_key_lem, spot_inside}
use Rattle.player.specs.declared.Player.{Player}
use Rattle.player.specs.declared.drag.Drag.{Drag}
use Rattle.player.specs.Drag.{no_drag, drop_unchanged, drag_entry, drag_ok}
use Rattle.player.specs.Parts.{with_drag}
use Rattle.player.specs.Edited.{edited_player}

-- Drop: "one journal entry with the key as it was at opening and is now; it adds one to accepted and reach and empties redo as an edit does; with no
-- accepted drag it leaves none and changes no count, reach or redo". Nor does an unchanged drop.
unfoldable pub dropped_player : Player → Key → Player
dropped_player p now = cond (drop_unchanged p.drag now) (with_drag p no_drag) (edited_player (with_drag p no_drag) (drag_entry p.drag now))

-- ---- sheet, keys and the drag's row passed their checks
pub record Draggable (s : List ℕ) (ks : Keys) (d : Drag) : Type 0 where
  pub sheet : Checked s
  pub rules : keys_ok_of s ks ≡ true
  pub row : drag_ok s d ≡ true

-- an open drag names a key of the sheet
pub open_has : (s : List ℕ) (d : Drag) → drag_ok s d ≡ true → d.«open» ≡ true → has_key s d.track d.key ≡ true
unfolding drag_ok
open_has s d e o = rw o at e

module _ {s : List ℕ} {ks : Keys} {d : Drag} (w : Draggable s ks d) (o : d.«open» ≡ true) where
  pub drag_key : (d.track < target_count s) × (d.key < (target_row s d.track).count)
  drag_key = has_key_lem s d.track d.key (open_has s d w.row o)

  pub drag_inside : InsideAll ks.frames ks.values ks.slopes (spot_of s d.track d.key)
  drag_inside = spot_inside w.sheet ks w.rules d.track d.key drag_key.0 drag_key.1
