-- The rows of document 01's table "What a call declines" that look at the arguments of loading, playing, editing, dragging and saving, and each call's whole
-- list, in the order in which its rows are looked at. `..Rows` is a part of a list, `..Table` a call's list. Definitions only.
use Rattle.std.specs.Prelude.{ℕ, ◌&&◌, ◌||◌, List, [], ◌∷◌, ◌++◌, eqb, ltb, length, Float}
use Rattle.laws.specs.Rows.{Row, row}
use Rattle.float.specs.Numbers.{finite}
use Rattle.sheet.specs.Sizes.{animation_count}
use Rattle.sheet.specs.Sheet.{sheet_ok}
use Rattle.edit.specs.declared.request.Request.{Request}
use Rattle.edit.specs.declared.request.Request.TheVariants as request
use Rattle.edit.specs.Keys.{Keys}
use Rattle.edit.specs.Edit.{none, spot_of, request_rows, track_rows, edit_rows}
use Rattle.player.specs.declared.Player.{Player}
use Rattle.player.specs.declared.drag.Drag.{Drag}
use Rattle.player.specs.declared.undo.Way.{Way}
use Rattle.player.specs.declared.undo.Way.TheVariants.{Undo, Redo}
use Rattle.player.specs.Parts.{View, view_of}
use Rattle.player.specs.View.{tick_moves}
use Rattle.player.specs.Undo.{take_rows}
use Rattle.player.specs.Drag.{open_rows}
use Rattle.menu_checks.specs.Rows.{player_rows, state_rows}

-- ---- the rows of the arguments

-- row 6 of play: from A up, none apart
unfoldable pub play_rows : List ℕ → ℕ → List Row
play_rows s a = row 6 (eqb a none || ltb a (animation_count s)) ∷ []

-- row 8 of pose
unfoldable pub pose_rows : Float → List Row
pose_rows x = row 8 (finite x) ∷ []

-- row 8 of tick: its arguments, and in a playing tick the sum and the frame that it would leave
unfoldable pub tick_rows : List ℕ → View → Float → Float → List Row
tick_rows s v dt fps = row 8 (finite dt && finite fps) ∷ row 8 (tick_moves s v dt fps) ∷ []

-- row 14 of save (document 02, 1/13: "when the buffer's length differs from the sheet's"), of a buffer n long
unfoldable pub save_rows : List ℕ → ℕ → List Row
save_rows s n = row 14 (eqb n (length s)) ∷ []

-- rows 15, 8 and 9 of a drag: a key edit of the key that is open (document 02, 2/13: "6 and 7 are met at opening only")
unfoldable pub drag_rows : List ℕ → Keys → Drag → Float → Float → List Row
drag_rows s ks d x v = open_rows d.«open» ++ request_rows ks.frames (spot_of s d.track d.key) (request.Key x v)

-- ---- each call's list

unfoldable pub play_table : List ℕ → Player → ℕ → List Row
play_table s p a = player_rows s p ++ play_rows s a

unfoldable pub pose_table : List ℕ → Player → Float → List Row
pose_table s p x = player_rows s p ++ pose_rows x

unfoldable pub tick_table : List ℕ → Player → Float → Float → List Row
tick_table s p dt fps = player_rows s p ++ tick_rows s (view_of p) dt fps

unfoldable pub edit_table : List ℕ → Player → Keys → ℕ → ℕ → Request → List Row
edit_table s p ks track key r = state_rows s p ks ++ edit_rows s p.selection p.drag.«open» ks track key r

-- an undo and a redo
unfoldable pub take_table : Way → List ℕ → Player → Keys → List Row
take_table way s p ks = state_rows s p ks ++ take_rows way s p ks

abbrev pub undo_table : List ℕ → Player → Keys → List Row
undo_table s p ks = take_table Undo s p ks

abbrev pub redo_table : List ℕ → Player → Keys → List Row
redo_table s p ks = take_table Redo s p ks

-- opening a drag: a key of the active animation
unfoldable pub open_table : List ℕ → Player → Keys → ℕ → ℕ → List Row
open_table s p ks track key = state_rows s p ks ++ track_rows s p.selection p.drag.«open» track key

unfoldable pub drag_table : List ℕ → Player → Keys → Float → Float → List Row
drag_table s p ks x v = state_rows s p ks ++ drag_rows s ks p.drag x v

-- a drop and an abandonment
unfoldable pub close_table : List ℕ → Player → Keys → List Row
close_table s p ks = state_rows s p ks ++ open_rows p.drag.«open»

-- saving takes sheet, player and keys, and 14 is checked after 5
unfoldable pub save_table : List ℕ → Player → Keys → ℕ → List Row
save_table s p ks n = state_rows s p ks ++ save_rows s n

-- the name that follows an animation: rows 1 and 6, an animation from A up
unfoldable pub next_name_table : List ℕ → ℕ → List Row
next_name_table s a = row 1 (sheet_ok s) ∷ row 6 (ltb a (animation_count s)) ∷ []
