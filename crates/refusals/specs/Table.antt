-- Document 01's table "What a call declines", with the rows that document 02's requests add, call by call: the list of rows that the call's contract cites, and the numbers that the list has.
-- Definitions only.
use Rattle.std.specs.Prelude.{ℕ, List, [], ◌∷◌, length}
use Rattle.laws.specs.Rows.{Row, declines}
use Rattle.keys.specs.Load.{load_table}
use Rattle.uv.specs.Declined.{uvs_table}
use Rattle.corner.specs.Declined.{corners_table, translate_table, rotate_table}
use Rattle.edit.specs.declared.request.Request.{Request}
use Rattle.edit.specs.declared.request.Request.TheVariants as request
use Rattle.menu_checks.specs.Counts.{sheet_counts_table, book_counts_table}
use Rattle.menu.specs.Rows.{play_table, pose_table, tick_table, edit_table, undo_table, redo_table, open_table, drag_table, close_table, save_table, next_name_table}
use Rattle.reach.specs.Calls.{reach_table}
use Rattle.menu_c.specs.Naming.{next_name_out_table, texture_name_out_table}
use Rattle.machine.specs.Asks.{Ask, pane_channel, material_channel, all, pane, layer, texture, cascade, ask_table}
use Rattle.machine.specs.Calls.{Call, play, pose, tick, edit, undo, redo, open_drag, drag, drop_drag, abandon_drag, ask, save, State}
use Rattle.refusals.specs.Outward.{Outward, made, sheet_counts, book_counts, load, next_name, next_name_out, texture_name_out, reach, uvs, corners, translate, rotate_point}

-- of the calls of demand 3
unfoldable pub call_table : List ℕ → Call → State → List Row
call_table s (play a) t = play_table s t.player a
call_table s (pose a x) t = pose_table s t.player x
call_table s (tick dt fps) t = tick_table s t.player dt fps
call_table s (edit track key r) t = edit_table s t.player t.keys track key r
call_table s undo t = undo_table s t.player t.keys
call_table s redo t = redo_table s t.player t.keys
call_table s (open_drag track key) t = open_table s t.player t.keys track key
call_table s (drag x v) t = drag_table s t.player t.keys x v
call_table s drop_drag t = close_table s t.player t.keys
call_table s abandon_drag t = close_table s t.player t.keys
call_table s (ask b q) t = ask_table s b t.player t.keys q
call_table s (save o) t = save_table s t.player t.keys (length o)

unfoldable pub table_of : List ℕ → Outward → List Row
table_of s (made c t) = call_table s c t
table_of s sheet_counts = sheet_counts_table s
table_of s (book_counts b) = book_counts_table b
table_of s (load ks) = load_table s (length ks.frames) (length ks.values) (length ks.slopes)
table_of s (next_name a) = next_name_table s a
table_of s (next_name_out a o) = next_name_out_table s a o
table_of s (texture_name_out b m slot t o) = texture_name_out_table s b t.player t.keys m slot o
table_of s (reach b ks ls a channels panes) = reach_table s b ks ls a channels panes
table_of s (uvs ls ss o) = uvs_table ls ss (length o)
table_of s (corners c size ox oy r) = corners_table c size ox oy r
table_of s (translate k d) = translate_table k d
table_of s (rotate_point p c r) = rotate_table p c r

-- The numbers of a call's rows, in their order: "Loading takes sheet and key arrays; play, pose, tick take sheet and player; edits, undo, redo also
-- keys; readings also keys and book", saving "takes sheet, player and keys", and so do the four calls of a drag; behind what they take their own. A number stands as often as its row has
-- tests of its own: where keys are taken, row 5 asks of the player, of its open drag over the keys, and in an undo and a redo of the entry.
abbrev pub edit_numbers : Request → List ℕ
edit_numbers (request.Key x v) = 1 ∷ 3 ∷ 4 ∷ 5 ∷ 5 ∷ 6 ∷ 15 ∷ 7 ∷ 8 ∷ 9 ∷ []
edit_numbers (request.Slope m) = 1 ∷ 3 ∷ 4 ∷ 5 ∷ 5 ∷ 6 ∷ 15 ∷ 7 ∷ 8 ∷ 10 ∷ []

abbrev pub ask_numbers : Ask → List ℕ
ask_numbers (pane_channel i c) = 1 ∷ 2 ∷ 3 ∷ 4 ∷ 5 ∷ 5 ∷ 7 ∷ []
ask_numbers (material_channel m c) = 1 ∷ 2 ∷ 3 ∷ 4 ∷ 5 ∷ 5 ∷ 7 ∷ []
ask_numbers (all marks numbers) = 1 ∷ 2 ∷ 3 ∷ 4 ∷ 5 ∷ 5 ∷ 13 ∷ []
ask_numbers (pane i) = 1 ∷ 2 ∷ 3 ∷ 4 ∷ 5 ∷ 5 ∷ 7 ∷ []
ask_numbers (layer m k) = 1 ∷ 2 ∷ 3 ∷ 4 ∷ 5 ∷ 5 ∷ 7 ∷ []
ask_numbers (texture m k) = 1 ∷ 2 ∷ 3 ∷ 4 ∷ 5 ∷ 5 ∷ 7 ∷ []
ask_numbers (cascade visible alpha influence) = 1 ∷ 2 ∷ 3 ∷ 4 ∷ 5 ∷ 5 ∷ 13 ∷ []

abbrev pub call_numbers : Call → List ℕ
call_numbers (play a) = 1 ∷ 5 ∷ 6 ∷ []
call_numbers (pose a x) = 1 ∷ 5 ∷ 8 ∷ []
call_numbers (tick dt fps) = 1 ∷ 5 ∷ 8 ∷ 8 ∷ []
call_numbers (edit track key r) = edit_numbers r
call_numbers undo = 1 ∷ 3 ∷ 4 ∷ 5 ∷ 5 ∷ 5 ∷ 15 ∷ 11 ∷ []
call_numbers redo = 1 ∷ 3 ∷ 4 ∷ 5 ∷ 5 ∷ 5 ∷ 15 ∷ 11 ∷ []
call_numbers (open_drag track key) = 1 ∷ 3 ∷ 4 ∷ 5 ∷ 5 ∷ 6 ∷ 15 ∷ 7 ∷ []
call_numbers (drag x v) = 1 ∷ 3 ∷ 4 ∷ 5 ∷ 5 ∷ 15 ∷ 8 ∷ 9 ∷ []
call_numbers drop_drag = 1 ∷ 3 ∷ 4 ∷ 5 ∷ 5 ∷ 15 ∷ []
call_numbers abandon_drag = 1 ∷ 3 ∷ 4 ∷ 5 ∷ 5 ∷ 15 ∷ []
call_numbers (ask b q) = ask_numbers q
call_numbers (save o) = 1 ∷ 3 ∷ 4 ∷ 5 ∷ 5 ∷ 14 ∷ []

abbrev pub numbers_of : Outward → List ℕ
numbers_of (made c t) = call_numbers c
numbers_of sheet_counts = 1 ∷ []
numbers_of (book_counts b) = 2 ∷ []
numbers_of (load ks) = 1 ∷ 3 ∷ 4 ∷ []
numbers_of (next_name a) = 1 ∷ 6 ∷ []
numbers_of (next_name_out a o) = 1 ∷ 6 ∷ 13 ∷ []
numbers_of (texture_name_out b m slot t o) = 1 ∷ 2 ∷ 3 ∷ 4 ∷ 5 ∷ 5 ∷ 7 ∷ 13 ∷ []
numbers_of (reach b ks ls a channels panes) = 1 ∷ 2 ∷ 3 ∷ 3 ∷ 4 ∷ 4 ∷ 6 ∷ 13 ∷ []
numbers_of (uvs ls ss o) = 8 ∷ 8 ∷ 8 ∷ 8 ∷ 12 ∷ 13 ∷ []
numbers_of (corners c size ox oy r) = 7 ∷ 7 ∷ 8 ∷ 8 ∷ 8 ∷ 12 ∷ 12 ∷ 12 ∷ []
numbers_of (translate k d) = 8 ∷ 8 ∷ []
numbers_of (rotate_point p c r) = 8 ∷ 8 ∷ 8 ∷ 12 ∷ 12 ∷ 12 ∷ []

-- the number that a call declines with, 0 for none
abbrev pub refusal_of : List ℕ → Outward → ℕ
refusal_of s c = declines (table_of s c)
