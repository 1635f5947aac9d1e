-- Every outward call's rows have the numbers that the table says, and go by the one order: computed call by call, whatever it takes. So what a call
-- declines with is 0 or a number of that order. Assumes nothing.
use Prim.Native.Nat.{ℕ}
use mathlib.Core.Path.{◌≡◌, refl}
use mathlib.Core.Bool.{true, false≢true}
use mathlib.Core.List.{List, ◌∷◌}
use lib.Dec.{T}
use Rattle.laws.specs.Rows.{Row, numbers, numbered}
use Rattle.laws.specs.Order.{order, is_in, from, in_order, GoesBy, in_order_goes, in_order_numbered, declines_in}
use Rattle.keys.specs.Load.{load_table}
use Rattle.uv.specs.Declined.{uvs_table}
use Rattle.corner.specs.Declined.{rotation_rows, corners_table, translate_table, rotate_table}
use Rattle.edit.specs.declared.request.Request.TheVariants as request
use Rattle.edit.specs.Edit.{request_rows, track_rows, edit_rows}
use Rattle.player.specs.Undo.{take_rows}
use Rattle.menu_checks.specs.Counts.{sheet_counts_table, book_counts_table}
use Rattle.menu.specs.Rows.{play_rows, pose_rows, tick_rows, drag_rows, save_rows, play_table, pose_table, tick_table, edit_table, take_table, open_table, drag_table, close_table, save_table, next_name_table}
use Rattle.menu_readings.specs.Rows.{pane_rows, pane_channel_rows, material_channel_rows, layer_rows, tables_rows, cascade_rows, read_pane_table, read_material_table, read_all_table, resolve_pane_table, resolve_srt_table, texture_name_table, cascade_table}
use Rattle.reach.specs.Calls.{reach_table}
use Rattle.menu_c.specs.Naming.{name_rows, next_name_out_table, texture_name_out_table}
use Rattle.machine.specs.Asks.{pane_channel, material_channel, all, pane, layer, texture, cascade, ask_table}
use Rattle.machine.specs.Calls.{Call, play, pose, tick, edit, undo, redo, open_drag, drag, drop_drag, abandon_drag, ask, save, State}
use Rattle.refusals.specs.Outward.{Outward, made, sheet_counts, book_counts, load, next_name, next_name_out, texture_name_out, reach, uvs, corners, translate, rotate_point}
use Rattle.refusals.specs.Table.{call_table, table_of, call_numbers, numbers_of, refusal_of}

-- the numbers ns, in the order
pub record Ordered (rs : List Row) (ns : List ℕ) : Type 0 where
  pub same : numbers rs ≡ ns
  pub ordered : in_order order rs ≡ true

call_ordered : (s : List ℕ) (c : Call) (t : State) → Ordered (call_table s c t) (call_numbers c)
unfolding in_order is_in from call_table ask_table request_rows track_rows edit_rows take_rows play_rows pose_rows tick_rows drag_rows save_rows pane_rows pane_channel_rows material_channel_rows layer_rows tables_rows cascade_rows play_table pose_table tick_table edit_table take_table open_table drag_table close_table save_table read_pane_table read_material_table read_all_table resolve_pane_table resolve_srt_table texture_name_table cascade_table
call_ordered s (play a) t = record { same = refl; ordered = refl }
call_ordered s (pose a x) t = record { same = refl; ordered = refl }
call_ordered s (tick dt fps) t = record { same = refl; ordered = refl }
call_ordered s (edit track key (request.Key x v)) t = record { same = refl; ordered = refl }
call_ordered s (edit track key (request.Slope m)) t = record { same = refl; ordered = refl }
call_ordered s undo t = record { same = refl; ordered = refl }
call_ordered s redo t = record { same = refl; ordered = refl }
call_ordered s (open_drag track key) t = record { same = refl; ordered = refl }
call_ordered s (drag x v) t = record { same = refl; ordered = refl }
call_ordered s drop_drag t = record { same = refl; ordered = refl }
call_ordered s abandon_drag t = record { same = refl; ordered = refl }
call_ordered s (ask b (pane_channel i c)) t = record { same = refl; ordered = refl }
call_ordered s (ask b (material_channel m c)) t = record { same = refl; ordered = refl }
call_ordered s (ask b (all marks numbers)) t = record { same = refl; ordered = refl }
call_ordered s (ask b (pane i)) t = record { same = refl; ordered = refl }
call_ordered s (ask b (layer m k)) t = record { same = refl; ordered = refl }
call_ordered s (ask b (texture m k)) t = record { same = refl; ordered = refl }
call_ordered s (ask b (cascade visible alpha influence)) t = record { same = refl; ordered = refl }
call_ordered s (save o) t = record { same = refl; ordered = refl }

ordered_rows : (s : List ℕ) (c : Outward) → Ordered (table_of s c) (numbers_of c)
unfolding in_order is_in from table_of sheet_counts_table book_counts_table load_table next_name_table name_rows next_name_out_table layer_rows texture_name_table texture_name_out_table reach_table uvs_table rotation_rows corners_table translate_table rotate_table
ordered_rows s (made c t) = call_ordered s c t
ordered_rows s sheet_counts = record { same = refl; ordered = refl }
ordered_rows s (book_counts b) = record { same = refl; ordered = refl }
ordered_rows s (load ks) = record { same = refl; ordered = refl }
ordered_rows s (next_name a) = record { same = refl; ordered = refl }
ordered_rows s (next_name_out a o) = record { same = refl; ordered = refl }
ordered_rows s (texture_name_out b m slot t o) = record { same = refl; ordered = refl }
ordered_rows s (reach b ks ls a channels panes) = record { same = refl; ordered = refl }
ordered_rows s (uvs ls ss o) = record { same = refl; ordered = refl }
ordered_rows s (corners c size ox oy r) = record { same = refl; ordered = refl }
ordered_rows s (translate k d) = record { same = refl; ordered = refl }
ordered_rows s (rotate_point p c r) = record { same = refl; ordered = refl }

pub the_numbers : (s : List ℕ) (c : Outward) → numbers (table_of s c) ≡ numbers_of c
the_numbers s c = (ordered_rows s c).same

pub in_order_lem : (s : List ℕ) (c : Outward) → GoesBy order (numbers (table_of s c))
in_order_lem s c = in_order_goes order (table_of s c) (ordered_rows s c).ordered

-- what is declined with is a number of the table
pub in_the_table : (s : List ℕ) (c : Outward) → is_in (refusal_of s c) (0 ∷ order) ≡ true
in_the_table s c = declines_in order (table_of s c) (ordered_rows s c).ordered

-- no row has the number 0, which declines nothing
pub none_is_zero : (s : List ℕ) (c : Outward) → T (numbered (table_of s c))
unfolding is_in
none_is_zero s c = in_order_numbered order (table_of s c) false≢true (ordered_rows s c).ordered
