-- The known poses (specs/Poses): the whole table holds of the definitions, computed by antt in one go. What is computed goes through all of the
-- definitions named here, crate by crate.
use lib.Dec.{T}
use lib.Ieee.{round, of_bits, to_bits, add, sub, mul, div, rem, neg, lt, le, eq, of_int, to_unsigned, is_nan}
use Rattle.laws.specs.Below.{all_below}
use Rattle.laws.specs.First.{first_below}
use Rattle.laws.specs.Last.{last_below}
use Rattle.laws.specs.Sum.{sum_below}
use Rattle.laws.specs.Grown.{grow}
use Rattle.laws.specs.Rows.{unless, declines}
use Rattle.laws.specs.Table.{table}
use Rattle.float.specs.Numbers.{same_bits}
use Rattle.float.specs.Clamp.{clamp_of, max_of}
use Rattle.float.specs.Rising.{not_below, rising_in}
use Rattle.float.specs.StepValue.{whole_in16, step_value}
use Rattle.float.specs.Whole.{whole_of}
use Rattle.float.specs.Turn.{third, reduced, quotient, sine_of, cosine_of, whole_part, mod4}
use Rattle.float.specs.SinCos.{sin_cos_of}
use Rattle.field.specs.Read.{u16_at, u32_at, float_at, finite_at, finite_in, finite_row}
use Rattle.field.specs.Write.{byte_of, float_byte, float_bytes}
use Rattle.field.specs.Name.{same_byte, same_name, zero_byte, empty_name, row_named, find_name, other_name, name_ok, names_ok}
use Rattle.sheet.specs.Sheet as sheet
use Rattle.sheet.specs.Rows.{next_name, animation_row, content_row, target_row}
use Rattle.book.specs.Book as book
use Rattle.book.specs.Rows.{pane_row}
use Rattle.keys.specs.Rules.{finite_key, constant_key, step_key, curve_ok, track_ok}
use Rattle.keys.specs.Keys.{keys_fit, held_track, keys_ok}
use Rattle.keys.specs.Stored.{stored_frames, stored_values, stored_slopes}
use Rattle.keys.specs.Load.{arrays_ok, lengths_ok, load_table, load_of}
use Rattle.saved.specs.Saved.{points_of, saved_of}
use Rattle.curve.specs.Keys.{before}
use Rattle.curve.specs.Span.{span_of}
use Rattle.curve.specs.Curve.{eval_hermite, eval_curve}
use Rattle.uv.specs.Declined as declined
use Rattle.uv.specs.Uvs as uvs
use Rattle.uv.specs.Calls.{uvs_of}
use Rattle.corner.specs.Declined.{rotation_rows, corners_table}
use Rattle.corner.specs.Corners.{rotated, start_of, corners_of}
use Rattle.corner.specs.Calls.{placed_of}
use Rattle.channel.specs.Channel.{family_of, listed, pane_channel, colour_place, slot_channel, material_channel, of_pane, of_material, pane_named, material_named, content_reach, active_reach, address, row_channel, target_channel}
use Rattle.reading.specs.Reading.{value_at, value16_at, level_of, row_of, row_reading, target_reading, last_target, reading}
use Rattle.resolve.specs.Resolve.{pane_number, visible_of, alpha_of}
use Rattle.resolve.specs.Cascade.{under, above, row_from, cascade, visibles, alphas, influences}
use Rattle.edit.specs.Keys.{key_at, put_key, same_key}
use Rattle.player.specs.Player.{fresh_player, selection_ok, used_ok, counts_ok, player_ok}
use Rattle.edit.specs.Edit.{has_key, place, spot_of, lowest, highest, clamped_frame, edited_frame, edited_value, edited_at, edited, unchanged, overtakes, request_rows, key_in, track_rows, edit_rows}
use Rattle.player.specs.Journal as journal
use Rattle.player.specs.Drag.{drop_unchanged, drag_ok, put_back, drag_fits}
use Rattle.player.specs.Edited.{edited_player}
use Rattle.player.specs.Dragged.{dropped_player}
use Rattle.player.specs.Undo.{entry_of, takes_ok, take_fits, take_rows, taken_keys, undone_player, redone_player}
use Rattle.player.specs.View.{play_view, pose_view, ticks, tick_sum, count_of, wraps, tick_frame, tick_moves, tick_ends, end_of, tick_view, tick_answer}
use Rattle.menu.specs.Rows.{play_rows, pose_rows, tick_rows, save_rows, play_table, pose_table, tick_table, edit_table, take_table, drag_rows, open_table, drag_table, close_table, save_table, next_name_table}
use Rattle.menu_readings.specs.Rows.{pane_channel_rows, material_channel_rows, cascade_rows, read_pane_table, read_material_table, cascade_table}
use Rattle.menu.specs.Calls.{play_of, pose_of, tick_of, entry_for, edit_of, take_of, open_of, drag_of, drop_of, abandon_of, loaded_of, written_by, save_of, next_name_of}
use Rattle.menu_readings.specs.Readings.{active_in, one_of, cascaded_of, read_pane_of, read_material_of, cascade_of}
use Rattle.machine.specs.Small as small
use Rattle.machine.specs.Computed as computed
use Rattle.machine.specs.Poses as poses

laws : Unit {0}
unfolding all_below first_below last_below sum_below grow unless declines table
laws = tt

numbers : Unit {0}
unfolding round of_bits to_bits add sub mul div rem neg lt le eq of_int to_unsigned is_nan same_bits clamp_of max_of not_below rising_in whole_in16 step_value whole_of third reduced quotient sine_of cosine_of whole_part mod4 sin_cos_of
numbers = tt

fields : Unit {0}
unfolding u16_at u32_at float_at finite_at finite_in finite_row byte_of float_byte float_bytes same_byte same_name zero_byte empty_name row_named find_name other_name name_ok names_ok
fields = tt

formats : Unit {0}
unfolding sheet.sizes_ok sheet.length_ok sheet.animation_ok sheet.content_ok sheet.target_from sheet.keys_of sheet.target_ok sheet.targets_ok sheet.sheet_ok next_name animation_row content_row target_row book.sizes_ok book.pane_ok book.material_ok book.book_ok pane_row
formats = tt

keys : Unit {0}
unfolding finite_key constant_key step_key curve_ok track_ok keys_fit held_track keys_ok stored_frames stored_values stored_slopes arrays_ok lengths_ok load_table load_of points_of saved_of
keys = tt

curves : Unit {0}
unfolding before span_of eval_hermite eval_curve
curves = tt

shapes : Unit {0}
unfolding declined.finite_at declined.all_finite declined.angle_at declined.angles_pass declined.uvs_table rotation_rows corners_table uvs.transform_of uvs.unit_square uvs.layer_uv uvs.corner_uvs uvs.corner_done uvs.layer_applied uvs.number_of rotated start_of corners_of uvs_of placed_of
shapes = tt

readings : Unit {0}
unfolding family_of listed pane_channel colour_place slot_channel material_channel of_pane of_material pane_named material_named content_reach active_reach address row_channel target_channel value_at value16_at level_of row_of row_reading target_reading last_target reading pane_number visible_of alpha_of under above row_from cascade visibles alphas influences
readings = tt

player : Unit {0}
unfolding key_at put_key fresh_player selection_ok has_key used_ok counts_ok player_ok play_view pose_view ticks tick_sum count_of wraps tick_frame tick_moves tick_ends end_of tick_view tick_answer place spot_of lowest highest clamped_frame edited_frame edited_value edited_at edited unchanged overtakes request_rows key_in track_rows edit_rows drop_unchanged drag_ok put_back drag_fits edited_player dropped_player journal.row_of journal.with_row same_key entry_of takes_ok take_fits take_rows taken_keys undone_player redone_player
player = tt

calls : Unit {0}
unfolding play_rows pose_rows tick_rows save_rows pane_channel_rows material_channel_rows cascade_rows play_table pose_table tick_table edit_table take_table open_table drag_rows drag_table close_table save_table next_name_table read_pane_table read_material_table cascade_table play_of pose_of tick_of edit_of entry_for take_of open_of drag_of drop_of abandon_of loaded_of written_by save_of next_name_of active_in one_of cascaded_of read_pane_of read_material_of cascade_of
calls = tt

pose_table_lem : Unit {0}
unfolding small.over small.below small.minus small.whole small.u16 small.f32 small.name small.all_keys small.contents small.targets small.frames small.points small.sheet small.followed small.following small.pane small.book computed.bits computed.told computed.read_one computed.met computed.ticked computed.seen computed.counted computed.played computed.loaded computed.posed computed.playing computed.viewing computed.read_pane computed.read_material computed.pane_track computed.colour_track computed.moves computed.still computed.shows computed.colours computed.fades computed.curve_at computed.tick_at computed.play_from5 computed.pose_from5 computed.tick_on computed.end_from computed.read_by computed.edit_to computed.slopes computed.save_into computed.edits computed.start computed.answered computed.left computed.dragged computed.uv_under computed.top_left computed.child_alpha poses.returned poses.shared poses.poses poses.same poses.right
pose_table_lem = tt

pub known : T (poses.right poses.poses)
unfolding laws numbers fields formats keys curves shapes readings player calls pose_table_lem
known = tt
