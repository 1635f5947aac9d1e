-- The number that a call's list declines with is what the call answers; and where that is not 0, numbers alone come back. Assumes nothing.
use Prim.Native.Nat.{ℕ}
use mathlib.Core.Path.{◌≡◌, refl, ap}
use mathlib.Core.List.{List}
use borrow.Author.Tests.{ne_eqb}
use Rattle.laws.specs.Rows.{declines}
use Rattle.keys.specs.Load.{load_of}
use Rattle.uv.specs.Calls.{uvs_number}
use Rattle.corner.specs.Refused.{corners_number, corners_zero, translate_number, translate_zero, rotate_number, rotate_zero}
use Rattle.player.specs.declared.Player.{Player}
use Rattle.edit.specs.Keys.{Keys}
use Rattle.menu_checks.specs.Counts.{counted, sheet_counts_by, book_counts_by, sheet_counts_of, book_counts_of}
use Rattle.menu.specs.Calls.{play_of, pose_of, tick_of, edit_of, take_of, open_of, drag_of, drop_of, abandon_of, loaded_of, next_name_of, written_by, save_of}
use Rattle.menu_readings.specs.Readings.{one_of, pane_of, layer_of, tables_of, cascaded_of, read_pane_of, read_material_of, read_all_of, resolve_pane_of, resolve_srt_of, texture_name_of, cascade_of}
use Rattle.reach.specs.Calls.{reach_of}
use Rattle.menu_c.specs.Naming.{next_name_into, texture_name_into}
use Rattle.menu_c.specs.Long.{next_long, texture_long}
use Rattle.machine.specs.Asks.{Ask, pane_channel, material_channel, all, pane, layer, texture, cascade, ask_table, tell_of}
use Rattle.machine.specs.Calls.{Call, play, pose, tick, edit, undo, redo, open_drag, drag, drop_drag, abandon_drag, ask, save, told, State, step_p}
use Rattle.refusals.specs.Outward.{Outward, made, sheet_counts, book_counts, load, next_name, next_name_out, texture_name_out, reach, uvs, corners, translate, rotate_point}
use Rattle.refusals.specs.Table.{call_table, table_of, refusal_of}
use Rattle.refusals.specs.Given.{Says, Answers, Alone, AnswersAlone}

-- ---- the number

ask_answers : (s b : List ℕ) (p : Player) (ks : Keys) (q : Ask) → Says (told (tell_of s b p ks q)) (declines (ask_table s b p ks q))
unfolding ask_table tell_of read_pane_of read_material_of read_all_of resolve_pane_of resolve_srt_of texture_name_of cascade_of one_of tables_of pane_of layer_of cascaded_of
ask_answers s b p ks (pane_channel i c) = refl
ask_answers s b p ks (material_channel m c) = refl
ask_answers s b p ks (all marks numbers) = refl
ask_answers s b p ks (pane i) = refl
ask_answers s b p ks (layer m k) = refl
ask_answers s b p ks (texture m k) = (λ d. rw (ne_eqb (declines (ask_table s b p ks (texture m k))) 0 d), texture_long s b p ks m k)
ask_answers s b p ks (cascade visible alpha influence) = refl

call_answers : (s : List ℕ) (c : Call) (t : State) → Says (step_p s c t).1 (declines (call_table s c t))
unfolding call_table play_of pose_of tick_of edit_of take_of open_of drag_of drop_of abandon_of save_of written_by
call_answers s (play a) t = refl
call_answers s (pose a x) t = refl
call_answers s (tick dt fps) t = refl
call_answers s (edit track key r) t = refl
call_answers s undo t = refl
call_answers s redo t = refl
call_answers s (open_drag track key) t = refl
call_answers s (drag x v) t = refl
call_answers s drop_drag t = refl
call_answers s abandon_drag t = refl
call_answers s (ask b q) t = ask_answers s b t.player t.keys q
call_answers s (save o) t = refl

pub answers_the_number : (s : List ℕ) (c : Outward) → Answers s c (refusal_of s c)
unfolding table_of sheet_counts_by book_counts_by sheet_counts_of book_counts_of loaded_of load_of next_name_of written_by next_name_into texture_name_into reach_of
answers_the_number s (made c t) = call_answers s c t
answers_the_number s sheet_counts = refl
answers_the_number s (book_counts b) = refl
answers_the_number s (load ks) = refl
answers_the_number s (next_name a) = (λ d. rw (ne_eqb (refusal_of s (next_name a)) 0 d), next_long s a)
answers_the_number s (next_name_out a o) = refl
answers_the_number s (texture_name_out b m slot t o) = refl
answers_the_number s (reach b ks ls a channels panes) = refl
answers_the_number s (uvs ls ss o) = uvs_number ls ss o
answers_the_number s (corners c size ox oy r) = corners_number c size ox oy r
answers_the_number s (translate k d) = translate_number k d
answers_the_number s (rotate_point p c r) = rotate_number p c r

-- ---- where a call is declined

ask_alone : (s b : List ℕ) (p : Player) (ks : Keys) (q : Ask) → (declines (ask_table s b p ks q) ≡ 0 → ⊥) → Alone (told (tell_of s b p ks q))
unfolding ask_table tell_of read_pane_of read_material_of resolve_pane_of resolve_srt_of texture_name_of one_of pane_of layer_of
ask_alone s b p ks (pane_channel i c) d = rw (ne_eqb (declines (ask_table s b p ks (pane_channel i c))) 0 d)
ask_alone s b p ks (material_channel m c) d = rw (ne_eqb (declines (ask_table s b p ks (material_channel m c))) 0 d)
ask_alone s b p ks (all marks numbers) d = tt
ask_alone s b p ks (pane i) d = rw (ne_eqb (declines (ask_table s b p ks (pane i))) 0 d)
ask_alone s b p ks (layer m k) d = rw (ne_eqb (declines (ask_table s b p ks (layer m k))) 0 d)
ask_alone s b p ks (texture m k) d = rw (ne_eqb (declines (ask_table s b p ks (texture m k))) 0 d)
ask_alone s b p ks (cascade visible alpha influence) d = tt

call_alone : (s : List ℕ) (c : Call) (t : State) → (declines (call_table s c t) ≡ 0 → ⊥) → Alone (step_p s c t).1
unfolding call_table tick_of edit_of drag_of drop_of
call_alone s (play a) t d = tt
call_alone s (pose a x) t d = tt
call_alone s (tick dt fps) t d = let e = ne_eqb (declines (call_table s (tick dt fps) t)) 0 d in (rw e, rw e)
call_alone s (edit track key r) t d = rw (ne_eqb (declines (call_table s (edit track key r) t)) 0 d)
call_alone s undo t d = tt
call_alone s redo t d = tt
call_alone s (open_drag track key) t d = tt
call_alone s (drag x v) t d = rw (ne_eqb (declines (call_table s (drag x v) t)) 0 d)
call_alone s drop_drag t d = rw (ne_eqb (declines (call_table s drop_drag t)) 0 d)
call_alone s abandon_drag t d = tt
call_alone s (ask b q) t d = ask_alone s b t.player t.keys q d
call_alone s (save o) t d = tt

pub declined_alone : (s : List ℕ) (c : Outward) → (refusal_of s c ≡ 0 → ⊥) → AnswersAlone s c
unfolding table_of counted sheet_counts_by book_counts_by sheet_counts_of book_counts_of loaded_of next_name_of
declined_alone s (made c t) d = call_alone s c t d
declined_alone s sheet_counts d = rw (ne_eqb (refusal_of s sheet_counts) 0 d)
declined_alone s (book_counts b) d = rw (ne_eqb (refusal_of s (book_counts b)) 0 d)
declined_alone s (load ks) d = refl
declined_alone s (next_name a) d = rw (ne_eqb (refusal_of s (next_name a)) 0 d)
declined_alone s (next_name_out a o) d = tt
declined_alone s (texture_name_out b m slot t o) d = tt
declined_alone s (reach b ks ls a channels panes) d = tt
declined_alone s (uvs ls ss o) d = tt
declined_alone s (corners c size ox oy r) d = ap (λ k. k.corners) (corners_zero c size ox oy r d)
declined_alone s (translate k d') d = ap (λ k. k.corners) (translate_zero k d' d)
declined_alone s (rotate_point p c r) d = ap (λ k. k.point) (rotate_zero p c r d)
