-- A declined call leaves all that was lent to it as it was: the player, the keys and every output. Assumes nothing.
use Prim.Native.Nat.{ℕ}
use mathlib.Core.Path.{◌≡◌, refl, ap, ◌∙◌}
use mathlib.Core.List.{List, [], ◌∷◌}
use borrow.Author.Tests.{ne_eqb}
use Rattle.laws.specs.Rows.{declines}
use Rattle.keys.specs.Load.{load_of}
use Rattle.uv.specs.Calls.{Filling, uvs_keeps}
use Rattle.player.specs.Parts.{View, view_of}
use Rattle.menu.specs.Calls.{play_of, pose_of, tick_of, edit_of, take_of, open_of, drag_of, drop_of, abandon_of, loaded_of, written_by, save_of}
use Rattle.menu_readings.specs.Readings.{tables_of, cascaded_of}
use Rattle.reach.specs.Calls.{reach_of}
use Rattle.menu_c.specs.Naming.{next_name_into, texture_name_into}
use Rattle.machine.specs.Asks.{Ask, pane_channel, material_channel, all, pane, layer, texture, cascade, ask_table, tell_in}
use Rattle.machine.specs.Calls.{Call, play, pose, tick, edit, undo, redo, open_drag, drag, drop_drag, abandon_drag, ask, save, State, step_p}
use Rattle.machine.proofs.Ask.{tell_is}
use Rattle.refusals.specs.Outward.{Outward, made, sheet_counts, book_counts, load, next_name, next_name_out, texture_name_out, reach, uvs, corners, translate, rotate_point}
use Rattle.refusals.specs.Table.{call_table, table_of, refusal_of}
use Rattle.refusals.specs.Given.{lent_to, left_by, call_before, call_after, lent_out, before, after}

-- a reading's outputs, by its refusal n
told_keeps : (s b : List ℕ) (v : View) (t : State) (n : ℕ) (q : Ask) → (n ≡ 0 → ⊥) → left_by t (tell_in s b v t.keys n q) ≡ lent_to t q
unfolding tell_in tables_of cascaded_of
told_keeps s b v t n (pane_channel i c) d = refl
told_keeps s b v t n (material_channel m c) d = refl
told_keeps s b v t n (all marks numbers) d = rw (ne_eqb n 0 d)
told_keeps s b v t n (pane i) d = refl
told_keeps s b v t n (layer m k) d = refl
told_keeps s b v t n (texture m k) d = refl
told_keeps s b v t n (cascade visible alpha influence) d = rw (ne_eqb n 0 d)

call_keeps : (s : List ℕ) (c : Call) (t : State) → (declines (call_table s c t) ≡ 0 → ⊥) → call_after (step_p s c t) ≡ call_before c t
unfolding call_table play_of pose_of tick_of edit_of take_of open_of drag_of drop_of abandon_of save_of written_by
call_keeps s (play a) t d = rw (ne_eqb (declines (call_table s (play a) t)) 0 d)
call_keeps s (pose a x) t d = rw (ne_eqb (declines (call_table s (pose a x) t)) 0 d)
call_keeps s (tick dt fps) t d = rw (ne_eqb (declines (call_table s (tick dt fps) t)) 0 d)
call_keeps s (edit track key r) t d = rw (ne_eqb (declines (call_table s (edit track key r) t)) 0 d)
call_keeps s undo t d = rw (ne_eqb (declines (call_table s undo t)) 0 d)
call_keeps s redo t d = rw (ne_eqb (declines (call_table s redo t)) 0 d)
call_keeps s (open_drag track key) t d = rw (ne_eqb (declines (call_table s (open_drag track key) t)) 0 d)
call_keeps s (drag x v) t d = rw (ne_eqb (declines (call_table s (drag x v) t)) 0 d)
call_keeps s drop_drag t d = rw (ne_eqb (declines (call_table s drop_drag t)) 0 d)
call_keeps s abandon_drag t d = rw (ne_eqb (declines (call_table s abandon_drag t)) 0 d)
call_keeps s (ask b q) t d =
    ap (left_by t) (tell_is s b t.player t.keys q) ∙ told_keeps s b (view_of t.player) t (declines (ask_table s b t.player t.keys q)) q d
call_keeps s (save o) t d = rw (ne_eqb (declines (call_table s (save o) t)) 0 d)

pub declined_keeps : (s : List ℕ) (c : Outward) → (refusal_of s c ≡ 0 → ⊥) → after s c ≡ before c
unfolding table_of loaded_of load_of written_by next_name_into texture_name_into reach_of
declined_keeps s (made c t) d = call_keeps s c t d
declined_keeps s sheet_counts d = refl
declined_keeps s (book_counts b) d = refl
declined_keeps s (load ks) d = rw (ne_eqb (refusal_of s (load ks)) 0 d)
declined_keeps s (next_name a) d = refl
declined_keeps s (next_name_out a o) d = rw (ne_eqb (refusal_of s (next_name_out a o)) 0 d)
declined_keeps s (texture_name_out b m slot t o) d = rw (ne_eqb (refusal_of s (texture_name_out b m slot t o)) 0 d)
declined_keeps s (reach b ks ls a channels panes) d = rw (ne_eqb (refusal_of s (reach b ks ls a channels panes)) 0 d)
declined_keeps s (uvs ls ss o) d = ap (λ (g : Filling). lent_out [] (g.out ∷ [])) (uvs_keeps ls ss o d)
declined_keeps s (corners c size ox oy r) d = refl
declined_keeps s (translate k d') d = refl
declined_keeps s (rotate_point p c r) d = refl
