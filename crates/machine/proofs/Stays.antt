-- The plain machine's loaded keys are those that it began with: no call changes them. Assumes nothing.
use mathlib.Core.Path.{◌≡◌, refl, ◌∙◌}
use mathlib.Core.Bool.{Bool, true, false}
use mathlib.Core.List.{List, [], ◌∷◌}
use Prim.Native.Nat.{ℕ, zero, suc}
use lib.ListN.{length}
use lib.Ieee.{Float}
use Rattle.laws.specs.Rows.{declines}
use Rattle.edit.specs.declared.request.Request.TheVariants as request
use Rattle.edit.specs.Edit.{Edit, spot_of, unchanged, request_rows, track_rows, edit_rows}
use Rattle.player.specs.Parts.{View}
use Rattle.player.specs.View.{play_view, pose_view}
use Rattle.player.specs.Undo.{some_rows}
use Rattle.menu.specs.Rows.{play_rows, pose_rows, tick_rows}
use Rattle.machine.specs.Runs.{last}
use Rattle.machine.specs.Calls.{Call, play, pose, tick, edit, undo, redo, open_drag, drag, drop_drag, abandon_drag, ask, save}
use Rattle.machine.specs.Plain.{Dragging, closed, opened, dragged, is_open, Plain, keys_of, moves, ticks_on, edits, undoes, redoes, holding, holds, drags_to, dragged_to, standing_keys, drags, drops, abandons, asked, step_m}

-- by the refusal, and for undo and redo by the list that they take from
module _ (m : Plain) where
  moved : (n : ℕ) (v : View) → (moves n m v).0.loaded ≡ m.loaded
  moved zero v = refl
  moved (suc n) v = refl

  ticked : (n : ℕ) (s : List ℕ) (dt fps : Float) → (ticks_on n s dt fps m).0.loaded ≡ m.loaded
  ticked zero s dt fps = refl
  ticked (suc n) s dt fps = refl

  edited : (n : ℕ) (same : Bool) (e : Edit) → (edits n same m e).0.loaded ≡ m.loaded
  edited zero true e = refl
  edited zero false e = refl
  edited (suc n) same e = refl

  undone : (n : ℕ) (es : List Edit) → (undoes n m es).0.loaded ≡ m.loaded
  undone zero [] = refl
  undone zero (e ∷ es) = refl
  undone (suc n) es = refl

  redone : (n : ℕ) (es : List Edit) → (redoes n m es).0.loaded ≡ m.loaded
  redone zero [] = refl
  redone zero (e ∷ es) = refl
  redone (suc n) es = refl

  held : (n : ℕ) (d : Dragging) → (holds n m d).0.loaded ≡ m.loaded
  held zero d = refl
  held (suc n) d = refl

  moved_to : (n : ℕ) (same : Bool) (d : Dragging) → (drags_to n same m d).0.loaded ≡ m.loaded
  moved_to zero same d = refl
  moved_to (suc n) same d = refl

  moved_on_lem : (s : List ℕ) (x v : Float) (d : Dragging) → (drags s m x v d).0.loaded ≡ m.loaded
  moved_on_lem s x v closed = refl
  moved_on_lem s x v (opened a track key) = moved_to (declines (request_rows (keys_of s m).frames (spot_of s track key) (request.Key x v))) _ (dragged a track key x v)
  moved_on_lem s x v (dragged a track key y w) = moved_to (declines (request_rows (keys_of s m).frames (spot_of s track key) (request.Key x v))) _ (dragged a track key x v)

  abandoned : (d : Dragging) → (abandons m d).0.loaded ≡ m.loaded
  abandoned closed = refl
  abandoned (opened a track key) = refl
  abandoned (dragged a track key x v) = refl

dropped : (s : List ℕ) (m : Plain) (d : Dragging) → (drops s m d).0.loaded ≡ m.loaded
dropped s m closed = refl
dropped s m (opened a track key) = refl
dropped s m (dragged a track key x v) = edited (holding m closed) 0 (unchanged s (standing_keys s m) track key (request.Key x v)) (dragged_to a track key x v)

step_stays : (s : List ℕ) (c : Call) (m : Plain) → (step_m s c m).0.loaded ≡ m.loaded
step_stays s (play a) m = moved m (declines (play_rows s a)) (play_view a m.view)
step_stays s (pose a x) m = moved m (declines (pose_rows x)) (pose_view s a x)
step_stays s (tick dt fps) m = ticked m (declines (tick_rows s m.view dt fps)) s dt fps
step_stays s (edit track key r) m = edited m (declines (edit_rows s m.view.selection (is_open m.drag) (keys_of s m) track key r)) (unchanged s (keys_of s m) track key r) (asked m track key r)
step_stays s undo m = undone m (declines (some_rows (is_open m.drag) m.reach)) m.standing
step_stays s redo m = redone m (declines (some_rows (is_open m.drag) (length m.redo))) m.redo
step_stays s (open_drag track key) m = held m (declines (track_rows s m.view.selection (is_open m.drag) track key)) (opened m.view.selection track key)
step_stays s (drag x v) m = moved_on_lem m s x v m.drag
step_stays s drop_drag m = dropped s m m.drag
step_stays s abandon_drag m = abandoned m m.drag
step_stays s (ask b q) m = refl
step_stays s (save o) m = refl

pub loaded_stays : (s : List ℕ) (cs : List Call) (m : Plain) → (last (step_m s) cs m).loaded ≡ m.loaded
loaded_stays s [] m = refl
loaded_stays s (c ∷ cs) m = loaded_stays s cs (step_m s c m).0 ∙ step_stays s c m
