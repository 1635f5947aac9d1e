-- Each call keeps the player an image of the machine, and both answer the same: a file a call, put together here. Assumes nothing.
use mathlib.Core.Path.{◌≡◌, refl, sym, subst}
use mathlib.Core.Bool.{true}
use mathlib.Core.List.{List}
use Prim.Native.Nat.{ℕ, ◌<◌, ◌^◌}
use Rattle.sheet.specs.Sheet.{sheet_ok}
use Rattle.player.specs.declared.journal.Journal.{Journal}
use Rattle.machine.specs.Calls.{Call, play, pose, tick, edit, undo, redo, open_drag, drag, drop_drag, abandon_drag, ask, save, HeldCall}
use Rattle.machine.specs.Plain.{Dragging, closed, opened, dragged, is_open, Plain, holding}
use Rattle.machine.proofs.Invariant.{Good}
use Rattle.machine.proofs.Kept.{Kept}
use Rattle.machine.proofs.Play.{play_kept}
use Rattle.machine.proofs.Pose.{pose_kept}
use Rattle.machine.proofs.Tick.{tick_kept}
use Rattle.machine.proofs.Edit.{edit_kept}
use Rattle.machine.proofs.Undo.{undo_kept}
use Rattle.machine.proofs.Redo.{redo_kept}
use Rattle.machine.proofs.Take.{undo_shut, redo_shut}
use Rattle.machine.proofs.Drag.{open_kept, drag_kept, drop_kept, abandon_kept}
use Rattle.machine.proofs.Ask.{ask_kept}
use Rattle.machine.proofs.Save.{save_kept}

-- a call that does one thing with no drag open, and another with one
module _ (s : List ℕ) (n : ℕ) (m : Plain) (j : Journal) (g : Good s n m j) (c : Call) where
  by_drag : (d : Dragging) → m.drag ≡ d → (Good s n (holding m closed) j → Kept s n c (holding m closed) j) → (is_open m.drag ≡ true → Kept s n c m j) → Kept s n c m j
  by_drag closed e shut open' = subst (λ (x : Plain). Good s n x j → Kept s n c x j) (own e) shut g
    where
      own : {d : Dragging} → m.drag ≡ d → holding m d ≡ m
      own q = rw (sym q)
  by_drag (opened a track key) e shut open' = open' (rw e)
  by_drag (dragged a track key x v) e shut open' = open' (rw e)

pub step_kept : (s : List ℕ) (n : ℕ) (m : Plain) (j : Journal) → sheet_ok s ≡ true → n < 2 ^ 40 → Good s n m j → (c : Call) → HeldCall c → Kept s n c m j
step_kept s n m j ok few g (play a) held = play_kept s n m j ok few g a
step_kept s n m j ok few g (pose a x) held = pose_kept s n m j ok few g a x
step_kept s n m j ok few g (tick dt fps) held = tick_kept s n m j ok few g dt fps
step_kept s n m j ok few g (edit track key r) held = edit_kept s n m j ok few track key r held m.drag g
step_kept s n m j ok few g undo held =
    by_drag s n m j g undo m.drag refl
    (undo_kept s n j ok few m.loaded m.accepted m.undone m.redone m.view m.standing m.redo m.reach)
    (undo_shut s n m j ok few g)
step_kept s n m j ok few g redo held =
    by_drag s n m j g redo m.drag refl
    (redo_kept s n j ok few m.loaded m.accepted m.undone m.redone m.view m.standing m.redo m.reach)
    (redo_shut s n m j ok few g)
step_kept s n m j ok few g (open_drag track key) held = open_kept s n m j ok few track key m.drag g
step_kept s n m j ok few g (drag x v) held = drag_kept s n m j ok few x v held m.drag g
step_kept s n m j ok few g drop_drag held = drop_kept s n m j ok few m.drag g
step_kept s n m j ok few g abandon_drag held = abandon_kept s n m j ok few m.drag g
step_kept s n m j ok few g (ask b q) held = ask_kept s n m j ok few g b q
step_kept s n m j ok few g (save o) held = save_kept s n m j ok few g o
