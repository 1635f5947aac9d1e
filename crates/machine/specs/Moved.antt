-- Which track's key a call moves: of an edit its own, of a drag and its abandonment the open one, of an undo and a redo the entry's; and only where the
-- call is accepted. No other call moves a key: a drop leaves it where the last drag put it. Definitions only.
use Rattle.std.specs.Prelude.{ℕ, Bool, true, false, cond, List, [], ◌∷◌, ◌≡◌, eqb}
use Rattle.std.specs.Prelude.{Option}
use Rattle.std.specs.Prelude.{Some, None}
use Rattle.edit.specs.Edit.{unchanged}
use Rattle.player.specs.declared.undo.Way.TheVariants.{Undo, Redo}
use Rattle.player.specs.Undo.{entry_of}
use Rattle.machine.specs.Calls.{Call, play, pose, tick, edit, undo, redo, open_drag, drag, drop_drag, abandon_drag, ask, save, Answer, number, edit_answer, ticked, told, written, State, step_p}

-- the track that the call is about; an unchanged edit is about none
abbrev pub track_of : List ℕ → Call → State → Option ℕ
track_of s (play a) t = None
track_of s (pose a x) t = None
track_of s (tick dt fps) t = None
track_of s (edit track key r) t = cond (unchanged s t.keys track key r) None (Some track)
track_of s undo t = Some (entry_of Undo t.player).track
track_of s redo t = Some (entry_of Redo t.player).track
track_of s (open_drag track key) t = None
track_of s (drag x v) t = Some t.player.drag.track
track_of s drop_drag t = None
track_of s abandon_drag t = Some t.player.drag.track
track_of s (ask b q) t = None
track_of s (save o) t = None

-- by what it answered, a call that may move a key was accepted
abbrev pub accepted : Answer → Bool
accepted (number n) = eqb n 0
accepted (edit_answer n same) = eqb n 0
accepted (ticked n a k) = false
accepted (told r) = false
accepted (written r) = false

-- a call moves no key of track u
abbrev pub Spares : List ℕ → ℕ → Call → State → Type 0
Spares s u c t = accepted (step_p s c t).1 ≡ true → track_of s c t ≡ Some u → ⊥

-- and no call of a list does
abbrev pub SparesAll : List ℕ → ℕ → List Call → State → Type 0
SparesAll s u [] t = Unit {0}
SparesAll s u (c ∷ cs) t = Spares s u c t × SparesAll s u cs (step_p s c t).0
