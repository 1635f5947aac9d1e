-- The calls that demand 3 speaks of, what each answers, and the step that each makes of a player with its keys: the very definitions that the
-- contracts of crate menu cite. Definitions only.
use Rattle.std.specs.Prelude.{ℕ, Bool, List, [], T, Float}
use Rattle.std.specs.Float.{binary32}
use Rattle.std.specs.Float.Ieee.{fits}
use Rattle.player.specs.declared.Player.{Player}
use Rattle.player.specs.declared.Tick.{Tick}
use Rattle.player.specs.declared.Tick.TheVariants.{Idle, Running, Ended, Next}
use Rattle.edit.specs.Keys.{Keys}
use Rattle.edit.specs.declared.request.Request.{Request}
use Rattle.edit.specs.Accepted.{HeldRequest}
use Rattle.menu.specs.declared.playing.Played.{Played}
use Rattle.menu.specs.declared.playing.Ticked.{Ticked}
use Rattle.menu.specs.declared.editing.Edited.{Edited}
use Rattle.machine.specs.Asks.{Ask, Told, tell_of}
use Rattle.menu.specs.Calls.{Changed, EditedKeys, Written, play_of, pose_of, tick_of, edit_of, undo_of, redo_of, open_of, drag_of, drop_of, abandon_of, save_of, next_name_of}

-- a call: what it takes, player and keys apart
pub data Call : Type 0 where
  play : ℕ → Call
  pose : ℕ → Float → Call
  tick : Float → Float → Call
  edit : ℕ → ℕ → Request → Call
  undo : Call
  redo : Call
  -- a drag: opened on a track's key, dragged to a frame and a value, dropped or abandoned
  open_drag : ℕ → ℕ → Call
  drag : Float → Float → Call
  drop_drag : Call
  abandon_drag : Call
  -- a reading over a book, which may be damaged
  ask : List ℕ → Ask → Call
  -- saving into a buffer, as it is lent
  save : List ℕ → Call

-- the call's numbers are f32. `Float` holds the values of every format; a call can take none but these.
abbrev pub HeldCall : Call → Type 0
HeldCall (play a) = Unit {0}
HeldCall (pose a x) = T (fits binary32 x)
HeldCall (tick dt fps) = T (fits binary32 dt) × T (fits binary32 fps)
HeldCall (edit track key r) = HeldRequest r
HeldCall undo = Unit {0}
HeldCall redo = Unit {0}
HeldCall (open_drag track key) = Unit {0}
HeldCall (drag x v) = T (fits binary32 x) × T (fits binary32 v)
HeldCall drop_drag = Unit {0}
HeldCall abandon_drag = Unit {0}
HeldCall (ask b q) = Unit {0}
HeldCall (save o) = Unit {0}

-- what a call answers: a refusal's number, 0 for none; for an edit, a drag and a drop also whether the key is unchanged; for a tick what it met, and the
-- next name that it ended with, as the Rust's tick returns it; for a reading what it tells; for saving its number, and the buffer as it is left
pub data Answer : Type 0 where
  number : ℕ → Answer
  edit_answer : ℕ → Bool → Answer
  ticked : ℕ → Tick → List ℕ → Answer
  told : Told → Answer
  written : Written → Answer

-- the name, where a tick ended with one, and else none
abbrev pub on_next : Tick → List ℕ → List ℕ
on_next Idle name = []
on_next Running name = []
on_next Ended name = []
on_next Next name = name

-- a player with its keys
pub record State : Type 0 where
  pub player : Player
  pub keys : Keys

abbrev pub after_play : Keys → Played → State × Answer
after_play ks r = (record { player = r.player; keys = ks }, number r.refusal)

-- the next name is what the call `next_name` answers for the selection after the tick
abbrev pub after_tick : List ℕ → Keys → Ticked → State × Answer
after_tick s ks r = (record { player = r.player; keys = ks }, ticked r.refusal r.answer (on_next r.answer (next_name_of s r.player.selection)))

abbrev pub after_change : Changed → State × Answer
after_change r = (record { player = r.player; keys = r.keys }, number r.refusal)

abbrev pub after_edit : EditedKeys → State × Answer
after_edit r = (record { player = r.player; keys = r.keys }, edit_answer r.refusal r.unchanged)

abbrev pub after_drop : Keys → Edited → State × Answer
after_drop ks r = (record { player = r.player; keys = ks }, edit_answer r.refusal r.unchanged)

-- the step of the player
abbrev pub step_p : List ℕ → Call → State → State × Answer
step_p s (play a) t = after_play t.keys (play_of s t.player a)
step_p s (pose a x) t = after_play t.keys (pose_of s t.player a x)
step_p s (tick dt fps) t = after_tick s t.keys (tick_of s t.player dt fps)
step_p s (edit track key r) t = after_edit (edit_of s t.player t.keys track key r)
step_p s undo t = after_change (undo_of s t.player t.keys)
step_p s redo t = after_change (redo_of s t.player t.keys)
step_p s (open_drag track key) t = after_play t.keys (open_of s t.player t.keys track key)
step_p s (drag x v) t = after_edit (drag_of s t.player t.keys x v)
step_p s drop_drag t = after_drop t.keys (drop_of s t.player t.keys)
step_p s abandon_drag t = after_change (abandon_of s t.player t.keys)
step_p s (ask b q) t = (t, told (tell_of s b t.player t.keys q))
step_p s (save o) t = (t, written (save_of s t.player t.keys o))
