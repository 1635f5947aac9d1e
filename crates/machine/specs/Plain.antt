-- The plain machine (document 01, "Playing and editing"; saving, dragging and unchanged edits are document 02's, 1/13, 2/13 and 4/13): fed the calls alone,
-- it holds the loaded keys, the list of standing edits, the redo list, a reach of 0..128, three counts, a fresh player's view and the open drag. It declines
-- by the table on its own state. Definitions only.
use Rattle.std.specs.Prelude.{ℕ, zero, suc, ◌+◌, ◌-◌, min, Bool, true, false, List, [], ◌∷◌, length, Float}
use Rattle.laws.specs.Rows.{declines}
use Rattle.sheet.specs.Rows.{next_name}
use Rattle.player.specs.declared.Tick.TheVariants.{Idle}
use Rattle.edit.specs.Keys.{Keys}
use Rattle.player.specs.Journal.{rows}
use Rattle.player.specs.Parts.{View, no_view}
use Rattle.player.specs.View.{play_view, pose_view, tick_view, tick_answer}
use Rattle.edit.specs.declared.request.Request.{Request}
use Rattle.edit.specs.declared.request.Request.TheVariants as request
use Rattle.edit.specs.Edit.{Edit, spot_of, unchanged, made_edit, request_rows, track_rows, edit_rows}
use Rattle.player.specs.Undo.{some_rows}
use Rattle.menu.specs.Rows.{play_rows, pose_rows, tick_rows, save_rows}
use Rattle.menu.specs.Calls.{written_by, saved_with}
use Rattle.machine.specs.Calls.{Call, play, pose, tick, edit, undo, redo, open_drag, drag, drop_drag, abandon_drag, ask, save, Answer, number, edit_answer, ticked, told, written, on_next}
use Rattle.machine.specs.Asks.{ask_refusal, tell_in}

-- A drag: none is open; a key was opened, in an animation, and no drag was accepted yet; or with the frame and value of the last accepted request.
pub data Dragging : Type 0 where
  closed : Dragging
  opened : ℕ → ℕ → ℕ → Dragging
  dragged : ℕ → ℕ → ℕ → Float → Float → Dragging

abbrev pub is_open : Dragging → Bool
is_open closed = false
is_open (opened a track key) = true
is_open (dragged a track key x v) = true

-- the edit that a drop leaves: "the last accepted request", in the animation of opening
abbrev pub dragged_to : ℕ → ℕ → ℕ → Float → Float → Edit
dragged_to a track key x v = record { animation = a; track = track; key = key; request = request.Key x v }

-- Standing (document 01's word): the edits that stand, here with the newest first. `redo`: the edits that an undo moved there, the one moved last first.
pub record Plain : Type 0 where
  pub loaded : Keys
  pub standing : List Edit
  pub redo : List Edit
  pub reach : ℕ
  pub accepted : ℕ
  pub undone : ℕ
  pub redone : ℕ
  pub view : View
  pub drag : Dragging

-- the loaded keys with the standing list made in order, the oldest edit first
unfoldable pub replay : List ℕ → Keys → List Edit → Keys
replay s ks [] = ks
replay s ks (e ∷ es) = made_edit s (replay s ks es) e

-- the keys with the standing list alone
abbrev pub standing_keys : List ℕ → Plain → Keys
standing_keys s m = replay s m.loaded m.standing

-- "an open drag's last accepted request counting as a last, unnumbered edit"
abbrev pub with_dragged : List ℕ → Keys → Dragging → Keys
with_dragged s ks closed = ks
with_dragged s ks (opened a track key) = ks
with_dragged s ks (dragged a track key x v) = made_edit s ks (dragged_to a track key x v)

-- the machine's keys
abbrev pub keys_of : List ℕ → Plain → Keys
keys_of s m = with_dragged s (standing_keys s m) m.drag

-- the machine with another view
abbrev pub viewed : Plain → View → Plain
viewed m v =
    record {
      loaded = m.loaded;
      standing = m.standing;
      redo = m.redo;
      reach = m.reach;
      accepted = m.accepted;
      undone = m.undone;
      redone = m.redone;
      view = v;
      drag = m.drag;
    }

-- a declined call changes nothing
abbrev pub moves : ℕ → Plain → View → Plain × Answer
moves zero m v = (viewed m v, number 0)
moves (suc n) m v = (m, number (suc n))

-- a tick that ends with a next name answers the field that the sheet has for the selected animation
abbrev pub ticks_on : ℕ → List ℕ → Float → Float → Plain → Plain × Answer
ticks_on zero s dt fps m = (
  viewed m (tick_view s dt fps m.view),
  ticked 0 (tick_answer s dt fps m.view) (on_next (tick_answer s dt fps m.view) (next_name s m.view.selection)),
)
ticks_on (suc n) s dt fps m = (m, ticked (suc n) Idle [])

-- Accepted edit, unchanged ones apart: append, reach + 1 up to 128, redo emptied, accepted + 1. No drag is open after it.
abbrev pub appended : Plain → Edit → Plain
appended m e =
    record {
      loaded = m.loaded;
      standing = e ∷ m.standing;
      redo = [];
      reach = min (m.reach + 1) rows;
      accepted = m.accepted + 1;
      undone = m.undone;
      redone = m.redone;
      view = m.view;
      drag = closed;
    }

-- An edit, by its refusal and by whether it is unchanged: then it "isn't appended, isn't counted, and leaves reach and redo as they were".
abbrev pub edits : ℕ → Bool → Plain → Edit → Plain × Answer
edits zero true m e = (m, edit_answer 0 true)
edits zero false m e = (appended m e, edit_answer 0 false)
edits (suc n) same m e = (m, edit_answer (suc n) false)

-- Undo: the last standing edit moves to redo, reach − 1, undone + 1. (Nothing standing and no refusal doesn't come about.)
abbrev pub undoes : ℕ → Plain → List Edit → Plain × Answer
undoes zero m [] = (m, number 0)
undoes zero m (e ∷ es) = (
  record {
    loaded = m.loaded;
    standing = es;
    redo = e ∷ m.redo;
    reach = m.reach - 1;
    accepted = m.accepted;
    undone = m.undone + 1;
    redone = m.redone;
    view = m.view;
    drag = m.drag;
  },
  number 0,
)
undoes (suc n) m es = (m, number (suc n))

-- Redo: the edit moved last moves back, reach + 1, redone + 1. (Likewise.)
abbrev pub redoes : ℕ → Plain → List Edit → Plain × Answer
redoes zero m [] = (m, number 0)
redoes zero m (e ∷ es) = (
  record {
    loaded = m.loaded;
    standing = e ∷ m.standing;
    redo = es;
    reach = m.reach + 1;
    accepted = m.accepted;
    undone = m.undone;
    redone = m.redone + 1;
    view = m.view;
    drag = m.drag;
  },
  number 0,
)
redoes (suc n) m es = (m, number (suc n))

-- the edit that a call asks for now: in the active animation
abbrev pub asked : Plain → ℕ → ℕ → Request → Edit
asked m track key r = record { animation = m.view.selection; track = track; key = key; request = r }

-- the machine with another drag, and what an opening leaves by its refusal
abbrev pub holding : Plain → Dragging → Plain
holding m d =
    record {
      loaded = m.loaded;
      standing = m.standing;
      redo = m.redo;
      reach = m.reach;
      accepted = m.accepted;
      undone = m.undone;
      redone = m.redone;
      view = m.view;
      drag = d;
    }

abbrev pub holds : ℕ → Plain → Dragging → Plain × Answer
holds zero m d = (holding m d, number 0)
holds (suc n) m d = (m, number (suc n))

-- A drag: a key edit of the open key, by its refusal; an unchanged one is the last accepted request too. Without an open key: 15, here and below.
abbrev pub drags_to : ℕ → Bool → Plain → Dragging → Plain × Answer
drags_to zero same m d = (holding m d, edit_answer 0 same)
drags_to (suc n) same m d = (m, edit_answer (suc n) false)

abbrev pub drags_key : List ℕ → Plain → ℕ → ℕ → ℕ → Float → Float → Plain × Answer
drags_key s m a track key x v =
    drags_to (declines (request_rows (keys_of s m).frames (spot_of s track key) (request.Key x v))) (unchanged s (keys_of s m) track key (request.Key x v)) m (dragged a track key x v)

abbrev pub drags : List ℕ → Plain → Float → Float → Dragging → Plain × Answer
drags s m x v closed = (m, edit_answer 15 false)
drags s m x v (opened a track key) = drags_key s m a track key x v
drags s m x v (dragged a track key y w) = drags_key s m a track key x v

-- Drop: the last accepted request is an edit of the standing keys, which are the keys of the opening. With no accepted drag it is unchanged.
abbrev pub drops : List ℕ → Plain → Dragging → Plain × Answer
drops s m closed = (m, edit_answer 15 false)
drops s m (opened a track key) = (holding m closed, edit_answer 0 true)
drops s m (dragged a track key x v) = edits 0 (unchanged s (standing_keys s m) track key (request.Key x v)) (holding m closed) (dragged_to a track key x v)

-- Abandon: no edit, and no count, reach or redo changes.
abbrev pub abandons : Plain → Dragging → Plain × Answer
abandons m closed = (m, number 15)
abandons m (opened a track key) = (holding m closed, number 0)
abandons m (dragged a track key x v) = (holding m closed, number 0)

-- the machine's step
abbrev pub step_m : List ℕ → Call → Plain → Plain × Answer
step_m s (play a) m = moves (declines (play_rows s a)) m (play_view a m.view)
step_m s (pose a x) m = moves (declines (pose_rows x)) m (pose_view s a x)
step_m s (tick dt fps) m = ticks_on (declines (tick_rows s m.view dt fps)) s dt fps m
step_m s (edit track key r) m =
    edits (declines (edit_rows s m.view.selection (is_open m.drag) (keys_of s m) track key r)) (unchanged s (keys_of s m) track key r) m (asked m track key r)
step_m s undo m = undoes (declines (some_rows (is_open m.drag) m.reach)) m m.standing
step_m s redo m = redoes (declines (some_rows (is_open m.drag) (length m.redo))) m m.redo
step_m s (open_drag track key) m =
    holds (declines (track_rows s m.view.selection (is_open m.drag) track key)) m (opened m.view.selection track key)
step_m s (drag x v) m = drags s m x v m.drag
step_m s drop_drag m = drops s m m.drag
step_m s abandon_drag m = abandons m m.drag
step_m s (ask b q) m = (m, told (tell_in s b m.view (keys_of s m) (ask_refusal b q) q))
step_m s (save o) m = (m, written (written_by (save_rows s (length o)) (saved_with s (keys_of s m)) o))

-- freshly loaded
abbrev pub fresh_m : Keys → Plain
fresh_m ks = record { loaded = ks; standing = []; redo = []; reach = 0; accepted = 0; undone = 0; redone = 0; view = no_view; drag = closed }
