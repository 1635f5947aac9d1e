-- What each call gives (document 01, "Playing and editing" and "What a call declines"; document 02, 1/13, 2/13 and 4/13): the number of the first row of
-- its list that doesn't hold (specs/Rows), and its step where each does. Definitions only.
use Rattle.std.specs.Prelude.{ℕ, Bool, true, false, ◌&&◌, cond, List, [], eqb, length, Float, Option, Some, None, Result, Ok, Err}
use Rattle.laws.specs.declared.refusal.Refusal.{Refusal}
use Rattle.laws.specs.Refusal.{number}
use Rattle.laws.specs.Rows.{Row, declines}
use Rattle.player.specs.declared.Player.{Player}
use Rattle.player.specs.declared.Tick.TheVariants.{Idle}
use Rattle.player.specs.declared.journal.Entry.{Entry}
use Rattle.sheet.specs.Rows.{next_name}
use Rattle.keys.specs.Load.{load_of}
use Rattle.saved.specs.Saved.{saved_of}
use Rattle.edit.specs.Keys.{Keys, keys, key_at, put_key}
use Rattle.player.specs.Player.{fresh_player}
use Rattle.player.specs.Parts.{view_of, with_view, with_drag}
use Rattle.player.specs.View.{play_view, pose_view, tick_view, tick_answer}
use Rattle.edit.specs.declared.request.Request.{Request}
use Rattle.edit.specs.declared.request.Request.TheVariants as request
use Rattle.edit.specs.Edit.{place, edited, unchanged}
use Rattle.player.specs.declared.undo.Way.{Way}
use Rattle.player.specs.declared.undo.Way.TheVariants.{Undo, Redo}
use Rattle.player.specs.Undo.{entry_of, taken_keys, taken_player}
use Rattle.player.specs.Edited.{edited_player}
use Rattle.player.specs.Drag.{no_drag, opened_on, moved_on, drop_unchanged, put_back}
use Rattle.player.specs.Dragged.{dropped_player}
use Rattle.menu.specs.declared.playing.Played.{Played}
use Rattle.menu.specs.declared.playing.Ticked.{Ticked}
use Rattle.menu.specs.declared.editing.Edited.{Edited}
use Rattle.menu.specs.Rows.{play_table, pose_table, tick_table, edit_table, take_table, open_table, drag_table, close_table, save_table, next_name_table}

unfoldable pub play_of : List ℕ → Player → ℕ → Played
play_of s p a =
    let n = declines (play_table s p a) in
    record { refusal = n; player = cond (eqb n 0) (with_view p (play_view a (view_of p))) p }

unfoldable pub pose_of : List ℕ → Player → ℕ → Float → Played
pose_of s p a x =
    let n = declines (pose_table s p x) in
    record { refusal = n; player = cond (eqb n 0) (with_view p (pose_view s a x)) p }

unfoldable pub tick_of : List ℕ → Player → Float → Float → Ticked
tick_of s p dt fps =
    let n = declines (tick_table s p dt fps) in
    record {
      refusal = n;
      answer = cond (eqb n 0) (tick_answer s dt fps (view_of p)) Idle;
      player = cond (eqb n 0) (with_view p (tick_view s dt fps (view_of p))) p;
    }

-- what loading, an undo, a redo and an abandonment give, and leave in the three arrays
pub record Changed : Type 0 where
  pub refusal : ℕ
  pub player : Player
  pub keys : Keys

-- a call's answer with the three lists as it left them
abbrev pub gave : Played → Keys → Changed
gave r ks = record { refusal = r.refusal; player = r.player; keys = ks }

abbrev pub changed : ℕ → Player → Keys → Player → Keys → Changed
changed n p ks q ls = record { refusal = n; player = cond (eqb n 0) q p; keys = cond (eqb n 0) ls ks }

-- what an edit and a drag give, and leave in the three arrays
pub record EditedKeys : Type 0 where
  pub refusal : ℕ
  pub unchanged : Bool
  pub player : Player
  pub keys : Keys

abbrev pub gave_edit : Edited → Keys → EditedKeys
gave_edit r ks = record { refusal = r.refusal; unchanged = r.unchanged; player = r.player; keys = ks }

abbrev pub edited_by : ℕ → Bool → Player → Keys → Player → Keys → EditedKeys
edited_by n same p ks q ls = record { refusal = n; unchanged = eqb n 0 && same; player = cond (eqb n 0) q p; keys = cond (eqb n 0) ls ks }

-- the journal's entry of an edit that is made on ks
unfoldable pub entry_for : List ℕ → Keys → ℕ → ℕ → Request → Entry
entry_for s ks track key r = record { track = track; key = key; before = key_at ks (place s track key); after = edited s ks track key r }

-- Both edits. "An edit after which frame, value and slope have the same bits as before is answered as unchanged: it isn't appended, isn't counted, and
-- leaves reach and redo as they were" (document 02, 4/13). Refusals come first.
unfoldable pub edit_of : List ℕ → Player → Keys → ℕ → ℕ → Request → EditedKeys
edit_of s p ks track key r =
    let same = unchanged s ks track key r in
    edited_by (declines (edit_table s p ks track key r)) same p ks
    (cond same p (edited_player p (entry_for s ks track key r)))
    (cond same ks (put_key ks (place s track key) (edited s ks track key r)))

-- an edit's answer, by the entry that it made, none where it is unchanged
abbrev pub edit_gives : Player → Result (Option Entry) Refusal → Edited
edit_gives p (Ok (Some e)) = record { refusal = 0; unchanged = false; player = edited_player p e }
edit_gives p (Ok None) = record { refusal = 0; unchanged = true; player = p }
edit_gives p (Err e) = record { refusal = number e; unchanged = false; player = p }

-- Loading: the sheet's keys, and a fresh player.
unfoldable pub loaded_of : List ℕ → Keys → Changed
loaded_of s ks =
    let l = load_of s ks.frames ks.values ks.slopes in
    record { refusal = l.refusal; player = fresh_player; keys = keys l.frames l.values l.slopes }

-- the name that follows an animation: empty where the call is declined
unfoldable pub next_name_of : List ℕ → ℕ → List ℕ
next_name_of s a = cond (eqb (declines (next_name_table s a)) 0) (next_name s a) []

-- An undo and a redo: the entry is taken.
unfoldable pub take_of : Way → List ℕ → Player → Keys → Changed
take_of way s p ks = changed (declines (take_table way s p ks)) p ks (taken_player way p) (taken_keys s ks (entry_of way p))

-- the answer of either, by whether the entry was taken
abbrev pub take_gives : Way → Player → Result (Unit {0}) Refusal → Played
take_gives way p (Ok x) = record { refusal = 0; player = taken_player way p }
take_gives way p (Err e) = record { refusal = number e; player = p }

abbrev pub undo_of : List ℕ → Player → Keys → Changed
undo_of s p ks = take_of Undo s p ks

abbrev pub redo_of : List ℕ → Player → Keys → Changed
redo_of s p ks = take_of Redo s p ks

-- The place of the key that is dragged.
abbrev pub held_at : List ℕ → Player → ℕ
held_at s p = place s p.drag.track p.drag.key

-- Opening a drag: the key is remembered as it is.
unfoldable pub open_of : List ℕ → Player → Keys → ℕ → ℕ → Played
open_of s p ks track key =
    let n = declines (open_table s p ks track key) in
    record { refusal = n; player = cond (eqb n 0) (with_drag p (opened_on track key (key_at ks (place s track key)))) p }

-- A drag: a key edit of that key, which the journal doesn't take. An unchanged one is an accepted request too.
unfoldable pub drag_of : List ℕ → Player → Keys → Float → Float → EditedKeys
drag_of s p ks x v =
    edited_by (declines (drag_table s p ks x v)) (unchanged s ks p.drag.track p.drag.key (request.Key x v)) p ks
    (with_drag p (moved_on p.drag))
    (put_key ks (held_at s p) (edited s ks p.drag.track p.drag.key (request.Key x v)))

-- A drop: the key stays where it is, as one edit unless it is unchanged.
unfoldable pub drop_of : List ℕ → Player → Keys → Edited
drop_of s p ks =
    let n = declines (close_table s p ks) in
    let k = key_at ks (held_at s p) in
    record { refusal = n; unchanged = eqb n 0 && drop_unchanged p.drag k; player = cond (eqb n 0) (dropped_player p k) p }

-- An abandonment: the key is put back, and nothing is counted.
unfoldable pub abandon_of : List ℕ → Player → Keys → Changed
abandon_of s p ks = changed (declines (close_table s p ks)) p ks (with_drag p no_drag) (put_back s ks p.drag)

-- what a call gives that writes into an output of bytes, and leaves in it
pub record Written : Type 0 where
  pub refusal : ℕ
  pub out : List ℕ

abbrev pub wrote : ℕ → List ℕ → Written
wrote n o = record { refusal = n; out = o }

-- the bytes, where each row of the call holds, and else the output as it was
unfoldable pub written_by : List Row → List ℕ → List ℕ → Written
written_by rs bytes o = let n = declines rs in wrote n (cond (eqb n 0) bytes o)

-- Saving: the sheet with the present keys.
abbrev pub saved_with : List ℕ → Keys → List ℕ
saved_with s ks = saved_of s ks.frames ks.values ks.slopes

unfoldable pub save_of : List ℕ → Player → Keys → List ℕ → Written
save_of s p ks o = written_by (save_table s p ks (length o)) (saved_with s ks) o
