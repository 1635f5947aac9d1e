-- The player by its three parts (document 01, "Playing and editing"; document 02, 2/13): the view, which play, pose and tick move; the edits, which an
-- edit that is made, an undo, a redo and a drop move; and the drag. `player_of` is the one place that lists the player's fields. Definitions only.
use Rattle.std.specs.Prelude.{ℕ, Bool, false, Float}
use Rattle.float.specs.Numbers.{zero'}
use Rattle.edit.specs.Edit.{none}
use Rattle.player.specs.declared.Player.{Player}
use Rattle.player.specs.declared.drag.Drag.{Drag}
use Rattle.player.specs.declared.journal.Journal.{Journal}

pub record View : Type 0 where
  pub selection : ℕ
  pub playing : Bool
  pub preview : Bool
  pub frame : Float

-- `reach` (document 01's word) is how many standing edits can be undone, `standing` how many edits stand
pub record Edits : Type 0 where
  pub reach : ℕ
  pub redo : ℕ
  pub accepted : ℕ
  pub undone : ℕ
  pub redone : ℕ
  pub standing : ℕ
  pub journal : Journal

abbrev pub view_of : Player → View
view_of p = record { selection = p.selection; playing = p.playing; preview = p.preview; frame = p.frame }

abbrev pub edits_of : Player → Edits
edits_of p =
    record {
      reach = p.reach;
      redo = p.redo;
      accepted = p.accepted;
      undone = p.undone;
      redone = p.redone;
      standing = p.standing;
      journal = p.journal;
    }

abbrev pub player_of : View → Edits → Drag → Player
player_of v e d =
    record {
      selection = v.selection;
      playing = v.playing;
      preview = v.preview;
      frame = v.frame;
      reach = e.reach;
      redo = e.redo;
      accepted = e.accepted;
      undone = e.undone;
      redone = e.redone;
      standing = e.standing;
      journal = e.journal;
      drag = d;
    }

-- the player with another view, with other edits, and with another drag
abbrev pub with_view : Player → View → Player
with_view p v = player_of v (edits_of p) p.drag

abbrev pub with_edits : Player → Edits → Player
with_edits p e = player_of (view_of p) e p.drag

abbrev pub with_drag : Player → Drag → Player
with_drag p d = player_of (view_of p) (edits_of p) d

-- nothing is selected
abbrev pub no_view : View
no_view = record { selection = none; playing = false; preview = false; frame = zero' }
