-- The player after an edit that is made (document 01, "Playing and editing"). Definitions only.
use Rattle.std.specs.Prelude.{ℕ, ◌+◌, min}
use Rattle.player.specs.declared.Player.{Player}
use Rattle.player.specs.declared.journal.Entry.{Entry}
use Rattle.player.specs.Journal.{with_row, rows}
use Rattle.player.specs.Parts.{with_edits}

-- reach + 1 up to 128
abbrev pub one_more : ℕ → ℕ
one_more reach = min (reach + 1) rows

-- Accepted edit, unchanged ones apart: reach + 1 up to 128, redo emptied, accepted + 1; its entry goes into the journal.
unfoldable pub edited_player : Player → Entry → Player
edited_player p e =
    with_edits p
    (record {
      reach = one_more p.reach;
      redo = 0;
      accepted = p.accepted + 1;
      undone = p.undone;
      redone = p.redone;
      standing = p.standing + 1;
      journal = with_row p.journal p.standing e;
    })
