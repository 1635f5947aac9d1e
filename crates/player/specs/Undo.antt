-- Undo and redo (document 01, "Playing and editing"): the entry that each takes, when it may not be taken (rows 5, 15 and 11 of the table), and the
-- counts after it. Both are one step over an entry, whose key must be as the entry finds it and is then as the entry leaves it. Definitions only.
use Rattle.std.specs.Prelude.{ℕ, ◌+◌, ◌-◌, Bool, not, ◌&&◌, ◌||◌, List, [], ◌∷◌, eqb}
use Rattle.laws.specs.Rows.{Row, row}
use Rattle.edit.specs.Keys.{Keys, key_at, put_key, keys_ok_of, same_key}
use Rattle.edit.specs.Edit.{place}
use Rattle.player.specs.declared.Player.{Player}
use Rattle.player.specs.declared.journal.Entry.{Entry}
use Rattle.player.specs.declared.undo.Way.{Way}
use Rattle.player.specs.declared.undo.Way.TheVariants.{Undo, Redo}
use Rattle.player.specs.Journal.{row_of}
use Rattle.player.specs.Parts.{with_edits}

-- how many entries there are to take
abbrev pub entries_of : Way → ℕ → ℕ → ℕ
entries_of Undo reach redo = reach
entries_of Redo reach redo = redo

abbrev pub entries : Way → Player → ℕ
entries way p = entries_of way p.reach p.redo

-- an entry that finds the key as this one leaves it, and leaves it as this one finds it
abbrev pub turned : Entry → Entry
turned e = record { track = e.track; key = e.key; before = e.after; after = e.before }

-- the entry that is taken: the last standing edit's, turned; the one of the edit that was undone last
unfoldable pub entry_of : Way → Player → Entry
entry_of Undo p = turned (row_of p.journal (p.standing - 1))
entry_of Redo p = row_of p.journal p.standing

-- the entry's key is, bit for bit, as the entry finds it, and the keys with what it leaves in its place keep the key rules
unfoldable pub takes_ok : List ℕ → Keys → Entry → Bool
takes_ok s ks e = same_key (key_at ks (place s e.track e.key)) e.before && keys_ok_of s (put_key ks (place s e.track e.key) e.after)

-- row 5 of an undo and a redo, of n entries, e the first: there is none to take, or it may be taken. "While a drag is open, row 5 asks nothing of the
-- entry" (document 02, 2/13).
unfoldable pub take_fits : List ℕ → Keys → Bool → ℕ → Entry → Bool
take_fits s ks dragging n e = dragging || (eqb n 0 || takes_ok s ks e)

-- rows 15 and 11: no drag is open; of n entries, one can be taken
abbrev pub some_rows : Bool → ℕ → List Row
some_rows dragging n = row 15 (not dragging) ∷ row 11 (not (eqb n 0)) ∷ []

-- these rows, of a player whose state is not broken
unfoldable pub take_rows : Way → List ℕ → Player → Keys → List Row
take_rows way s p ks = row 5 (take_fits s ks p.drag.«open» (entries way p) (entry_of way p)) ∷ some_rows p.drag.«open» (entries way p)

-- the keys with an entry taken
unfoldable pub taken_keys : List ℕ → Keys → Entry → Keys
taken_keys s ks e = put_key ks (place s e.track e.key) e.after

-- Undo: reach − 1, undone + 1; one edit less stands, and one more can be made again.
unfoldable pub undone_player : Player → Player
undone_player p =
    with_edits p
    (record {
      reach = p.reach - 1;
      redo = p.redo + 1;
      accepted = p.accepted;
      undone = p.undone + 1;
      redone = p.redone;
      standing = p.standing - 1;
      journal = p.journal;
    })

-- Redo: reach + 1, redone + 1.
unfoldable pub redone_player : Player → Player
redone_player p =
    with_edits p
    (record {
      reach = p.reach + 1;
      redo = p.redo - 1;
      accepted = p.accepted;
      undone = p.undone;
      redone = p.redone + 1;
      standing = p.standing + 1;
      journal = p.journal;
    })

abbrev pub taken_player : Way → Player → Player
taken_player Undo p = undone_player p
taken_player Redo p = redone_player p
