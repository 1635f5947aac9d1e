-- A drag (document 02, 2/13): one key of the sheet, held from its opening to its drop or its abandonment; its key as it was at opening; and when it is
-- broken (row 5 of the table) or in the way (row 15); and when its drop leaves no edit (4/13). Definitions only.
use Rattle.std.specs.Prelude.{ℕ, Bool, true, false, not, ◌||◌, List, [], ◌∷◌}
use Rattle.laws.specs.Rows.{Row, row}
use Rattle.float.specs.Numbers.{zero'}
use Rattle.curve.specs.declared.Key.{Key}
use Rattle.edit.specs.Keys.{Keys, put_key, keys_ok_of, same_key}
use Rattle.edit.specs.Edit.{has_key, place}
use Rattle.player.specs.declared.drag.Drag.{Drag}
use Rattle.player.specs.declared.journal.Entry.{Entry}

-- no drag is open
abbrev pub no_drag : Drag
no_drag = record { «open» = false; moved = false; track = 0; key = 0; start_frame = zero'; start_value = zero'; start_slope = zero' }

-- a key as it is now, opened; and one for which a drag was accepted
abbrev pub opened_on : ℕ → ℕ → Key → Drag
opened_on track key k =
    record {
      «open» = true;
      moved = false;
      track = track;
      key = key;
      start_frame = k.frame;
      start_value = k.value;
      start_slope = k.slope;
    }

abbrev pub moved_on : Drag → Drag
moved_on d =
    record {
      «open» = d.«open»;
      moved = true;
      track = d.track;
      key = d.key;
      start_frame = d.start_frame;
      start_value = d.start_value;
      start_slope = d.start_slope;
    }

-- the key as it was at opening
abbrev pub start_of : Drag → Key
start_of d = record { frame = d.start_frame; value = d.start_value; slope = d.start_slope }

-- a drop of the key as it is now is unchanged: no drag was accepted, or it "drops on its starting bits" (document 02, 4/13)
unfoldable pub drop_unchanged : Drag → Key → Bool
drop_unchanged d now = not d.moved || same_key now (start_of d)

-- the journal's entry of a drop: "the key as it was at opening and is now"
abbrev pub drag_entry : Drag → Key → Entry
drag_entry d now = record { track = d.track; key = d.key; before = start_of d; after = now }

-- row 5: "an open drag whose row is out of range"; one that is not open is not looked at
unfoldable pub drag_ok : List ℕ → Drag → Bool
drag_ok s d = not d.«open» || has_key s d.track d.key

-- the keys with a drag's starting key put back
unfoldable pub put_back : List ℕ → Keys → Drag → Keys
put_back s ks d = put_key ks (place s d.track d.key) (start_of d)

-- row 5, "where keys are taken, whose starting key, put back, would break the key rules"
unfoldable pub drag_fits : List ℕ → Keys → Drag → Bool
drag_fits s ks d = not d.«open» || keys_ok_of s (put_back s ks d)

-- row 15 of a call that needs an open drag
abbrev pub open_rows : Bool → List Row
open_rows dragging = row 15 dragging ∷ []
