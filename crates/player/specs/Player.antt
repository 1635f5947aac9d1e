-- The player's state (document 01, "Playing and editing"; document 02, 2/13), and when it is broken (row 5 of the table). Assumes nothing.
use Rattle.std.specs.Prelude.{ℕ, ◌+◌, ◌-◌, ◌%◌, ◌^◌, Bool, ◌&&◌, ◌||◌, List, eqb, leb, ltb, get_or}
use Rattle.float.specs.Numbers.{finite}
use Rattle.laws.specs.Below.{all_below}
use Rattle.sheet.specs.Sizes.{animation_count}
use Rattle.edit.specs.Edit.{none, has_key}
use Rattle.player.specs.declared.Player.{Player}
use Rattle.player.specs.declared.journal.Entry.{Entry}
use Rattle.player.specs.declared.journal.Journal.{Journal}
use Rattle.player.specs.Journal.{rows, empty_journal, row_of}
use Rattle.player.specs.Parts.{player_of, no_view}
use Rattle.player.specs.Drag.{no_drag, drag_ok}

-- how high a count goes
abbrev pub most : ℕ
most = 2 ^ 40

-- A fresh player has nothing selected, frame +0, not playing, preview off, all counts 0, and no drag open.
unfoldable pub fresh_player : Player
fresh_player = player_of no_view (record { reach = 0; redo = 0; accepted = 0; undone = 0; redone = 0; standing = 0; journal = empty_journal }) no_drag

-- a selection: nothing, or one of the animations
unfoldable pub selection_ok : List ℕ → ℕ → Bool
selection_ok s selection = eqb selection none || ltb selection (animation_count s)

-- an entry names a track and one of its keys
abbrev pub entry_ok : List ℕ → Entry → Bool
entry_ok s e = has_key s e.track e.key

-- the used row number i: the rows of the last `reach` standing edits and of the redo list, which come right after them
unfoldable pub used_ok : List ℕ → Journal → ℕ → ℕ → Bool
used_ok s j first i = entry_ok s (row_of j (first + i))

-- the same of the two lists that a row's track and key stand in
unfoldable pub named_ok : List ℕ → List ℕ → List ℕ → ℕ → ℕ → Bool
named_ok s track key first i = has_key s (get_or track ((first + i) % rows) 0) (get_or key ((first + i) % rows) 0)

-- the counts: reach + redo at most 128, reach at most standing, each count and standing at most 2^40, accepted + redone = undone + standing
unfoldable pub counts_ok : ℕ → ℕ → ℕ → ℕ → ℕ → ℕ → Bool
counts_ok reach redo accepted undone redone standing =
    leb (reach + redo) rows
    && leb reach standing
    && leb accepted most
    && leb undone most
    && leb redone most
    && leb standing most
    && eqb (accepted + redone) (undone + standing)

-- row 5, as far as it looks at the player alone
unfoldable pub player_ok : List ℕ → Player → Bool
player_ok s p =
    selection_ok s p.selection
    && finite p.frame
    && counts_ok p.reach p.redo p.accepted p.undone p.redone p.standing
    && all_below (p.reach + p.redo) (used_ok s p.journal (p.standing - p.reach))
    && drag_ok s p.drag

-- its two parts, as they are asked: the player's own numbers, and then the used rows
unfoldable pub numbers_ok : List ℕ → Player → Bool
numbers_ok s p =
    selection_ok s p.selection
    && finite p.frame
    && counts_ok p.reach p.redo p.accepted p.undone p.redone p.standing
    && drag_ok s p.drag

unfoldable pub all_used_ok : List ℕ → Player → Bool
all_used_ok s p = all_below (p.reach + p.redo) (used_ok s p.journal (p.standing - p.reach))
