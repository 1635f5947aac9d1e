-- The rows of document 01's table "What a call declines" (with document 02's, 2/13) that look at what calls take, whatever they do. A call's own rows follow them. Definitions only.
use Rattle.std.specs.Prelude.{ℕ, cond, List, [], ◌∷◌, ◌++◌, eqb}
use Rattle.laws.specs.Rows.{Row, row}
use Rattle.sheet.specs.Sheet.{sheet_ok}
use Rattle.book.specs.Book.{book_ok}
use Rattle.keys.specs.Load.{lent_rows}
use Rattle.edit.specs.Keys.{Keys}
use Rattle.player.specs.declared.Player.{Player}
use Rattle.player.specs.Player.{player_ok}
use Rattle.player.specs.Drag.{drag_fits}

-- keys: rows 3 and 4
abbrev pub array_rows : List ℕ → Keys → List Row
array_rows s ks = lent_rows s ks.frames ks.values ks.slopes

-- the sheet alone, and a player's row as far as it looks at the player alone
abbrev pub sheet_rows : List ℕ → List Row
sheet_rows s = row 1 (sheet_ok s) ∷ []

abbrev pub own_rows : List ℕ → Player → List Row
own_rows s p = row 5 (player_ok s p) ∷ []

-- sheet and player
abbrev pub player_rows : List ℕ → Player → List Row
player_rows s p = row 1 (sheet_ok s) ∷ row 5 (player_ok s p) ∷ []

-- a player, where keys are taken: row 5 also asks whether an open drag's starting key can be put back
abbrev pub broken_rows : List ℕ → Player → Keys → List Row
broken_rows s p ks = row 5 (player_ok s p) ∷ row 5 (drag_fits s ks p.drag) ∷ []

-- sheet and keys; with a player as well
abbrev pub keys_rows : List ℕ → Keys → List Row
keys_rows s ks = row 1 (sheet_ok s) ∷ array_rows s ks

abbrev pub state_rows : List ℕ → Player → Keys → List Row
state_rows s p ks = keys_rows s ks ++ broken_rows s p ks

-- sheet, book and keys; with a player as well
abbrev pub book_rows : List ℕ → List ℕ → Keys → List Row
book_rows s b ks = row 1 (sheet_ok s) ∷ row 2 (book_ok b) ∷ array_rows s ks

abbrev pub reading_rows : List ℕ → List ℕ → Player → Keys → List Row
reading_rows s b p ks = book_rows s b ks ++ broken_rows s p ks

-- what two parts of a list decline with, by what each does: the first part's number n, and where that is 0 the second's, m. So answers a check that asks a
-- list in two parts and hands the first part's refusal on by `?`: `check_player`, `check_state`, and `check_menu` of the readings. That it is the whole list's
-- number is shown in proofs/Behind.
unfoldable pub behind : ℕ → ℕ → ℕ
behind n m = cond (eqb n 0) m n
