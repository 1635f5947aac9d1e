-- Rows 3 and 4 of "What a call declines" (document 01), of lent keys and of loading; and loading ("Sheet and book": it copies the keys into three
-- lent arrays, each of length K). Definitions only.
use Rattle.std.specs.Prelude.{ℕ, List, [], ◌∷◌, Bool, cond, ◌&&◌, eqb, length, Float}
use Rattle.laws.specs.Rows.{Row, row, declines}
use Rattle.sheet.specs.Sizes.{key_count}
use Rattle.sheet.specs.Sheet.{sheet_ok}
use Rattle.keys.specs.Keys.{keys_ok}
use Rattle.keys.specs.Stored.{stored_frames, stored_values, stored_slopes}

-- row 3: each key array is K long, by their lengths and by the arrays themselves
unfoldable pub arrays_ok : List ℕ → ℕ → ℕ → ℕ → Bool
arrays_ok s f v z = eqb f (key_count s) && eqb v (key_count s) && eqb z (key_count s)

unfoldable pub lengths_ok : List ℕ → List Float → List Float → List Float → Bool
lengths_ok s fs vs ss = arrays_ok s (length fs) (length vs) (length ss)

-- lent keys: each array K long (3), the keys within the key rules (4)
abbrev pub lent_rows : List ℕ → List Float → List Float → List Float → List Row
lent_rows s fs vs ss = row 3 (lengths_ok s fs vs ss) ∷ row 4 (keys_ok s fs vs ss) ∷ []

-- Loading: the sheet's layout (1), each key array K long (3), the sheet's own keys within the key rules (4)
unfoldable pub load_table : List ℕ → ℕ → ℕ → ℕ → List Row
load_table s f v z =
    row 1 (sheet_ok s)
    ∷ row 3 (arrays_ok s f v z)
    ∷ row 4 (keys_ok s (stored_frames s) (stored_values s) (stored_slopes s)) ∷ []

-- what a call leaves: its number, and the three arrays
pub record Loaded : Type 0 where
  pub refusal : ℕ
  pub frames : List Float
  pub values : List Float
  pub slopes : List Float

abbrev pub loaded : ℕ → List Float → List Float → List Float → Loaded
loaded n fs vs ss = record { refusal = n; frames = fs; values = vs; slopes = ss }

-- the number; and the sheet's keys where it is 0, else the arrays as they were
unfoldable pub load_of : List ℕ → List Float → List Float → List Float → Loaded
load_of s fs vs ss =
    let n = declines (load_table s (length fs) (length vs) (length ss)) in
    loaded n
    (cond (eqb n 0) (stored_frames s) fs)
    (cond (eqb n 0) (stored_values s) vs)
    (cond (eqb n 0) (stored_slopes s) ss)
