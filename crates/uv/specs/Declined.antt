-- Document 01, "What a call declines", for `uvs`: rows 8, 12 and 13 as a list of rows.
use Rattle.std.specs.Prelude.{ℕ, ◌+◌, ◌*◌, ◌/◌, ◌%◌, Bool, List, [], ◌∷◌, ◌≡◌, eqb, length, get_or, Float}
use Rattle.std.proofs.Common.{eqb-true}
use Rattle.std.specs.Float.{nan}
use Rattle.laws.specs.Below.{all_below}
use Rattle.laws.specs.Rows.{Row, row, declines, held}
use Rattle.float.specs.Numbers.{finite}
use Rattle.float.specs.Turn.{angle_passes}
use Rattle.uv.specs.Uvs.{layer_numbers, srt_numbers, block_numbers}

-- number i of a list is finite
unfoldable pub finite_at : List Float → ℕ → Bool
finite_at xs i = finite (get_or xs i nan)

-- all are
unfoldable pub all_finite : List Float → Bool
all_finite xs = all_below (length xs) (finite_at xs)

-- the angle of SRT i passes
unfoldable pub angle_at : List Float → ℕ → Bool
angle_at ss i = angle_passes (get_or ss (i * srt_numbers + 2) nan)

-- those of all that are given do, the fourth and later ones too
unfoldable pub angles_pass : List Float → Bool
angles_pass ss = all_below (length ss / srt_numbers) (angle_at ss)

-- UVs: lists of whole entries (eight numbers a layer, five an SRT), all numbers finite (8); the angles (12); an output of 24 numbers (13)
unfoldable pub uvs_table : List Float → List Float → ℕ → List Row
uvs_table ls ss n =
    row 8 (eqb (length ls % layer_numbers) 0)
    ∷ row 8 (eqb (length ss % srt_numbers) 0)
    ∷ row 8 (all_finite ls)
    ∷ row 8 (all_finite ss)
    ∷ row 12 (angles_pass ss)
    ∷ row 13 (eqb n block_numbers) ∷ []

-- a call that is not declined has an output of 24 numbers
pub uvs_length : (ls ss : List Float) (n : ℕ) → declines (uvs_table ls ss n) ≡ 0 → n ≡ block_numbers
unfolding uvs_table
uvs_length ls ss n e = eqb-true n block_numbers (held _ tt e).1.1.1.1.1.0
