-- Document 01, "UVs and corners": the call `uvs` from outside, refusals included; and what it gives where it is declined. Assumes nothing.
use Rattle.std.specs.Prelude.{ℕ, List, ◌≡◌, length, Float}
use Rattle.std.proofs.Math.Path.{refl}
use Rattle.laws.specs.Rows.{declines}
use Rattle.laws.specs.Given.{given, given_keeps}
use Rattle.uv.specs.Uvs.{base_uvs, applied, numbers}
use Rattle.uv.specs.Declined.{uvs_table}

-- what a call of `uvs` gives: its refusal, and the output as it leaves it
pub record Filling : Type 0 where
  pub refusal : ℕ
  pub out : List Float

abbrev pub filled : ℕ → List Float → Filling
filled n o = record { refusal = n; out = o }

-- the numbers of the block of the layers ls under the SRTs ss, into o
unfoldable pub uvs_of : List Float → List Float → List Float → Filling
uvs_of ls ss o = given filled (declines (uvs_table ls ss (length o))) (numbers (applied (base_uvs ls) ss)) o

-- It gives the number of its list; and where that is not 0, the lent output is as it was.
module _ (ls ss o : List Float) where
  pub uvs_number : (uvs_of ls ss o).refusal ≡ declines (uvs_table ls ss (length o))
  unfolding uvs_of
  uvs_number = refl

  pub uvs_keeps : (declines (uvs_table ls ss (length o)) ≡ 0 → ⊥) → uvs_of ls ss o ≡ filled (declines (uvs_table ls ss (length o))) o
  unfolding uvs_of
  uvs_keeps h = given_keeps filled _ _ _ h
