-- A texture row that a slot's reading names is one of the sheet's texture names ("a texture index from X up leaves that slot
-- with no override"). Assumes nothing.
use Rattle.std.specs.Prelude.{ℕ, ◌<◌, List, ◌≡◌, Float}
use Rattle.std.proofs.Common.{arith}
use Rattle.std.specs.Prelude.{Some}
use Rattle.sheet.specs.Sizes.{texture_count}
use Rattle.reading.specs.Reading.{reading}
use Rattle.reading.specs.Overrides.{row_below}
use Rattle.reading.specs.Active.{Active}
use Rattle.reading.specs.declared.Reading.{Reading}
use Rattle.reading.specs.declared.Reading.TheVariants.{Nothing, Number, Shown, Row, Level}
use Rattle.resolve.specs.Resolve.{row_in}

is_row : (r : Reading) (k : ℕ) → row_in r ≡ Some k → r ≡ Row k
is_row Nothing k e = let z : ◌≡◌ {A = ℕ} 0 1 = cc in absurd (omega arith)
is_row (Number v) k e = let z : ◌≡◌ {A = ℕ} 0 1 = cc in absurd (omega arith)
is_row (Shown b) k e = let z : ◌≡◌ {A = ℕ} 0 1 = cc in absurd (omega arith)
is_row (Row n) k e = let q : n ≡ k = cc in rw q
is_row (Level l) k e = let z : ◌≡◌ {A = ℕ} 0 1 = cc in absurd (omega arith)

pub named_below : (s b : List ℕ) (fs vs ss : List Float) (a : Active) (c k : ℕ) → row_in (reading s b fs vs ss a c) ≡ Some k → k < texture_count s
named_below s b fs vs ss a c k e = row_below s b fs vs ss a c k (is_row (reading s b fs vs ss a c) k e)
