-- What a reader expects of the definitions: with nothing active nothing is overridden, and a texture row that is read is
-- one of the sheet's texture names. Assumes nothing.
use Rattle.std.specs.Prelude.{ℕ, ◌<◌, List, Bool, true, false, cond, ◌≡◌, refl, ltb, Float}
use Rattle.std.proofs.Common.{arith, ltb-true}
use Rattle.laws.specs.Table.{table}
use Rattle.std.specs.Prelude.{Option}
use Rattle.std.specs.Prelude.{Some, None}
use Rattle.sheet.specs.Sizes.{texture_count}
use Rattle.sheet.specs.Rows.{target_row}
use Rattle.channel.specs.Channel.{family_of, channel_count}
use Rattle.reading.specs.Reading.{value_at, value16_at, row_of, read_as, row_reading, target_reading, last_target, reading_of, reading, marks_of, numbers_of, no_mark, no_number}
use Rattle.channel.specs.declared.Family.{Family}
use Rattle.channel.specs.declared.Family.TheVariants as family
use Rattle.reading.specs.Active.{Active}
use Rattle.reading.specs.declared.Reading.TheVariants.{Nothing, Row}

-- ---- with nothing active

pub none_read : (s b : List ℕ) (fs vs ss : List Float) (c : ℕ) → reading s b fs vs ss None c ≡ Nothing
unfolding reading
none_read s b fs vs ss c = refl

-- both tables are all zero
pub none_marked : (s b : List ℕ) (fs vs ss : List Float) → table (channel_count b) no_mark ≡ marks_of s b fs vs ss None
unfolding marks_of reading
none_marked s b fs vs ss = refl

pub none_numbered : (s b : List ℕ) (fs vs ss : List Float) → table (channel_count b) no_number ≡ numbers_of s b fs vs ss None
unfolding numbers_of reading
none_numbered s b fs vs ss = refl

-- ---- a texture row is one of the sheet's texture names

row_of_below : (n x k : ℕ) → row_of n x ≡ Row k → k < x
unfolding row_of
row_of_below n x k e = go (ltb n x) refl e
  where
    go : (b : Bool) → ltb n x ≡ b → cond b (Row n) Nothing ≡ Row k → k < x
    go true q f = let r : n ≡ k = cc in omega (arith, ltb-true n x q)
    go false q f = let z : ◌≡◌ {A = ℕ} 0 1 = cc in absurd (omega arith)

read_row_below : (f : Family) (v : Float) (n x k : ℕ) → read_as f v n x ≡ Row k → k < x
read_row_below family.PaneSrt v n x k e = let z : ◌≡◌ {A = ℕ} 0 1 = cc in absurd (omega arith)
read_row_below family.Visibility v n x k e = let z : ◌≡◌ {A = ℕ} 0 1 = cc in absurd (omega arith)
read_row_below family.VertexColor v n x k e = let z : ◌≡◌ {A = ℕ} 0 1 = cc in absurd (omega arith)
read_row_below family.TextureSrt v n x k e = let z : ◌≡◌ {A = ℕ} 0 1 = cc in absurd (omega arith)
read_row_below family.TexturePattern v n x k e = row_of_below n x k e
read_row_below family.IndirectSrt v n x k e = let z : ◌≡◌ {A = ℕ} 0 1 = cc in absurd (omega arith)
read_row_below family.AlphaCompare v n x k e = let z : ◌≡◌ {A = ℕ} 0 1 = cc in absurd (omega arith)
read_row_below family.MaterialColor v n x k e = let z : ◌≡◌ {A = ℕ} 0 1 = cc in absurd (omega arith)
read_row_below family.Other v n x k e = let z : ◌≡◌ {A = ℕ} 0 1 = cc in absurd (omega arith)

target_row_below : (s : List ℕ) (fs vs ss : List Float) (x : Float) (t k : ℕ) → target_reading s fs vs ss x t ≡ Row k → k < texture_count s
unfolding target_reading row_reading
target_row_below s fs vs ss x t k e = read_row_below (family_of (target_row s t).code) (value_at fs vs ss x (target_row s t)) (value16_at fs vs ss x (target_row s t)) (texture_count s) k e

pub row_below : (s b : List ℕ) (fs vs ss : List Float) (a : Active) (c k : ℕ) → reading s b fs vs ss a c ≡ Row k → k < texture_count s
unfolding reading
row_below s b fs vs ss None c k e = let z : ◌≡◌ {A = ℕ} 0 1 = cc in absurd (omega arith)
row_below s b fs vs ss (Some v) c k e = go (last_target s b v.animation c) e
  where
    go : (o : Option ℕ) → reading_of s fs vs ss v.frame o ≡ Row k → k < texture_count s
    go (Some t) q = target_row_below s fs vs ss v.frame t k q
    go None q = let z : ◌≡◌ {A = ℕ} 0 1 = cc in absurd (omega arith)
