-- The numbers that a list of bytes holds (document 01, its head: little-endian, and f32 is binary32). Assumes nothing.
use Rattle.std.specs.Prelude.{◌≡◌, ℕ, ◌+◌, ◌*◌, ◌<◌, ◌≤◌, Bool, true, List, slice_index, Float}
use Rattle.std.proofs.Common.{arith}
use Rattle.laws.specs.Below.{all_below, all_at}
use Rattle.float.specs.Numbers.{#, finite}

-- the byte at i, 0 past the end
abbrev pub byte_at : List ℕ → ℕ → ℕ
byte_at s i = slice_index s i

-- the u16 at i
unfoldable pub u16_at : List ℕ → ℕ → ℕ
u16_at s i = byte_at s i + byte_at s (i + 1) * 256

-- the u32 at i
unfoldable pub u32_at : List ℕ → ℕ → ℕ
u32_at s i = u16_at s i + u16_at s (i + 2) * 65536

-- which is that of its four bytes, the lowest first
pub u32_bytes : (s : List ℕ) (i : ℕ) → u32_at s i ≡ byte_at s i + byte_at s (i + 1) * 256 + byte_at s (i + 2) * 65536 + byte_at s (i + 3) * 16777216
unfolding u32_at u16_at
u32_bytes s i = let e : i + 2 + 1 ≡ i + 3 = omega arith in rw e (omega arith)

-- the f32 at i
unfoldable pub float_at : List ℕ → ℕ → Float
float_at s i = # (u32_at s i)

-- the f32 at i is finite
unfoldable pub finite_at : List ℕ → ℕ → Bool
finite_at s i = finite (float_at s i)

-- the k-th of a row of f32s that starts at i is finite
unfoldable pub finite_in : List ℕ → ℕ → ℕ → Bool
finite_in s i k = finite_at s (i + k * 4)

-- the n f32s from i on are finite
unfoldable pub finite_row : List ℕ → ℕ → ℕ → Bool
finite_row s i n = all_below n (finite_in s i)

-- What that tells, for a caller that reads them: the k-th, at j, is finite.
pub record FiniteFrom (s : List ℕ) (i n : ℕ) : Type 0 where
  pub each : (k j : ℕ) → k < n → j ≡ i + k * 4 → finite_at s j ≡ true

pub finite_from : (s : List ℕ) (i n : ℕ) → finite_row s i n ≡ true → FiniteFrom s i n
unfolding finite_row finite_in
finite_from s i n h = record { each = λ k j l e. rw e (all_at n (finite_in s i) k h l) }

-- and so is a part of them, m from the k-th on, which is at j
pub finite_part : {s : List ℕ} {i n : ℕ} → FiniteFrom s i n → (k m j : ℕ) → j ≡ i + k * 4 → k + m ≤ n → FiniteFrom s j m
finite_part w k m j e l = record { each = λ d a b q. w.each (k + d) a (omega arith) (omega arith) }
