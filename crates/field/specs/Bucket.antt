-- The bucket of a name. The names of a table's rows are compared only where two share one, as the same name does. Assumes nothing.
use Rattle.std.specs.Prelude.{◌≡◌, ℕ, ◌+◌, ◌*◌, ◌/◌, ◌%◌, ◌^◌, ◌<◌, ◌≤◌, Bool, true, false, not, List, get_or}
use Rattle.std.proofs.Math.Path.{refl}
use Rattle.std.proofs.Common.{arith, eqb-true}
use Rattle.laws.specs.Below.{all_below, all_at, all_of}
use Rattle.laws.specs.Noted.{Noted, unseen}
use Rattle.field.specs.Read.{byte_at, u16_at, u32_at}
use Rattle.field.specs.Name.{name_bytes, same_byte, same_name, other_name}
use Rattle.field.specs.Word.{word_at}

-- how many buckets there are
abbrev pub buckets : ℕ
buckets = 256

-- 2^32 over the golden ratio: numbers that are close get hashes that are far apart
abbrev pub golden : ℕ
golden = 2654435769

-- a number's hash: its two halves summed, times `golden`, and of the lowest 32 bits the highest eight
unfoldable pub hash_of : ℕ → ℕ
hash_of n = (n % 4294967296 + n / 4294967296) % 4294967296 * golden % 4294967296 / 16777216

pub hash_below : (n : ℕ) → hash_of n < buckets
unfolding hash_of
hash_below n = below _
  where
    below : (k : ℕ) → k % 4294967296 / 16777216 < buckets
    below k = omega arith

-- The bucket of the name at i: the hash of its three words' sum. Any function of the bytes would be right, since names that share a bucket are
-- compared; this one keeps labels apart that differ in a few digits.
unfoldable pub bucket_of : List ℕ → ℕ → ℕ
bucket_of s i = hash_of (((word_at s i + word_at s (i + 8)) % 2 ^ 64 + word_at s (i + 16)) % 2 ^ 64)

-- one name has one bucket
module _ (s : List ℕ) (i : ℕ) (t : List ℕ) (j : ℕ) (h : same_name s i t j ≡ true) where
  byte_same : (k a b : ℕ) → k < name_bytes → a ≡ i + k → b ≡ j + k → byte_at s a ≡ byte_at t b
  unfolding same_name same_byte
  byte_same k a b l p q = rw (p, q) (eqb-true _ _ (all_at name_bytes (same_byte s i t j) k h l))

  u32_same : (k a b : ℕ) → k + 4 ≤ name_bytes → a ≡ i + k → b ≡ j + k → u32_at s a ≡ u32_at t b
  unfolding u32_at u16_at
  u32_same k a b l p q =
      rw (
        byte_same k a b (omega arith) p q,
        byte_same (k + 1) (a + 1) (b + 1) (omega arith) (omega arith) (omega arith),
        byte_same (k + 2) (a + 2) (b + 2) (omega arith) (omega arith) (omega arith),
        byte_same (k + 3) (a + 2 + 1) (b + 2 + 1) (omega arith) (omega arith) (omega arith),
      )

  word_same : (k a b : ℕ) → k + 8 ≤ name_bytes → a ≡ i + k → b ≡ j + k → word_at s a ≡ word_at t b
  unfolding word_at
  word_same k a b l p q = rw (u32_same k a b (omega arith) p q, u32_same (k + 4) (a + 4) (b + 4) (omega arith) (omega arith) (omega arith))

  pub bucket_same : bucket_of s i ≡ bucket_of t j
  unfolding bucket_of
  bucket_same =
      rw (
        word_same 0 i j (omega arith) (omega arith) (omega arith),
        word_same 8 (i + 8) (j + 8) (omega arith) refl refl,
        word_same 16 (i + 16) (j + 16) (omega arith) refl refl,
      )

-- the bucket of row i's name
unfoldable pub row_bucket : List ℕ → ℕ → ℕ → ℕ → ℕ
row_bucket s base stride i = bucket_of s (base + i * stride)

-- so where that was not seen, no earlier row has the name
pub unseen_fresh : (s : List ℕ) (base stride i : ℕ) {seen : List Bool} → Noted buckets (row_bucket s base stride) seen i → get_or seen (row_bucket s base stride i) false ≡ false
    → all_below i (other_name s base stride i) ≡ true
unfolding other_name row_bucket
unseen_fresh s base stride i w z = all_of i (other_name s base stride i) (λ j l. go j l (same_name s (base + j * stride) s (base + i * stride)) refl)
  where
    go : (j : ℕ) → j < i → (b : Bool) → same_name s (base + j * stride) s (base + i * stride) ≡ b → not b ≡ true
    go j l false q = refl
    go j l true q = absurd (unseen w z l (bucket_same s (base + j * stride) s (base + i * stride) q))
