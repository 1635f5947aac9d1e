-- An index of the names of a table's rows, and what a search by it tells. Assumes nothing.
use Rattle.std.specs.Prelude.{◌≡◌, ℕ, zero, suc, ◌+◌, ◌*◌, ◌<◌, Bool, true, false, not, ◌&&◌, List, [], ◌∷◌, length, ◌==◌, ◌≢◌, slice_index, slice_set}
use Rattle.std.proofs.Math.Path.{refl, sym}
use Rattle.std.proofs.Common.{◌∙◌, ⊎_elim, eq-or-lt_of_le, arith, eq-eqb, eqb-true, length-set, get_or-set_same, get_or-set_other}
use Rattle.std.proofs.lemmas.Bool.{eqb-false, not-true}
use Rattle.laws.specs.Tests.{both}
use Rattle.laws.specs.Below.{all_at, all_of}
use Rattle.laws.specs.First.{first_below, first_found}
use Rattle.std.specs.Prelude.{Some, None}
use Rattle.field.specs.Read.{byte_at}
use Rattle.field.specs.Name.{name_bytes, same_byte, same_name, row_named, find_name, names_ok}
use Rattle.field.specs.Table.{distinct}
use Rattle.field.specs.Bucket.{buckets, hash_below, bucket_of, bucket_same, row_bucket}

-- in the bucket of each row's name there is no 0
pub record Indexed (s : List ℕ) (base stride rows : ℕ) (index : List ℕ) : Type 0 where
  pub long : length index ≡ buckets
  pub each : (j : ℕ) → j < rows → slice_index index (row_bucket s base stride j) ≢ 0

-- there is no 0 at all: an index of any table, which tells nothing
pub record Blank (index : List ℕ) : Type 0 where
  pub long : length index ≡ buckets
  pub every : (k : ℕ) → k < buckets → slice_index index k ≢ 0

-- ---- making it

-- a list whose elements are seen not to be 0
unfoldable pub non_zero : List ℕ → Bool
non_zero [] = true
non_zero (x ∷ l) = not (x == 0) && non_zero l

nonzero_at : (l : List ℕ) (k : ℕ) → non_zero l ≡ true → k < length l → slice_index l k ≢ 0
unfolding non_zero
nonzero_at [] k h m e = omega arith
nonzero_at (x ∷ l) zero h m e = eqb-false x 0 (not-true _ (both (not (x == 0)) _ h).0) e
nonzero_at (x ∷ l) (suc k) h m e = nonzero_at l k (both (not (x == 0)) _ h).1 (omega arith) e

pub blank : (l : List ℕ) → length l ≡ buckets → non_zero l ≡ true → Blank l
blank l e h = record { long = e; every = λ k m. nonzero_at l k h (omega arith) }

pub blank_indexed : (s : List ℕ) (base stride rows : ℕ) {index : List ℕ} → Blank index → Indexed s base stride rows index
unfolding row_bucket bucket_of
blank_indexed s base stride rows h = record { long = h.long; each = λ j l. h.every _ (hash_below _) }

pub indexed_none : (s : List ℕ) (base stride : ℕ) {index : List ℕ} → length index ≡ buckets → Indexed s base stride 0 index
indexed_none s base stride e = record { long = e; each = λ j l. absurd (omega arith) }

module _ {s : List ℕ} {base stride i : ℕ} {index : List ℕ} where
  pub indexed_more : {c v : ℕ} → Indexed s base stride i index → c ≡ row_bucket s base stride i → c < buckets → v ≡ i + 1 → Indexed s base stride (i + 1) (slice_set index c v)
  indexed_more {c} {v} h e l q = record { long = length-set index c v ∙ h.long; each = each }
    where
      -- the bucket that was stored has v, any other what it had
      other : (j : ℕ) (b : Bool) → (row_bucket s base stride j == c) ≡ b → (slice_index index (row_bucket s base stride j) ≢ 0) → slice_index (slice_set index c v) (row_bucket s base stride j) ≢ 0
      other j true p w z = let f = rw (eqb-true (row_bucket s base stride j) c p) at z in let g = get_or-set_same index c v 0 (omega (arith, h.long)) in omega arith
      other j false p w z = w (sym (get_or-set_other index c (row_bucket s base stride j) v 0 (eqb-false _ c p)) ∙ z)

      each : (j : ℕ) → j < i + 1 → slice_index (slice_set index c v) (row_bucket s base stride j) ≢ 0
      each j m z =
          ⊎_elim
          (λ (p : j ≡ i). let f = rw (p, ← e) at z in let g = get_or-set_same index c v 0 (omega (arith, h.long)) in omega arith)
          (λ (p : j < i). other j (row_bucket s base stride j == c) refl (h.each j p) z)
          (eq-or-lt_of_le (omega arith))

  pub indexed_all : {rows : ℕ} → Indexed s base stride i index → i ≡ rows → Indexed s base stride rows index
  indexed_all h e = rw e at h

-- ---- searching by it

first_nothing : (n : ℕ) (p : ℕ → Bool) → ((i : ℕ) → i < n → p i ≡ false) → first_below n p ≡ None
unfolding first_below
first_nothing zero p h = refl
first_nothing (suc n) p h = rw (first_nothing n p (λ i l. h i (omega arith)), h n (omega arith))

-- two fields that hold the name of a third hold one name
same_chain : (s : List ℕ) (i k : ℕ) (t : List ℕ) (j : ℕ) → same_name s i t j ≡ true → same_name s k t j ≡ true → same_name s i s k ≡ true
unfolding same_name same_byte
same_chain s i k t j p q =
    all_of name_bytes (same_byte s i s k)
    (λ n l. eq-eqb _ _ (eqb-true (byte_at s (i + n)) (byte_at t (j + n)) (all_at name_bytes (same_byte s i t j) n p l) ∙ sym (eqb-true (byte_at s (k + n)) (byte_at t (j + n)) (all_at name_bytes (same_byte s k t j) n q l))))

module _ (s : List ℕ) (base stride rows : ℕ) (t : List ℕ) (j : ℕ) where
  -- no row has the name where the index has 0
  pub unindexed : {index : List ℕ} → Indexed s base stride rows index → slice_index index (bucket_of t j) ≡ 0 → None ≡ find_name s base stride rows t j
  unfolding find_name row_named row_bucket
  unindexed w z = sym (first_nothing rows (row_named s base stride t j) (λ i l. go i l (same_name s (base + i * stride) t j) refl))
    where
      go : (i : ℕ) → i < rows → (b : Bool) → same_name s (base + i * stride) t j ≡ b → b ≡ false
      go i l false q = refl
      go i l true q = absurd (w.each i l (rw (bucket_same s (base + i * stride) t j q) z))

  -- a row that has it is the first, since names are distinct
  pub first_named : (i : ℕ) → names_ok s base stride rows ≡ true → i < rows → same_name s (base + i * stride) t j ≡ true → Some i ≡ find_name s base stride rows t j
  unfolding find_name row_named
  first_named i h l e = sym (first_found i rows (row_named s base stride t j) (first_nothing i (row_named s base stride t j) (λ k m. go k m (same_name s (base + k * stride) t j) refl)) l e)
    where
      go : (k : ℕ) → k < i → (b : Bool) → same_name s (base + k * stride) t j ≡ b → b ≡ false
      go k m false q = refl
      go k m true q = absurd (omega (arith, distinct s base stride rows h k i (omega arith) l (same_chain s (base + k * stride) (base + i * stride) t j q e)))
