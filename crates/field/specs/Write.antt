-- How f32s are written into a list of bytes (document 01, its head: little-endian): their bytes, and that what is written reads back. What a loop that
-- writes them keeps is shown in proofs/Writing. Assumes nothing.
use Rattle.std.specs.Prelude.{◌≡◌, ℕ, zero, suc, ◌+◌, ◌*◌, ◌/◌, ◌%◌, ◌<◌, ◌≤◌, true, T, List, ◌++◌, length, get_or, take, drop, from_bits, slice_index, slice_index_or, slice_set, to_bits, Float}
use Rattle.std.proofs.Common.{sym, ◌∙◌, ap, length-take, length-drop, get_or-append-add, ext_get_or, get_or-take, get_or-drop}
use native.Mathlib.Omega.{arith}
use Rattle.std.proofs.Math.Arith.{digits_div, digits_mod}
use Rattle.std.proofs.Math.ListN.{get_or-append}
use Rattle.std.specs.Float.{nan}
use Rattle.std.specs.Float.Ieee.{binary32, fits}
use Rattle.std.specs.Float.Ieee.Bits.{of_bits-to_bits, to_bits-of_bits, to_bits-lt}
use Rattle.laws.specs.Table.{table, table_length, table_at}
use Rattle.float.specs.Bits.{finite_number}
use Rattle.field.specs.Read.{byte_at, u16_at, u32_at, float_at, finite_at}
use Rattle.field.specs.Word.{Bytes, small_32}

-- byte k of a number, the lowest first
unfoldable pub byte_of : ℕ → ℕ → ℕ
byte_of n zero = n % 256
byte_of n (suc k) = byte_of (n / 256) k

-- the four bytes of x over those from i on
unfoldable pub put_float : List ℕ → ℕ → Float → List ℕ
put_float l i x =
    let n = to_bits binary32 x in
    slice_set (slice_set (slice_set (slice_set l i (byte_of n 0)) (i + 1) (byte_of n 1)) (i + 2) (byte_of n 2)) (i + 3) (byte_of n 3)

-- byte i of f32s that stand one after the other, and all of them
unfoldable pub float_byte : List Float → ℕ → ℕ
float_byte xs i = byte_of (to_bits binary32 (slice_index_or xs (i / 4) nan)) (i % 4)

unfoldable pub float_bytes : List Float → List ℕ
float_bytes xs = table (length xs * 4) (float_byte xs)

pub bytes_long : (xs : List Float) → length (float_bytes xs) ≡ length xs * 4
unfolding float_bytes
bytes_long xs = table_length (length xs * 4) (float_byte xs)

-- ---- a loop that writes them

-- byte k of the j-th
pub float_byte_lem : (xs : List Float) (j k : ℕ) → k < 4 → float_byte xs (j * 4 + k) ≡ byte_of (to_bits binary32 (slice_index_or xs j nan)) k
unfolding float_byte
float_byte_lem xs j k l = rw (digits_div j l, digits_mod j l)

-- ---- what is written reads back

four_bytes : (n : ℕ) → n < 4294967296 → byte_of n 0 + byte_of n 1 * 256 + (byte_of n 2 + byte_of n 3 * 256) * 65536 ≡ n
unfolding byte_of
four_bytes n l = omega arith

-- four bytes of an f32 read as it
pub float_back : (l : List ℕ) (i : ℕ) (x : Float) → T (fits binary32 x) → ((k j : ℕ) → k < 4 → j ≡ i + k → byte_at l j ≡ byte_of (to_bits binary32 x) k) → float_at l i ≡ x
unfolding float_at u32_at u16_at
float_back l i x h e =
    let n = to_bits binary32 x in
    let a = e 0 i (omega arith) (omega arith) in
    let b = e 1 (i + 1) (omega arith) (omega arith) in
    let c = e 2 (i + 2) (omega arith) (omega arith) in
    let d = e 3 (i + 2 + 1) (omega arith) (omega arith) in
    let q : u32_at l i ≡ n = rw (a, b, c, d) (four_bytes n (to_bits-lt binary32 x h)) in
    ap (from_bits binary32) q ∙ of_bits-to_bits binary32 x h

-- byte k of a number that four bytes make is the k-th of them
module _ (s : List ℕ) (b : Bytes s) (i : ℕ) where
  byte_is : (k j : ℕ) → k < 4 → j ≡ i + k → byte_of (u32_at s i) k ≡ byte_at s j
  unfolding byte_of u32_at u16_at
  byte_is zero j l e = let p : j ≡ i = omega arith in rw p (omega (arith, b i))
  byte_is (suc zero) j l e = let p : j ≡ i + 1 = omega arith in rw p (omega (arith, b i, b (i + 1)))
  byte_is (suc (suc zero)) j l e = let p : j ≡ i + 2 = omega arith in rw p (omega (arith, b i, b (i + 1), b (i + 2)))
  byte_is (suc (suc (suc zero))) j l e = let p : j ≡ i + 2 + 1 = omega arith in rw p (omega (arith, b i, b (i + 1), b (i + 2), b (i + 2 + 1)))
  byte_is (suc (suc (suc (suc k)))) j l e = absurd (omega arith)

  -- and the bytes that a finite f32 was read from are its bytes
  pub byte_back : (k j : ℕ) → finite_at s i ≡ true → k < 4 → j ≡ i + k → byte_of (to_bits binary32 (float_at s i)) k ≡ byte_at s j
  unfolding float_at finite_at
  byte_back k j h l e = rw (to_bits-of_bits binary32 (u32_at s i) (small_32 s b i) (finite_number _ h)) (byte_is k j l e)

-- ---- f32s that stand one after the other

module _ (xs : List Float) (j k : ℕ) (within : j < length xs) (l : k < 4) where
  -- byte k of the j-th, by itself and in a list that has them after others
  float_at_lem : get_or (float_bytes xs) (j * 4 + k) 0 ≡ byte_of (to_bits binary32 (slice_index_or xs j nan)) k
  unfolding float_bytes
  float_at_lem = table_at (length xs * 4) (j * 4 + k) (float_byte xs) 0 (omega arith) ∙ float_byte_lem xs j k l

  byte_after : (before after : List ℕ) → byte_at (before ++ (float_bytes xs ++ after)) (length before + (j * 4 + k)) ≡ byte_of (to_bits binary32 (slice_index_or xs j nan)) k
  byte_after before after = get_or-append-add before (float_bytes xs ++ after) (j * 4 + k) 0 ∙ get_or-append (float_bytes xs) after 0 (j * 4 + k) (omega (arith, bytes_long xs)) ∙ float_at_lem

-- the j-th of them reads as itself
pub floats_back : (before after : List ℕ) (xs : List Float) (i j : ℕ) → i ≡ length before + j * 4 → j < length xs → T (fits binary32 (slice_index_or xs j nan))
    → float_at (before ++ (float_bytes xs ++ after)) i ≡ slice_index_or xs j nan
floats_back before after xs i j e l h =
    float_back (before ++ (float_bytes xs ++ after)) i (slice_index_or xs j nan) h
    (λ k m b d. let q : m ≡ length before + (j * 4 + k) = omega arith in rw q (byte_after xs j k l b before after))

-- and the bytes that n finite ones were read from, from i on, are their bytes
module _ (s : List ℕ) (b : Bytes s) (i n : ℕ) (within : i + n * 4 ≤ length s) (whole : (j : ℕ) → j < n → finite_at s (i + j * 4) ≡ true) where
  abbrev read : ℕ → Float
  read j = float_at s (i + j * 4)

  read_long : length (float_bytes (table n read)) ≡ n * 4
  read_long = bytes_long (table n read) ∙ ap (λ (k : ℕ). k * 4) (table_length n read)

  part_long : length (take (n * 4) (drop i s)) ≡ n * 4
  part_long = simp (length-take, length-drop) (omega arith)

  each_byte : (m j k : ℕ) → m ≡ j * 4 + k → k < 4 → m < n * 4 → slice_index (float_bytes (table n read)) m ≡ slice_index (take (n * 4) (drop i s)) m
  each_byte m j k e l r =
      let f : j < n = omega arith in
      let q : j < length (table n read) = omega (arith, f, table_length n read) in
      rw (e, float_at_lem (table n read) j k q l, table_at n j read nan f, get_or-take (n * 4) (drop i s) (j * 4 + k) 0 (omega arith), get_or-drop i s (j * 4 + k) 0)
      (byte_back s b (i + j * 4) k (i + (j * 4 + k)) (whole j f) l (omega arith))

  pub bytes_back : float_bytes (table n read) ≡ take (n * 4) (drop i s)
  bytes_back = ext_get_or 0 (float_bytes (table n read)) (take (n * 4) (drop i s)) (read_long ∙ sym part_long) (λ m l. each_byte m (m / 4) (m % 4) (omega arith) (omega arith) (omega (arith, read_long)))
