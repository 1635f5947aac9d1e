-- Eight bytes as one number: two fields are compared by words of eight bytes, and so is one with zeros. Assumes nothing.
use Rattle.std.specs.Prelude.{◌≡◌, ℕ, ◌+◌, ◌-◌, ◌*◌, ◌/◌, ◌%◌, ◌<◌, ◌≤◌, Bool, true, false, ◌&&◌, List, [], ◌==◌, nat_lt, refl}
use Rattle.std.proofs.Math.Bool.{and_assoc}
use Rattle.std.proofs.Common.{sym, ◌∙◌, ap, add_comm, add-zero, arith}
use Rattle.std.proofs.Math.Nat.{add_assoc}
use borrow.Author.Tests.{eq-eqb, ne_eqb, eqb-true, eqb-false, ltb-true, ltb-false}
use Rattle.std.proofs.Math.Arith.{digits_div, digits_mod}
use Rattle.laws.specs.Below.{all_below, all_at, all_of, Passed}
use Rattle.field.specs.Read.{byte_at, u16_at, u32_at}
use Rattle.field.specs.Name.{name_bytes, same_byte, same_name, zero_byte, empty_name}

and_true : (b : Bool) → (b && true) ≡ b
and_true true = refl
and_true false = refl

-- the eight bytes at i
unfoldable pub word_at : List ℕ → ℕ → ℕ
word_at s i = u32_at s i + u32_at s (i + 4) * 4294967296

-- two numbers of two digits are equal when their digits are
digit_pair : (m a b c d : ℕ) → a < m → b < m → (a + c * m == b + d * m) ≡ (a == b && c == d)
digit_pair m a b c d p q = go (a == b) refl (c == d) refl
  where
    turned : a + c * m ≡ b + d * m → c * m + a ≡ d * m + b
    turned h = add_comm (c * m) a ∙ h ∙ add_comm b (d * m)

    ones : a + c * m ≡ b + d * m → a ≡ b
    ones h = sym (digits_mod c p) ∙ ap (λ (n : ℕ). n % m) (turned h) ∙ digits_mod d q

    tens : a + c * m ≡ b + d * m → c ≡ d
    tens h = sym (digits_div c p) ∙ ap (λ (n : ℕ). n / m) (turned h) ∙ digits_div d q

    go : (x : Bool) → (a == b) ≡ x → (y : Bool) → (c == d) ≡ y → (a + c * m == b + d * m) ≡ (x && y)
    go true e true f = eq-eqb (a + c * m) (b + d * m) (rw (eqb-true a b e, eqb-true c d f))
    go true e false f = ne_eqb _ _ (λ h. eqb-false c d f (tens h))
    go false e y f = ne_eqb _ _ (λ h. eqb-false a b e (ones h))

-- s holds bytes
abbrev pub Bytes : List ℕ → Type 0
Bytes s = (k : ℕ) → byte_at s k < 256

-- so two bytes are below 2^16, and four below 2^32
small_16 : (s : List ℕ) → Bytes s → (i : ℕ) → u16_at s i < 65536
unfolding u16_at
small_16 s b i = omega (arith, b i, b (i + 1))

pub small_32 : (s : List ℕ) → Bytes s → (i : ℕ) → u32_at s i < 4294967296
unfolding u32_at
small_32 s b i = omega (arith, small_16 s b i, small_16 s b (i + 2))

module _ (s t : List ℕ) (b : Bytes s) (d : Bytes t) where
  same_16 : (i j : ℕ) → (u16_at s i == u16_at t j) ≡ (byte_at s i == byte_at t j && byte_at s (i + 1) == byte_at t (j + 1))
  unfolding u16_at
  same_16 i j = digit_pair 256 (byte_at s i) (byte_at t j) (byte_at s (i + 1)) (byte_at t (j + 1)) (b i) (d j)

  same_32 : (i j : ℕ) → (u32_at s i == u32_at t j) ≡ (u16_at s i == u16_at t j && u16_at s (i + 2) == u16_at t (j + 2))
  unfolding u32_at
  same_32 i j = digit_pair 65536 (u16_at s i) (u16_at t j) (u16_at s (i + 2)) (u16_at t (j + 2)) (small_16 s b i) (small_16 t d j)

  same_64 : (i j : ℕ) → (word_at s i == word_at t j) ≡ (u32_at s i == u32_at t j && u32_at s (i + 4) == u32_at t (j + 4))
  unfolding word_at
  same_64 i j = digit_pair 4294967296 (u32_at s i) (u32_at t j) (u32_at s (i + 4)) (u32_at t (j + 4)) (small_32 s b i) (small_32 t d j)

  -- so two fields are one name when their three words are
  pub same_words : (i j : ℕ) → same_name s i t j ≡ (word_at s i == word_at t j && (word_at s (i + 8) == word_at t (j + 8) && word_at s (i + 16) == word_at t (j + 16)))
  unfolding same_name same_byte all_below
  same_words i j = simp (same_64, same_32, same_16, and_assoc, and_true, add_assoc, add-zero)

  -- eight bytes are the same when their words are
  word_bytes : (i j : ℕ) → (word_at s i == word_at t j) ≡ all_below 8 (same_byte s i t j)
  unfolding same_byte all_below
  word_bytes i j = simp (same_64, same_32, same_16, and_assoc, and_true, add_assoc, add-zero)

  -- a search that compares the first and the last eight bytes at once: where either differ the name is another, and where the first are the same
  -- it has passed eight
  pub first_word : (i j : ℕ) → (word_at s i == word_at t j) ≡ true → Passed name_bytes (same_byte s i t j) 8
  first_word i j e = record { within = omega arith; all = sym (word_bytes i j) ∙ e }

  pub other_first : (i j : ℕ) → (word_at s i == word_at t j) ≡ false → same_name s i t j ≡ false
  other_first i j e = rw (same_words i j, e)

  pub other_last : (i j : ℕ) → (word_at s (i + 16) == word_at t (j + 16)) ≡ false → same_name s i t j ≡ false
  other_last i j e = rw (same_words i j, e) (none (word_at s i == word_at t j) (word_at s (i + 8) == word_at t (j + 8)))
    where
      none : (x y : Bool) → (x && (y && false)) ≡ false
      none true true = refl
      none true false = refl
      none false y = refl

  -- and where the last are the same and the bytes before them have passed, it is the name
  pub ends_same : (i j k : ℕ) → Passed name_bytes (same_byte s i t j) k → 16 ≤ k → (word_at s (i + 16) == word_at t (j + 16)) ≡ true → all_below name_bytes (same_byte s i t j) ≡ true
  unfolding same_byte
  ends_same i j k p l e = all_of name_bytes (same_byte s i t j) (λ m h. go m h (nat_lt m 16) refl)
    where
      go : (m : ℕ) → m < name_bytes → (b : Bool) → nat_lt m 16 ≡ b → same_byte s i t j m ≡ true
      go m h true q = all_at k (same_byte s i t j) m p.all (omega (arith, ltb-true m 16 q))
      go m h false q =
          let x : i + 16 + (m - 16) ≡ i + m = omega (arith, ltb-false m 16 q) in
          let y : j + 16 + (m - 16) ≡ j + m = omega (arith, ltb-false m 16 q) in
          rw (x, y) at (all_at 8 (same_byte s (i + 16) t (j + 16)) (m - 16) (sym (word_bytes (i + 16) (j + 16)) ∙ e) (omega (arith, ltb-false m 16 q)))

-- a name is empty when its three words are 0: it is the same as that of an empty list, whose bytes are 0
pub empty_words : (s : List ℕ) → Bytes s → (i : ℕ) → empty_name s i ≡ (word_at s i == 0 && word_at s (i + 8) == 0 && word_at s (i + 16) == 0)
unfolding empty_name zero_byte same_name same_byte word_at u32_at u16_at
empty_words s b i = same_words s [] b (λ k. omega arith) i 0 ∙ sym (and_assoc (word_at s i == 0) _ _)
