-- Laws on numbers that are read byte by byte, and on the parts of a text that the code takes. Assumes nothing.
use Rattle.std.specs.Prelude.{◌≡◌, ℕ, zero, suc, ◌+◌, ◌*◌, ◌-◌, ◌%◌, ◌<◌, ◌≤◌, cond, nat_lt, true, not, T, List, length, take, drop, slice_index, refl, Float, None}
use Rattle.std.proofs.Common.{sym, ap, ◌∙◌, subst, add-one, arith, length-drop, take_all, lt-ltb, le-ltb}
use Rattle.std.specs.Float.{nan, inf, fin, binary32}
use Rattle.std.specs.Float.Ieee.{is_nan, nan_bits, of_bits, div}
use Rattle.std.specs.Float.Ieee.Bits.{nan_bits_is, nan_bits_above}
use Rattle.cli_words.specs.declared.number.Decimal.{Decimal}
use native.Mathlib.Numerals.{unary_clauses}
use Rattle.std.proofs.Math.Nat.{le-mul_of_pos_right}
use Rattle.std.specs.Char.{digit_value}
use Rattle.std.proofs.lemmas.Bool.Decides.{nat_tests}
use Rattle.cli_words.specs.Numbers.{too_large, no_pattern, below, held, written, written_after, digit_after, whole_of, decimal_after, decimal_of, fitting, hex_digit, hex_after, hex_of}

-- ---- one byte more
pub whole_none : (s : List ℕ) → 0 ≡ whole_of s 0
unfolding whole_of
whole_none s = refl

pub whole_more : (s : List ℕ) (k : ℕ) {v r : ℕ} → v ≡ whole_of s k → r ≡ digit_after v (slice_index s k) → r ≡ whole_of s (k + 1)
unfolding whole_of
whole_more s k e h = rw (add-one, ← e) h

pub decimal_none : (s : List ℕ) → record { digits = 0; scale = 0 } ≡ decimal_of s 0
unfolding decimal_of
decimal_none s = refl

pub decimal_more : (s : List ℕ) (k : ℕ) {d r : Decimal} → d ≡ decimal_of s k → r ≡ decimal_after d (slice_index s k) → r ≡ decimal_of s (k + 1)
unfolding decimal_of
decimal_more s k e h = rw (add-one, ← e) h

pub hex_none : (s : List ℕ) → 0 ≡ hex_of s 0
unfolding hex_of
hex_none s = refl

pub hex_more : (s : List ℕ) (k : ℕ) {v r : ℕ} → v ≡ hex_of s k → r ≡ hex_after v (slice_index s k) → r ≡ hex_of s (k + 1)
unfolding hex_of
hex_more s k e h = rw (add-one, ← e) h

-- ---- to any base
pub written_none : (base limit : ℕ) (s : List ℕ) → 0 ≡ written base limit s 0
unfolding written
written_none base limit s = refl

pub written_more : (base limit : ℕ) (s : List ℕ) (k : ℕ) {v r : ℕ} → v ≡ written base limit s k → r ≡ written_after base limit v (slice_index s k) → r ≡ written base limit s (k + 1)
unfolding written
written_more base limit s k e h = rw (add-one, ← e) h

-- what is not below the limit stays so
over_at : (base limit v d : ℕ) → 0 < base → limit ≤ v → limit ≤ cond (nat_lt d base) (cond (nat_lt (v * base + d) limit) (v * base + d) limit) limit
over_at base limit v d p h = let m : v ≤ v * base = le-mul_of_pos_right v p in grind (arith, nat_tests)

over : (base limit v b : ℕ) → 0 < base → limit ≤ v → limit ≤ written_after base limit v b
unfolding written_after
over base limit v b p h = over_at base limit v (digit_value b) p h

pub over_more : (base limit : ℕ) (s : List ℕ) (k j : ℕ) → 0 < base → limit ≤ written base limit s k → limit ≤ written base limit s (k + j)
unfolding written
over_more base limit s k zero p h = simp unary_clauses h
over_more base limit s k (suc j) p h = simp unary_clauses (over base limit _ _ p (over_more base limit s k j p h))

below_none : (limit n : ℕ) → None ≡ below limit n → limit ≤ n
below_none limit n h = grind (arith, nat_tests)

none_below : (limit n : ℕ) → limit ≤ n → None ≡ below limit n
none_below limit n h = grind (arith, nat_tests)

-- a digit that is none, or one too many, spoils the whole
pub spoilt : (base limit : ℕ) (s : List ℕ) (k : ℕ) {v : ℕ} → 0 < base → k < length s → v ≡ written base limit s k → None ≡ below limit (written_after base limit v (slice_index s k)) → None ≡ below limit (written base limit s (length s))
spoilt base limit s k {v} p l e h =
    let a : limit ≤ written base limit s (k + 1) = rw (← written_more base limit s k e refl) (below_none _ _ h) in
    let j : (k + 1) + (length s - (k + 1)) ≡ length s = omega arith in
    none_below _ _ (subst (λ (n : ℕ). limit ≤ written base limit s n) j (over_more base limit s (k + 1) (length s - (k + 1)) p a))

-- a whole number and a bit pattern are written to two bases
pub digit_same : (v b : ℕ) → digit_after v b ≡ written_after 10 too_large v b
unfolding digit_after written_after held
digit_same v b = grind (arith, nat_tests)

hex_same : (v b : ℕ) → hex_after v b ≡ written_after 16 no_pattern v b
unfolding hex_after written_after hex_digit
hex_same v b = grind (arith, nat_tests)

pub whole_is : (s : List ℕ) (k : ℕ) → whole_of s k ≡ written 10 too_large s k
unfolding whole_of written
whole_is s zero = refl
whole_is s (suc k) = rw (whole_is s k) (digit_same _ _)

pub hex_is : (s : List ℕ) (k : ℕ) → hex_of s k ≡ written 16 no_pattern s k
unfolding hex_of written
hex_is s zero = refl
hex_is s (suc k) = rw (hex_is s k) (hex_same _ _)

-- ---- decimals
spoilt_after : (d : Decimal) (b : ℕ) → None ≡ fitting d → None ≡ fitting (decimal_after d b)
unfolding decimal_after digit_after held
spoilt_after d b h = grind (arith, nat_tests)

spoilt_more : (s : List ℕ) (k j : ℕ) → None ≡ fitting (decimal_of s k) → None ≡ fitting (decimal_of s (k + j))
unfolding decimal_of
spoilt_more s k zero h = simp unary_clauses h
spoilt_more s k (suc j) h = simp unary_clauses (spoilt_after _ _ (spoilt_more s k j h))

pub decimal_spoilt : (s : List ℕ) (k : ℕ) {d : Decimal} → k < length s → d ≡ decimal_of s k → None ≡ fitting (decimal_after d (slice_index s k)) → None ≡ fitting (decimal_of s (length s))
decimal_spoilt s k {d} l e h =
    let a : None ≡ fitting (decimal_of s (k + 1)) = h ∙ ap fitting (decimal_more s k e refl) in
    let j : (k + 1) + (length s - (k + 1)) ≡ length s = omega arith in
    subst (λ (n : ℕ). None ≡ fitting (decimal_of s n)) j (spoilt_more s (k + 1) (length s - (k + 1)) a)

-- ---- what follows the first elements, as the code takes it
pub rest : (k : ℕ) (s : List ℕ) → take (length s - k) (drop k s) ≡ drop k s
rest k s = take_all (length s - k) (drop k s) (omega (arith, length-drop k s))

-- ---- patterns
-- a pattern that is not above an infinity's is no NaN's
pub no_nan : (n : ℕ) → n % 2147483648 ≤ 2139095040 → T (not (nan_bits binary32 n))
no_nan n l = rw (nan_bits_above binary32 n, le-ltb 2139095040 (n % 2147483648) l) tt

is_nan_lem : (x : Float) → is_nan x ≡ true → nan ≡ x
unfolding is_nan
is_nan_lem nan e = refl
is_nan_lem (inf s) e = cc
is_nan_lem (fin s m k) e = cc

-- and any other is the NaN
pub a_nan : (n : ℕ) → 2139095040 < n % 2147483648 → nan ≡ of_bits binary32 n
a_nan n l = is_nan_lem (of_bits binary32 n) (sym (nan_bits_is binary32 n) ∙ (nan_bits_above binary32 n ∙ lt-ltb 2139095040 (n % 2147483648) l))

pub zero_over_zero : div binary32 (of_bits binary32 0) (of_bits binary32 0) ≡ nan
unfolding div of_bits
zero_over_zero = refl
