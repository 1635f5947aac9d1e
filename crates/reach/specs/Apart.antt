-- When two readings are the same, and how far their numbers are apart. The test is true exactly where they are equal
-- (`same_then`, `same_only`). Assumes nothing.
use Rattle.std.specs.Prelude.{ℕ, Bool, true, false, not, cond, ◌≡◌, refl, T, eqb, Float}
use Rattle.std.proofs.Common.{sym, ap, eqb-true, eq-eqb}
use Rattle.std.specs.Float.{nan, inf, fin, binary32}
use Rattle.std.specs.Float.Ieee.{fits, is_nan, le}
use Rattle.float.specs.Numbers.{zero', ◌⊖◌, same_bits}
use Rattle.float.specs.Bits.{same_self, same_equal}
use Rattle.reading.specs.Reading.{number_of}
use Rattle.reading.specs.declared.Reading.{Reading}
use Rattle.reading.specs.declared.Reading.TheVariants.{Nothing, Number, Shown, Row, Level}

-- two numbers are the same, bit for bit, all NaNs counted as one
unfoldable pub same_number : Float → Float → Bool
same_number a b = cond (is_nan a) (is_nan b) (same_bits a b)

-- ---- a reading is of one kind, with one content
abbrev pub is_nothing : Reading → Bool
is_nothing Nothing = true
is_nothing (Number v) = false
is_nothing (Shown b) = false
is_nothing (Row k) = false
is_nothing (Level l) = false

abbrev pub is_number : Reading → Float → Bool
is_number Nothing w = false
is_number (Number v) w = same_number v w
is_number (Shown b) w = false
is_number (Row k) w = false
is_number (Level l) w = false

abbrev pub is_shown : Reading → Bool → Bool
is_shown Nothing c = false
is_shown (Number v) c = false
is_shown (Shown b) c = cond c b (not b)
is_shown (Row k) c = false
is_shown (Level l) c = false

abbrev pub is_row : Reading → ℕ → Bool
is_row Nothing n = false
is_row (Number v) n = false
is_row (Shown b) n = false
is_row (Row k) n = eqb k n
is_row (Level l) n = false

abbrev pub is_level : Reading → ℕ → Bool
is_level Nothing n = false
is_level (Number v) n = false
is_level (Shown b) n = false
is_level (Row k) n = false
is_level (Level l) n = eqb l n

-- the same kind, with the same number, bool, row or level
abbrev pub same_reading : Reading → Reading → Bool
same_reading Nothing r = is_nothing r
same_reading (Number v) r = is_number r v
same_reading (Shown b) r = is_shown r b
same_reading (Row k) r = is_row r k
same_reading (Level l) r = is_level r l

-- how far the second's number is from the first's: the difference, without its sign
unfoldable pub change_of : Reading → Reading → Float
change_of a b = let d = number_of b ⊖ number_of a in cond (le d zero') (zero' ⊖ d) d

-- ---- the test is true exactly where the two are equal

-- a reading's number is one that an f32 holds
abbrev pub HeldIn : Reading → Type 0
HeldIn Nothing = Unit {0}
HeldIn (Number v) = T (fits binary32 v)
HeldIn (Shown b) = Unit {0}
HeldIn (Row k) = Unit {0}
HeldIn (Level l) = Unit {0}

number_self : (x : Float) → same_number x x ≡ true
unfolding same_number is_nan
number_self nan = refl
number_self (inf s) = same_self (inf s) tt
number_self (fin s m e) = same_self (fin s m e) tt

nan_only : (x : Float) → is_nan x ≡ true → x ≡ nan
unfolding is_nan
nan_only nan e = refl
nan_only (inf s) e = cc
nan_only (fin s m d) e = cc

number_only : (a b : Float) → T (fits binary32 a) → T (fits binary32 b) → same_number a b ≡ true → a ≡ b
unfolding same_number is_nan
number_only nan b p q e = sym (nan_only b e)
number_only (inf s) b p q e = same_equal (inf s) b p q e
number_only (fin s m d) b p q e = same_equal (fin s m d) b p q e

shown_self : (b : Bool) → is_shown (Shown b) b ≡ true
shown_self true = refl
shown_self false = refl

shown_only : (b c : Bool) → is_shown (Shown b) c ≡ true → c ≡ b
shown_only true true e = refl
shown_only true false e = cc
shown_only false true e = cc
shown_only false false e = refl

pub same_then : (r : Reading) → same_reading r r ≡ true
same_then Nothing = refl
same_then (Number v) = number_self v
same_then (Shown b) = shown_self b
same_then (Row k) = eq-eqb k k refl
same_then (Level l) = eq-eqb l l refl

pub same_only : (a b : Reading) → HeldIn a → HeldIn b → same_reading a b ≡ true → a ≡ b
same_only Nothing Nothing p q e = refl
same_only Nothing (Number y) p q e = cc
same_only Nothing (Shown y) p q e = cc
same_only Nothing (Row y) p q e = cc
same_only Nothing (Level y) p q e = cc
same_only (Number x) Nothing p q e = cc
same_only (Number x) (Number y) p q e = ap Number (sym (number_only y x q p e))
same_only (Number x) (Shown y) p q e = cc
same_only (Number x) (Row y) p q e = cc
same_only (Number x) (Level y) p q e = cc
same_only (Shown x) Nothing p q e = cc
same_only (Shown x) (Number y) p q e = cc
same_only (Shown x) (Shown y) p q e = ap Shown (shown_only y x e)
same_only (Shown x) (Row y) p q e = cc
same_only (Shown x) (Level y) p q e = cc
same_only (Row x) Nothing p q e = cc
same_only (Row x) (Number y) p q e = cc
same_only (Row x) (Shown y) p q e = cc
same_only (Row x) (Row y) p q e = ap Row (sym (eqb-true y x e))
same_only (Row x) (Level y) p q e = cc
same_only (Level x) Nothing p q e = cc
same_only (Level x) (Number y) p q e = cc
same_only (Level x) (Shown y) p q e = cc
same_only (Level x) (Row y) p q e = cc
same_only (Level x) (Level y) p q e = ap Level (sym (eqb-true y x e))
