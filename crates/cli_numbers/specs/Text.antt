-- What is written of a number: a decimal that reads back as the very number, and its bits. Definitions only.
use Rattle.std.specs.Prelude.{◌≡◌, ℕ, ◌+◌, ◌/◌, ◌%◌, Bool, true, false, cond, List, [], ◌∷◌, nat_lt, Float, Option, Some, None}
use Rattle.float.specs.Numbers.{same_bits}
use Rattle.cli_words.specs.Numbers.{number_of}

-- what was read is x, bit for bit
abbrev pub is_bits : Float → Option Float → Bool
is_bits x (Some y) = same_bits x y
is_bits x None = false

-- `words` reads a text as x, bit for bit
abbrev pub Shown : Float → List ℕ → Type 0
Shown x text = is_bits x (number_of text) ≡ true

-- the digit of a number below 16, in upper case
unfoldable pub glyph : ℕ → ℕ
glyph d = cond (nat_lt d 10) (48 + d) (55 + d)

-- 0x and the eight digits of a bit pattern
abbrev pub hex_text : ℕ → List ℕ
hex_text n =
    48 ∷ 120 ∷ glyph (n / 268435456 % 16) ∷ glyph (n / 16777216 % 16) ∷ glyph (n / 1048576 % 16) ∷ glyph (n / 65536 % 16)
    ∷ glyph (n / 4096 % 16) ∷ glyph (n / 256 % 16) ∷ glyph (n / 16 % 16) ∷ glyph (n % 16) ∷ []
