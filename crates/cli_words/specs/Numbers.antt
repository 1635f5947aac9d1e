-- How a number is written: whole, in decimal, or by its bits. What is written badly counts as 2^24, or as 2^32 in hexadecimal, and stays so
-- whatever follows. Definitions only.
use Rattle.std.specs.Prelude.{ℕ, zero, suc, ◌+◌, ◌-◌, ◌*◌, Bool, cond, ◌&&◌, List, length, drop, pos, ◌==◌, from_bits, nat_le, nat_lt, slice_index, Float, Option, Some, None}
use Rattle.std.specs.Float.{binary32}
use Rattle.std.specs.Float.Ieee.{of_int, div, neg}
use Rattle.std.specs.Char.{digit_value}
use Rattle.cli_words.specs.declared.number.Decimal.{Decimal}

-- ---- to any base

-- the number v with the digit b after it, and the limit for what is not below it
unfoldable pub written_after : ℕ → ℕ → ℕ → ℕ → ℕ
written_after base limit v b =
    cond (nat_lt (digit_value b) base)
    (cond (nat_lt (v * base + digit_value b) limit) (v * base + digit_value b) limit)
    limit

-- the number that the first k bytes of s write
unfoldable pub written : ℕ → ℕ → List ℕ → ℕ → ℕ
written base limit s zero = 0
written base limit s (suc k) = written_after base limit (written base limit s k) (slice_index s k)

-- ---- whole numbers

abbrev pub too_large : ℕ
too_large = 16777216

-- an ASCII digit
unfoldable pub is_digit : ℕ → Bool
is_digit b = nat_le 48 b && nat_le b 57

-- n, or 2^24 where n is larger
unfoldable pub held : ℕ → ℕ
held n = cond (nat_lt n too_large) n too_large

-- n, where it is below the limit
abbrev pub below : ℕ → ℕ → Option ℕ
below limit n = cond (nat_lt n limit) (Some n) None

-- the number v with the digit b after it
unfoldable pub digit_after : ℕ → ℕ → ℕ
digit_after v b = cond (nat_lt b 48) too_large (cond (nat_lt 57 b) too_large (held (v * 10 + (b - 48))))

-- the whole number that the first k bytes of s write
unfoldable pub whole_of : List ℕ → ℕ → ℕ
whole_of s zero = 0
whole_of s (suc k) = digit_after (whole_of s k) (slice_index s k)

-- ---- decimals

-- the decimal d with the byte b after it, which is a digit or the one point
unfoldable pub decimal_after : Decimal → ℕ → Decimal
decimal_after d b =
    record {
      digits = cond (b == 46) (cond (d.scale == 0) d.digits too_large) (digit_after d.digits b);
      scale = cond (b == 46) 1 (held (d.scale * 10));
    }

unfoldable pub decimal_of : List ℕ → ℕ → Decimal
decimal_of s zero = record { digits = 0; scale = 0 }
decimal_of s (suc k) = decimal_after (decimal_of s k) (slice_index s k)

-- the digits over the scale, rounded once
unfoldable pub quotient_of : Decimal → Float
quotient_of d = div binary32 (of_int binary32 (pos d.digits)) (of_int binary32 (pos (cond (d.scale == 0) 1 d.scale)))

-- a decimal whose digits and scale are below 2^24
abbrev pub fitting : Decimal → Option Decimal
fitting d = cond (nat_lt d.digits too_large) (cond (nat_lt d.scale too_large) (Some d) None) None

abbrev pub plain_of : Decimal → Option Float
plain_of d = cond (nat_lt d.digits too_large) (cond (nat_lt d.scale too_large) (Some (quotient_of d)) None) None

-- a decimal with no sign: it begins and ends with a digit
unfoldable pub unsigned_of : List ℕ → Option Float
unsigned_of s = cond (length s == 0) None (cond (is_digit (slice_index s 0)) (cond (is_digit (slice_index s (length s - 1))) (plain_of (decimal_of s (length s))) None) None)

abbrev pub negated : Option Float → Option Float
negated (Some x) = Some (neg x)
negated None = None

-- a minus may stand in front
unfoldable pub signed_of : List ℕ → Option Float
signed_of s = cond (length s == 0) None (cond (slice_index s 0 == 45) (negated (unsigned_of (drop 1 s))) (unsigned_of s))

-- ---- bit patterns

abbrev pub no_pattern : ℕ
no_pattern = 4294967296

-- the value of a hexadecimal digit of either case, or 16
unfoldable pub hex_digit : ℕ → ℕ
hex_digit b =
    cond (nat_lt b 48) 16
    (cond (nat_lt b 58) (b - 48)
    (cond (nat_lt b 65) 16
    (cond (nat_lt b 71) (b - 55)
    (cond (nat_lt b 97) 16
    (cond (nat_lt b 103) (b - 87) 16)))))

-- the number v with the digit b after it
unfoldable pub hex_after : ℕ → ℕ → ℕ
hex_after v b = cond (nat_le 16 (hex_digit b)) no_pattern (cond (nat_le 268435456 v) no_pattern (v * 16 + hex_digit b))

-- the number that the first k bytes of s write in hexadecimal
unfoldable pub hex_of : List ℕ → ℕ → ℕ
hex_of s zero = 0
hex_of s (suc k) = hex_after (hex_of s k) (slice_index s k)

abbrev pub hex_all : List ℕ → ℕ
hex_all s = hex_of s (length s)

-- 0x and eight digits
unfoldable pub bits_of : List ℕ → Option Float
bits_of s =
    cond (length s == 10)
    (cond (slice_index s 0 == 48)
    (cond (slice_index s 1 == 120)
    (cond (nat_lt (hex_all (drop 2 s)) no_pattern) (Some (from_bits binary32 (hex_all (drop 2 s)))) None)
    None)
    None)
    None

-- ---- either

abbrev pub or_else : Option Float → Option Float → Option Float
or_else (Some x) other = Some x
or_else None other = other

unfoldable pub number_of : List ℕ → Option Float
number_of s = or_else (signed_of s) (bits_of s)
