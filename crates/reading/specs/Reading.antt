-- What each channel reads: the value of the last target of the active animation that addresses it. Definitions only.
use Rattle.std.specs.Prelude.{ℕ, not, cond, List, eqb, ltb, pos, Float}
use Rattle.std.specs.Float.{binary32}
use Rattle.std.specs.Float.Ieee.{of_int, to_unsigned}
use Rattle.laws.specs.Last.{last_below}
use Rattle.laws.specs.Swept.{is_at}
use Rattle.laws.specs.Table.{table}
use Rattle.std.specs.Prelude.{Option}
use Rattle.std.specs.Prelude.{Some, None}
use Rattle.float.specs.Numbers.{#, zero', one', ◌⊘◌}
use Rattle.float.specs.Clamp.{clamp_of}
use Rattle.float.specs.Whole.{whole_of}
use Rattle.sheet.specs.Sizes.{target_count, texture_count}
use Rattle.sheet.specs.Rows.{target_row}
use Rattle.sheet.specs.declared.rows.Target.{Target}
use Rattle.curve.specs.Curve.{eval_part, eval_part_step_u16}
use Rattle.channel.specs.Channel.{family_of, target_channel, channel_count}
use Rattle.channel.specs.declared.Family.{Family}
use Rattle.channel.specs.declared.Family.TheVariants as family
use Rattle.reading.specs.Active.{Active}
use Rattle.reading.specs.declared.Reading.{Reading}
use Rattle.reading.specs.declared.Reading.TheVariants.{Nothing, Number, Shown, Row, Level}

-- 255
abbrev pub full : Float
full = # 0x437f_0000

-- the curve of a target's row at x, plain and as u16
unfoldable pub value_at : List Float → List Float → List Float → Float → Target → Float
value_at fs vs ss x row = eval_part row.curve row.first row.count fs vs ss x

unfoldable pub value16_at : List Float → List Float → List Float → Float → Target → ℕ
value16_at fs vs ss x row = eval_part_step_u16 row.curve row.first row.count fs vs ss x

-- a colour's level: nearest whole held to 0..255, NaN to 0
unfoldable pub level_of : Float → ℕ
level_of v = to_unsigned 8 (clamp_of (whole_of v) zero' full)

-- a texture index from X up leaves that slot with no override
unfoldable pub row_of : ℕ → ℕ → Reading
row_of n x = cond (ltb n x) (Row n) Nothing

-- What a target of a family reads, by its value v, the same as u16, n, and X, the number of texture names: alpha and colours are value / 255;
-- visible is: u16 value not 0.
abbrev pub read_as : Family → Float → ℕ → ℕ → Reading
read_as family.PaneSrt v n x = Number v
read_as family.Visibility v n x = Shown (not (eqb n 0))
read_as family.VertexColor v n x = Number (v ⊘ full)
read_as family.TextureSrt v n x = Number v
read_as family.TexturePattern v n x = row_of n x
read_as family.IndirectSrt v n x = Number v
read_as family.AlphaCompare v n x = Number v
read_as family.MaterialColor v n x = Level (level_of v)
read_as family.Other v n x = Nothing

-- what a target's row reads at x, with n texture names
unfoldable pub row_reading : ℕ → List Float → List Float → List Float → Float → Target → Reading
row_reading n fs vs ss x row = read_as (family_of row.code) (value_at fs vs ss x row) (value16_at fs vs ss x row) n

-- what target t reads
unfoldable pub target_reading : List ℕ → List Float → List Float → List Float → Float → ℕ → Reading
target_reading s fs vs ss x t = row_reading (texture_count s) fs vs ss x (target_row s t)

-- ---- the last-target rule

-- the last target, in sheet order, that addresses channel c while animation a is active
unfoldable pub last_target : List ℕ → List ℕ → ℕ → ℕ → Option ℕ
last_target s b a c = last_below (target_count s) (λ t. is_at (target_channel s b a t) c)

abbrev pub reading_of : List ℕ → List Float → List Float → List Float → Float → Option ℕ → Reading
reading_of s fs vs ss x (Some t) = target_reading s fs vs ss x t
reading_of s fs vs ss x None = Nothing

-- what channel c reads; with nothing active, nothing is overridden
unfoldable pub reading : List ℕ → List ℕ → List Float → List Float → List Float → Active → ℕ → Reading
reading s b fs vs ss None c = Nothing
reading s b fs vs ss (Some v) c = reading_of s fs vs ss v.frame (last_target s b v.animation c)

-- ---- a reading as a mark and a number: shown is 1, hidden 0; rows and levels stand as their numbers; 0 where unmarked

abbrev pub mark_of : Reading → ℕ
mark_of Nothing = 0
mark_of (Number v) = 1
mark_of (Shown b) = 1
mark_of (Row k) = 1
mark_of (Level l) = 1

abbrev pub number_of : Reading → Float
number_of Nothing = zero'
number_of (Number v) = v
number_of (Shown b) = cond b one' zero'
number_of (Row k) = of_int binary32 (pos k)
number_of (Level l) = of_int binary32 (pos l)

-- the whole reading: a mark and a number for each channel, panes first
unfoldable pub marks_of : List ℕ → List ℕ → List Float → List Float → List Float → Active → List ℕ
marks_of s b fs vs ss a = table (channel_count b) (λ c. mark_of (reading s b fs vs ss a c))

unfoldable pub numbers_of : List ℕ → List ℕ → List Float → List Float → List Float → Active → List Float
numbers_of s b fs vs ss a = table (channel_count b) (λ c. number_of (reading s b fs vs ss a c))

-- the entries of cleared tables
abbrev pub no_mark : ℕ → ℕ
no_mark c = 0

abbrev pub no_number : ℕ → Float
no_number c = zero'
