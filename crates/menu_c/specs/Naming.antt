-- Names that a call copies into a lent output (document 01, "What a call declines", row 13: outputs not exactly as long). Definitions only.
use Rattle.std.specs.Prelude.{ℕ, List, [], ◌∷◌, ◌++◌, eqb, length}
use Rattle.laws.specs.Rows.{Row, row}
use Rattle.field.specs.Name.{name_bytes}
use Rattle.player.specs.declared.Player.{Player}
use Rattle.edit.specs.Keys.{Keys}
use Rattle.menu.specs.Rows.{next_name_table}
use Rattle.menu_readings.specs.Rows.{texture_name_table}
use Rattle.menu.specs.Calls.{Written, written_by, next_name_of}
use Rattle.menu_readings.specs.Readings.{texture_name_of}

-- row 13: the output is as long as a name
unfoldable pub name_rows : List ℕ → List Row
name_rows o = row 13 (eqb (length o) name_bytes) ∷ []

-- the name that follows an animation: the refusals of asking for it come first
unfoldable pub next_name_out_table : List ℕ → ℕ → List ℕ → List Row
next_name_out_table s a o = next_name_table s a ++ name_rows o

unfoldable pub next_name_into : List ℕ → ℕ → List ℕ → Written
next_name_into s a o = written_by (next_name_out_table s a o) (next_name_of s a) o

-- a slot's texture name: the refusals of reading the slot come first
unfoldable pub texture_name_out_table : List ℕ → List ℕ → Player → Keys → ℕ → ℕ → List ℕ → List Row
texture_name_out_table s b p ks m slot o = texture_name_table s b p ks m slot ++ name_rows o

unfoldable pub texture_name_into : List ℕ → List ℕ → Player → Keys → ℕ → ℕ → List ℕ → Written
texture_name_into s b p ks m slot o = written_by (texture_name_out_table s b p ks m slot o) (texture_name_of s b p ks m slot) o
