-- The rows of a book as records, and the names in them (document 01, "Sheet and book"). Definitions only.
use Rattle.std.specs.Prelude.{ℕ, ◌+◌, ◌*◌, ◌%◌, ◌/◌, List, Option, cond, eqb}
use Rattle.std.specs.Prelude.{Some, None}
use Rattle.field.specs.Read.{byte_at, u16_at, float_at}
use Rattle.field.specs.Name.{name_bytes, name_at}
use Rattle.book.specs.Sizes.{pane_bytes, material_bytes, panes_at, materials_at, no_parent}
use Rattle.float.specs.declared.vector.Vector2.{Vector2}
use Rattle.float.specs.declared.vector.Vector3.{Vector3}
use Rattle.book.specs.declared.rows.Pane.{Pane}
use Rattle.float.specs.declared.vector.Srt.{Srt}

-- two and three f32 in a row
abbrev pub vector2_at : List ℕ → ℕ → Vector2
vector2_at b at = record { x = float_at b at; y = float_at b (at + 4) }

abbrev pub vector3_at : List ℕ → ℕ → Vector3
vector3_at b at = record { x = float_at b at; y = float_at b (at + 4); z = float_at b (at + 8) }

-- the pane's row at a place: label, parent u16, flags u8 (bit 0 visible, bit 1 influences alpha), alpha u8, horizontal and vertical origin,
-- zero u16, ten f32: translation x y z, rotation x y z, scale x y, size x y
abbrev pub pane_at : List ℕ → ℕ → Pane
pane_at b at =
    record {
      parent = u16_at b (at + name_bytes);
      visible = eqb (byte_at b (at + 26) % 2) 1;
      influences = eqb (byte_at b (at + 26) / 2 % 2) 1;
      alpha = byte_at b (at + 27);
      horizontal = byte_at b (at + 28);
      vertical = byte_at b (at + 29);
      translation = vector3_at b (at + 32);
      rotation = vector3_at b (at + 44);
      scale = vector2_at b (at + 56);
      size = vector2_at b (at + 64);
    }

-- the row that a parent's number names
unfoldable pub parent_of : ℕ → Option ℕ
parent_of p = cond (eqb p no_parent) None (Some p)

-- an SRT: translate u, v, rotate, scale u, v
abbrev pub srt_at : List ℕ → ℕ → Srt
srt_at b at = record { translate = vector2_at b at; rotate = float_at b (at + 8); scale = vector2_at b (at + 12) }

-- row i of the panes, and SRT j of material i: its name, three texture names and three SRTs
unfoldable pub pane_row : List ℕ → ℕ → Pane
pane_row b i = pane_at b (panes_at + i * pane_bytes)

unfoldable pub material_srt : List ℕ → ℕ → ℕ → Srt
material_srt b i j = srt_at b (materials_at b + i * material_bytes + 96 + j * 20)

-- the fields of the names: a pane's label, a material's name, its texture j
unfoldable pub pane_label : List ℕ → ℕ → List ℕ
pane_label b i = name_at b (panes_at + i * pane_bytes)

unfoldable pub material_name : List ℕ → ℕ → List ℕ
material_name b i = name_at b (materials_at b + i * material_bytes)

unfoldable pub material_texture : List ℕ → ℕ → ℕ → List ℕ
material_texture b i j = name_at b (materials_at b + i * material_bytes + name_bytes + j * name_bytes)
