-- The rows of a sheet as records, and the names in them (document 01, "Sheet and book"). Definitions only.
use Rattle.std.specs.Prelude.{ℕ, ◌+◌, ◌*◌, List, eqb}
use Rattle.field.specs.Read.{byte_at, u16_at, u32_at}
use Rattle.field.specs.Name.{name_bytes, name_at}
use Rattle.sheet.specs.Sizes.{animation_bytes, content_bytes, target_bytes, row_name, animations_at, contents_at, targets_at, textures_at}
use Rattle.sheet.specs.declared.rows.Animation.{Animation}
use Rattle.sheet.specs.declared.rows.Content.{Content}
use Rattle.sheet.specs.declared.rows.Target.{Target}

-- the animation's row at a place: frame count u16, looping u8, next present u8, next name
abbrev pub animation_at : List ℕ → ℕ → Animation
animation_at s at = record { frames = u16_at s at; looping = eqb (byte_at s (at + 2)) 1; next = eqb (byte_at s (at + 3)) 1 }

-- the content's row: animation u8, type u8, zero u16, name
abbrev pub content_at : List ℕ → ℕ → Content
content_at s at = record { animation = byte_at s at; kind = byte_at s (at + 1) }

-- the target's row: content u16, layer u8, raw u8, four-letter code, curve u8, zero u8, first key u16, key count u16
abbrev pub target_at : List ℕ → ℕ → Target
target_at s at =
    record {
      content = u16_at s at;
      layer = byte_at s (at + 2);
      raw = byte_at s (at + 3);
      code = u32_at s (at + 4);
      curve = byte_at s (at + 8);
      first = u16_at s (at + 10);
      count = u16_at s (at + 12);
    }

-- row i of each table
unfoldable pub animation_row : List ℕ → ℕ → Animation
animation_row s i = animation_at s (animations_at + i * animation_bytes)

unfoldable pub content_row : List ℕ → ℕ → Content
content_row s i = content_at s (contents_at s + i * content_bytes)

unfoldable pub target_row : List ℕ → ℕ → Target
target_row s i = target_at s (targets_at s + i * target_bytes)

-- the fields of the names: an animation's next, a texture's
unfoldable pub next_name : List ℕ → ℕ → List ℕ
next_name s i = name_at s (animations_at + i * animation_bytes + row_name)

unfoldable pub texture_name : List ℕ → ℕ → List ℕ
texture_name s i = name_at s (textures_at s + i * name_bytes)
