-- Resolving: for the channels that the book holds, the override, else the book. Definitions only.
use Rattle.std.specs.Prelude.{ℕ, ◌+◌, ◌*◌, Bool, List, pos, Float}
use Rattle.std.specs.Float.{binary32}
use Rattle.std.specs.Float.Ieee.{of_int}
use Rattle.std.specs.Prelude.{Option}
use Rattle.std.specs.Prelude.{Some, None}
use Rattle.float.specs.Numbers.{◌⊘◌}
use Rattle.sheet.specs.Rows.{texture_name}
use Rattle.book.specs.Rows.{pane_row, material_srt, material_texture}
use Rattle.float.specs.declared.vector.Srt.{Srt}
use Rattle.float.specs.declared.vector.Vector2.{Vector2}
use Rattle.float.specs.declared.vector.Vector3.{Vector3}
use Rattle.channel.specs.Channel.{visible_channel, alpha_channel, slot_channel, of_pane, of_material}
use Rattle.reading.specs.Reading.{reading, full}
use Rattle.reading.specs.Active.{Active}
use Rattle.reading.specs.declared.Reading.{Reading}
use Rattle.reading.specs.declared.Reading.TheVariants.{Nothing, Number, Shown, Row, Level}
use Rattle.resolve.specs.declared.Transform.{Transform}

-- a reading's number, or what the book has
abbrev pub or_number : Reading → Float → Float
or_number Nothing base = base
or_number (Number v) base = v
or_number (Shown b) base = base
or_number (Row k) base = base
or_number (Level l) base = base

abbrev pub or_shown : Reading → Bool → Bool
or_shown Nothing base = base
or_shown (Number v) base = base
or_shown (Shown b) base = b
or_shown (Row k) base = base
or_shown (Level l) base = base

-- the book's alpha, as byte / 255
abbrev pub book_alpha : List ℕ → ℕ → Float
book_alpha b p = of_int binary32 (pos (pane_row b p).alpha) ⊘ full

-- the row of the sheet's texture names that a reading names
abbrev pub row_in : Reading → Option ℕ
row_in Nothing = None
row_in (Number v) = None
row_in (Shown b) = None
row_in (Row k) = Some k
row_in (Level l) = None

module _ (s b : List ℕ) (fs vs ss : List Float) (a : Active) where
  -- channel k of pane p, and of material m, over what the book has
  unfoldable pub pane_number : ℕ → ℕ → Float → Float
  pane_number p k base = or_number (reading s b fs vs ss a (of_pane p k)) base

  unfoldable pub material_number : ℕ → ℕ → Float → Float
  material_number m k base = or_number (reading s b fs vs ss a (of_material b m k)) base

  -- the channels of a vector, from k on
  abbrev pub pane_vector3 : ℕ → ℕ → Vector3 → Vector3
  pane_vector3 p k base = record { x = pane_number p k base.x; y = pane_number p (k + 1) base.y; z = pane_number p (k + 2) base.z }

  abbrev pub pane_vector2 : ℕ → ℕ → Vector2 → Vector2
  pane_vector2 p k base = record { x = pane_number p k base.x; y = pane_number p (k + 1) base.y }

  abbrev pub layer_vector : ℕ → ℕ → Vector2 → Vector2
  layer_vector m k base = record { x = material_number m k base.x; y = material_number m (k + 1) base.y }

  -- the Rust's resolve_transform: translation 0..2, rotation 3..5, scale 6 and 7, size 8 and 9
  unfoldable pub transform_of : ℕ → Transform
  transform_of p =
      record {
        translation = pane_vector3 p 0 (pane_row b p).translation;
        rotation = pane_vector3 p 3 (pane_row b p).rotation;
        scale = pane_vector2 p 6 (pane_row b p).scale;
        size = pane_vector2 p 8 (pane_row b p).size;
      }

  unfoldable pub visible_of : ℕ → Bool
  visible_of p = or_shown (reading s b fs vs ss a (of_pane p visible_channel)) (pane_row b p).visible

  unfoldable pub alpha_of : ℕ → Float
  alpha_of p = pane_number p alpha_channel (book_alpha b p)

  -- the Rust's TextureSrtAnimation::resolve: a layer's five channels
  unfoldable pub srt_of : ℕ → ℕ → Srt
  srt_of m layer =
      record {
        translate = layer_vector m (layer * 5) (material_srt b m layer).translate;
        rotate = material_number m (layer * 5 + 2) (material_srt b m layer).rotate;
        scale = layer_vector m (layer * 5 + 3) (material_srt b m layer).scale;
      }

  -- the name's field: the sheet's texture name where a row overrides the slot, else the book's
  abbrev pub name_for : Option ℕ → ℕ → ℕ → List ℕ
  name_for (Some k) m slot = texture_name s k
  name_for None m slot = material_texture b m slot

  unfoldable pub texture_of : ℕ → ℕ → List ℕ
  texture_of m slot = name_for (row_in (reading s b fs vs ss a (of_material b m (slot_channel slot)))) m slot
