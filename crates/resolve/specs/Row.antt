-- A row of the book, a pane's or a material's, and its channels over what the book has. Definitions only.
use Rattle.std.specs.Prelude.{ℕ, ◌<◌, List, Float}
use Rattle.book.specs.Sizes.{pane_count, material_count}
use Rattle.float.specs.declared.vector.Vector2.{Vector2}
use Rattle.float.specs.declared.vector.Vector3.{Vector3}
use Rattle.std.specs.Prelude.{◌+◌}
use Rattle.channel.specs.Channel.{pane_channels, material_channels, of_pane, of_material}
use Rattle.channel.specs.declared.Reached.{Reached}
use Rattle.channel.specs.declared.Reached.TheVariants as reached
use Rattle.reading.specs.Active.{Active}
use Rattle.reading.specs.Reading.{reading}
use Rattle.resolve.specs.Resolve.{or_number}

-- the row is one of the book's, and k the number of one of its channels
abbrev pub InRow : List ℕ → Reached → ℕ → Type 0
InRow b (reached.Pane p) k = (p < pane_count b) × (k < pane_channels)
InRow b (reached.Material m) k = (m < material_count b) × (k < material_channels)

-- that channel of the book
abbrev pub channel_in : List ℕ → Reached → ℕ → ℕ
channel_in b (reached.Pane p) k = of_pane p k
channel_in b (reached.Material m) k = of_material b m k

module _ (s b : List ℕ) (fs vs ss : List Float) (a : Active) where
  -- it over what the book has, and those after it
  abbrev pub number_in_row : Reached → ℕ → Float → Float
  number_in_row row k base = or_number (reading s b fs vs ss a (channel_in b row k)) base

  abbrev pub vector2_in_row : Reached → ℕ → Vector2 → Vector2
  vector2_in_row row k base = record { x = number_in_row row k base.x; y = number_in_row row (k + 1) base.y }

  abbrev pub vector3_in_row : Reached → ℕ → Vector3 → Vector3
  vector3_in_row row k base = record { x = number_in_row row k base.x; y = number_in_row row (k + 1) base.y; z = number_in_row row (k + 2) base.z }
