-- How the code tests rows: those of the two tables and their names are one test. Definitions only.
use Rattle.std.specs.Prelude.{ℕ, List, Bool, ◌&&◌}
use Rattle.laws.specs.Below.{all_below}
use Rattle.field.specs.Name.{names_ok}
use Rattle.book.specs.Sizes.{pane_count, material_count, pane_bytes, material_bytes, panes_at, materials_at}
use Rattle.book.specs.Book.{pane_ok, material_ok}

unfoldable pub rows_ok : List ℕ → Bool
rows_ok b =
    all_below (pane_count b) (pane_ok b) && all_below (material_count b) (material_ok b (materials_at b)) &&
    names_ok b panes_at pane_bytes (pane_count b) && names_ok b (materials_at b) material_bytes (material_count b)
