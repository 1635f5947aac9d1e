-- What a book is: row 2 of the table in document 01, "What a call declines". In the order of document 01, "Sheet and book". Definitions only.
use Rattle.std.specs.Prelude.{ℕ, ◌+◌, ◌*◌, List, Bool, ◌&&◌, ◌||◌, length, leb, ltb, eqb}
use Rattle.laws.specs.Below.{all_below}
use Rattle.field.specs.Read.{byte_at, u16_at, finite_row}
use Rattle.field.specs.Name.{name_bytes, names_ok}
use Rattle.book.specs.Sizes.{pane_count, material_count, head_bytes, pane_bytes, material_bytes, panes_at, materials_at, no_parent}

-- P panes 1..64 and M materials 0..32; 4 + 72P + 156M bytes
unfoldable pub sizes_ok : List ℕ → Bool
sizes_ok b = leb 1 (pane_count b) && leb (pane_count b) 64 && leb (material_count b) 32 && eqb (length b) (head_bytes + pane_count b * pane_bytes + material_count b * material_bytes)

-- pane i, its label apart: parent none or a smaller row; flags' other bits 0; origins 0..2; zero u16; ten finite f32. Alpha is any.
unfoldable pub pane_ok : List ℕ → ℕ → Bool
pane_ok b i =
    (eqb (u16_at b (panes_at + i * pane_bytes + name_bytes)) no_parent || ltb (u16_at b (panes_at + i * pane_bytes + name_bytes)) i) && leb (byte_at b (panes_at + i * pane_bytes + 26)) 3 &&
    leb (byte_at b (panes_at + i * pane_bytes + 28)) 2 && leb (byte_at b (panes_at + i * pane_bytes + 29)) 2 && eqb (u16_at b (panes_at + i * pane_bytes + 30)) 0 &&
    finite_row b (panes_at + i * pane_bytes + 32) 10

-- material i, its name apart, where the materials start at `base`: three SRTs of five finite f32. Texture names are any bytes.
unfoldable pub material_ok : List ℕ → ℕ → ℕ → Bool
material_ok b base i = finite_row b (base + i * material_bytes + 96) 15

-- pane labels are distinct and not empty, material names likewise
unfoldable pub book_ok : List ℕ → Bool
book_ok b =
    leb head_bytes (length b) && sizes_ok b && all_below (pane_count b) (pane_ok b) && all_below (material_count b) (material_ok b (materials_at b)) &&
    names_ok b panes_at pane_bytes (pane_count b) && names_ok b (materials_at b) material_bytes (material_count b)
