-- The sizes of a book, and where its tables start (document 01, "Sheet and book"). A book is this project's file of panes and materials, as a
-- list of bytes. Definitions only.
use Rattle.std.specs.Prelude.{ℕ, ◌+◌, ◌*◌, List}
use Rattle.field.specs.Read.{u16_at}

-- P and M of document 01
abbrev pub pane_count : List ℕ → ℕ
pane_count b = u16_at b 0

abbrev pub material_count : List ℕ → ℕ
material_count b = u16_at b 2

-- how many bytes the sizes take, and each row
abbrev pub head_bytes : ℕ
head_bytes = 4

abbrev pub pane_bytes : ℕ
pane_bytes = 72

abbrev pub material_bytes : ℕ
material_bytes = 156

-- where the rows of panes and of materials start
abbrev pub panes_at : ℕ
panes_at = head_bytes

abbrev pub materials_at : List ℕ → ℕ
materials_at b = panes_at + pane_count b * pane_bytes

-- the parent of a pane with none
abbrev pub no_parent : ℕ
no_parent = 65535
