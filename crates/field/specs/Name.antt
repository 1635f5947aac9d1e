-- Names: fields of 24 bytes (document 01, "Sheet and book": zero bytes at its end don't count). Assumes nothing.
use Rattle.std.specs.Prelude.{ℕ, ◌+◌, ◌*◌, ◌<◌, ◌≤◌, Bool, not, ◌&&◌, List, length, take, drop, ◌==◌}
use Rattle.laws.specs.Below.{all_below}
use Rattle.laws.specs.First.{first_below}
use Rattle.std.specs.Prelude.{Option}
use Rattle.field.specs.Read.{byte_at}

-- how many bytes a name has
abbrev pub name_bytes : ℕ
name_bytes = 24

-- the name's field at i
abbrev pub name_at : List ℕ → ℕ → List ℕ
name_at s i = take name_bytes (drop i s)

-- the k-th bytes of the two fields are the same
unfoldable pub same_byte : List ℕ → ℕ → List ℕ → ℕ → ℕ → Bool
same_byte s i t j k = byte_at s (i + k) == byte_at t (j + k)

-- the fields at i of s and at j of t hold one name: their 24 bytes are the same
unfoldable pub same_name : List ℕ → ℕ → List ℕ → ℕ → Bool
same_name s i t j = all_below name_bytes (same_byte s i t j)

-- the k-th byte of the field is zero
unfoldable pub zero_byte : List ℕ → ℕ → ℕ → Bool
zero_byte s i k = byte_at s (i + k) == 0

-- the name at i is empty: its 24 bytes are zero
unfoldable pub empty_name : List ℕ → ℕ → Bool
empty_name s i = all_below name_bytes (zero_byte s i)

-- row i of a table whose first name is at `base`, and the next each `stride` bytes on, has the name at j of t
unfoldable pub row_named : List ℕ → ℕ → ℕ → List ℕ → ℕ → ℕ → Bool
row_named s base stride t j i = same_name s (base + i * stride) t j

-- the first of its rows that has that name
unfoldable pub find_name : List ℕ → ℕ → ℕ → ℕ → List ℕ → ℕ → Option ℕ
find_name s base stride rows t j = first_below rows (row_named s base stride t j)

-- row j has another name than row i
unfoldable pub other_name : List ℕ → ℕ → ℕ → ℕ → ℕ → Bool
other_name s base stride i j = not (same_name s (base + j * stride) s (base + i * stride))

-- row i has a name, and no earlier row has the same
unfoldable pub name_ok : List ℕ → ℕ → ℕ → ℕ → Bool
name_ok s base stride i = not (empty_name s (base + i * stride)) && all_below i (other_name s base stride i)

-- the names of the rows are distinct and not empty
unfoldable pub names_ok : List ℕ → ℕ → ℕ → ℕ → Bool
names_ok s base stride rows = all_below rows (name_ok s base stride)

-- the fields of the table's names lie within s
pub record Fields (s : List ℕ) (base stride rows : ℕ) : Type 0 where
  pub within : (i : ℕ) → i < rows → base + i * stride + name_bytes ≤ length s
