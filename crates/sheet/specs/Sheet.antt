-- What a sheet is, its key rules apart: row 1 of the table in document 01, "What a call declines". In the order of document 01, "Sheet and book".
-- Definitions only.
use Rattle.std.specs.Prelude.{ℕ, ◌+◌, ◌-◌, ◌*◌, List, Bool, ◌&&◌, ◌||◌, length, leb, ltb, eqb}
use Rattle.laws.specs.Below.{all_below}
use Rattle.laws.specs.Sum.{sum_below}
use Rattle.field.specs.Read.{byte_at, u16_at}
use Rattle.field.specs.Name.{empty_name}
use Rattle.sheet.specs.Sizes.{animation_count, content_count, target_count, key_count, texture_count, head_bytes, animation_bytes, content_bytes, target_bytes, row_name, animations_at, contents_at, targets_at, sheet_bytes}
use Rattle.sheet.specs.Rows.{content_at, target_at}

-- A animations 1..8, C contents 0..64, T targets 0..256, K keys 0..2,048, X textures 0..64, and zero
unfoldable pub sizes_ok : List ℕ → Bool
sizes_ok s =
    leb 1 (animation_count s) && leb (animation_count s) 8 && leb (content_count s) 64 && leb (target_count s) 256 && leb (key_count s) 2048 &&
    leb (texture_count s) 64 && eqb (u16_at s 10) 0

-- the length is that of the sizes
unfoldable pub length_ok : List ℕ → Bool
length_ok s = eqb (length s) (sheet_bytes s)

-- animation i: looping 0/1, next present 0/1, next name all zero if absent
unfoldable pub animation_ok : List ℕ → ℕ → Bool
animation_ok s i =
    leb (byte_at s (animations_at + i * animation_bytes + 2)) 1 && leb (byte_at s (animations_at + i * animation_bytes + 3)) 1 &&
    (eqb (byte_at s (animations_at + i * animation_bytes + 3)) 1 || empty_name s (animations_at + i * animation_bytes + row_name))

-- content i, where the contents start at `base` and there are a animations: type 0..4, zero u16; animation numbers are below a and never
-- fall (row 0 is held against itself)
unfoldable pub content_ok : List ℕ → ℕ → ℕ → ℕ → Bool
content_ok s base a i =
    leb (content_at s (base + i * content_bytes)).kind 4 && eqb (u16_at s (base + i * content_bytes + 2)) 0 && ltb (content_at s (base + i * content_bytes)).animation a &&
    leb (content_at s (base + (i - 1) * content_bytes)).animation (content_at s (base + i * content_bytes)).animation

-- target i, where the targets start at `base`, there are c contents, and its first key is f: curve 0..2, zero u8; content numbers are
-- below c and never fall. Layer, raw and code are any.
unfoldable pub target_from : List ℕ → ℕ → ℕ → ℕ → ℕ → Bool
target_from s base c i f =
    leb (target_at s (base + i * target_bytes)).curve 2 && eqb (byte_at s (base + i * target_bytes + 9)) 0 && ltb (target_at s (base + i * target_bytes)).content c &&
    leb (target_at s (base + (i - 1) * target_bytes)).content (target_at s (base + i * target_bytes)).content && eqb (target_at s (base + i * target_bytes)).first f

-- the key count of target i
unfoldable pub keys_of : List ℕ → ℕ → ℕ → ℕ
keys_of s base i = (target_at s (base + i * target_bytes)).count

-- first key is the sum of the earlier counts
unfoldable pub target_ok : List ℕ → ℕ → ℕ → ℕ → Bool
target_ok s base c i = target_from s base c i (sum_below i (keys_of s base))

-- all counts sum to k
unfoldable pub targets_ok : List ℕ → ℕ → ℕ → ℕ → ℕ → Bool
targets_ok s base c n k = all_below n (target_ok s base c) && eqb (sum_below n (keys_of s base)) k

-- Texture names are any bytes, so nothing is asked of them.
unfoldable pub sheet_ok : List ℕ → Bool
sheet_ok s =
    leb head_bytes (length s) && sizes_ok s && length_ok s && all_below (animation_count s) (animation_ok s) &&
    all_below (content_count s) (content_ok s (contents_at s) (animation_count s)) &&
    targets_ok s (targets_at s) (content_count s) (target_count s) (key_count s)
