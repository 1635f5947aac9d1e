-- The sizes of a sheet, and where its tables start (document 01, "Sheet and book"). A sheet is this project's animation file, as a list of bytes.
-- Definitions only.
use Rattle.std.specs.Prelude.{ℕ, ◌+◌, ◌*◌, List}
use Rattle.field.specs.Read.{u16_at}
use Rattle.field.specs.Name.{name_bytes}

-- A, C, T, K and X of document 01
abbrev pub animation_count : List ℕ → ℕ
animation_count s = u16_at s 0

abbrev pub content_count : List ℕ → ℕ
content_count s = u16_at s 2

abbrev pub target_count : List ℕ → ℕ
target_count s = u16_at s 4

abbrev pub key_count : List ℕ → ℕ
key_count s = u16_at s 6

abbrev pub texture_count : List ℕ → ℕ
texture_count s = u16_at s 8

-- how many bytes the sizes take, and each row; a key's frame and its point together
abbrev pub head_bytes : ℕ
head_bytes = 12

abbrev pub animation_bytes : ℕ
animation_bytes = 28

abbrev pub content_bytes : ℕ
content_bytes = 28

abbrev pub target_bytes : ℕ
target_bytes = 14

abbrev pub key_bytes : ℕ
key_bytes = 12

-- where the name stands in an animation's row and in a content's
abbrev pub row_name : ℕ
row_name = 4

-- where the rows of animations, contents and targets start, the texture names, the frames and the points (value and slope)
abbrev pub animations_at : ℕ
animations_at = head_bytes

abbrev pub contents_at : List ℕ → ℕ
contents_at s = animations_at + animation_count s * animation_bytes

abbrev pub targets_at : List ℕ → ℕ
targets_at s = contents_at s + content_count s * content_bytes

abbrev pub textures_at : List ℕ → ℕ
textures_at s = targets_at s + target_count s * target_bytes

abbrev pub frames_at : List ℕ → ℕ
frames_at s = textures_at s + texture_count s * name_bytes

abbrev pub points_at : List ℕ → ℕ
points_at s = frames_at s + key_count s * 4

-- how long a sheet of these sizes is: document 01's 12 + 28A + 28C + 14T + 24X + 12K
abbrev pub sheet_bytes : List ℕ → ℕ
sheet_bytes s =
    head_bytes + animation_count s * animation_bytes + content_count s * content_bytes + target_count s * target_bytes + texture_count s * name_bytes +
    key_count s * key_bytes
