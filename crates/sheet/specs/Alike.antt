-- A sheet with other keys, as saving makes one: it has the same sizes and the same rows, and passes the same check. Assumes nothing.
use Rattle.std.specs.Prelude.{ℕ, ◌+◌, ◌-◌, ◌*◌, ◌<◌, ◌≤◌, List, ◌≡◌, length}
use Rattle.std.proofs.Common.{arith}
use Rattle.laws.specs.Below.{all_same}
use Rattle.laws.specs.Sum.{sum_below, sum_same}
use Rattle.field.specs.Read.{byte_at, u16_at, u32_at}
use Rattle.field.specs.Name.{name_bytes, zero_byte, empty_name}
use Rattle.sheet.specs.Sizes.{animation_count, content_count, target_count, key_count, texture_count, head_bytes, animation_bytes, content_bytes, target_bytes, row_name, animations_at, contents_at, targets_at, frames_at, points_at}
use Rattle.sheet.specs.Rows.{target_at, target_row}
use Rattle.sheet.specs.Sheet.{sizes_ok, length_ok, animation_ok, content_ok, keys_of, target_from, target_ok, targets_ok, sheet_ok}

-- t agrees with the sheet s in length and before the key arrays: it is s with other keys
pub record Alike (s t : List ℕ) : Type 0 where
  pub long : length t ≡ length s
  pub same : (i : ℕ) → i < frames_at s → byte_at t i ≡ byte_at s i

module _ {s t : List ℕ} (a : Alike s t) where
  -- ---- what ends before the key arrays
  u16_same : (i : ℕ) → i + 1 < frames_at s → u16_at t i ≡ u16_at s i
  unfolding u16_at
  u16_same i l = rw (a.same i (omega arith), a.same (i + 1) l)

  u32_same : (i : ℕ) → i + 3 < frames_at s → u32_at t i ≡ u32_at s i
  unfolding u32_at
  u32_same i l = rw (u16_same i (omega arith), u16_same (i + 2) (omega arith))

  empty_same : (i : ℕ) → i + name_bytes ≤ frames_at s → empty_name t i ≡ empty_name s i
  unfolding empty_name zero_byte
  empty_same i l = all_same name_bytes _ _ (λ k m. rw (a.same (i + k) (omega arith)))

  -- ---- the sizes, whatever they are: the arrays start after them
  size_same : (i : ℕ) → i + 1 < head_bytes → u16_at t i ≡ u16_at s i
  size_same i l = u16_same i (omega arith)

  pub animations_same : animation_count t ≡ animation_count s
  animations_same = size_same 0 (omega arith)

  pub contents_same : content_count t ≡ content_count s
  contents_same = size_same 2 (omega arith)

  pub targets_same : target_count t ≡ target_count s
  targets_same = size_same 4 (omega arith)

  pub keys_same : key_count t ≡ key_count s
  keys_same = size_same 6 (omega arith)

  pub textures_same : texture_count t ≡ texture_count s
  textures_same = size_same 8 (omega arith)

  -- so the arrays start where they did, and the length is as right as it was
  pub frames_same : frames_at t ≡ frames_at s
  frames_same = rw (animations_same, contents_same, targets_same, textures_same)

  pub points_same : points_at t ≡ points_at s
  points_same = rw (frames_same, keys_same)

  pub length_same : length_ok t ≡ length_ok s
  unfolding length_ok
  length_same = rw (a.long, animations_same, contents_same, targets_same, textures_same, keys_same)

  -- ---- the targets' rows
  target_at_lem : (at : ℕ) → at + target_bytes ≤ frames_at s → target_at t at ≡ target_at s at
  target_at_lem at l =
      rw (
        u16_same at (omega arith),
        a.same (at + 2) (omega arith),
        a.same (at + 3) (omega arith),
        u32_same (at + 4) (omega arith),
        a.same (at + 8) (omega arith),
        u16_same (at + 10) (omega arith),
        u16_same (at + 12) (omega arith),
      )

  pub target_same : (i : ℕ) → i < target_count s → target_row t i ≡ target_row s i
  unfolding target_row
  target_same i l = rw (animations_same, contents_same) (target_at_lem (targets_at s + i * target_bytes) (omega arith))

  -- ---- the check, row by row
  animation_ok_lem : (i : ℕ) → i < animation_count s → animation_ok t i ≡ animation_ok s i
  unfolding animation_ok
  animation_ok_lem i l =
      let at = animations_at + i * animation_bytes in
      rw (a.same (at + 2) (omega arith), a.same (at + 3) (omega arith), empty_same (at + row_name) (omega arith))

  content_ok_lem : (i : ℕ) → i < content_count s → content_ok t (contents_at s) (animation_count s) i ≡ content_ok s (contents_at s) (animation_count s) i
  unfolding content_ok
  content_ok_lem i l =
      let at = contents_at s + i * content_bytes in
      rw (a.same at (omega arith), a.same (at + 1) (omega arith), u16_same (at + 2) (omega arith), a.same (contents_at s + (i - 1) * content_bytes) (omega arith))

  counts_same : (n : ℕ) → n ≤ target_count s → sum_below n (keys_of t (targets_at s)) ≡ sum_below n (keys_of s (targets_at s))
  unfolding keys_of
  counts_same n l = sum_same n _ _ (λ i m. u16_same (targets_at s + i * target_bytes + 12) (omega arith))

  target_ok_lem : (i : ℕ) → i < target_count s → target_ok t (targets_at s) (content_count s) i ≡ target_ok s (targets_at s) (content_count s) i
  unfolding target_ok target_from
  target_ok_lem i l =
      let at = targets_at s + i * target_bytes in
      cc (target_at_lem at (omega arith), a.same (at + 9) (omega arith), target_at_lem (targets_at s + (i - 1) * target_bytes) (omega arith), counts_same i (omega arith))

  pub sheet_same : sheet_ok t ≡ sheet_ok s
  unfolding sheet_ok sizes_ok targets_ok
  sheet_same =
      rw (
        a.long,
        length_same,
        animations_same,
        contents_same,
        targets_same,
        keys_same,
        textures_same,
        size_same 10 (omega arith),
        all_same _ _ _ animation_ok_lem,
        all_same _ _ _ content_ok_lem,
        all_same _ _ _ target_ok_lem,
        counts_same (target_count s) (omega arith),
      )
