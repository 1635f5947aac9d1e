-- The keys that a sheet holds (document 01, "Sheet and book"): K frames (f32), then K points (value f32, slope f32). Assumes nothing.
use Rattle.std.specs.Prelude.{ℕ, ◌+◌, ◌-◌, ◌*◌, ◌<◌, List, true, ◌&&◌, ◌≡◌, length, get_or, Float}
use Rattle.std.proofs.Common.{sym, ◌∙◌, arith}
use Rattle.std.specs.Float.Ieee.{nan}
use Rattle.laws.specs.Tests.{and_1, and_2}
use Rattle.laws.specs.Below.{all_below, all_at}
use Rattle.laws.specs.Table.{table, table_length, table_at}
use Rattle.field.specs.Read.{float_at, finite_at}
use Rattle.sheet.specs.Sizes.{key_count, frames_at, points_at}
use Rattle.sheet.specs.Checked.{Checked}
use Rattle.keys.specs.Rules.{finite_key, key_rule, key_ok}

-- n f32s, the first at `at`, and the next each `stride` bytes on
abbrev pub floats_from : List ℕ → ℕ → ℕ → ℕ → List Float
floats_from s at stride n = table n (λ i. float_at s (at + i * stride))

-- the three lists that loading makes: frames, values and slopes
unfoldable pub stored_frames : List ℕ → List Float
stored_frames s = floats_from s (frames_at s) 4 (key_count s)

unfoldable pub stored_values : List ℕ → List Float
stored_values s = floats_from s (points_at s) 8 (key_count s)

unfoldable pub stored_slopes : List ℕ → List Float
stored_slopes s = floats_from s (points_at s + 4) 8 (key_count s)

module _ (s : List ℕ) where
  -- each is K long
  pub frames_long : length (stored_frames s) ≡ key_count s
  unfolding stored_frames
  frames_long = table_length _ _

  pub values_long : length (stored_values s) ≡ key_count s
  unfolding stored_values
  values_long = table_length _ _

  pub slopes_long : length (stored_slopes s) ≡ key_count s
  unfolding stored_slopes
  slopes_long = table_length _ _

  -- and the i-th is the i-th f32 of the sheet
  pub frame_is : (i : ℕ) → i < key_count s → get_or (stored_frames s) i nan ≡ float_at s (frames_at s + i * 4)
  unfolding stored_frames
  frame_is i l = table_at (key_count s) i _ nan l

  pub value_is : (i : ℕ) → i < key_count s → get_or (stored_values s) i nan ≡ float_at s (points_at s + i * 8)
  unfolding stored_values
  value_is i l = table_at (key_count s) i _ nan l

  pub slope_is : (i : ℕ) → i < key_count s → get_or (stored_slopes s) i nan ≡ float_at s (points_at s + 4 + i * 8)
  unfolding stored_slopes
  slope_is i l = table_at (key_count s) i _ nan l

  -- so whether they are finite is seen from their patterns
  pub finite_stored : (i : ℕ) → i < key_count s → finite_key (stored_frames s) (stored_values s) (stored_slopes s) i ≡
      (finite_at s (frames_at s + i * 4) && finite_at s (points_at s + i * 8) && finite_at s (points_at s + 4 + i * 8))
  unfolding finite_key finite_at
  finite_stored i l = rw (frame_is i l, value_is i l, slope_is i l)

  -- and whether key i of a curve that starts at `first` keeps its rule, with the key `last` before it
  pub key_stored : (curve first i last : ℕ) → last ≡ first + (i - 1) → first + i < key_count s → key_ok curve (stored_frames s) (stored_values s) (stored_slopes s) first i ≡
      key_rule curve (float_at s (frames_at s + last * 4)) (float_at s (frames_at s + (first + i) * 4)) (float_at s (points_at s + (first + i) * 8)) (float_at s (points_at s + 4 + (first + i) * 8))
  unfolding key_ok
  key_stored curve first i last e l = rw (e, frame_is (first + (i - 1)) (omega arith), frame_is (first + i) l, value_is (first + i) l, slope_is (first + i) l)

-- A checked sheet whose keys are finite: what reading them asks.
pub record Stored (s : List ℕ) : Type 0 where
  pub checked : Checked s
  pub numbers : all_below (key_count s) (finite_key (stored_frames s) (stored_values s) (stored_slopes s)) ≡ true

module _ {s : List ℕ} (w : Stored s) (i : ℕ) (l : i < key_count s) where
  all_three : (finite_at s (frames_at s + i * 4) && finite_at s (points_at s + i * 8) && finite_at s (points_at s + 4 + i * 8)) ≡ true
  all_three = sym (finite_stored s i l) ∙ all_at (key_count s) (finite_key (stored_frames s) (stored_values s) (stored_slopes s)) i w.numbers l

  pub stored_frame : finite_at s (frames_at s + i * 4) ≡ true
  stored_frame = and_1 _ (finite_at s (points_at s + i * 8)) (and_1 _ (finite_at s (points_at s + 4 + i * 8)) all_three)

  pub stored_value : finite_at s (points_at s + i * 8) ≡ true
  stored_value = and_2 (finite_at s (frames_at s + i * 4)) _ (and_1 _ (finite_at s (points_at s + 4 + i * 8)) all_three)

  pub stored_slope : finite_at s (points_at s + 4 + i * 8) ≡ true
  stored_slope = and_2 (finite_at s (frames_at s + i * 4) && finite_at s (points_at s + i * 8)) _ all_three

-- ---- what copying n f32s asks: they lie within s, and are finite
pub record Floats (s : List ℕ) (at stride n : ℕ) : Type 0 where
  pub within : (i : ℕ) → i < n → at + i * stride + 3 < length s
  pub finite : (i : ℕ) → i < n → finite_at s (at + i * stride) ≡ true

module _ {s : List ℕ} (w : Stored s) where
  pub frame_floats : Floats s (frames_at s) 4 (key_count s)
  frame_floats = record { within = λ i l. omega (arith, w.checked); finite = stored_frame w }

  pub value_floats : Floats s (points_at s) 8 (key_count s)
  value_floats = record { within = λ i l. omega (arith, w.checked); finite = stored_value w }

  pub slope_floats : Floats s (points_at s + 4) 8 (key_count s)
  slope_floats = record { within = λ i l. omega (arith, w.checked); finite = stored_slope w }
