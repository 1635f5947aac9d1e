-- Saving (document 02, 1/13): the sheet is written "from the one loaded plus the present keys", and "everything but the two key arrays is copied, the
-- arrays are the present keys". The definition, what writing asks, and laws on points. Assumes nothing.
use Rattle.std.specs.Prelude.{ℕ, zero, suc, ◌+◌, ◌*◌, ◌<◌, ◌≡◌, refl, true, List, [], ◌∷◌, ◌++◌, length, get_or, take, Float}
use Rattle.std.proofs.Math.Nat.{suc_inj}
use Rattle.std.proofs.Common.{le_of_suc-le-suc, arith}
use Rattle.std.specs.Float.{nan}
use Rattle.float.specs.Numbers.{finite}
use Rattle.field.specs.Write.{float_bytes}
use Rattle.sheet.specs.Sizes.{frames_at}
use Rattle.sheet.specs.Checked.{Checked}
use Rattle.keys.specs.Checked.{KeysChecked, frame_finite_lem, value_finite_lem, slope_finite_lem}

-- K points: a value and its slope (document 01, "Sheet and book")
unfoldable pub points_of : List Float → List Float → List Float
points_of [] ss = []
points_of (v ∷ vs) [] = []
points_of (v ∷ vs) (z ∷ ss) = v ∷ z ∷ points_of vs ss

-- the sheet s with the keys of these three lists
unfoldable pub saved_of : List ℕ → List Float → List Float → List Float → List ℕ
saved_of s fs vs ss = take (frames_at s) s ++ (float_bytes fs ++ float_bytes (points_of vs ss))

-- ---- what writing asks: numbers that have a bit pattern, a sheet and its keys
pub record Finite (xs : List Float) : Type 0 where
  pub each : (i : ℕ) → i < length xs → finite (get_or xs i nan) ≡ true

pub record Savable (s : List ℕ) (fs vs ss : List Float) : Type 0 where
  pub sheet : Checked s
  pub keys : KeysChecked s fs vs ss

-- keys that keep the rules are finite
module _ {s : List ℕ} {fs vs ss : List Float} (w : KeysChecked s fs vs ss) where
  pub finite_frames : Finite fs
  finite_frames = record { each = λ i l. frame_finite_lem w i (omega (arith, w.frames)) }

  pub finite_values : Finite vs
  finite_values = record { each = λ i l. value_finite_lem w i (omega (arith, w.values)) }

  pub finite_slopes : Finite ss
  finite_slopes = record { each = λ i l. slope_finite_lem w i (omega (arith, w.slopes)) }

-- ---- points

pub points_long : (vs ss : List Float) → length ss ≡ length vs → length (points_of vs ss) ≡ length vs * 2
unfolding points_of
points_long [] ss e = refl
points_long (v ∷ vs) [] e = absurd (omega arith)
points_long (v ∷ vs) (z ∷ ss) e = let h = points_long vs ss (suc_inj e) in omega arith

-- number 2 i is value i, and number 2 i + 1 its slope
pub point_value : (vs ss : List Float) (i : ℕ) → length ss ≡ length vs → i < length vs → get_or (points_of vs ss) (i * 2) nan ≡ get_or vs i nan
unfolding points_of
point_value [] ss i e l = absurd (omega arith)
point_value (v ∷ vs) [] i e l = absurd (omega arith)
point_value (v ∷ vs) (z ∷ ss) zero e l = refl
point_value (v ∷ vs) (z ∷ ss) (suc i) e l = let q : suc i * 2 ≡ suc (suc (i * 2)) = omega arith in rw q (point_value vs ss i (suc_inj e) (le_of_suc-le-suc l))

pub point_slope : (vs ss : List Float) (i : ℕ) → length ss ≡ length vs → i < length vs → get_or (points_of vs ss) (i * 2 + 1) nan ≡ get_or ss i nan
unfolding points_of
point_slope [] ss i e l = absurd (omega arith)
point_slope (v ∷ vs) [] i e l = absurd (omega arith)
point_slope (v ∷ vs) (z ∷ ss) zero e l = refl
point_slope (v ∷ vs) (z ∷ ss) (suc i) e l = let q : suc i * 2 + 1 ≡ suc (suc (i * 2 + 1)) = omega arith in rw q (point_slope vs ss i (suc_inj e) (le_of_suc-le-suc l))
