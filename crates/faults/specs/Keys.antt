-- The key rules of a sheet's own keys (document 01, "Sheet and book") as a list of tests: first that every key's numbers are finite, track by track, then the
-- curves' rules, track by track. Definitions, and the law that all of them hold exactly where the key rules do, of a checked sheet.
use Prim.Native.Nat.{ℕ, zero, suc, ◌+◌, ◌-◌, ◌*◌, ◌<◌}
use Rattle.std.specs.Prelude.{List, [], ◌∷◌, ◌++◌, Bool, true, false, cond, ◌&&◌, ◌≡◌, eqb, Option, Some, None, Ok}
use Rattle.std.proofs.Math.Path.{refl, sym}
use Rattle.std.proofs.Common.{◌∙◌, arith}
use borrow.Author.Tests.{eqb-true, ne_eqb}
use Rattle.std.specs.Float.Ieee.{le}
use Rattle.laws.specs.Tests.{and_2}
use Rattle.laws.specs.Below.{all_below, all_none, all_suc, all_same}
use Rattle.laws.specs.Blocks.{block_at, all_block}
use Rattle.laws.specs.Sum.{sum_below}
use Rattle.float.specs.Numbers.{zero', same_bits}
use Rattle.float.specs.StepValue.{whole_in16}
use Rattle.field.specs.Read.{u32_at, float_at, finite_at}
use Rattle.sheet.specs.Sizes.{content_count, target_count, key_count, targets_at, frames_at, points_at}
use Rattle.sheet.specs.Rows.{target_row}
use Rattle.sheet.specs.Sheet.{keys_of, target_ok, targets_ok}
use Rattle.sheet.specs.Checked.{Checked, target_first, target_keys}
use Rattle.curve.specs.Curve.{kind_constant, kind_step}
use Rattle.keys.specs.Rules.{finite_key, key_rule, key_ok, track_ok, key_rules, curve_by_key}
use Rattle.keys.specs.Stored.{stored_frames, stored_values, stored_slopes, finite_stored, key_stored, Stored}
use Rattle.faults.specs.declared.rules.Rule.{Rule}
use Rattle.faults.specs.declared.rules.Rule.TheVariants as rule
use Rattle.faults.specs.declared.fault.Part.{Part}
use Rattle.faults.specs.declared.fault.Part.TheVariants as part
use Rattle.curve.specs.Kind.{number, kind_of}
use Rattle.faults.specs.Tests.{Told, Test, ask_float, verdict, all_hold, each_below, Tells, and_assoc, and_unit, hold_join, hold_each, held_join, failed_join, accepts, other_failed, tells}

-- where frame, value and slope of the sheet's key k are
abbrev pub frame_at : List ℕ → ℕ → ℕ
frame_at s k = frames_at s + k * 4

abbrev pub value_at : List ℕ → ℕ → ℕ
value_at s k = points_at s + k * 8

abbrev pub slope_at : List ℕ → ℕ → ℕ
slope_at s k = points_at s + 4 + k * 8

-- a rule on the f32 at `at`, of the key p of a track; `wants` are the bits that it is held against
abbrev pub ask_at : List ℕ → Rule → Bool → Part → ℕ → Option ℕ → Test
ask_at s rule holds p at wants = ask_float rule holds p at (u32_at s at) wants

-- all finite: the sheet's key k, which is the key p of a track
unfoldable pub finite_asks : List ℕ → Part → ℕ → List Test
finite_asks s p k =
    ask_at s rule.FrameFinite (finite_at s (frame_at s k)) p (frame_at s k) None
    ∷ ask_at s rule.ValueFinite (finite_at s (value_at s k)) p (value_at s k) None
    ∷ ask_at s rule.SlopeFinite (finite_at s (slope_at s k)) p (slope_at s k) None ∷ []

-- Constant: frame and slope are +0
unfoldable pub constant_asks : List ℕ → Part → ℕ → List Test
constant_asks s p k =
    ask_at s rule.ConstantFrame (same_bits (float_at s (frame_at s k)) zero') p (frame_at s k) None
    ∷ ask_at s rule.ConstantSlope (same_bits (float_at s (slope_at s k)) zero') p (slope_at s k) None ∷ []

-- Step and Hermite: the frame is not below that of the key `last` before it (its own, if it is its curve's first)
unfoldable pub order_asks : List ℕ → Part → ℕ → ℕ → List Test
order_asks s p k last =
    ask_at s rule.FrameOrder (le (float_at s (frame_at s last)) (float_at s (frame_at s k))) p (frame_at s k) (Some (u32_at s (frame_at s last))) ∷ []

-- Step: slope +0, value whole in 0..65,535, not -0
unfoldable pub step_asks : List ℕ → Part → ℕ → ℕ → List Test
step_asks s p k last =
    ask_at s rule.StepSlope (same_bits (float_at s (slope_at s k)) zero') p (slope_at s k) None
    ∷ ask_at s rule.StepValue (whole_in16 (float_at s (value_at s k))) p (value_at s k) None
    ∷ order_asks s p k last

-- by its curve
unfoldable pub curve_asks : List ℕ → ℕ → Part → ℕ → ℕ → List Test
curve_asks s curve p k last =
    cond (eqb curve kind_constant) (constant_asks s p k)
    (cond (eqb curve kind_step) (step_asks s p k last)
    (order_asks s p k last))

-- key i of track t
unfoldable pub finite_tests : List ℕ → ℕ → ℕ → List Test
finite_tests s t i = finite_asks s (part.Key t i) ((target_row s t).first + i)

unfoldable pub curve_tests : List ℕ → ℕ → ℕ → List Test
curve_tests s t i = curve_asks s (target_row s t).curve (part.Key t i) ((target_row s t).first + i) ((target_row s t).first + (i - 1))

-- the keys of track t
unfoldable pub finite_track : List ℕ → ℕ → List Test
finite_track s t = each_below (target_row s t).count (finite_tests s t)

unfoldable pub curve_track : List ℕ → ℕ → List Test
curve_track s t = each_below (target_row s t).count (curve_tests s t)

unfoldable pub keys_tests : List ℕ → List Test
keys_tests s = each_below (target_count s) (finite_track s) ++ each_below (target_count s) (curve_track s)

-- ---- all tests hold exactly where the key rules do

-- what holds of every number below a sum holds of each block that the sum is made of
sum_blocks : (n : ℕ) (f : ℕ → ℕ) (p : ℕ → Bool) → all_below n (λ t. block_at (f t) p (sum_below t f)) ≡ all_below (sum_below n f) p
unfolding sum_below
sum_blocks zero f p = all_none (λ t. block_at (f t) p (sum_below t f)) ∙ sym (all_none p)
sum_blocks (suc n) f p = rw (all_suc n (λ t. block_at (f t) p (sum_below t f)), sum_blocks n f p) (sym (all_block (sum_below n f) (f n) p))

module _ {s : List ℕ} (w : Checked s) where
  -- all counts sum to K
  counts_sum : sum_below (target_count s) (λ t. (target_row s t).count) ≡ key_count s
  unfolding target_row targets_ok keys_of
  counts_sum = eqb-true _ _ (and_2 (all_below (target_count s) (target_ok s (targets_at s) (content_count s))) _ w.aimed)

  module _ (t : ℕ) (l : t < target_count s) where
    finite_key_lem : (i : ℕ) → i < (target_row s t).count → all_hold (finite_tests s t i) ≡ finite_key (stored_frames s) (stored_values s) (stored_slopes s) ((target_row s t).first + i)
    unfolding finite_tests finite_asks all_hold
    finite_key_lem i m = rw (finite_stored s ((target_row s t).first + i) (omega (arith, target_keys w t l))) (simp (and_assoc, and_unit))

    finite_track_lem : all_hold (finite_track s t) ≡ block_at (target_row s t).count (finite_key (stored_frames s) (stored_values s) (stored_slopes s)) (sum_below t (λ t. (target_row s t).count))
    unfolding finite_track block_at
    finite_track_lem = rw (hold_each _ (finite_tests s t), all_same (target_row s t).count _ _ finite_key_lem, target_first w t l)

    curve_key : (i : ℕ) → i < (target_row s t).count → all_hold (curve_tests s t i) ≡ key_ok (target_row s t).curve (stored_frames s) (stored_values s) (stored_slopes s) (target_row s t).first i
    unfolding curve_tests curve_asks constant_asks step_asks order_asks all_hold key_rule
    curve_key i m =
        rw (key_stored s (target_row s t).curve (target_row s t).first i ((target_row s t).first + (i - 1)) refl (omega (arith, target_keys w t l)))
        (go (eqb (target_row s t).curve kind_constant) (eqb (target_row s t).curve kind_step))
      where
        k : ℕ
        k = (target_row s t).first + i

        last : ℕ
        last = (target_row s t).first + (i - 1)

        p : Part
        p = part.Key t i

        go : (a b : Bool) → all_hold (cond a (constant_asks s p k) (cond b (step_asks s p k last) (order_asks s p k last))) ≡
            cond a (same_bits (float_at s (frame_at s k)) zero' && same_bits (float_at s (slope_at s k)) zero')
            (cond b (same_bits (float_at s (slope_at s k)) zero' && whole_in16 (float_at s (value_at s k)) && le (float_at s (frame_at s last)) (float_at s (frame_at s k)))
            (le (float_at s (frame_at s last)) (float_at s (frame_at s k))))
        go true b = simp and_unit
        go false true = simp (and_assoc, and_unit)
        go false false = simp and_unit

    curve_track_lem : all_hold (curve_track s t) ≡ track_ok s (stored_frames s) (stored_values s) (stored_slopes s) t
    unfolding curve_track track_ok
    curve_track_lem = rw (hold_each _ (curve_tests s t), all_same (target_row s t).count _ _ curve_key) (sym (curve_by_key _ _ _ _ _ _))

  pub finite_all : all_hold (each_below (target_count s) (finite_track s)) ≡ all_below (key_count s) (finite_key (stored_frames s) (stored_values s) (stored_slopes s))
  finite_all = rw (hold_each _ (finite_track s), all_same (target_count s) _ _ finite_track_lem, ← counts_sum) (sum_blocks (target_count s) (λ t. (target_row s t).count) _)

  pub keys_hold : all_hold (keys_tests s) ≡ key_rules s (stored_frames s) (stored_values s) (stored_slopes s)
  unfolding keys_tests key_rules
  keys_hold = rw (hold_join, finite_all, hold_each _ (curve_track s), all_same (target_count s) _ _ curve_track_lem)

  pub keys_told : {r : Told} → r ≡ verdict (keys_tests s) → Tells (key_rules s (stored_frames s) (stored_values s) (stored_slopes s)) (keys_tests s) r
  keys_told e = tells (keys_tests s) keys_hold e

  -- ---- the answer, track by track

  module _ {f : Told} (e : f ≡ verdict (each_below (target_count s) (finite_track s))) where
    -- a number is not finite
    pub keys_infinite : (f ≡ Ok tt → ⊥) → Tells (key_rules s (stored_frames s) (stored_values s) (stored_slopes s)) (keys_tests s) f
    unfolding keys_tests
    keys_infinite n = keys_told (e ∙ sym (failed_join (each_below (target_count s) (finite_track s)) _ (other_failed _ (λ z. n (e ∙ z)))))

    -- all are, so they can be read
    pub keys_finite : f ≡ Ok tt → Stored s
    keys_finite z = record { checked = w; numbers = sym finite_all ∙ accepts _ (sym e ∙ z) }

    -- and the curves' rules decide
    pub keys_curves : {r : Told} → f ≡ Ok tt → r ≡ verdict (each_below (target_count s) (curve_track s)) → Tells (key_rules s (stored_frames s) (stored_values s) (stored_slopes s)) (keys_tests s) r
    unfolding keys_tests
    keys_curves z q = keys_told (q ∙ sym (held_join (each_below (target_count s) (finite_track s)) _ (accepts _ (sym e ∙ z))))

-- a curve's rules by its kind are those by the kind's number
pub curve_asks_kind : (s : List ℕ) (n : ℕ) (p : Part) (k last : ℕ) → curve_asks s (number (kind_of n)) p k last ≡ curve_asks s n p k last
unfolding curve_asks
curve_asks_kind s zero p k last = refl
curve_asks_kind s (suc zero) p k last = refl
curve_asks_kind s (suc (suc n)) p k last = rw (ne_eqb (suc (suc n)) 0 (λ e. omega arith), ne_eqb (suc (suc n)) 1 (λ e. omega arith))
