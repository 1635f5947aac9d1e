-- The key rules (document 01, "Sheet and book"), over three lists: the frames, the values and the slopes of the keys. Definitions, and one law.
use Rattle.std.specs.Prelude.{ℕ, ◌+◌, ◌-◌, List, Bool, true, false, cond, ◌&&◌, ◌≡◌, refl, eqb, get_or, Float}
use Rattle.std.proofs.Common.{◌∙◌}
use Rattle.std.specs.Float.{nan}
use Rattle.std.specs.Float.Ieee.{le}
use Rattle.laws.specs.Below.{all_below, all_and, all_same}
use Rattle.float.specs.Numbers.{zero', finite, same_bits}
use Rattle.float.specs.Rising.{not_below, rising_in}
use Rattle.float.specs.StepValue.{whole_in16}
use Rattle.sheet.specs.Sizes.{target_count, key_count}
use Rattle.sheet.specs.Rows.{target_row}
use Rattle.curve.specs.Curve.{kind_constant, kind_step}

-- key i: all finite
unfoldable pub finite_key : List Float → List Float → List Float → ℕ → Bool
finite_key fs vs ss i = finite (get_or fs i nan) && finite (get_or vs i nan) && finite (get_or ss i nan)

-- key i of a curve whose keys start at `first`, Constant: frame and slope are +0
unfoldable pub constant_key : List Float → List Float → ℕ → ℕ → Bool
constant_key fs ss first i = same_bits (get_or fs (first + i) nan) zero' && same_bits (get_or ss (first + i) nan) zero'

-- Step: slope +0, value whole in 0..65,535, not -0
unfoldable pub step_key : List Float → List Float → ℕ → ℕ → Bool
step_key vs ss first i = same_bits (get_or ss (first + i) nan) zero' && whole_in16 (get_or vs (first + i) nan)

-- the keys of one curve, `count` from `first` on. Step and Hermite: frames never fall within a curve
unfoldable pub curve_ok : ℕ → List Float → List Float → List Float → ℕ → ℕ → Bool
curve_ok curve fs vs ss first count =
    cond (eqb curve kind_constant) (all_below count (constant_key fs ss first))
    (cond (eqb curve kind_step) (all_below count (step_key vs ss first) && rising_in fs first count)
    (rising_in fs first count))

-- the keys of track t: a track is a target's row
unfoldable pub track_ok : List ℕ → List Float → List Float → List Float → ℕ → Bool
track_ok s fs vs ss t = curve_ok (target_row s t).curve fs vs ss (target_row s t).first (target_row s t).count

-- the key rules of a sheet
unfoldable pub key_rules : List ℕ → List Float → List Float → List Float → Bool
key_rules s fs vs ss = all_below (key_count s) (finite_key fs vs ss) && all_below (target_count s) (track_ok s fs vs ss)

-- ---- the same, key by key
-- the rule on one key, with the frame before it (its own, if it is its curve's first)
unfoldable pub key_rule : ℕ → Float → Float → Float → Float → Bool
key_rule curve before frame value slope =
    cond (eqb curve kind_constant) (same_bits frame zero' && same_bits slope zero')
    (cond (eqb curve kind_step) (same_bits slope zero' && whole_in16 value && le before frame)
    (le before frame))

-- key i of a curve whose keys start at `first`
unfoldable pub key_ok : ℕ → List Float → List Float → List Float → ℕ → ℕ → Bool
key_ok curve fs vs ss first i =
    key_rule curve (get_or fs (first + (i - 1)) nan) (get_or fs (first + i) nan) (get_or vs (first + i) nan) (get_or ss (first + i) nan)

pub curve_by_key : (curve : ℕ) (fs vs ss : List Float) (first count : ℕ) → curve_ok curve fs vs ss first count ≡ all_below count (key_ok curve fs vs ss first)
unfolding curve_ok key_ok key_rule rising_in not_below constant_key step_key
curve_by_key curve fs vs ss first count = go (eqb curve kind_constant) refl (eqb curve kind_step) refl
  where
    go : (a : Bool) → eqb curve kind_constant ≡ a → (b : Bool) → eqb curve kind_step ≡ b →
        cond a (all_below count (constant_key fs ss first)) (cond b (all_below count (step_key vs ss first) && rising_in fs first count) (rising_in fs first count)) ≡
        all_below count (key_ok curve fs vs ss first)
    go true e b f = all_same count _ _ (λ i l. rw e)
    go false e true f = all_and count (step_key vs ss first) (not_below fs first) ∙ all_same count _ _ (λ i l. rw (e, f))
    go false e false f = all_same count _ _ (λ i l. rw (e, f))
