-- What checked keys tell: a record whose fields `omega` reads, and the key rules track by track. Assumes nothing.
use Rattle.std.specs.Prelude.{ℕ, ◌+◌, ◌<◌, List, Bool, ◌&&◌, ◌≡◌, leb, eqb, length, get_or, take, drop, Float}
use Rattle.std.proofs.Math.Bool.{true, false, cond}
use Rattle.std.proofs.Common.{eq-eqb, ne_eqb, arith}
use Rattle.std.specs.Float.{nan}
use Rattle.laws.specs.Tests.{both, and_1, and_2}
use Rattle.laws.specs.Below.{all_below, all_at, all_of}
use Rattle.float.specs.Numbers.{zero', finite, same_bits}
use Rattle.float.specs.Rising.{rising_in, rising, part_rising}
use Rattle.float.specs.StepValue.{whole_in16}
use Rattle.sheet.specs.Sizes.{target_count, key_count}
use Rattle.sheet.specs.Rows.{target_row}
use Rattle.sheet.specs.Checked.{Checked, target_keys}
use Rattle.curve.specs.Curve.{kind_constant, kind_step}
use Rattle.keys.specs.Rules.{finite_key, constant_key, step_key, curve_ok, track_ok}
use Rattle.keys.specs.Keys.{keys_fit, held_track, keys_ok, fit}

pub record KeysChecked (s : List ℕ) (fs vs ss : List Float) : Type 0 where
  pub frames : length fs ≡ key_count s
  pub values : length vs ≡ key_count s
  pub slopes : length ss ≡ key_count s
  pub numbers : all_below (key_count s) (finite_key fs vs ss) ≡ true
  pub tracks : all_below (target_count s) (track_ok s fs vs ss) ≡ true

pub keys_checked : (s : List ℕ) (fs vs ss : List Float) → keys_ok s fs vs ss ≡ true → KeysChecked s fs vs ss
unfolding keys_ok
keys_checked s fs vs ss e =
    let t = both _ _ e in
    let n = both (keys_fit s fs vs ss) _ t.0 in
    let f = fit s fs vs ss n.0 in
    record {
      frames = f.frames;
      values = f.values;
      slopes = f.slopes;
      numbers = n.1;
      tracks = all_of (target_count s) (track_ok s fs vs ss) (λ i l. held i (all_at (target_count s) (held_track s fs vs ss) i t.1 l));
    }
  where
    held : (i : ℕ) → held_track s fs vs ss i ≡ true → track_ok s fs vs ss i ≡ true
    held i h = unfold held_track in and_2 (leb ((target_row s i).first + (target_row s i).count) (key_count s)) _ h

-- ---- what a curve's rule says of its kind
module _ (fs vs ss : List Float) (first count : ℕ) where
  constant_rule : (curve : ℕ) → curve ≡ kind_constant → curve_ok curve fs vs ss first count ≡ true → all_below count (constant_key fs ss first) ≡ true
  unfolding curve_ok
  constant_rule curve e h = rw (eq-eqb curve kind_constant e) at h

  step_rule : (curve : ℕ) → curve ≡ kind_step → curve_ok curve fs vs ss first count ≡ true → all_below count (step_key vs ss first) ≡ true
  unfolding curve_ok
  step_rule curve e h = and_1 _ (rising_in fs first count) (rw e at h)

  pub rising_rule : (curve : ℕ) → (curve ≡ kind_constant → ⊥) → curve_ok curve fs vs ss first count ≡ true → rising_in fs first count ≡ true
  unfolding curve_ok
  rising_rule curve n h = go (eqb curve kind_step) (rw (ne_eqb curve kind_constant n) at h)
    where
      go : (b : Bool) → cond b (all_below count (step_key vs ss first) && rising_in fs first count) (rising_in fs first count) ≡ true → rising_in fs first count ≡ true
      go true k = and_2 (all_below count (step_key vs ss first)) _ k
      go false k = k

module _ {s : List ℕ} {fs vs ss : List Float} (w : KeysChecked s fs vs ss) where
  -- ---- all finite
  key_finite : (i : ℕ) → i < key_count s → finite_key fs vs ss i ≡ true
  key_finite i l = all_at (key_count s) (finite_key fs vs ss) i w.numbers l

  pub frame_finite_lem : (i : ℕ) → i < key_count s → finite (get_or fs i nan) ≡ true
  unfolding finite_key
  frame_finite_lem i l = and_1 _ (finite (get_or vs i nan)) (and_1 _ (finite (get_or ss i nan)) (key_finite i l))

  pub value_finite_lem : (i : ℕ) → i < key_count s → finite (get_or vs i nan) ≡ true
  unfolding finite_key
  value_finite_lem i l = and_2 (finite (get_or fs i nan)) _ (and_1 _ (finite (get_or ss i nan)) (key_finite i l))

  pub slope_finite_lem : (i : ℕ) → i < key_count s → finite (get_or ss i nan) ≡ true
  unfolding finite_key
  slope_finite_lem i l = and_2 (finite (get_or fs i nan) && finite (get_or vs i nan)) _ (key_finite i l)

  -- ---- a track's curve keeps its rules
  pub track_ok_lem : (t : ℕ) → t < target_count s → curve_ok (target_row s t).curve fs vs ss (target_row s t).first (target_row s t).count ≡ true
  unfolding track_ok
  track_ok_lem t l = all_at (target_count s) (track_ok s fs vs ss) t w.tracks l

  module _ (t : ℕ) (l : t < target_count s) (i : ℕ) (m : i < (target_row s t).count) where
    abbrev at : ℕ
    at = (target_row s t).first + i

    -- Constant: frame and slope are +0
    pub constant_frame_lem : (target_row s t).curve ≡ kind_constant → same_bits (get_or fs at nan) zero' ≡ true
    unfolding constant_key
    constant_frame_lem e = and_1 _ (same_bits (get_or ss at nan) zero') (all_at _ (constant_key fs ss (target_row s t).first) i (constant_rule fs vs ss _ _ _ e (track_ok_lem t l)) m)

    pub constant_slope_lem : (target_row s t).curve ≡ kind_constant → same_bits (get_or ss at nan) zero' ≡ true
    unfolding constant_key
    constant_slope_lem e = and_2 (same_bits (get_or fs at nan) zero') _ (all_at _ (constant_key fs ss (target_row s t).first) i (constant_rule fs vs ss _ _ _ e (track_ok_lem t l)) m)

    -- Step: slope +0, value whole in 0..65,535, not -0
    pub step_slope_lem : (target_row s t).curve ≡ kind_step → same_bits (get_or ss at nan) zero' ≡ true
    unfolding step_key
    step_slope_lem e = and_1 _ (whole_in16 (get_or vs at nan)) (all_at _ (step_key vs ss (target_row s t).first) i (step_rule fs vs ss _ _ _ e (track_ok_lem t l)) m)

    pub step_whole : (target_row s t).curve ≡ kind_step → whole_in16 (get_or vs at nan) ≡ true
    unfolding step_key
    step_whole e = and_2 (same_bits (get_or ss at nan) zero') _ (all_at _ (step_key vs ss (target_row s t).first) i (step_rule fs vs ss _ _ _ e (track_ok_lem t l)) m)

  -- Step and Hermite: frames never fall, in the lists and in the part that the track owns
  pub track_rising : (t : ℕ) → t < target_count s → ((target_row s t).curve ≡ kind_constant → ⊥) → rising_in fs (target_row s t).first (target_row s t).count ≡ true
  track_rising t l n = rising_rule fs vs ss _ _ _ n (track_ok_lem t l)

  pub part_never_falls : Checked s → (t : ℕ) → t < target_count s → ((target_row s t).curve ≡ kind_constant → ⊥)
      → rising (take (target_row s t).count (drop (target_row s t).first fs)) ≡ true
  part_never_falls c t l n = part_rising fs (target_row s t).first (target_row s t).count (omega (arith, target_keys c t l)) (track_rising t l n)
