-- A key put in a track's place (document 01, "Sheet and book", key rules): keys that keep the key rules still keep them exactly where the new key
-- fits between its two neighbours, so no other key need be looked at. Assumes nothing.
use Rattle.std.specs.Prelude.{ℕ, ◌+◌, ◌-◌, ◌<◌, Bool, not, ◌&&◌, ◌||◌, List, set, length, Float}
use Rattle.std.proofs.Math.Path.{◌≡◌, refl}
use Rattle.std.proofs.Common.{sym, ap, ◌∙◌}
use Rattle.std.proofs.Math.Bool.{true, false, cond}
use Rattle.std.proofs.lemmas.Bool.{false≢true}
use native.Mathlib.Omega.{arith}
use borrow.Author.Tests.{eqb-true, eqb-false, ltb-true, ltb-false}
use Rattle.std.proofs.Math.Dec.{eqb, ltb}
use Rattle.std.proofs.Math.ListN.{get_or}
use Rattle.std.proofs.Math.Seq.{get_or-set_same, get_or-set_other}
use Rattle.std.specs.Float.Ieee.{nan, le}
use Rattle.laws.specs.Below.{all_below, all_at, all_of}
use Rattle.laws.specs.But.{all_but, all_but_two}
use Rattle.laws.specs.Tests.{both, and_1, true_T}
use Rattle.float.specs.Numbers.{zero', finite, same_bits}
use Rattle.float.specs.Bits.{same_self, finite_real}
use Rattle.float.specs.StepValue.{whole_in16}
use Rattle.sheet.specs.Sizes.{target_count, key_count}
use Rattle.sheet.specs.Rows.{target_row}
use Rattle.sheet.specs.Checked.{Checked, target_keys, target_apart}
use Rattle.keys.specs.Rules.{finite_key, curve_ok, track_ok, key_rules, key_rule, key_ok, curve_by_key}
use Rattle.keys.specs.Keys.{keys_are}
use Rattle.keys.specs.Checked.{KeysChecked, keys_checked, frame_finite_lem, value_finite_lem, slope_finite_lem, track_ok_lem}
use Rattle.curve.specs.declared.Key.{Key}
use Rattle.curve.specs.Curve.{kind_constant, kind_step}
use Rattle.edit.specs.declared.spot.Spot.{Spot}
use Rattle.edit.specs.Keys.{Keys, keys, key_at, put_key, put_get, put_length, Within, same_key, keys_ok_of}
use Rattle.edit.specs.Edit.{has_key, place, spot_of}
use Rattle.edit.specs.Spot.{Inside, InsideAll}

-- all finite
unfoldable pub finite_numbers : Key → Bool
finite_numbers x = finite x.frame && finite x.value && finite x.slope

-- the frame before a key at p: the previous key's, or its own where it is its track's first
unfoldable pub frame_before : List Float → Spot → Float → Float
frame_before fs p frame = cond (eqb p.key 0) frame (get_or fs (p.at - 1) nan)

-- the track's next key, if there is one, is not before the frame, which a Constant curve doesn't ask
unfoldable pub before_next : List Float → Spot → Float → Bool
before_next fs p frame = not p.more || (eqb p.curve kind_constant || le frame (get_or fs (p.at + 1) nan))

-- the key x may stand at p: its numbers are finite, it keeps its curve's rule, and the next key still keeps it
unfoldable pub fits_at : List Float → Spot → Key → Bool
fits_at fs p x =
    finite_numbers x
    && key_rule p.curve (frame_before fs p x.frame) x.frame x.value x.slope
    && before_next fs p x.frame

-- a key that keeps its rule keeps it after another frame, if it is not below that one
rule_after : (curve : ℕ) (a b frame value slope : Float) → key_rule curve a frame value slope ≡ true → key_rule curve b frame value slope ≡ (eqb curve kind_constant || le b frame)
unfolding key_rule
rule_after curve a b frame value slope h = go (eqb curve kind_constant) (eqb curve kind_step) h
  where
    last : (t u v : Bool) → (t && u && v) ≡ true → (w : Bool) → (t && u && w) ≡ w
    last true true v e w = refl
    last true false v e w = absurd (false≢true e)
    last false u v e w = absurd (false≢true e)

    go : (c d : Bool) →
        cond c (same_bits frame zero' && same_bits slope zero') (cond d (same_bits slope zero' && whole_in16 value && le a frame) (le a frame)) ≡ true →
        cond c (same_bits frame zero' && same_bits slope zero') (cond d (same_bits slope zero' && whole_in16 value && le b frame) (le b frame)) ≡ (c || le b frame)
    go true d e = e
    go false true e = last (same_bits slope zero') (whole_in16 value) (le a frame) e (le b frame)
    go false false e = refl

-- ---- one curve, with x put at k
module _ (fs vs ss : List Float) (k : ℕ) (x : Key) (curve first count : ℕ) (h : curve_ok curve fs vs ss first count ≡ true) where
  abbrev fs' : List Float
  fs' = set fs k x.frame

  abbrev vs' : List Float
  vs' = set vs k x.value

  abbrev ss' : List Float
  ss' = set ss k x.slope

  was : (i : ℕ) → i < count → key_ok curve fs vs ss first i ≡ true
  was i l = all_at count (key_ok curve fs vs ss first) i (sym (curve_by_key curve fs vs ss first count) ∙ h) l

  -- a key that is neither at k nor right after it
  kept : (i : ℕ) → (first + (i - 1) ≡ k → ⊥) → (first + i ≡ k → ⊥) → key_ok curve fs' vs' ss' first i ≡ key_ok curve fs vs ss first i
  unfolding key_ok
  kept i c d =
      rw (
        get_or-set_other fs k (first + (i - 1)) x.frame nan c,
        get_or-set_other fs k (first + i) x.frame nan d,
        get_or-set_other vs k (first + i) x.value nan d,
        get_or-set_other ss k (first + i) x.slope nan d,
      )

  -- the curve has no key at k
  other : ((i : ℕ) → i < count → first + i ≡ k → ⊥) → curve_ok curve fs' vs' ss' first count ≡ true
  other d =
      curve_by_key curve fs' vs' ss' first count ∙
      all_of count (key_ok curve fs' vs' ss' first) (λ i l. kept i (d (i - 1) (omega arith)) (d i l) ∙ was i l)

  module _ (key : ℕ) (is : k ≡ first + key) (l : key < count) (f : k < length fs) (v : k < length vs) (z : k < length ss) where
    abbrev spot : Spot
    spot = record { curve = curve; at = k; key = key; more = ltb (key + 1) count }

    -- the key itself
    here : key_ok curve fs' vs' ss' first key ≡ key_rule curve (frame_before fs spot x.frame) x.frame x.value x.slope
    unfolding key_ok frame_before
    here =
        rw (← is, get_or-set_same fs k x.frame nan f, get_or-set_same vs k x.value nan v, get_or-set_same ss k x.slope nan z)
        (ap (λ (b : Float). key_rule curve b x.frame x.value x.slope) (go (eqb key 0) refl))
      where
        go : (b : Bool) → eqb key 0 ≡ b → get_or fs' (first + (key - 1)) nan ≡ cond b x.frame (get_or fs (k - 1) nan)
        go true e =
            let q : first + (key - 1) ≡ k = omega (arith, eqb-true key 0 e) in
            rw q (get_or-set_same fs k x.frame nan f)
        go false e =
            let n : key ≡ 0 → ⊥ = eqb-false key 0 e in
            let q : first + (key - 1) ≡ k - 1 = omega arith in
            rw q (get_or-set_other fs k (k - 1) x.frame nan (λ y. omega arith))

    -- the key after it
    next : key + 1 < count → key_ok curve fs' vs' ss' first (key + 1) ≡ (eqb curve kind_constant || le x.frame (get_or fs (k + 1) nan))
    unfolding key_ok
    next m =
        let q : first + (key + 1) ≡ k + 1 = omega arith in
        let y : first + (key + 1 - 1) ≡ k = omega arith in
        let d : k + 1 ≡ k → ⊥ = λ u. omega arith in
        rw (
          q,
          y,
          get_or-set_same fs k x.frame nan f,
          get_or-set_other fs k (k + 1) x.frame nan d,
          get_or-set_other vs k (k + 1) x.value nan d,
          get_or-set_other ss k (k + 1) x.slope nan d,
        )
        (rule_after curve (get_or fs k nan) x.frame (get_or fs (k + 1) nan) (get_or vs (k + 1) nan) (get_or ss (k + 1) nan) (rw (q, y) at (was (key + 1) m)))

    own : curve_ok curve fs' vs' ss' first count ≡ (key_rule curve (frame_before fs spot x.frame) x.frame x.value x.slope && before_next fs spot x.frame)
    unfolding before_next
    own =
        curve_by_key curve fs' vs' ss' first count ∙
        all_but_two count (key_ok curve fs' vs' ss' first) key l (λ i m c d. kept i (λ e. omega arith) (λ e. omega arith) ∙ was i m) ∙
        rw here (go (ltb (key + 1) count) refl)
      where
        go : (b : Bool) → ltb (key + 1) count ≡ b →
            ◌≡◌ {A = Bool}
            (key_rule curve (frame_before fs spot x.frame) x.frame x.value x.slope && (not b || key_ok curve fs' vs' ss' first (key + 1)))
            (key_rule curve (frame_before fs spot x.frame) x.frame x.value x.slope && (not b || (eqb curve kind_constant || le x.frame (get_or fs (k + 1) nan))))
        go true e = rw (next (ltb-true (key + 1) count e))
        go false e = refl

-- what `has_key` tells of the track and the key
pub has_key_lem : (s : List ℕ) (track key : ℕ) → has_key s track key ≡ true → (track < target_count s) × (key < (target_row s track).count)
unfolding has_key
has_key_lem s track key e =
    let k = both (ltb track (target_count s)) (ltb key (target_row s track).count) e in
    (ltb-true track (target_count s) k.0, ltb-true key (target_row s track).count k.1)

-- checked keys keep the key rules
pub checked_ok : {s : List ℕ} {fs vs ss : List Float} → Checked s → KeysChecked s fs vs ss → keys_ok_of s (keys fs vs ss) ≡ true
unfolding key_rules
checked_ok {s} {fs} {vs} {ss} w c = keys_are w fs vs ss c.frames c.values c.slopes ∙ rw (c.numbers, c.tracks)

-- the place of a track's key, in a sheet whose keys are checked
pub ready_inside : {s : List ℕ} {fs vs ss : List Float} → Checked s → KeysChecked s fs vs ss → (track key : ℕ) → has_key s track key ≡ true → Inside fs (spot_of s track key)
unfolding spot_of place
ready_inside {s} {fs} w c track key e =
    let h = has_key_lem s track key e in
    let n = target_keys w track h.0 in
    record {
      here = omega (arith, n, h.1, c.frames);
      before = omega arith;
      after = λ m. omega (arith, ltb-true (key + 1) (target_row s track).count m, n, c.frames);
    }

-- the same of all three lists
pub ready_inside_all : {s : List ℕ} {fs vs ss : List Float} → Checked s → KeysChecked s fs vs ss → (track key : ℕ) → has_key s track key ≡ true → InsideAll fs vs ss (spot_of s track key)
unfolding spot_of place
ready_inside_all {s} w c track key e =
    let h = has_key_lem s track key e in
    let n = target_keys w track h.0 in
    record { frames = ready_inside w c track key e; values = omega (arith, n, h.1, c.values); slopes = omega (arith, n, h.1, c.slopes) }

-- ---- the keys of a sheet, with x put at a track's key
module _ {s : List ℕ} (w : Checked s) (ks : Keys) (ok : keys_ok_of s ks ≡ true) (track key : ℕ) (lt : track < target_count s) (lk : key < (target_row s track).count) where
  c : KeysChecked s ks.frames ks.values ks.slopes
  c = keys_checked s ks.frames ks.values ks.slopes ok

  -- the place is one of the K
  pub place_below : place s track key < key_count s
  unfolding place
  place_below = omega (arith, target_keys w track lt)

  -- and no other track's
  apart : (t : ℕ) → t < target_count s → (t ≡ track → ⊥) → (i : ℕ) → i < (target_row s t).count → (target_row s t).first + i ≡ place s track key → ⊥
  unfolding place
  apart t m d i l e = go (ltb t track) refl
    where
      go : (b : Bool) → ltb t track ≡ b → ⊥
      go true q = omega (arith, target_apart w t track (ltb-true t track q) lt)
      go false q = omega (arith, target_apart w track t (omega (arith, ltb-false t track q)) m)

  -- so it is one of each list
  pub place_within : Within ks (place s track key)
  place_within = record { frames = omega (arith, place_below, c.frames); values = omega (arith, place_below, c.values); slopes = omega (arith, place_below, c.slopes) }

  -- with its neighbours
  pub spot_inside : InsideAll ks.frames ks.values ks.slopes (spot_of s track key)
  unfolding spot_of
  spot_inside =
      record {
        frames =
            record {
              here = place_within.frames;
              before = unfold place in omega arith;
              after = λ e. unfold place in omega (arith, ltb-true (key + 1) (target_row s track).count e, target_keys w track lt, c.frames);
            };
        values = place_within.values;
        slopes = place_within.slopes;
      }

  module _ (x : Key) where
    abbrev put : Keys
    put = put_key ks (place s track key) x

    numbers : all_below (key_count s) (finite_key put.frames put.values put.slopes) ≡ finite_numbers x
    unfolding put_key finite_key finite_numbers
    numbers =
        let k = place s track key in
        all_but (key_count s) (finite_key put.frames put.values put.slopes) k place_below
        (λ j m d.
        rw (
          get_or-set_other ks.frames k j x.frame nan d,
          get_or-set_other ks.values k j x.value nan d,
          get_or-set_other ks.slopes k j x.slope nan d,
          frame_finite_lem c j m,
          value_finite_lem c j m,
          slope_finite_lem c j m,
        )) ∙
        rw (
          get_or-set_same ks.frames k x.frame nan place_within.frames,
          get_or-set_same ks.values k x.value nan place_within.values,
          get_or-set_same ks.slopes k x.slope nan place_within.slopes,
        )

    tracks : all_below (target_count s) (track_ok s put.frames put.values put.slopes) ≡
        (key_rule (spot_of s track key).curve (frame_before ks.frames (spot_of s track key) x.frame) x.frame x.value x.slope && before_next ks.frames (spot_of s track key) x.frame)
    unfolding put_key track_ok spot_of
    tracks =
        let k = place s track key in
        all_but (target_count s) (track_ok s put.frames put.values put.slopes) track lt
        (λ t m d. other ks.frames ks.values ks.slopes k x (target_row s t).curve (target_row s t).first (target_row s t).count (track_ok_lem c t m) (apart t m d)) ∙
        own ks.frames ks.values ks.slopes k x (target_row s track).curve (target_row s track).first (target_row s track).count (track_ok_lem c track lt) key
        (unfold place in refl) lk place_within.frames place_within.values place_within.slopes

    -- the keys with x in the key's place keep the key rules exactly where x fits there
    pub put_fits : keys_ok_of s (put_key ks (place s track key) x) ≡ fits_at ks.frames (spot_of s track key) x
    unfolding fits_at key_rules
    put_fits =
        let n = put_length ks (place s track key) x in
        keys_are w put.frames put.values put.slopes (n.0 ∙ c.frames) (n.1 ∙ c.values) (n.2 ∙ c.slopes) ∙ rw (numbers, tracks) (joined (finite_numbers x) _ _)
      where
        joined : (a b d : Bool) → (a && (b && d)) ≡ (a && b && d)
        joined true b d = refl
        joined false b d = refl

  -- the key that is there fits
  pub here_fits : fits_at ks.frames (spot_of s track key) (key_at ks (place s track key)) ≡ true
  here_fits = sym (put_fits (key_at ks (place s track key))) ∙ rw (put_get ks (place s track key)) ok

-- a key that fits is the same as itself bit for bit: none of its numbers is a NaN
pub fits_same : (fs : List Float) (p : Spot) (x : Key) → fits_at fs p x ≡ true → same_key x x ≡ true
unfolding fits_at finite_numbers same_key
fits_same fs p x e =
    let n = both (finite x.frame && finite x.value) (finite x.slope) (and_1 (finite_numbers x) _ (and_1 _ (before_next fs p x.frame) e)) in
    let m = both (finite x.frame) (finite x.value) n.0 in
    rw (self x.frame m.0, self x.value m.1, self x.slope n.1)
  where
    self : (y : Float) → finite y ≡ true → same_bits y y ≡ true
    self y h = same_self y (finite_real y (true_T _ h))
