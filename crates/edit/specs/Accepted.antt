-- An accepted edit keeps the key rules: the key that it makes is within the bounds of its place and fits there (document 01, "Playing and editing": the
-- clamp, and rows 6 to 10 of the table), be it an edit's or a drag's (document 02, 2/13). The order of a sum and its term is known of f32 values alone: frames that binary32 holds, as each element of
-- a lent slice, and a request whose numbers it holds. An edit of f32 leaves f32. Assumes nothing.
use Rattle.std.specs.Prelude.{ℕ, ◌+◌, ◌-◌, ◌<◌, ◌≡◌, Bool, not, ◌&&◌, ◌||◌, List, get_or, Float}
use Rattle.std.proofs.Math.Path.{refl}
use Rattle.std.proofs.Common.{◌∙◌, arith}
use Rattle.std.proofs.Math.Bool.{true, false, cond}
use borrow.Author.Tests.{eqb-true, eq-eqb, ltb-true, not-true}
use Rattle.std.proofs.Math.Dec.{T, eqb}
use Rattle.std.specs.Float.Ieee.{nan, binary32, lt, eq, le, fits, of_bits}
use Rattle.std.specs.Float.Ieee.Fits.{add-fits, sub-fits, cond-fits}
use Rattle.laws.specs.Tests.{both, and_1, and_2, T_true, true_T}
use Rattle.laws.specs.Rows.{Hold, declines, held, first_held, hold_at, row_in}
use Rattle.float.specs.Numbers.{zero', ◌⊕◌, ◌⊖◌, real, finite, same_bits}
use Rattle.float.specs.Bits.{finite_real, real_number}
use Rattle.float.specs.Rank.{rank, eq_rank, le_real, le→, le_self, le_chain, lt_or_le}
use Rattle.float.specs.Grow.{hundredth, key_up, key_down}
use Rattle.float.specs.Between.{between_finite, clamp_fits, clamp_in, max_fits, max_finite, max_in}
use Rattle.float.specs.Top.{largest, key_up_finite}
use Rattle.float.specs.Clamp.{max_of}
use Rattle.float.specs.StepValue.{whole_in16, step_value}
use Rattle.float.specs.Stepped.{step_whole, step_fits, whole16_finite}
use Rattle.sheet.specs.Sizes.{target_count}
use Rattle.sheet.specs.Rows.{target_row}
use Rattle.sheet.specs.Checked.{Checked, target_keys}
use Rattle.keys.specs.Rules.{key_rule}
use Rattle.keys.specs.Checked.{KeysChecked, keys_checked, frame_finite_lem, value_finite_lem, slope_finite_lem}
use Rattle.curve.specs.declared.Key.{Key}
use Rattle.curve.specs.Curve.{kind_constant, kind_step, kind_hermite}
use Rattle.curve.specs.Before.{Held}
use Rattle.edit.specs.declared.request.Request.{Request}
use Rattle.edit.specs.declared.request.Request.TheVariants as request
use Rattle.edit.specs.declared.spot.Spot.{Spot}
use Rattle.edit.specs.Keys.{Keys, key_at, put_key, HeldKeys, HeldKey, put_held, keys_ok_of}
use Rattle.edit.specs.Edit.{has_key, place, spot_of, lowest, highest, clamped_frame, edited_frame, edited_value, edited_at, edited, overtakes, track_rows, key_in, request_rows, edit_rows}
use Rattle.edit.specs.Put.{finite_numbers, frame_before, before_next, fits_at, has_key_lem, place_below, put_fits, here_fits}

-- the request's numbers are f32: a call can take no others
abbrev pub HeldRequest : Request → Type 0
HeldRequest (request.Key x v) = T (fits binary32 x) × T (fits binary32 v)
HeldRequest (request.Slope m) = T (fits binary32 m)

-- a frame within the bounds of its place: it is at or above the lower one; at or below the upper one, if that is not below the lower one; and if it
-- is, the lower one wins. Equal as numbers: a request of -0 stays -0 at a lower bound of +0.
pub record Bounded (fs : List Float) (p : Spot) (frame : Float) : Type 0 where
  pub above : le (lowest fs p) frame ≡ true
  pub below : lt (highest fs p) (lowest fs p) ≡ false → le frame (highest fs p) ≡ true
  pub lower_wins : lt (highest fs p) (lowest fs p) ≡ true → eq frame (lowest fs p) ≡ true

second : (a b : Bool) → (a && b) ≡ false → a ≡ true → b ≡ false
second a b h e = rw e at h

-- ---- the clamp: its bounds are f32, and what it makes of an f32 is one
lowest_fits : (fs : List Float) (p : Spot) → T (fits binary32 (lowest fs p))
unfolding lowest
lowest_fits fs p = cond-fits binary32 (eqb p.key 0) zero' _ (unfold fits of_bits in tt) (add-fits binary32 (get_or fs (p.at - 1) nan) hundredth)

highest_fits : (fs : List Float) (p : Spot) → T (fits binary32 (highest fs p))
unfolding highest
highest_fits fs p = cond-fits binary32 p.more _ largest (sub-fits binary32 (get_or fs (p.at + 1) nan) hundredth) (unfold fits of_bits in tt)

higher_fits : (fs : List Float) (p : Spot) → T (fits binary32 (max_of (highest fs p) (lowest fs p)))
higher_fits fs p = max_fits binary32 (highest fs p) (lowest fs p) (highest_fits fs p) (lowest_fits fs p)

clamped_fits : (fs : List Float) (p : Spot) (x : Float) → T (fits binary32 x) → T (fits binary32 (clamped_frame fs p x))
unfolding clamped_frame
clamped_fits fs p x hx = clamp_fits binary32 x (lowest fs p) (max_of (highest fs p) (lowest fs p)) hx (lowest_fits fs p) (higher_fits fs p)

-- ---- where the neighbours are finite
module _ (fs : List Float) (hf : Held fs) (p : Spot) (x : Float) (hx : T (fits binary32 x)) (rx : T (finite x))
    (previous : eqb p.key 0 ≡ false → T (finite (get_or fs (p.at - 1) nan))) (next : p.more ≡ true → T (finite (get_or fs (p.at + 1) nan))) where
  lowest_finite : T (finite (lowest fs p))
  unfolding lowest
  lowest_finite = go (eqb p.key 0) refl
    where
      go : (b : Bool) → eqb p.key 0 ≡ b → T (finite (cond b zero' (get_or fs (p.at - 1) nan ⊕ hundredth)))
      go true e = unfold of_bits in tt
      go false e = key_up_finite (get_or fs (p.at - 1) nan) (hf (p.at - 1)) (previous e)

  highest_real : T (real (highest fs p))
  unfolding highest
  highest_real = go p.more refl
    where
      go : (b : Bool) → p.more ≡ b → T (real (cond b (get_or fs (p.at + 1) nan ⊖ hundredth) largest))
      go true e = (le_real (get_or fs (p.at + 1) nan ⊖ hundredth) (get_or fs (p.at + 1) nan) (key_down (get_or fs (p.at + 1) nan) (hf (p.at + 1)) (next e))).0
      go false e = unfold of_bits in tt

  abbrev lo : Float
  lo = lowest fs p

  abbrev hi : Float
  hi = max_of (highest fs p) (lowest fs p)

  abbrev frame : Float
  frame = clamped_frame fs p x

  frame_fits : T (fits binary32 frame)
  frame_fits = clamped_fits fs p x hx

  within : T (le lo frame) × T (le frame hi)
  unfolding clamped_frame
  within =
      clamp_in binary32 x lo hi hx (lowest_fits fs p) (higher_fits fs p) (finite_real x rx)
      (max_in binary32 (highest fs p) lo (highest_fits fs p) (lowest_fits fs p) highest_real (finite_real lo lowest_finite)).1

  frame_real : T (real frame)
  frame_real = (le_real lo frame within.0).1

  -- so it is within its bounds
  clamped_bounded : Bounded fs p (clamped_frame fs p x)
  unfolding max_of
  clamped_bounded =
      record {
        above = T_true _ within.0;
        below = λ e. T_true _ (upper false e);
        lower_wins = λ e.
            eq_rank binary32 frame lo frame_fits (lowest_fits fs p) frame_real (finite_real lo lowest_finite) ∙
            eq-eqb (rank binary32 frame) (rank binary32 lo) (omega (arith, le→ binary32 frame lo frame_fits (lowest_fits fs p) (upper true e), le→ binary32 lo frame (lowest_fits fs p) frame_fits within.0));
      }
    where
      upper : (b : Bool) → lt (highest fs p) lo ≡ b → T (le frame (cond b lo (highest fs p)))
      upper b e = rw (real_number (highest fs p) highest_real, e) at within.1

  -- it is not below the previous key's frame
  pub clamped_after : T (le (frame_before fs p (clamped_frame fs p x)) (clamped_frame fs p x))
  unfolding frame_before
  clamped_after = go (eqb p.key 0) refl (unfold lowest in refl)
    where
      go : (b : Bool) → eqb p.key 0 ≡ b → lo ≡ cond b zero' (get_or fs (p.at - 1) nan ⊕ hundredth) → T (le (cond b frame (get_or fs (p.at - 1) nan)) frame)
      go true e q = le_self binary32 frame frame_fits frame_real
      go false e q =
          let h = hf (p.at - 1) in
          le_chain binary32 (get_or fs (p.at - 1) nan) lo frame h (lowest_fits fs p) frame_fits (rw q (key_up (get_or fs (p.at - 1) nan) h (previous e))) within.0

  -- nor above the next one's, where row 9 lets it pass
  module _ (o : (p.more && lt (get_or fs (p.at + 1) nan) (clamped_frame fs p x)) ≡ false) where
    under_next : p.more ≡ true → T (le frame (get_or fs (p.at + 1) nan))
    under_next e = lt_or_le binary32 (get_or fs (p.at + 1) nan) frame (hf (p.at + 1)) frame_fits (finite_real (get_or fs (p.at + 1) nan) (next e)) frame_real (second p.more _ o e)

    pub clamped_before : before_next fs p (clamped_frame fs p x) ≡ true
    unfolding before_next
    clamped_before = go p.more refl
      where
        or_true : (b : Bool) → (b || true) ≡ true
        or_true true = refl
        or_true false = refl

        go : (b : Bool) → p.more ≡ b → (not b || (eqb p.curve kind_constant || le frame (get_or fs (p.at + 1) nan))) ≡ true
        go true e = rw (T_true (le frame (get_or fs (p.at + 1) nan)) (under_next e)) (or_true (eqb p.curve kind_constant))
        go false e = refl

    -- so it is finite
    pub clamped_finite : T (finite (clamped_frame fs p x))
    clamped_finite = go p.more refl (unfold highest in refl)
      where
        go : (b : Bool) → p.more ≡ b → highest fs p ≡ cond b (get_or fs (p.at + 1) nan ⊖ hundredth) largest → T (finite frame)
        go true e q = between_finite lo frame (get_or fs (p.at + 1) nan) lowest_finite (next e) within.0 (under_next e)
        go false e q = between_finite lo frame hi lowest_finite (max_finite (highest fs p) lo (rw q (unfold of_bits in tt)) lowest_finite) within.0 within.1

-- row 9, of a curve that is not Constant
not_overtaken : (fs : List Float) (p : Spot) (x : Float) → eqb p.curve kind_constant ≡ false → overtakes fs p x ≡ false → (p.more && lt (get_or fs (p.at + 1) nan) (clamped_frame fs p x)) ≡ false
unfolding overtakes
not_overtaken fs p x q o = rw q at o

-- ---- the rule on a key that an edit changes
module _ (curve : ℕ) (a frame value slope : Float) (h : key_rule curve a frame value slope ≡ true) where
  -- Constant: the value is free
  constant_kept : eqb curve kind_constant ≡ true → (v : Float) → key_rule curve a frame v slope ≡ true
  unfolding key_rule
  constant_kept e v = rw e (rw e at h)

  -- Hermite: the slope is free
  hermite_kept : eqb curve kind_hermite ≡ true → (m : Float) → key_rule curve a frame value m ≡ true
  unfolding key_rule
  hermite_kept e m = let q : curve ≡ kind_hermite = eqb-true curve kind_hermite e in rw q (rw q at h)

  -- Step and Hermite: the frame is not below the one before it, and a Step value is whole
  moved_kept : eqb curve kind_constant ≡ false → (b x v : Float) → T (finite v) → T (le b x) → key_rule curve b x (cond (eqb curve kind_step) (step_value v) v) slope ≡ true
  unfolding key_rule
  moved_kept e b x v f l = go (eqb curve kind_step) refl
    where
      go : (d : Bool) → eqb curve kind_step ≡ d →
          cond (eqb curve kind_constant) (same_bits x zero' && same_bits slope zero') (cond d (same_bits slope zero' && whole_in16 (cond d (step_value v) v) && le b x) (le b x)) ≡ true
      go true q = rw (e, step_whole v f, T_true (le b x) l, and_1 (same_bits slope zero') (whole_in16 value) (and_1 (same_bits slope zero' && whole_in16 value) (le a frame) (rw (e, q) at h)))
      go false q = rw e (T_true _ l)

-- an edit's value is finite
value_known : (p : Spot) (v : Float) → T (finite v) → finite (edited_value p v) ≡ true
unfolding edited_value
value_known p v f = go (eqb p.curve kind_step)
  where
    go : (b : Bool) → finite (cond b (step_value v) v) ≡ true
    go true = T_true _ (whole16_finite (step_value v) (step_whole v f))
    go false = T_true _ f

-- a key with its four facts fits
fits_by : (fs : List Float) (p : Spot) (f v z : Float) → finite f ≡ true → finite v ≡ true → finite z ≡ true → key_rule p.curve (frame_before fs p f) f v z ≡ true → before_next fs p f ≡ true
    → fits_at fs p (record { frame = f; value = v; slope = z }) ≡ true
unfolding fits_at finite_numbers
fits_by fs p f v z a b c d e = rw (a, b, c, d, e)

-- what a refusal of 0 says of the track and the key
module _ (s : List ℕ) (selection : ℕ) (dragging : Bool) (track key : ℕ) where
  tracked : Hold (track_rows s selection dragging track key) → has_key s track key ≡ true
  unfolding key_in track_rows
  tracked k =
      let h : key_in s selection track key ≡ true = hold_at 7 (track_rows s selection dragging track key) (search row_in) k in
      and_1 (has_key s track key) _ h

  pub tracked_key : declines (track_rows s selection dragging track key) ≡ 0 → has_key s track key ≡ true
  unfolding track_rows
  tracked_key e = tracked (held (track_rows s selection dragging track key) tt e)

  pub accepted_key : (ks : Keys) (r : Request) → declines (edit_rows s selection dragging ks track key r) ≡ 0
      → (has_key s track key ≡ true) × (declines (request_rows ks.frames (spot_of s track key) r) ≡ 0)
  unfolding edit_rows track_rows
  accepted_key ks r e =
      let k = first_held (track_rows s selection dragging track key) _ tt e in
      (tracked k.0, k.1)

-- ---- an accepted edit
module _ {s : List ℕ} (w : Checked s) (ks : Keys) (ok : keys_ok_of s ks ≡ true) (hf : Held ks.frames) (track key : ℕ) (lt' : track < target_count s) (lk : key < (target_row s track).count) where
  c : KeysChecked s ks.frames ks.values ks.slopes
  c = keys_checked s ks.frames ks.values ks.slopes ok

  abbrev p : Spot
  p = spot_of s track key

  abbrev old : Key
  old = key_at ks (place s track key)

  previous : eqb p.key 0 ≡ false → T (finite (get_or ks.frames (p.at - 1) nan))
  unfolding spot_of
  previous e = true_T _ (frame_finite_lem c (place s track key - 1) (omega (arith, place_below w ks ok track key lt' lk)))

  next : p.more ≡ true → T (finite (get_or ks.frames (p.at + 1) nan))
  unfolding spot_of place
  next e = true_T _ (frame_finite_lem c (place s track key + 1) (omega (arith, ltb-true (key + 1) (target_row s track).count e, target_keys w track lt')))

  -- a clamped frame is within its bounds
  pub place_bounded : (x : Float) → T (fits binary32 x) → T (finite x) → Bounded ks.frames (spot_of s track key) (clamped_frame ks.frames (spot_of s track key) x)
  place_bounded x h f = clamped_bounded ks.frames hf p x h f previous next

  -- the key that is there
  old_frame : finite old.frame ≡ true
  unfolding key_at
  old_frame = frame_finite_lem c (place s track key) (place_below w ks ok track key lt' lk)

  old_value : finite old.value ≡ true
  unfolding key_at
  old_value = value_finite_lem c (place s track key) (place_below w ks ok track key lt' lk)

  old_slope : finite old.slope ≡ true
  unfolding key_at
  old_slope = slope_finite_lem c (place s track key) (place_below w ks ok track key lt' lk)

  old_rule : key_rule p.curve (frame_before ks.frames p old.frame) old.frame old.value old.slope ≡ true
  unfolding fits_at
  old_rule = and_2 (finite_numbers old) _ (and_1 _ (before_next ks.frames p old.frame) (here_fits w ks ok track key lt' lk))

  old_next : before_next ks.frames p old.frame ≡ true
  unfolding fits_at
  old_next = and_2 (finite_numbers old && key_rule p.curve (frame_before ks.frames p old.frame) old.frame old.value old.slope) (before_next ks.frames p old.frame) (here_fits w ks ok track key lt' lk)

  slope_fits : (m : Float) → declines (request_rows ks.frames p (request.Slope m)) ≡ 0 → fits_at ks.frames p (record { frame = old.frame; value = old.value; slope = m }) ≡ true
  unfolding request_rows
  slope_fits m e =
      let h = held (request_rows ks.frames p (request.Slope m)) tt e in
      fits_by ks.frames p old.frame old.value m old_frame old_value h.0 (hermite_kept p.curve _ _ _ _ old_rule h.1.0 m) old_next

  key_fits : (x v : Float) → T (fits binary32 x) → declines (request_rows ks.frames p (request.Key x v)) ≡ 0
      → fits_at ks.frames p (record { frame = edited_frame ks.frames p x; value = edited_value p v; slope = old.slope }) ≡ true
  unfolding request_rows edited_frame
  key_fits x v h e =
      let a = held (request_rows ks.frames p (request.Key x v)) tt e in
      let f = both (finite x) (finite v) a.0 in
      go (true_T _ f.0) (true_T _ f.1) (not-true (overtakes ks.frames p x) a.1.0) (eqb p.curve kind_constant) refl
    where
      go : T (finite x) → T (finite v) → overtakes ks.frames p x ≡ false → (b : Bool) → eqb p.curve kind_constant ≡ b →
          fits_at ks.frames p (record { frame = cond b (get_or ks.frames p.at nan) (clamped_frame ks.frames p x); value = edited_value p v; slope = old.slope }) ≡ true
      go fx fv o true q =
          unfold spot_of key_at in
          fits_by ks.frames p old.frame (edited_value p v) old.slope old_frame (value_known p v fv) old_slope (constant_kept p.curve _ _ _ _ old_rule q (edited_value p v)) old_next
      go fx fv o false q =
          let n = not_overtaken ks.frames p x q o in
          fits_by ks.frames p (clamped_frame ks.frames p x) (edited_value p v) old.slope
          (T_true _ (clamped_finite ks.frames hf p x h fx previous next n))
          (value_known p v fv)
          old_slope
          (unfold edited_value in moved_kept p.curve _ _ _ _ old_rule q _ _ v fv (clamped_after ks.frames hf p x h fx previous next))
          (clamped_before ks.frames hf p x h fx previous next n)

  request_fits : (r : Request) → HeldRequest r → declines (request_rows ks.frames p r) ≡ 0 → fits_at ks.frames p (edited s ks track key r) ≡ true
  unfolding edited edited_at
  request_fits (request.Key x v) h e = unfold spot_of in key_fits x v h.0 e
  request_fits (request.Slope m) h e = unfold spot_of in slope_fits m e

-- of a key that the sheet has, by a request that none of its own rows declines: an edit's and a drag's
module _ {s : List ℕ} (w : Checked s) (ks : Keys) (ok : keys_ok_of s ks ≡ true) (hf : Held ks.frames) (track key : ℕ) (has : has_key s track key ≡ true)
    (r : Request) (hr : HeldRequest r) (e : declines (request_rows ks.frames (spot_of s track key) r) ≡ 0) where
  abbrev there : (track < target_count s) × (key < (target_row s track).count)
  there = has_key_lem s track key has

  -- the key that it makes fits in its place
  pub edit_fits : fits_at ks.frames (spot_of s track key) (edited s ks track key r) ≡ true
  edit_fits = request_fits w ks ok hf track key there.0 there.1 r hr e

  -- so the keys that it leaves keep the key rules
  pub edit_keeps : keys_ok_of s (put_key ks (place s track key) (edited s ks track key r)) ≡ true
  edit_keeps = put_fits w ks ok track key there.0 there.1 (edited s ks track key r) ∙ edit_fits

-- ---- f32 stay f32

-- the key that an accepted request makes, of keys that are f32
pub request_held : (s : List ℕ) (ks : Keys) (track key : ℕ) (r : Request) → HeldKeys ks → HeldRequest r → declines (request_rows ks.frames (spot_of s track key) r) ≡ 0 → HeldKey (edited s ks track key r)
unfolding edited edited_at key_at request_rows edited_frame edited_value
request_held s ks track key (request.Key x v) k h e =
    let p = spot_of s track key in
    let f = and_2 (finite x) (finite v) (held (request_rows ks.frames p (request.Key x v)) tt e).0 in
    record {
      frame = cond-fits binary32 (eqb p.curve kind_constant) _ _ (k.frames p.at) (clamped_fits ks.frames p x h.0);
      value = cond-fits binary32 (eqb p.curve kind_step) _ _ (step_fits v (true_T _ f)) h.1;
      slope = k.slopes p.at;
    }
request_held s ks track key (request.Slope m) k h e =
    let p = spot_of s track key in
    record { frame = k.frames p.at; value = k.values p.at; slope = h }

-- so the keys that an accepted request leaves are f32 where those before it are
pub edit_held : (s : List ℕ) (ks : Keys) (track key : ℕ) (r : Request) → HeldKeys ks → HeldRequest r → declines (request_rows ks.frames (spot_of s track key) r) ≡ 0
    → HeldKeys (put_key ks (place s track key) (edited s ks track key r))
edit_held s ks track key r k h e = put_held ks (place s track key) _ k (request_held s ks track key r k h e)
