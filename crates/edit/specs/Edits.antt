-- What a reader expects of an accepted edit or drag (document 01, "Playing and editing"): a key's frame stays within its bounds, a Constant key keeps its
-- frame, a Step value is whole. Assumes nothing.
use Rattle.std.specs.Prelude.{ℕ, ◌≡◌, true, List, Float}
use Rattle.std.proofs.lemmas.Bool.{false≢true}
use Rattle.std.proofs.Common.{ne_eqb}
use Rattle.laws.specs.Tests.{and_1, and_2, true_T}
use Rattle.laws.specs.Rows.{declines, held}
use Rattle.float.specs.Numbers.{finite}
use Rattle.float.specs.StepValue.{whole_in16}
use Rattle.float.specs.Stepped.{step_whole}
use Rattle.sheet.specs.Rows.{target_row}
use Rattle.sheet.specs.Checked.{Checked}
use Rattle.curve.specs.Curve.{kind_constant, kind_step}
use Rattle.curve.specs.Before.{Held}
use Rattle.edit.specs.declared.request.Request.{Request}
use Rattle.edit.specs.declared.request.Request.TheVariants as request
use Rattle.edit.specs.Keys.{Keys, key_at, keys_ok_of}
use Rattle.edit.specs.Edit.{has_key, place, spot_of, edited_frame, edited_value, edited_at, edited, request_rows}
use Rattle.edit.specs.Put.{has_key_lem}
use Rattle.edit.specs.Accepted.{HeldRequest, Bounded, place_bounded}

-- ---- the key

-- Constant keeps its frame
pub constant_frame_lem : (s : List ℕ) (ks : Keys) (track key : ℕ) (x v : Float) → (target_row s track).curve ≡ kind_constant
    → (edited s ks track key (request.Key x v)).frame ≡ (key_at ks (place s track key)).frame
unfolding edited edited_at edited_frame spot_of key_at
constant_frame_lem s ks track key x v e = rw e

-- any other curve's frame is within its bounds
pub edit_bounded : {s : List ℕ} → Checked s → (ks : Keys) → keys_ok_of s ks ≡ true → Held ks.frames → (track key : ℕ) → has_key s track key ≡ true → (x v : Float) → HeldRequest (request.Key x v)
    → declines (request_rows ks.frames (spot_of s track key) (request.Key x v)) ≡ 0 → ((target_row s track).curve ≡ kind_constant → ⊥)
    → Bounded ks.frames (spot_of s track key) (edited s ks track key (request.Key x v)).frame
unfolding edited edited_at edited_frame request_rows spot_of
edit_bounded {s} w ks ok hf track key has x v h e d =
    let k = has_key_lem s track key has in
    let f = and_1 (finite x) (finite v) (held (request_rows ks.frames (spot_of s track key) (request.Key x v)) tt e).0 in
    rw (ne_eqb (target_row s track).curve kind_constant d) (place_bounded w ks ok hf track key k.0 k.1 x h.0 (true_T _ f))

-- a Step value is whole in 0..65,535: row 10 declines a slope of a Step key
pub edit_whole : (s : List ℕ) (ks : Keys) (track key : ℕ) (r : Request) → declines (request_rows ks.frames (spot_of s track key) r) ≡ 0 → (target_row s track).curve ≡ kind_step
    → whole_in16 (edited s ks track key r).value ≡ true
unfolding edited edited_at edited_value request_rows spot_of
edit_whole s ks track key (request.Key x v) e c = rw c (step_whole v (true_T _ (and_2 (finite x) (finite v) (held (request_rows ks.frames (spot_of s track key) (request.Key x v)) tt e).0)))
edit_whole s ks track key (request.Slope m) e c = absurd (false≢true (rw c at (held (request_rows ks.frames (spot_of s track key) (request.Slope m)) tt e).1.0))
