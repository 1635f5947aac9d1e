-- Edits of one key (document 01, "Playing and editing"; the Rust's apply_key_edit and apply_slope_edit): where the key is, the key that a request
-- makes, when it leaves the key as it is, and when it is declined (rows 6 to 10 and 15 of the table). Definitions only.
use Rattle.std.specs.Prelude.{ℕ, ◌+◌, ◌-◌, Bool, not, ◌&&◌, cond, List, [], ◌∷◌, ◌++◌, eqb, ltb, get_or, Float}
use Rattle.std.specs.Float.{nan}
use Rattle.std.specs.Float.Ieee.{lt}
use Rattle.laws.specs.Rows.{Row, row}
use Rattle.float.specs.Numbers.{#, zero', ◌⊕◌, ◌⊖◌, finite}
use Rattle.float.specs.Grow.{hundredth}
use Rattle.float.specs.Clamp.{clamp_of, max_of}
use Rattle.float.specs.StepValue.{step_value}
use Rattle.sheet.specs.Sizes.{target_count}
use Rattle.sheet.specs.Rows.{content_row, target_row}
use Rattle.curve.specs.declared.Key.{Key}
use Rattle.curve.specs.Curve.{kind_constant, kind_step, kind_hermite}
use Rattle.edit.specs.declared.request.Request.{Request}
use Rattle.edit.specs.declared.request.Request.TheVariants as request
use Rattle.edit.specs.declared.spot.Spot.{Spot}
use Rattle.edit.specs.Keys.{Keys, key_at, put_key, same_key}

-- the animation's number that stands for none
abbrev pub none : ℕ
none = 65535

-- An edit: the animation that was active, a track (document 01's word for a target's row), a key of it, and the request.
pub record Edit : Type 0 where
  pub animation : ℕ
  pub track : ℕ
  pub key : ℕ
  pub request : Request

-- the sheet has the track, and the track the key
unfoldable pub has_key : List ℕ → ℕ → ℕ → Bool
has_key s track key = ltb track (target_count s) && ltb key (target_row s track).count

-- the place of a track's key among all keys
unfoldable pub place : List ℕ → ℕ → ℕ → ℕ
place s track key = (target_row s track).first + key

-- where a track's key is: its curve, its place, its number, and whether a key of the track comes next
unfoldable pub spot_of : List ℕ → ℕ → ℕ → Spot
spot_of s track key = record { curve = (target_row s track).curve; at = place s track key; key = key; more = ltb (key + 1) (target_row s track).count }

-- ---- the key that a request makes

-- A key edit clamps to previous + 0.01 (key 0: 0.0) and next − 0.01 (last: f32 maximum), the lower bound winning.
unfoldable pub lowest : List Float → Spot → Float
lowest fs p = cond (eqb p.key 0) zero' (get_or fs (p.at - 1) nan ⊕ hundredth)

unfoldable pub highest : List Float → Spot → Float
highest fs p = cond p.more (get_or fs (p.at + 1) nan ⊖ hundredth) (# 0x7f7f_ffff)

unfoldable pub clamped_frame : List Float → Spot → Float → Float
clamped_frame fs p x = clamp_of x (lowest fs p) (max_of (highest fs p) (lowest fs p))

-- Constant keeps its frame.
unfoldable pub edited_frame : List Float → Spot → Float → Float
edited_frame fs p x = cond (eqb p.curve kind_constant) (get_or fs p.at nan) (clamped_frame fs p x)

-- A Step value becomes the nearest whole to the request, held to 0..65,535, a zero as +0.
unfoldable pub edited_value : Spot → Float → Float
edited_value p v = cond (eqb p.curve kind_step) (step_value v) v

unfoldable pub edited_at : Keys → Spot → Request → Key
edited_at ks p (request.Key x v) = record { frame = edited_frame ks.frames p x; value = edited_value p v; slope = (key_at ks p.at).slope }
edited_at ks p (request.Slope m) = record { frame = (key_at ks p.at).frame; value = (key_at ks p.at).value; slope = m }

unfoldable pub edited : List ℕ → Keys → ℕ → ℕ → Request → Key
edited s ks track key r = edited_at ks (spot_of s track key) r

-- Unchanged (document 02, 4/13): "frame, value and slope have the same bits as before". The key that is made is compared, after clamp and rounding.
unfoldable pub unchanged : List ℕ → Keys → ℕ → ℕ → Request → Bool
unchanged s ks track key r = same_key (edited s ks track key r) (key_at ks (place s track key))

-- the keys with an edit made
unfoldable pub made_edit : List ℕ → Keys → Edit → Keys
made_edit s ks e = put_key ks (place s e.track e.key) (edited s ks e.track e.key e.request)

-- ---- what is declined

-- row 9: the clamped frame is above the next key's, Constant apart
unfoldable pub overtakes : List Float → Spot → Float → Bool
overtakes fs p x = not (eqb p.curve kind_constant) && p.more && lt (get_or fs (p.at + 1) nan) (clamped_frame fs p x)

-- rows 8 to 10: the request's numbers are finite; a key's clamped frame is not above the next key's; a slope is a Hermite key's
unfoldable pub request_rows : List Float → Spot → Request → List Row
request_rows fs p (request.Key x v) = row 8 (finite x && finite v) ∷ row 9 (not (overtakes fs p x)) ∷ []
request_rows fs p (request.Slope m) = row 8 (finite m) ∷ row 10 (eqb p.curve kind_hermite) ∷ []

-- the track is one of the animation's, and has such a key
unfoldable pub key_in : List ℕ → ℕ → ℕ → ℕ → Bool
key_in s animation track key = has_key s track key && eqb (content_row s (target_row s track).content).animation animation

-- rows 6, 15 and 7, `dragging` saying whether a drag is open: nothing active; a drag is open (document 02, 2/13: "checked after 6"); the track is not in the
-- active animation, or no such key
unfoldable pub track_rows : List ℕ → ℕ → Bool → ℕ → ℕ → List Row
track_rows s selection dragging track key = row 6 (not (eqb selection none)) ∷ row 15 (not dragging) ∷ row 7 (key_in s selection track key) ∷ []

-- and then the request's own
unfoldable pub edit_rows : List ℕ → ℕ → Bool → Keys → ℕ → ℕ → Request → List Row
edit_rows s selection dragging ks track key r = track_rows s selection dragging track key ++ request_rows ks.frames (spot_of s track key) r
