-- An edit over an edit of the same key is the last edit alone (document 02, 2/13: a drop leaves "one standing edit, the last accepted request"). The bounds of
-- a frame are its neighbours', a Constant key keeps its frame, and an edit keeps what it doesn't ask for. Assumes nothing.
use Rattle.std.specs.Prelude.{ℕ, ◌+◌, ◌-◌, ◌≤◌, ◌≡◌, Bool, List, get_or, Float}
use Rattle.std.proofs.Math.Path.{refl, ap}
use Rattle.std.proofs.Common.{◌∙◌, get_or-set_other}
use Rattle.std.proofs.Math.Bool.{true, false, cond}
use native.Mathlib.Omega.{arith}
use borrow.Author.Tests.{eqb-false}
use Rattle.std.proofs.Math.Dec.{eqb}
use Rattle.std.proofs.Math.ListN.{set}
use Rattle.std.proofs.Math.Seq.{set-get_or}
use Rattle.std.specs.Float.Ieee.{nan}
use Rattle.float.specs.Numbers.{zero', ◌⊕◌}
use Rattle.float.specs.Grow.{hundredth}
use Rattle.curve.specs.declared.Key.{Key}
use Rattle.curve.specs.Curve.{kind_constant}
use Rattle.edit.specs.declared.request.Request.{Request}
use Rattle.edit.specs.declared.request.Request.TheVariants as request
use Rattle.edit.specs.declared.spot.Spot.{Spot}
use Rattle.edit.specs.Keys.{Keys, key_at, put_key, put_put}
use Rattle.edit.specs.Edit.{Edit, place, spot_of, lowest, highest, clamped_frame, edited_frame, edited_at, edited, made_edit, overtakes, request_rows}

-- two requests of one kind: both of a frame and a value, or both of a slope
abbrev pub SameKind : Request → Request → Type 0
SameKind (request.Key x v) (request.Key y w) = Unit {0}
SameKind (request.Slope m) (request.Slope n) = Unit {0}
SameKind (request.Key x v) (request.Slope m) = ⊥
SameKind (request.Slope m) (request.Key x v) = ⊥

-- ---- the key's own frame is not one of its bounds
module _ (fs : List Float) (p : Spot) (b : p.key ≤ p.at) (y : Float) where
  lowest_own : lowest (set fs p.at y) p ≡ lowest fs p
  unfolding lowest
  lowest_own = go (eqb p.key 0) refl
    where
      go : (c : Bool) → eqb p.key 0 ≡ c → cond c zero' (get_or (set fs p.at y) (p.at - 1) nan ⊕ hundredth) ≡ cond c zero' (get_or fs (p.at - 1) nan ⊕ hundredth)
      go true e = refl
      go false e = let d = eqb-false p.key 0 e in rw (get_or-set_other fs p.at (p.at - 1) y nan (λ q. omega arith))

  next_own : get_or (set fs p.at y) (p.at + 1) nan ≡ get_or fs (p.at + 1) nan
  next_own = get_or-set_other fs p.at (p.at + 1) y nan (λ q. omega arith)

  highest_own : highest (set fs p.at y) p ≡ highest fs p
  unfolding highest
  highest_own = rw next_own

  clamped_own : (x : Float) → clamped_frame (set fs p.at y) p x ≡ clamped_frame fs p x
  unfolding clamped_frame
  clamped_own x = rw (lowest_own, highest_own)

  overtakes_own : (x : Float) → overtakes (set fs p.at y) p x ≡ overtakes fs p x
  unfolding overtakes
  overtakes_own x = rw (next_own, clamped_own x)

  rows_own : (r : Request) → request_rows (set fs p.at y) p r ≡ request_rows fs p r
  unfolding request_rows
  rows_own (request.Key x v) = rw (overtakes_own x)
  rows_own (request.Slope m) = refl

-- ---- an edit over an edit
module _ (s : List ℕ) (ks : Keys) (track key : ℕ) where
  abbrev p : Spot
  p = spot_of s track key

  behind : p.key ≤ p.at
  unfolding spot_of place
  behind = omega arith

  -- whatever key stands in its place, a request is declined alike
  pub rows_over : (k : Key) (r : Request) → request_rows (put_key ks (place s track key) k).frames (spot_of s track key) r ≡ request_rows ks.frames (spot_of s track key) r
  unfolding put_key
  rows_over k r = unfold spot_of in rows_own ks.frames p behind k.frame r

  frame_over : (x y : Float) → edited_frame (set ks.frames p.at (edited_frame ks.frames p y)) p x ≡ edited_frame ks.frames p x
  unfolding edited_frame
  frame_over x y = go (eqb p.curve kind_constant)
    where
      go : (c : Bool) →
          let fs = set ks.frames p.at (cond c (get_or ks.frames p.at nan) (clamped_frame ks.frames p y)) in
          cond c (get_or fs p.at nan) (clamped_frame fs p x) ≡ cond c (get_or ks.frames p.at nan) (clamped_frame ks.frames p x)
      go true = rw (set-get_or ks.frames p.at nan)
      go false = clamped_own ks.frames p behind _ x

  -- and makes the same key, where that key was made by a request of its kind
  pub edited_over : (q r : Request) → SameKind q r → edited s (put_key ks (place s track key) (edited s ks track key q)) track key r ≡ edited s ks track key r
  unfolding edited edited_at key_at put_key
  edited_over (request.Key y w) (request.Key x v) h = unfold spot_of in rw (frame_over x y, set-get_or ks.slopes (place s track key) nan)
  edited_over (request.Slope n) (request.Slope m) h = unfold spot_of in rw (set-get_or ks.frames (place s track key) nan, set-get_or ks.values (place s track key) nan)
  edited_over (request.Key y w) (request.Slope m) h = absurd h
  edited_over (request.Slope n) (request.Key x v) h = absurd h

  -- so the last edit alone is made
  pub made_over : (a b : ℕ) (q r : Request) → SameKind q r →
      let last : Edit = record { animation = b; track = track; key = key; request = r } in
      made_edit s (made_edit s ks (record { animation = a; track = track; key = key; request = q })) last ≡ made_edit s ks last
  unfolding made_edit
  made_over a b q r h = ap (put_key _ _) (edited_over q r h) ∙ put_put ks (place s track key) _ _
