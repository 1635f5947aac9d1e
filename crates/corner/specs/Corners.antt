-- Document 01, "UVs and corners": the corners of a pane, as `Corners` of pane_tree.rs, in its order of operations. Definitions only.
use Rattle.std.specs.Prelude.{ℕ, Bool, cond, ◌&&◌, eqb, Float}
use Rattle.std.specs.Float.Ieee.{eq, neg}
use Rattle.float.specs.Numbers.{◌⊕◌, ◌⊖◌, ◌⊗◌, zero', half}
use Rattle.float.specs.Vector.{sum}
use Rattle.float.specs.Turn.{radians_of}
use Rattle.float.specs.SinCos.{sin_cos_of}
use Rattle.float.specs.declared.turn.SinCos.{SinCos}
use Rattle.float.specs.declared.vector.Vector2.{Vector2}
use Rattle.float.specs.declared.vector.Vector3.{Vector3}
use Rattle.corner.specs.declared.points.Corners.{Corners}

-- all-zero rotation: each component is +0 or -0
abbrev pub still : Vector3 → Bool
still r = eq r.x zero' && eq r.y zero' && eq r.z zero'

-- sine and cosine of minus an angle in degrees
abbrev pub turn_back : Float → SinCos
turn_back degrees = sin_cos_of (neg (radians_of degrees))

-- the point (its z is 0) turned about z, then y, then x, with these sines and cosines, and put about the centre
abbrev pub turned : Vector2 → Vector2 → SinCos → SinCos → SinCos → Vector2
turned p c x y z =
    let x1 = p.x ⊗ z.cos ⊖ p.y ⊗ z.sin in
    let y1 = p.x ⊗ z.sin ⊕ p.y ⊗ z.cos in
    let x2 = x1 ⊗ y.cos ⊕ zero' ⊗ y.sin in
    let z2 = neg x1 ⊗ y.sin ⊕ zero' ⊗ y.cos in
    let y3 = y1 ⊗ x.cos ⊖ z2 ⊗ x.sin in
    record { x = c.x ⊕ x2; y = c.y ⊕ y3 }

-- `rotate_point`: all-zero rotation gives centre + point
unfoldable pub rotated : Vector2 → Vector2 → Vector3 → Vector2
rotated p c r = cond (still r) (sum c p) (turned p c (turn_back r.x) (turn_back r.y) (turn_back r.z))

-- where a pane of this size starts, counted from its pivot: origin 0 is Center, 1 Left or Top, 2 Right or Bottom
unfoldable pub start_of : Float → ℕ → Float
start_of size origin = cond (eqb origin 0) (neg size ⊗ half) (cond (eqb origin 1) zero' (neg size))

-- `Corners::compute`
unfoldable pub corners_of : Vector2 → Vector2 → ℕ → ℕ → Vector3 → Corners
corners_of c size ox oy r =
    let lx = start_of size.x ox in
    let ly = start_of size.y oy in
    let rx = lx ⊕ size.x in
    let by = ly ⊕ size.y in
    record {
      topleft = rotated (record { x = lx; y = ly }) c r;
      topright = rotated (record { x = rx; y = ly }) c r;
      bottomleft = rotated (record { x = lx; y = by }) c r;
      bottomright = rotated (record { x = rx; y = by }) c r;
    }

-- `translate`
abbrev pub translated : Corners → Vector2 → Corners
translated k d =
    record {
      topleft = sum k.topleft d;
      topright = sum k.topright d;
      bottomleft = sum k.bottomleft d;
      bottomright = sum k.bottomright d;
    }
