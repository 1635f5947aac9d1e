-- A rotation whose sines and cosines are made once for several points (document 01, "UVs and corners"), and that it turns each point as `rotated` does.
-- Assumes nothing.
use Rattle.std.specs.Prelude.{◌≡◌, refl, Bool, true, false, cond, Option, None, Some}
use Rattle.float.specs.Vector.{sum}
use Rattle.float.specs.declared.turn.SinCos.{SinCos}
use Rattle.corner.specs.declared.points.Turns.{Turns}
use Rattle.float.specs.declared.vector.Vector2.{Vector2}
use Rattle.float.specs.declared.vector.Vector3.{Vector3}
use Rattle.corner.specs.Corners.{still, turn_back, turned, rotated}

abbrev pub turns_by : Bool → Vector3 → Option Turns
turns_by true r = None
turns_by false r = Some (record { x = turn_back r.x; y = turn_back r.y; z = turn_back r.z })

-- of an all-zero rotation no sine is asked
unfoldable pub turns_of : Vector3 → Option Turns
turns_of r = turns_by (still r) r

unfoldable pub rotated_by : Vector2 → Vector2 → Option Turns → Vector2
rotated_by p c None = sum c p
rotated_by p c (Some t) = turned p c t.x t.y t.z

pub rotated_by_lem : (p c : Vector2) (r : Vector3) → rotated_by p c (turns_of r) ≡ rotated p c r
unfolding rotated_by turns_of rotated
rotated_by_lem p c r = go (still r)
  where
    go : (b : Bool) → rotated_by p c (turns_by b r) ≡ cond b (sum c p) (turned p c (turn_back r.x) (turn_back r.y) (turn_back r.z))
    go true = refl
    go false = refl

-- a rotation that is not all zero, from its three sines and cosines
pub turns_are : (x y z : SinCos) (r : Vector3) → still r ≡ false → x ≡ turn_back r.x → y ≡ turn_back r.y → z ≡ turn_back r.z → ◌≡◌ {A = Option Turns} (Some (record { x = x; y = y; z = z })) (turns_of r)
unfolding turns_of
turns_are x y z r f ex ey ez = rw (f, ← ex, ← ey, ← ez)

-- a point that the rotation made once turns
pub turned_once : (o p c : Vector2) (t : Option Turns) (r : Vector3) → t ≡ turns_of r → o ≡ rotated_by p c t → o ≡ rotated p c r
turned_once o p c t r e h = rw (← rotated_by_lem p c r, ← e) h
