-- Document 01, "UVs and corners": the calls of this crate from outside, refusals included. Definitions only. A refused call answers +0 throughout.
use Rattle.std.specs.Prelude.{ℕ}
use Rattle.laws.specs.Rows.{declines}
use Rattle.laws.specs.Given.{given}
use Rattle.float.specs.Numbers.{zero'}
use Rattle.float.specs.declared.vector.Vector2.{Vector2}
use Rattle.float.specs.declared.vector.Vector3.{Vector3}
use Rattle.corner.specs.declared.points.Corners.{Corners}
use Rattle.corner.specs.declared.Placed.{Placed}
use Rattle.corner.specs.declared.Turned.{Turned}
use Rattle.corner.specs.Corners.{rotated, corners_of, translated}
use Rattle.corner.specs.Declined.{corners_table, translate_table, rotate_table}

-- +0 throughout
abbrev pub no_point : Vector2
no_point = record { x = zero'; y = zero' }

abbrev pub no_corners : Corners
no_corners = record { topleft = no_point; topright = no_point; bottomleft = no_point; bottomright = no_point }

-- a corner set or a point with its refusal
abbrev pub corners_with : ℕ → Corners → Placed
corners_with n k = record { refusal = n; corners = k }

abbrev pub point_with : ℕ → Vector2 → Turned
point_with n p = record { refusal = n; point = p }

-- `corners`
unfoldable pub placed_of : Vector2 → Vector2 → ℕ → ℕ → Vector3 → Placed
placed_of c size ox oy r = given corners_with (declines (corners_table c size ox oy r)) (corners_of c size ox oy r) no_corners

-- `translate`
unfoldable pub moved_of : Corners → Vector2 → Placed
moved_of k d = given corners_with (declines (translate_table k d)) (translated k d) no_corners

-- `rotate_point`
unfoldable pub turned_of : Vector2 → Vector2 → Vector3 → Turned
turned_of p c r = given point_with (declines (rotate_table p c r)) (rotated p c r) no_point
