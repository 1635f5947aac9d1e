-- Document 01, "What a call declines", for the corners of "UVs and corners": rows 7, 8 and 12, each call's as a list of rows. Definitions only.
use Rattle.std.specs.Prelude.{ℕ, Bool, ◌&&◌, List, [], ◌∷◌, leb}
use Rattle.laws.specs.Rows.{Row, row}
use Rattle.float.specs.Vector.{finite2, finite3}
use Rattle.float.specs.Turn.{angle_passes}
use Rattle.float.specs.declared.vector.Vector2.{Vector2}
use Rattle.float.specs.declared.vector.Vector3.{Vector3}
use Rattle.corner.specs.declared.points.Corners.{Corners}

-- the components of a corner set are finite
abbrev pub finite4 : Corners → Bool
finite4 k = finite2 k.topleft && finite2 k.topright && finite2 k.bottomleft && finite2 k.bottomright

-- a rotation, the last rows of two calls: finite (8), and each angle (12)
unfoldable pub rotation_rows : Vector3 → List Row
rotation_rows r =
    row 8 (finite3 r)
    ∷ row 12 (angle_passes r.x)
    ∷ row 12 (angle_passes r.y)
    ∷ row 12 (angle_passes r.z) ∷ []

-- corners: the origins are 0, 1 or 2 (7); centre and size are finite (8); then the rotation
unfoldable pub corners_table : Vector2 → Vector2 → ℕ → ℕ → Vector3 → List Row
corners_table c size ox oy r =
    row 7 (leb ox 2)
    ∷ row 7 (leb oy 2)
    ∷ row 8 (finite2 c)
    ∷ row 8 (finite2 size) ∷ rotation_rows r

-- moving corners: the numbers are finite (8)
unfoldable pub translate_table : Corners → Vector2 → List Row
translate_table k d = row 8 (finite4 k) ∷ row 8 (finite2 d) ∷ []

-- turning a point: point and centre are finite (8); then the rotation
unfoldable pub rotate_table : Vector2 → Vector2 → Vector3 → List Row
rotate_table p c r = row 8 (finite2 p) ∷ row 8 (finite2 c) ∷ rotation_rows r
