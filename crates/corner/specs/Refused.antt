-- What a call of this crate gives by its list of rows (document 01, "What a call declines"): the number that the list declines with; and where that is
-- not 0, +0 throughout. Assumes nothing.
use Rattle.std.specs.Prelude.{ℕ, ◌≡◌}
use Rattle.std.proofs.Math.Path.{refl}
use Rattle.laws.specs.Rows.{declines}
use Rattle.laws.specs.Given.{given_keeps}
use Rattle.float.specs.declared.vector.Vector2.{Vector2}
use Rattle.float.specs.declared.vector.Vector3.{Vector3}
use Rattle.corner.specs.declared.points.Corners.{Corners}
use Rattle.corner.specs.Declined.{corners_table, translate_table, rotate_table}
use Rattle.corner.specs.Calls.{corners_with, point_with, no_corners, no_point, placed_of, moved_of, turned_of}

-- `corners`, `translate` and `rotate_point`: +0 throughout
module _ (c size : Vector2) (ox oy : ℕ) (r : Vector3) where
  pub corners_number : (placed_of c size ox oy r).refusal ≡ declines (corners_table c size ox oy r)
  unfolding placed_of
  corners_number = refl

  pub corners_zero : (declines (corners_table c size ox oy r) ≡ 0 → ⊥) → placed_of c size ox oy r ≡ corners_with (declines (corners_table c size ox oy r)) no_corners
  unfolding placed_of
  corners_zero h = given_keeps corners_with _ _ _ h

module _ (k : Corners) (d : Vector2) where
  pub translate_number : (moved_of k d).refusal ≡ declines (translate_table k d)
  unfolding moved_of
  translate_number = refl

  pub translate_zero : (declines (translate_table k d) ≡ 0 → ⊥) → moved_of k d ≡ corners_with (declines (translate_table k d)) no_corners
  unfolding moved_of
  translate_zero h = given_keeps corners_with _ _ _ h

module _ (p c : Vector2) (r : Vector3) where
  pub rotate_number : (turned_of p c r).refusal ≡ declines (rotate_table p c r)
  unfolding turned_of
  rotate_number = refl

  pub rotate_zero : (declines (rotate_table p c r) ≡ 0 → ⊥) → turned_of p c r ≡ point_with (declines (rotate_table p c r)) no_point
  unfolding turned_of
  rotate_zero h = given_keeps point_with _ _ _ h
