-- Every outward call, with all that it takes but the sheet: those of demand 3 with the player and keys that they are made on, counts, loading, names,
-- what differing keys reach, and UVs and corners (document 01, "What a call declines"). Definitions only.
use Rattle.std.specs.Prelude.{ℕ, List, Float}
use Rattle.float.specs.declared.vector.Vector2.{Vector2}
use Rattle.float.specs.declared.vector.Vector3.{Vector3}
use Rattle.corner.specs.declared.points.Corners.{Corners}
use Rattle.edit.specs.Keys.{Keys}
use Rattle.machine.specs.Calls.{Call, State}

pub data Outward : Type 0 where
  -- play, pose, tick, both edits, undo, redo, a drag's four, the readings and saving
  made : Call → State → Outward
  -- how much the sheet holds, and a book
  sheet_counts : Outward
  book_counts : List ℕ → Outward
  -- loading into three arrays
  load : Keys → Outward
  -- the name that follows an animation, as a part of the sheet, and copied into an output
  next_name : ℕ → Outward
  next_name_out : ℕ → List ℕ → Outward
  -- a material's texture name copied into an output: the book, the material and the slot
  texture_name_out : List ℕ → ℕ → ℕ → State → List ℕ → Outward
  -- what differing keys reach: the book, the keys before and after, an animation, and the outputs for channels and panes
  reach : List ℕ → Keys → Keys → ℕ → List ℕ → List ℕ → Outward
  -- layers, SRTs and an output
  uvs : List Float → List Float → List Float → Outward
  -- centre, size, both origins and the rotation
  corners : Vector2 → Vector2 → ℕ → ℕ → Vector3 → Outward
  translate : Corners → Vector2 → Outward
  -- point, centre and rotation
  rotate_point : Vector2 → Vector2 → Vector3 → Outward
