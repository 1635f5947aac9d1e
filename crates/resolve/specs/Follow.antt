-- Which rows of the cascade can change where some panes' own visible or alpha do (the cascade): each row by the row above it.
-- Definitions only; that no other row changes is shown in proofs/Untouched.
use Rattle.std.specs.Prelude.{ℕ, Bool, false, ◌&&◌, ◌||◌, cond, List, eqb, get_or}
use Rattle.laws.specs.Grown.{grow}
use Rattle.book.specs.Sizes.{pane_count, no_parent}
use Rattle.book.specs.Rows.{pane_row}

-- whether what a row hands its children can change: visible, and the influence on their alpha
pub record Handed : Type 0 where
  pub visible : Bool
  pub influence : Bool

-- a root is given true and 1.0, which never change
abbrev pub fixed : Handed
fixed = record { visible = false; influence = false }

-- what is handed on, from what is handed down, whether the row's own visible and alpha can change, and whether its alpha influences its children
unfoldable pub handed_under : Handed → Bool → Bool → Bool → Handed
handed_under above visible alpha influences = record { visible = above.visible || visible; influence = above.influence || (influences && alpha) }

-- what is handed down to a pane with this parent, of the rows before it
unfoldable pub handed_above : List Handed → ℕ → Handed
handed_above rows parent = cond (eqb parent no_parent) fixed (get_or rows parent fixed)

-- row p, from the rows before it; by pane, whether its own visible and alpha can change
unfoldable pub handed_from : List ℕ → (ℕ → Bool) → (ℕ → Bool) → List Handed → ℕ → Handed
handed_from b visible alpha rows p = handed_under (handed_above rows (pane_row b p).parent) (visible p) (alpha p) (pane_row b p).influences

-- all rows
unfoldable pub handed : List ℕ → (ℕ → Bool) → (ℕ → Bool) → List Handed
handed b visible alpha = grow (pane_count b) (handed_from b visible alpha)

-- what is handed down to row p can change: its row of the cascade follows the row above it
unfoldable pub follows : List ℕ → (ℕ → Bool) → (ℕ → Bool) → ℕ → Bool
follows b visible alpha p = let above = handed_above (handed b visible alpha) (pane_row b p).parent in above.visible || above.influence
