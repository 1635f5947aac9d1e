-- The cascade (the Rust's inner `update`): visible, alpha and influence over all rows by parent. Definitions only.
use Rattle.std.specs.Prelude.{ℕ, Bool, true, ◌&&◌, cond, List, map, eqb, get_or, Float}
use Rattle.laws.specs.Grown.{grow}
use Rattle.float.specs.Numbers.{one', ◌⊗◌}
use Rattle.book.specs.Sizes.{pane_count, no_parent}
use Rattle.book.specs.Rows.{pane_row}
use Rattle.resolve.specs.Resolve.{visible_of, alpha_of}
use Rattle.resolve.specs.Own.{bit_of}
use Rattle.reading.specs.Active.{Active}
use Rattle.resolve.specs.declared.Cascaded.{Cascaded}

-- a root is given true and 1.0
abbrev pub root : Cascaded
root = record { visible = true; alpha = one'; influence = one' }

-- a row from the one above it, its own visible and alpha, and whether its alpha influences its children
unfoldable pub under : Cascaded → Bool → Float → Bool → Cascaded
under above visible alpha influences =
    record {
      visible = above.visible && visible;
      alpha = alpha ⊗ above.influence;
      influence = cond influences (above.influence ⊗ alpha) above.influence;
    }

-- the row above, among the earlier rows; a parent of 65,535 is none
unfoldable pub above : List Cascaded → ℕ → Cascaded
above rows parent = cond (eqb parent no_parent) root (get_or rows parent root)

-- what a row gives each output: shown is 1, hidden 0
abbrev pub shown_bit : Cascaded → ℕ
shown_bit r = bit_of r.visible

abbrev pub alpha_in : Cascaded → Float
alpha_in r = r.alpha

abbrev pub influence_in : Cascaded → Float
influence_in r = r.influence

-- row p, from the rows before it, with own visible and alpha by pane
unfoldable pub row_from : List ℕ → (ℕ → Bool) → (ℕ → Float) → List Cascaded → ℕ → Cascaded
row_from b visible alpha rows p = under (above rows (pane_row b p).parent) (visible p) (alpha p) (pane_row b p).influences

module _ (s b : List ℕ) (fs vs ss : List Float) (a : Active) where
  -- all rows
  unfoldable pub cascade : List Cascaded
  cascade = grow (pane_count b) (row_from b (visible_of s b fs vs ss a) (alpha_of s b fs vs ss a))

  -- the three outputs
  unfoldable pub visibles : List ℕ
  visibles = map shown_bit cascade

  unfoldable pub alphas : List Float
  alphas = map alpha_in cascade

  unfoldable pub influences : List Float
  influences = map influence_in cascade
