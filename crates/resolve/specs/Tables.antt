-- The cascade as tables hold it: a row read back, and rows made in place over each pane's own visible and alpha. Assumes nothing.
use Rattle.std.specs.Prelude.{ℕ, List, Bool, not, cond, eqb, get_or, Float}
use Rattle.std.specs.Float.{nan}
use Rattle.book.specs.Sizes.{no_parent}
use Rattle.resolve.specs.Cascade.{root}
use Rattle.resolve.specs.declared.Cascaded.{Cascaded}

-- a table's entry for pane p, shown or hidden, and a number
abbrev pub shown_of : List ℕ → ℕ → Bool
shown_of visible p = not (eqb (get_or visible p 0) 0)

abbrev pub number_in : List Float → ℕ → Float
number_in numbers p = get_or numbers p nan

-- row p of three tables; a parent of 65,535 is none
unfoldable pub read_above : List ℕ → List Float → List Float → ℕ → Cascaded
read_above visible alpha influence p =
    cond (eqb p no_parent) root (record { visible = shown_of visible p; alpha = number_in alpha p; influence = number_in influence p })
