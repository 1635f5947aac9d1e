-- What the cascade keeps as it goes down the rows in place, and its laws. Assumes nothing.
use Prim.Native.Nat.{ℕ, ◌+◌, ◌<◌, ◌≤◌}
use mathlib.Core.List.{List, map}
use mathlib.Core.Bool.{Bool, true, false, not, cond}
use mathlib.Core.Path.{◌≡◌, refl, ◌∙◌, ap}
use native.Mathlib.Omega.{arith}
use borrow.Author.Tests.{eqb-false}
use lib.Dec.{eqb}
use lib.ListN.{length, get_or, set}
use lib.Seq.{get_or-set_other}
use lib.Ieee.{Float, nan}
use Rattle.std.specs.Int.{from_bool}
use Rattle.laws.specs.Grown.{grow, grow_ext, Grown, grown_none, grown_more, grown_at, grown_all}
use Rattle.laws.specs.Table.{table_at}
use Rattle.book.specs.Sizes.{pane_count, no_parent}
use Rattle.book.specs.Rows.{pane_row}
use Rattle.book.specs.Checked.{CheckedBook, pane_parent_lem}
use Rattle.book.specs.declared.rows.Pane.{Pane}
use Rattle.reading.specs.Active.{Active}
use Rattle.resolve.specs.Resolve.{visible_of, alpha_of}
use Rattle.resolve.specs.Own.{bit_of, own_bit, own_bits, own_alphas}
use Rattle.resolve.specs.Cascade.{root, under, above, row_from, shown_bit, alpha_in, influence_in, cascade}
use Rattle.resolve.specs.Tables.{shown_of, number_in, read_above}
use Rattle.resolve.specs.declared.Cascaded.{Cascaded}

-- a bool as a byte is its bit
pub byte_is : (b : Bool) → from_bool b ≡ bit_of b
byte_is true = refl
byte_is false = refl

back : (b : Bool) → not (eqb (bit_of b) 0) ≡ b
back true = refl
back false = refl

-- the rows, over own values in two tables
abbrev pub rows_of : List ℕ → List ℕ → List Float → List Cascaded → ℕ → Cascaded
rows_of b own fade = row_from b (shown_of own) (number_in fade)

-- The first i rows are made, and the tables still have the own values of the others.
pub record Made (b own : List ℕ) (fade : List Float) (visible : List ℕ) (alpha influence : List Float) (i : ℕ) : Type 0 where
  pub shown : Grown (pane_count b) (rows_of b own fade) shown_bit visible i
  pub faded : Grown (pane_count b) (rows_of b own fade) alpha_in alpha i
  pub handed : Grown (pane_count b) (rows_of b own fade) influence_in influence i
  pub visible_kept : (k : ℕ) → i ≤ k → get_or visible k 0 ≡ get_or own k 0
  pub alpha_kept : (k : ℕ) → i ≤ k → get_or alpha k nan ≡ get_or fade k nan

pub made_none : (b own : List ℕ) (fade influence : List Float) → length own ≡ pane_count b → length fade ≡ pane_count b → length influence ≡ pane_count b → Made b own fade own fade influence 0
made_none b own fade influence p q r =
    record {
      shown = grown_none _ _ _ p;
      faded = grown_none _ _ _ q;
      handed = grown_none _ _ _ r;
      visible_kept = λ k l. refl;
      alpha_kept = λ k l. refl;
    }

module _ {b own : List ℕ} {fade : List Float} {visible : List ℕ} {alpha influence : List Float} {i : ℕ} (m : Made b own fade visible alpha influence i) where
  -- a row that is read back is the row that was made
  row_at : (p : ℕ) → p < i → record { visible = shown_of visible p; alpha = number_in alpha p; influence = number_in influence p } ≡ get_or (grow i (rows_of b own fade)) p root
  row_at p l = rw (grown_at root 0 m.shown l, grown_at root nan m.faded l, grown_at root nan m.handed l, back)

  above_at : (p : ℕ) → ((p ≡ no_parent → ⊥) → p < i) → read_above visible alpha influence p ≡ above (grow i (rows_of b own fade)) p
  unfolding read_above above
  above_at p l = go (eqb p no_parent) refl
    where
      go : (x : Bool) → eqb p no_parent ≡ x →
          cond x root (record { visible = shown_of visible p; alpha = number_in alpha p; influence = number_in influence p }) ≡ cond x root (get_or (grow i (rows_of b own fade)) p root)
      go true e = refl
      go false e = row_at p (l (eqb-false p no_parent e))

  -- a parent's row is in the tables
  pub parent_within : {pane : Pane} → CheckedBook b → i < pane_count b → pane ≡ pane_row b i → (pane.parent ≡ no_parent → ⊥) → (pane.parent < length visible) × ((pane.parent < length alpha) × (pane.parent < length influence))
  parent_within w l e d = let k = rw (← e) at (pane_parent_lem w i l) in let z = k d in (omega arith, (omega arith, omega arith))

  -- one turn: the row above is read, the row is made, its parts are stored
  pub made_more : {pane : Pane} {u r : Cascaded} {s : ℕ} → CheckedBook b → i < pane_count b → pane ≡ pane_row b i → u ≡ read_above visible alpha influence pane.parent →
      r ≡ under u (shown_of visible i) (number_in alpha i) pane.influences → s ≡ bit_of r.visible →
      Made b own fade (set visible i s) (set alpha i r.alpha) (set influence i r.influence) (i + 1)
  made_more {pane} {u} {r} {s} w l e up row bit =
      record {
        shown = grown_more m.shown l (bit ∙ ap shown_bit made);
        faded = grown_more m.faded l (ap alpha_in made);
        handed = grown_more m.handed l (ap influence_in made);
        visible_kept = λ k h. get_or-set_other visible i k s 0 (λ q. omega arith) ∙ m.visible_kept k (omega arith);
        alpha_kept = λ k h. get_or-set_other alpha i k r.alpha nan (λ q. omega arith) ∙ m.alpha_kept k (omega arith);
      }
    where
      own_at : shown_of visible i ≡ shown_of own i
      own_at = ap (λ (n : ℕ). not (eqb n 0)) (m.visible_kept i (omega arith))

      made : r ≡ rows_of b own fade (grow i (rows_of b own fade)) i
      made = unfold row_from in row ∙ rw (up, e, above_at (pane_row b i).parent (pane_parent_lem w i l), own_at, m.alpha_kept i (omega arith))

  pub made_all : pane_count b ≤ i → (visible ≡ map shown_bit (grow (pane_count b) (rows_of b own fade))) × ((alpha ≡ map alpha_in (grow (pane_count b) (rows_of b own fade))) × (influence ≡ map influence_in (grow (pane_count b) (rows_of b own fade))))
  made_all l = (grown_all m.shown l, (grown_all m.faded l, grown_all m.handed l))

-- over each pane's own visible and alpha that is the cascade
pub own_rows_make : (s b : List ℕ) (fs vs ss : List Float) (a : Active) {own : List ℕ} {fade : List Float} → own ≡ own_bits s b fs vs ss a → fade ≡ own_alphas s b fs vs ss a → grow (pane_count b) (rows_of b own fade) ≡ cascade s b fs vs ss a
unfolding cascade own_bits own_alphas
own_rows_make s b fs vs ss a {own} {fade} p q = grow_ext (pane_count b) (rows_of b own fade) (row_from b (visible_of s b fs vs ss a) (alpha_of s b fs vs ss a)) same
  where
    shown : (i : ℕ) → i < pane_count b → shown_of own i ≡ visible_of s b fs vs ss a i
    shown i l = rw (p, table_at (pane_count b) i (own_bit s b fs vs ss a) 0 l) (back (visible_of s b fs vs ss a i))

    faded : (i : ℕ) → i < pane_count b → number_in fade i ≡ alpha_of s b fs vs ss a i
    faded i l = rw q (table_at (pane_count b) i (alpha_of s b fs vs ss a) nan l)

    same : (l : List Cascaded) (i : ℕ) → i < pane_count b → rows_of b own fade l i ≡ row_from b (visible_of s b fs vs ss a) (alpha_of s b fs vs ss a) l i
    same l i m = unfold row_from in rw (shown i m, faded i m)
