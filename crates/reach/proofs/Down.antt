-- What the way down the rows keeps of what each hands its children and of the panes' marks, and its laws. Assumes nothing.
use Prim.Native.Nat.{ℕ, ◌+◌, ◌*◌, ◌<◌, ◌≤◌}
use mathlib.Core.Bool.{Bool, true, false, not, cond, ◌&&◌, ◌||◌}
use mathlib.Core.List.{List}
use mathlib.Core.Path.{◌≡◌, refl, ◌∙◌, ap}
use native.Mathlib.Omega.{arith}
use borrow.Author.Tests.{eqb-false}
use lib.Dec.{eqb}
use lib.ListN.{length, get_or, set}
use Rattle.laws.specs.Grown.{grow, grow_same, Grown, grown_none, grown_more, grown_at}
use Rattle.laws.specs.Table.{Filled, filled_more, filled_all, filled_none}
use Rattle.book.specs.Sizes.{pane_count, no_parent}
use Rattle.book.specs.Rows.{pane_row}
use Rattle.book.specs.Checked.{CheckedBook, pane_parent_lem}
use Rattle.book.specs.declared.rows.Pane.{Pane}
use Rattle.std.specs.Int.{from_bool}
use Rattle.resolve.proofs.Down.{byte_is}
use Rattle.resolve.specs.Own.{bit_of}
use Rattle.resolve.specs.Follow.{Handed, fixed, handed_under, handed_above, handed_from, handed, follows}
use Rattle.reach.specs.Touched.{own_marked, visible_marked, alpha_marked, pane_mark, pane_marks}
use Rattle.reach.specs.Ready.{handed_in}

back : (b : Bool) → not (eqb (bit_of b) 0) ≡ b
back true = refl
back false = refl

-- a bit is 1 at most
pub bit_small : (x : Bool) {n : ℕ} → n ≡ bit_of x → n ≤ 1
bit_small true e = omega arith
bit_small false e = omega arith

-- what a row hands on, as the two tables hold it
abbrev pub visible_bit : Handed → ℕ
visible_bit h = bit_of h.visible

abbrev pub influence_bit : Handed → ℕ
influence_bit h = bit_of h.influence

-- the rows, over the channels' marks
abbrev pub rows_of : List ℕ → List ℕ → List Handed → ℕ → Handed
rows_of b marks = handed_from b (visible_marked marks) (alpha_marked marks)

-- The first i rows are made.
pub record Made (b marks visible influence panes : List ℕ) (i : ℕ) : Type 0 where
  pub shown : Grown 64 (rows_of b marks) visible_bit visible i
  pub faded : Grown 64 (rows_of b marks) influence_bit influence i
  pub marked : Filled (pane_count b) (pane_mark b marks) panes i

pub made_none : (b marks visible influence panes : List ℕ) → length visible ≡ 64 → length influence ≡ 64 → length panes ≡ pane_count b → Made b marks visible influence panes 0
made_none b marks visible influence panes p q r =
    record { shown = grown_none _ _ _ p; faded = grown_none _ _ _ q; marked = rw r at (filled_none (pane_mark b marks) panes) }

module _ {b marks visible influence panes : List ℕ} {i : ℕ} (m : Made b marks visible influence panes i) where
  -- what is read back of the row above is what that row hands on

  shown_at_lem : (p : ℕ) → ((p ≡ no_parent → ⊥) → p < i) → handed_in visible p ≡ (handed_above (grow i (rows_of b marks)) p).visible
  unfolding handed_in handed_above
  shown_at_lem p l = go (eqb p no_parent) refl
    where
      go : (x : Bool) → eqb p no_parent ≡ x → (not x && not (eqb (get_or visible p 0) 0)) ≡ (cond x fixed (get_or (grow i (rows_of b marks)) p fixed)).visible
      go true e = refl
      go false e = rw (grown_at fixed 0 m.shown (l (eqb-false p no_parent e))) (back _)

  faded_at_lem : (p : ℕ) → ((p ≡ no_parent → ⊥) → p < i) → handed_in influence p ≡ (handed_above (grow i (rows_of b marks)) p).influence
  unfolding handed_in handed_above
  faded_at_lem p l = go (eqb p no_parent) refl
    where
      go : (x : Bool) → eqb p no_parent ≡ x → (not x && not (eqb (get_or influence p 0) 0)) ≡ (cond x fixed (get_or (grow i (rows_of b marks)) p fixed)).influence
      go true e = refl
      go false e = rw (grown_at fixed 0 m.faded (l (eqb-false p no_parent e))) (back _)

  -- and the same as of all rows
  above_same : (n p : ℕ) → i ≤ n → ((p ≡ no_parent → ⊥) → p < i) → handed_above (grow i (rows_of b marks)) p ≡ handed_above (grow n (rows_of b marks)) p
  unfolding handed_above
  above_same n p k l = go (eqb p no_parent) refl
    where
      go : (x : Bool) → eqb p no_parent ≡ x → cond x fixed (get_or (grow i (rows_of b marks)) p fixed) ≡ cond x fixed (get_or (grow n (rows_of b marks)) p fixed)
      go true e = refl
      go false e = let q = l (eqb-false p no_parent e) in grow_same i n p (rows_of b marks) fixed q (omega arith)

  -- a parent's row is in the tables
  pub parent_within : {pane : Pane} → CheckedBook b → i < pane_count b → pane ≡ pane_row b i → (pane.parent ≡ no_parent → ⊥) → (pane.parent < length visible) × (pane.parent < length influence)
  parent_within w l e d = let k = rw (← e) at (pane_parent_lem w i l) in let z = k d in (omega (arith, m.shown.long, m.shown.within), omega (arith, m.faded.long, m.faded.within))

  -- what is handed down to row i, as it was read
  shown_down : {pane : Pane} {x : Bool} → CheckedBook b → i < pane_count b → pane ≡ pane_row b i → x ≡ handed_in visible pane.parent → x ≡ (handed_above (grow i (rows_of b marks)) (pane_row b i).parent).visible
  shown_down w l e h = rw e at h ∙ shown_at_lem (pane_row b i).parent (pane_parent_lem w i l)

  faded_down : {pane : Pane} {x : Bool} → CheckedBook b → i < pane_count b → pane ≡ pane_row b i → x ≡ handed_in influence pane.parent → x ≡ (handed_above (grow i (rows_of b marks)) (pane_row b i).parent).influence
  faded_down w l e h = rw e at h ∙ faded_at_lem (pane_row b i).parent (pane_parent_lem w i l)

  -- one turn: what is handed down is read, then the row's own marks, and the three parts are stored
  pub made_more : {pane : Pane} {shown faded own shows fades : Bool} {v f k : ℕ} → CheckedBook b → i < pane_count b → pane ≡ pane_row b i → shown ≡ handed_in visible pane.parent → faded ≡ handed_in influence pane.parent →
      own ≡ own_marked marks i → shows ≡ visible_marked marks i → fades ≡ alpha_marked marks i →
      v ≡ from_bool (shown || shows) → f ≡ from_bool (faded || (pane.influences && fades)) → k ≡ from_bool own + 2 * from_bool (shown || faded) →
      Made b marks (set visible i v) (set influence i f) (set panes i k) (i + 1)
  made_more {pane} {shown} {faded} {own} {shows} {fades} w l e up down o s a v f k =
      record {
        shown = grown_more m.shown (omega (arith, w.sizes.panes)) (v ∙ byte_is _ ∙ ap bit_of visible_is);
        faded = grown_more m.faded (omega (arith, w.sizes.panes)) (f ∙ byte_is _ ∙ ap bit_of influence_is);
        marked = filled_more m.marked l (k ∙ rw (byte_is, byte_is) mark_is);
      }
    where
      visible_is : (shown || shows) ≡ (rows_of b marks (grow i (rows_of b marks)) i).visible
      visible_is = unfold handed_from handed_under in rw (shown_down w l e up, s)

      influence_is : (faded || (pane.influences && fades)) ≡ (rows_of b marks (grow i (rows_of b marks)) i).influence
      influence_is = unfold handed_from handed_under in rw (faded_down w l e down, e, a)

      mark_is : bit_of own + 2 * bit_of (shown || faded) ≡ pane_mark b marks i
      mark_is =
          unfold pane_mark follows handed in
          rw (o, shown_down w l e up, faded_down w l e down, above_same (pane_count b) (pane_row b i).parent (omega arith) (pane_parent_lem w i l))

  pub made_all : pane_count b ≤ i → panes ≡ pane_marks b marks
  unfolding pane_marks
  made_all l = filled_all m.marked l
