-- The rules of a book's layout (document 01, "Sheet and book") as a list of tests, in the order of the definition `book_ok`. Definitions, and the law that all of
-- them hold exactly where the book keeps its layout.
use Rattle.std.specs.Prelude.{ℕ, ◌+◌, ◌*◌, ◌<◌, ◌≤◌, List, [], ◌∷◌, ◌++◌, ◌&&◌, ◌||◌, ◌≡◌, true, false, length, leb, ltb, eqb, Some, None, Ok, Err}
use Rattle.std.proofs.Common.{sym, ◌∙◌, le-leb}
use Rattle.std.proofs.lemmas.Bool.{lt-leb}
use Rattle.laws.specs.Below.{all_same}
use Rattle.field.specs.Read.{byte_at, u16_at}
use Rattle.field.specs.Name.{name_bytes}
use Rattle.book.specs.Sizes.{pane_count, material_count, head_bytes, pane_bytes, material_bytes, panes_at, materials_at, no_parent}
use Rattle.book.specs.Book.{sizes_ok, pane_ok, material_ok, book_ok}
use Rattle.book.specs.Checked.{Sized, sized}
use Rattle.faults.specs.declared.rules.Rule.TheVariants as rule
use Rattle.faults.specs.declared.fault.Part.TheVariants as part
use Rattle.faults.specs.Tests.{Told, Test, fault, ask, verdict, all_hold, each_below, or_else, Tells, and_assoc, and_unit, hold_join, hold_each, held_join, failed_join, accepts, other_failed, fault_join, tells}
use Rattle.faults.specs.Names.{float_test, name_tests, floats_hold, names_hold}

-- how long a book of these sizes is: document 01's 4 + 72P + 156M
abbrev pub book_bytes : List ℕ → ℕ
book_bytes b = head_bytes + pane_count b * pane_bytes + material_count b * material_bytes

-- the sizes, each in its range, and the length
unfoldable pub head_tests : List ℕ → List Test
head_tests b =
    ask rule.PanesRange (leb 1 (pane_count b) && leb (pane_count b) 64) part.Whole 0 (pane_count b) None
    ∷ ask rule.MaterialsRange (leb (material_count b) 32) part.Whole 2 (material_count b) None
    ∷ ask rule.BookLength (eqb (length b) (book_bytes b)) part.Whole (length b) (length b) (Some (book_bytes b)) ∷ []

-- pane i, whose row is at `at`: parent none or a smaller row, flags, origins, zero, ten f32
abbrev pane_asks : List ℕ → ℕ → ℕ → List Test
pane_asks b i at =
    ask rule.PaneParent (eqb (u16_at b (at + name_bytes)) no_parent || ltb (u16_at b (at + name_bytes)) i) (part.Row i) (at + name_bytes) (u16_at b (at + name_bytes)) (Some i)
    ∷ ask rule.PaneFlags (leb (byte_at b (at + 26)) 3) (part.Row i) (at + 26) (byte_at b (at + 26)) None
    ∷ ask rule.HorizontalOrigin (leb (byte_at b (at + 28)) 2) (part.Row i) (at + 28) (byte_at b (at + 28)) None
    ∷ ask rule.VerticalOrigin (leb (byte_at b (at + 29)) 2) (part.Row i) (at + 29) (byte_at b (at + 29)) None
    ∷ ask rule.PaneZero (eqb (u16_at b (at + 30)) 0) (part.Row i) (at + 30) (u16_at b (at + 30)) None
    ∷ each_below 10 (float_test b rule.PaneFinite i (at + 32))

unfoldable pub pane_tests : List ℕ → ℕ → List Test
pane_tests b i = pane_asks b i (panes_at + i * pane_bytes)

-- material i, where the materials start at `base`: three SRTs of five f32
unfoldable pub material_tests : List ℕ → ℕ → ℕ → List Test
material_tests b base i = each_below 15 (float_test b rule.MaterialFinite i (base + i * material_bytes + 96))

-- the labels of the panes, and the names of the materials
unfoldable pub label_tests : List ℕ → List Test
label_tests b = each_below (pane_count b) (name_tests b rule.LabelEmpty rule.LabelTwice panes_at pane_bytes)

unfoldable pub material_name_tests : List ℕ → List Test
material_name_tests b = each_below (material_count b) (name_tests b rule.NameEmpty rule.NameTwice (materials_at b) material_bytes)

-- the rows, then the names
unfoldable pub part_tests : List ℕ → List Test
part_tests b =
    each_below (pane_count b) (pane_tests b) ++
    (each_below (material_count b) (material_tests b (materials_at b)) ++
    (label_tests b ++ material_name_tests b))

-- the sizes are there, in their ranges, and the rest follows
unfoldable pub book_tests : List ℕ → List Test
book_tests b = ask rule.BookShort (leb head_bytes (length b)) part.Whole (length b) (length b) (Some head_bytes) ∷ (head_tests b ++ part_tests b)

-- ---- all tests hold exactly where the layout is kept

head_holds : (b : List ℕ) → all_hold (head_tests b) ≡ sizes_ok b
unfolding head_tests sizes_ok all_hold
head_holds b = simp (and_assoc, and_unit)

pane_holds : (b : List ℕ) (i : ℕ) → all_hold (pane_tests b i) ≡ pane_ok b i
unfolding pane_tests pane_ok all_hold
pane_holds b i = rw (floats_hold b rule.PaneFinite i (panes_at + i * pane_bytes + 32) 10) (simp and_assoc)

material_holds : (b : List ℕ) (base i : ℕ) → all_hold (material_tests b base i) ≡ material_ok b base i
unfolding material_tests material_ok
material_holds b base i = floats_hold b rule.MaterialFinite i (base + i * material_bytes + 96) 15

pub book_holds : (b : List ℕ) → all_hold (book_tests b) ≡ book_ok b
unfolding book_tests part_tests label_tests material_name_tests book_ok all_hold
book_holds b =
    let p = pane_count b in
    let m = material_count b in
    rw (
      hold_join (head_tests b) (part_tests b),
      head_holds b,
      hold_join (each_below p (pane_tests b)),
      hold_each p (pane_tests b),
      all_same p _ _ (λ i l. pane_holds b i),
      hold_join (each_below m (material_tests b (materials_at b))),
      hold_each m (material_tests b (materials_at b)),
      all_same m _ _ (λ i l. material_holds b (materials_at b) i),
      hold_join (label_tests b) (material_name_tests b),
      names_hold b rule.LabelEmpty rule.LabelTwice panes_at pane_bytes p,
      names_hold b rule.NameEmpty rule.NameTwice (materials_at b) material_bytes m,
    )
    (simp and_assoc)

-- ---- the answer, as the code finds it

pub book_told : (b : List ℕ) {r : Told} → r ≡ verdict (book_tests b) → Tells (book_ok b) (book_tests b) r
book_told b e = tells (book_tests b) (book_holds b) e

-- where the head breaks no rule, the sizes are in their ranges
pub head_sized : (b : List ℕ) → verdict (head_tests b) ≡ Ok tt → Sized b
head_sized b e = sized b (sym (head_holds b) ∙ accepts (head_tests b) e)

-- ---- the answer, part by part

pub parts_told : (b : List ℕ) → verdict (part_tests b) ≡
    or_else (verdict (each_below (pane_count b) (pane_tests b)))
    (or_else (verdict (each_below (material_count b) (material_tests b (materials_at b))))
    (or_else (verdict (label_tests b)) (verdict (material_name_tests b))))
unfolding part_tests
parts_told b =
    rw (
      fault_join (each_below (pane_count b) (pane_tests b)),
      fault_join (each_below (material_count b) (material_tests b (materials_at b))),
      fault_join (label_tests b) (material_name_tests b),
    )

-- the sizes are not all there
pub book_short_lem : (b : List ℕ) {r : Told} → length b < head_bytes → r ≡ Err (fault rule.BookShort part.Whole (length b) (length b) (Some head_bytes)) → Tells (book_ok b) (book_tests b) r
book_short_lem b l e = book_told b (e ∙ (unfold book_tests verdict in rw (lt-leb head_bytes (length b) l)))

module _ (b : List ℕ) {f : Told} (l : head_bytes ≤ length b) (e : f ≡ verdict (head_tests b)) where
  unsized : (f ≡ Ok tt → ⊥) → all_hold (head_tests b) ≡ false
  unsized n = other_failed (head_tests b) (λ z. n (e ∙ z))

  -- a size is out of its range, or the length is not theirs
  pub book_head : (f ≡ Ok tt → ⊥) → Tells (book_ok b) (book_tests b) f
  book_head n = book_told b (e ∙ (unfold book_tests verdict in rw (le-leb head_bytes (length b) l) (sym (failed_join (head_tests b) (part_tests b) (unsized n)))))

  -- they are right, so the rows are there
  pub book_sized : f ≡ Ok tt → Sized b
  book_sized z = head_sized b (sym e ∙ z)

  held : f ≡ Ok tt → all_hold (head_tests b) ≡ true
  held z = accepts (head_tests b) (sym e ∙ z)

  -- and decide
  pub book_parts : {r : Told} → f ≡ Ok tt → r ≡ verdict (part_tests b) → Tells (book_ok b) (book_tests b) r
  book_parts {r} z q = book_told b {r = r} (rw q (unfold book_tests verdict in rw (le-leb head_bytes (length b) l) (sym (held_join (head_tests b) (part_tests b) (held z)))))
