-- What a checked book tells: a record whose fields `omega` reads, and laws on its rows. Assumes nothing.
use Rattle.std.specs.Prelude.{ℕ, ◌+◌, ◌*◌, ◌<◌, ◌≤◌, List, Bool, ◌||◌, ◌≡◌, length, leb, ltb, eqb, cond, IfSome}
use Rattle.std.specs.Prelude.{Some, None}
use Rattle.std.proofs.Math.Bool.{true, false}
use Rattle.std.proofs.Common.{refl, arith}
use borrow.Author.Tests.{leb-true, ltb-true, eqb-true, eqb-false, ne_eqb}
use Rattle.laws.specs.Tests.{both, and_2}
use Rattle.laws.specs.Below.{all_below, all_at}
use Rattle.field.specs.Read.{byte_at, u16_at, finite_row, FiniteFrom, finite_from}
use Rattle.field.specs.Name.{name_bytes, empty_name, names_ok, Fields}
use Rattle.field.specs.Same.{field_same}
use Rattle.field.specs.Table.{distinct, not_empty}
use Rattle.book.specs.Sizes.{pane_count, material_count, head_bytes, pane_bytes, material_bytes, panes_at, materials_at, no_parent}
use Rattle.book.specs.Rows.{pane_row, parent_of, pane_label, material_name}
use Rattle.book.specs.Book.{sizes_ok, pane_ok, material_ok, book_ok}

-- the sizes are in their ranges, and the length is theirs
pub record Sized (b : List ℕ) : Type 0 where
  pub some : 1 ≤ pane_count b
  pub panes : pane_count b ≤ 64
  pub materials : material_count b ≤ 32
  pub long : length b ≡ head_bytes + pane_count b * pane_bytes + material_count b * material_bytes

-- and each row passed
pub record CheckedBook (b : List ℕ) : Type 0 where
  pub sizes : Sized b
  pub paned : all_below (pane_count b) (pane_ok b) ≡ true
  pub made : all_below (material_count b) (material_ok b (materials_at b)) ≡ true
  pub labelled : names_ok b panes_at pane_bytes (pane_count b) ≡ true
  pub named : names_ok b (materials_at b) material_bytes (material_count b) ≡ true

pub sized : (b : List ℕ) → sizes_ok b ≡ true → Sized b
unfolding sizes_ok
sized b e =
    let l = both _ _ e in
    let m = both _ _ l.0 in
    let p = both (leb 1 (pane_count b)) _ m.0 in
    record {
      some = leb-true 1 (pane_count b) p.0;
      panes = leb-true (pane_count b) 64 p.1;
      materials = leb-true (material_count b) 32 m.1;
      long = eqb-true (length b) _ l.1;
    }

pub checked_book : (b : List ℕ) → book_ok b ≡ true → CheckedBook b
unfolding book_ok
checked_book b e =
    let n = both _ _ e in
    let l = both _ _ n.0 in
    let m = both _ _ l.0 in
    let p = both _ _ m.0 in
    record { sizes = sized b (and_2 (leb head_bytes (length b)) _ p.0); paned = p.1; made = m.1; labelled = l.1; named = n.1 }

-- ---- the names' fields lie within a book as long as its sizes say
pub label_place : {b : List ℕ} → Sized b → Fields b panes_at pane_bytes (pane_count b)
label_place w = record { within = λ i l. omega arith }

pub name_place : {b : List ℕ} → Sized b → Fields b (materials_at b) material_bytes (material_count b)
name_place w = record { within = λ i l. omega arith }

-- ---- what each test of a pane says
record PaneOk (b : List ℕ) (i : ℕ) : Type 0 where
  parent : (eqb (u16_at b (panes_at + i * pane_bytes + name_bytes)) no_parent || ltb (u16_at b (panes_at + i * pane_bytes + name_bytes)) i) ≡ true
  horizontal : leb (byte_at b (panes_at + i * pane_bytes + 28)) 2 ≡ true
  vertical : leb (byte_at b (panes_at + i * pane_bytes + 29)) 2 ≡ true
  finite : finite_row b (panes_at + i * pane_bytes + 32) 10 ≡ true

pane_tests_lem : (b : List ℕ) (i : ℕ) → pane_ok b i ≡ true → PaneOk b i
unfolding pane_ok
pane_tests_lem b i e =
    let f = both _ _ e in
    let z = both _ (eqb (u16_at b (panes_at + i * pane_bytes + 30)) 0) f.0 in
    let v = both _ _ z.0 in
    let h = both _ _ v.0 in
    let p = both _ (leb (byte_at b (panes_at + i * pane_bytes + 26)) 3) h.0 in
    record { parent = p.0; horizontal = h.1; vertical = v.1; finite = f.1 }

module _ {b : List ℕ} (w : CheckedBook b) where
  pane_row_lem : (i : ℕ) → i < pane_count b → PaneOk b i
  pane_row_lem i l = pane_tests_lem b i (all_at (pane_count b) (pane_ok b) i w.paned l)

  -- a pane's parent is none, or a smaller row
  pub pane_parent_lem : (i : ℕ) → i < pane_count b → ((pane_row b i).parent ≡ no_parent → ⊥) → (pane_row b i).parent < i
  unfolding pane_row
  pane_parent_lem i l n = ltb-true _ i (other (ne_eqb _ no_parent n) (pane_row_lem i l).parent)
    where
      other : {x y : Bool} → x ≡ false → (x || y) ≡ true → y ≡ true
      other p q = rw p at q

  -- so the row above it, where there is one, is a smaller row
  pub pane_above : (i : ℕ) → i < pane_count b → IfSome (parent_of (pane_row b i).parent) (λ p. p < i)
  unfolding parent_of
  pane_above i l = go (eqb (pane_row b i).parent no_parent) refl
    where
      go : (x : Bool) → eqb (pane_row b i).parent no_parent ≡ x → IfSome (cond x None (Some (pane_row b i).parent)) (λ p. p < i)
      go true _ = _
      go false e = pane_parent_lem i l (eqb-false (pane_row b i).parent no_parent e)

  -- its origins are one of the three
  pub pane_horizontal : (i : ℕ) → i < pane_count b → (pane_row b i).horizontal ≤ 2
  unfolding pane_row
  pane_horizontal i l = leb-true _ 2 (pane_row_lem i l).horizontal

  pub pane_vertical : (i : ℕ) → i < pane_count b → (pane_row b i).vertical ≤ 2
  unfolding pane_row
  pane_vertical i l = leb-true _ 2 (pane_row_lem i l).vertical

  -- its ten floats are finite, and so are a material's fifteen
  pub pane_finite_lem : (i : ℕ) → i < pane_count b → FiniteFrom b (panes_at + i * pane_bytes + 32) 10
  pane_finite_lem i l = finite_from b (panes_at + i * pane_bytes + 32) 10 (pane_row_lem i l).finite

  pub material_finite_lem : (i : ℕ) → i < material_count b → FiniteFrom b (materials_at b + i * material_bytes + 96) 15
  unfolding material_ok
  material_finite_lem i l = finite_from b (materials_at b + i * material_bytes + 96) 15 (all_at (material_count b) (material_ok b (materials_at b)) i w.made l)

  -- ---- names
  -- the labels and the names are fields of the book, as a search asks
  pub label_fields : Fields b panes_at pane_bytes (pane_count b)
  label_fields = label_place w.sizes

  pub name_fields : Fields b (materials_at b) material_bytes (material_count b)
  name_fields = name_place w.sizes

  -- no label is empty, and panes with one label are one pane; materials likewise
  pub label_given : (i : ℕ) → i < pane_count b → empty_name b (panes_at + i * pane_bytes) ≡ false
  label_given i l = not_empty b panes_at pane_bytes (pane_count b) w.labelled i l

  pub label_distinct : (i j : ℕ) → i < pane_count b → j < pane_count b → pane_label b i ≡ pane_label b j → i ≡ j
  unfolding pane_label
  label_distinct i j l m e = distinct b panes_at pane_bytes (pane_count b) w.labelled i j l m (field_same b (panes_at + i * pane_bytes) b (panes_at + j * pane_bytes) e)

  pub name_given : (i : ℕ) → i < material_count b → empty_name b (materials_at b + i * material_bytes) ≡ false
  name_given i l = not_empty b (materials_at b) material_bytes (material_count b) w.named i l

  pub name_distinct : (i j : ℕ) → i < material_count b → j < material_count b → material_name b i ≡ material_name b j → i ≡ j
  unfolding material_name
  name_distinct i j l m e = distinct b (materials_at b) material_bytes (material_count b) w.named i j l m (field_same b (materials_at b + i * material_bytes) b (materials_at b + j * material_bytes) e)
