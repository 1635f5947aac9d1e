-- What a call that hands a name out gives on each side of its refusals. Assumes nothing.
use Prim.Native.Nat.{ℕ}
use mathlib.Core.Path.{◌≡◌, refl, sym, ◌∙◌}
use mathlib.Core.List.{List, [], ◌++◌, append-nil}
use native.Mathlib.Omega.{arith}
use borrow.Author.Tests.{ne_eqb, eq-eqb}
use lib.Dec.{T}
use lib.ListN.{length, take, drop}
use lib.Seq.{take-length, drop-length}
use Rattle.laws.specs.Rows.{Row, numbered, declines, fails, passes, no_rows, stops, held, joined}
use Rattle.field.specs.Name.{name_bytes}
use Rattle.menu.specs.Calls.{Written, wrote, written_by}
use Rattle.menu_c.specs.Naming.{name_rows}

-- a call that writes bytes into an output
module _ {n : ℕ} (rs : List Row) (bytes o : List ℕ) (e : n ≡ declines rs) where
  -- declined: as it was
  written_not : (n ≡ 0 → ⊥) → wrote n o ≡ written_by rs bytes o
  unfolding written_by
  written_not d = rw (← e, ne_eqb n 0 d)

  written : {r : List ℕ} → n ≡ 0 → r ≡ bytes → wrote 0 r ≡ written_by rs bytes o
  unfolding written_by
  written z h = rw (← e, z, h)

module _ (name o : List ℕ) where
  -- the output is not as long as a name
  pub handed_not : (length o ≡ name_bytes → ⊥) → wrote 13 o ≡ written_by (name_rows o) name o
  unfolding name_rows
  handed_not d = written_not (name_rows o) name o (fails 13 [] (ne_eqb (length o) name_bytes d)) (λ e. omega arith)

  -- it is, and was copied into
  pub handed : {o' : List ℕ} → length name ≡ name_bytes → length o ≡ name_bytes → o' ≡ take (length name) name ++ drop (length name) o → wrote 0 o' ≡ written_by (name_rows o) name o
  unfolding name_rows
  handed l e h =
      let same : length name ≡ length o = l ∙ sym e in
      written (name_rows o) name o (passes 13 _ (eq-eqb (length o) name_bytes e) no_rows) refl (h ∙ rw (take-length, same, drop-length, append-nil))

  module _ {n : ℕ} (rs : List Row) (e : n ≡ declines rs) where
    pub into_refused : (n ≡ 0 → ⊥) → wrote n o ≡ written_by (rs ++ name_rows o) name o
    into_refused d = written_not (rs ++ name_rows o) name o (stops rs (name_rows o) e d) d

    -- nothing is declined before row 13
    pub into_given : {g : Written} {x : List ℕ} → T (numbered rs) → n ≡ 0 → x ≡ name → g ≡ written_by (name_rows o) x o → g ≡ written_by (rs ++ name_rows o) name o
    unfolding written_by
    into_given t z h k = rw (joined rs (name_rows o) (held rs t (sym e ∙ z)), ← h) k
