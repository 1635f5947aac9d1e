-- What a search by name, and a table whose names passed, tell. Assumes nothing.
use Rattle.std.specs.Prelude.{◌≡◌, ℕ, ◌+◌, ◌*◌, ◌<◌, Bool, true, false, not, List, ◌==◌, nat_lt, refl}
use Rattle.std.proofs.Common.{sym, arith}
use borrow.Author.Tests.{eq-eqb, ne_eqb, eqb-true, eqb-false, ltb-true, ltb-false, not-true}
use Rattle.laws.specs.Tests.{both}
use Rattle.laws.specs.Below.{all_at, all_same}
use Rattle.laws.specs.First.{first_within, first_holds}
use Rattle.std.specs.Prelude.{Some}
use Rattle.field.specs.Read.{byte_at}
use Rattle.field.specs.Name.{name_bytes, same_byte, same_name, empty_name, other_name, name_ok, names_ok, row_named, find_name}

-- what is found is one of the rows, and has the name
pub found_within : (s : List ℕ) (base stride rows : ℕ) (t : List ℕ) (j i : ℕ) → find_name s base stride rows t j ≡ Some i → i < rows
unfolding find_name
found_within s base stride rows t j i e = first_within rows (row_named s base stride t j) i e

pub found_named : (s : List ℕ) (base stride rows : ℕ) (t : List ℕ) (j i : ℕ) → find_name s base stride rows t j ≡ Some i → same_name s (base + i * stride) t j ≡ true
unfolding find_name row_named
found_named s base stride rows t j i e = first_holds rows (row_named s base stride t j) i e

eqb_turned : (a b : ℕ) → (a == b) ≡ (b == a)
eqb_turned a b = go (b == a) refl
  where
    go : (x : Bool) → (b == a) ≡ x → (a == b) ≡ x
    go true e = eq-eqb a b (sym (eqb-true b a e))
    go false e = ne_eqb a b (λ q. eqb-false b a e (sym q))

pub same_turned : (s : List ℕ) (i : ℕ) (t : List ℕ) (j : ℕ) → same_name s i t j ≡ same_name t j s i
unfolding same_name same_byte
same_turned s i t j = all_same name_bytes (same_byte s i t j) (same_byte t j s i) (λ k l. eqb_turned (byte_at s (i + k)) (byte_at t (j + k)))

module _ (s : List ℕ) (base stride rows : ℕ) (h : names_ok s base stride rows ≡ true) where
  row_ok : (i : ℕ) → i < rows → name_ok s base stride i ≡ true
  unfolding names_ok
  row_ok i l = all_at rows (name_ok s base stride) i h l

  -- no name is empty
  pub not_empty : (i : ℕ) → i < rows → empty_name s (base + i * stride) ≡ false
  unfolding name_ok
  not_empty i l = not-true _ (both (not (empty_name s (base + i * stride))) _ (row_ok i l)).0

  earlier : (i j : ℕ) → j < i → i < rows → same_name s (base + j * stride) s (base + i * stride) ≡ false
  unfolding name_ok other_name
  earlier i j m l = not-true _ (all_at i (other_name s base stride i) j (both (not (empty_name s (base + i * stride))) _ (row_ok i l)).1 m)

  -- rows with one name are one row
  pub distinct : (i j : ℕ) → i < rows → j < rows → same_name s (base + i * stride) s (base + j * stride) ≡ true → i ≡ j
  distinct i j l m e = go (i == j) refl (nat_lt i j) refl
    where
      go : (x : Bool) → (i == j) ≡ x → (y : Bool) → nat_lt i j ≡ y → i ≡ j
      go true p y q = eqb-true i j p
      go false p true q = let f = earlier j i (ltb-true i j q) m in let z : ◌≡◌ {A = ℕ} 0 1 = cc in absurd (omega arith)
      go false p false q =
          let k = ltb-false i j q in
          let n = eqb-false i j p in
          let f = earlier i j (omega arith) l in
          let g = same_turned s (base + i * stride) s (base + j * stride) in
          let z : ◌≡◌ {A = ℕ} 0 1 = cc in
          absurd (omega arith)
