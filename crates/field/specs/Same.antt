-- What it means that two fields hold one name: the fields are equal, and so are the names in them, whose zero bytes at the end don't count
-- (document 01, "Sheet and book"). Assumes nothing.
use Rattle.std.specs.Prelude.{◌≡◌, ℕ, ◌+◌, ◌<◌, ◌≤◌, Bool, true, false, cond, List, [], ◌∷◌, length, ◌==◌, slice_index, refl}
use Rattle.std.proofs.Common.{sym, ◌∙◌, ap, arith, eq-eqb, eqb-true, length-take, length-drop, get_or-take, get_or-drop, ext_get_or}
use Rattle.std.proofs.Math.Nat.{suc_inj}
use Rattle.laws.specs.Below.{all_at, all_of}
use Rattle.field.specs.Read.{byte_at}
use Rattle.field.specs.Name.{name_bytes, name_at, same_byte, same_name}

byte_of : (s : List ℕ) (i k : ℕ) → k < name_bytes → slice_index (name_at s i) k ≡ byte_at s (i + k)
byte_of s i k l = rw (get_or-take, get_or-drop)

long : (s : List ℕ) (i : ℕ) → i + name_bytes ≤ length s → length (name_at s i) ≡ name_bytes
long s i h = simp (length-take, length-drop) (omega arith)

-- the equations that a reader expects: one name exactly when the 24 bytes are the same
pub same_field : (s : List ℕ) (i : ℕ) (t : List ℕ) (j : ℕ) → i + name_bytes ≤ length s → j + name_bytes ≤ length t → same_name s i t j ≡ true → name_at s i ≡ name_at t j
unfolding same_name same_byte
same_field s i t j h k e =
    ext_get_or 0 (name_at s i) (name_at t j) (long s i h ∙ sym (long t j k))
    (λ n l. let m : n < name_bytes = omega (arith, long s i h) in byte_of s i n m ∙ eqb-true (byte_at s (i + n)) (byte_at t (j + n)) (all_at name_bytes (same_byte s i t j) n e m) ∙ sym (byte_of t j n m))

pub field_same : (s : List ℕ) (i : ℕ) (t : List ℕ) (j : ℕ) → name_at s i ≡ name_at t j → same_name s i t j ≡ true
unfolding same_name same_byte
field_same s i t j e =
    all_of name_bytes (same_byte s i t j)
    (λ n l. eq-eqb (byte_at s (i + n)) (byte_at t (j + n)) (sym (byte_of s i n l) ∙ ap (λ (f : List ℕ). slice_index f n) e ∙ byte_of t j n l))

-- ---- the name in a field: its bytes up to the last that is not zero
abbrev pub kept : ℕ → List ℕ → List ℕ
kept x [] = cond (x == 0) [] (x ∷ [])
kept x (y ∷ l) = x ∷ y ∷ l

unfoldable pub trimmed : List ℕ → List ℕ
trimmed [] = []
trimmed (x ∷ l) = kept x (trimmed l)

kept_same : (x y : ℕ) (a b : List ℕ) → kept x a ≡ kept y b → (x ≡ y) × (a ≡ b)
kept_same x y [] [] e = (go (x == 0) refl (y == 0) refl e, refl)
  where
    go : (p : Bool) → (x == 0) ≡ p → (q : Bool) → (y == 0) ≡ q → cond p [] (x ∷ []) ≡ cond q [] (y ∷ []) → x ≡ y
    go true f true g h = eqb-true x 0 f ∙ sym (eqb-true y 0 g)
    go true f false g h = cc
    go false f true g h = cc
    go false f false g h = cc
kept_same x y [] (d ∷ b) e = go (x == 0) e
  where
    go : (p : Bool) → cond p [] (x ∷ []) ≡ y ∷ d ∷ b → (x ≡ y) × ([] ≡ d ∷ b)
    go true h = (cc, cc)
    go false h = (cc, cc)
kept_same x y (c ∷ a) [] e = go (y == 0) e
  where
    go : (q : Bool) → x ∷ c ∷ a ≡ cond q [] (y ∷ []) → (x ≡ y) × (c ∷ a ≡ [])
    go true h = (cc, cc)
    go false h = (cc, cc)
kept_same x y (c ∷ a) (d ∷ b) e = (cc, cc)

-- Two fields of one length hold the same name exactly when they are equal, so names are compared by their fields.
pub trimmed_same : (a b : List ℕ) → length a ≡ length b → trimmed a ≡ trimmed b → a ≡ b
unfolding trimmed
trimmed_same [] [] h e = refl
trimmed_same [] (y ∷ b) h e = absurd (omega arith)
trimmed_same (x ∷ a) [] h e = absurd (omega arith)
trimmed_same (x ∷ a) (y ∷ b) h e =
    let k = kept_same x y (trimmed a) (trimmed b) e in
    let q : a ≡ b = trimmed_same a b (suc_inj h) k.1 in
    let p : x ≡ y = k.0 in
    cc
