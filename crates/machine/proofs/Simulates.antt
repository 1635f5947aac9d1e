-- Two step functions run side by side: what one call keeps, a list of calls keeps. Assumes nothing.
use mathlib.Core.Path.{◌≡◌, refl}
use mathlib.Core.List.{List, [], ◌∷◌}
use Prim.Native.Nat.{ℕ, suc, ◌+◌, ◌≤◌, ◌<◌}
use native.Mathlib.Nat.{add-zero}
use native.Mathlib.Omega.{arith}
use lib.ListN.{length}
use Rattle.machine.specs.Runs.{last, answers, Each}

-- after n calls the states are related; a call of the first `most`, if H holds of it, keeps that, and both answer the same
abbrev pub Keeps : {P M C A : Type 0} → (C → P → P × A) → (C → M → M × A) → (C → Type 0) → (ℕ → P → M → Type 0) → ℕ → Type 0
Keeps {P} {M} {C} f g H I most = (n : ℕ) (c : C) (p : P) (m : M) → n < most → H c → I n p m → I (suc n) (f c p).0 (g c m).0 × ((f c p).1 ≡ (g c m).1)

pub runs : {P M C A : Type 0} (f : C → P → P × A) (g : C → M → M × A) (H : C → Type 0) (I : ℕ → P → M → Type 0) (most : ℕ) → Keeps f g H I most
    → (cs : List C) → Each H cs → (n : ℕ) (p : P) (m : M) → n + length cs ≤ most → I n p m
    → I (n + length cs) (last f cs p) (last g cs m) × (answers f cs p ≡ answers g cs m)
runs f g H I most k [] a n p m h i = (rw add-zero i, refl)
runs {A = A} f g H I most k (c ∷ cs) a n p m h i =
    let now = k n c p m (omega arith) a.0 i in
    let rest = runs f g H I most k cs a.1 (suc n) (f c p).0 (g c m).0 (omega arith) now.0 in
    let e : n + suc (length cs) ≡ suc n + length cs = omega arith in
    (rw e rest.0, cc (now.1, rest.1))
