-- A list of calls, run one after the other: the last state, and all answers in order; and what holds of each call. Definitions only.
use Rattle.std.specs.Prelude.{List, [], ◌∷◌}

abbrev pub last : {S C A : Type 0} → (C → S → S × A) → List C → S → S
last f [] s = s
last f (c ∷ cs) s = last f cs (f c s).0

abbrev pub answers : {S C A : Type 0} → (C → S → S × A) → List C → S → List A
answers f [] s = []
answers f (c ∷ cs) s = (f c s).1 ∷ answers f cs (f c s).0

-- P holds of each
abbrev pub Each : {C : Type 0} → (C → Type 0) → List C → Type 0
Each P [] = Unit {0}
Each P (c ∷ cs) = P c × Each P cs
