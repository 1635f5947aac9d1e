-- A file's rules as a list of tests in order, each with the fault that is told where it fails. The answer is the first failing test's fault. What follows for any
-- list: it tells nothing exactly where every test holds, and what it tells is the fault of a test that fails behind tests that hold. Assumes nothing.
use Rattle.std.specs.Prelude.{ℕ, zero, suc, Bool, true, false, ◌&&◌, ◌≡◌, refl, List, [], ◌∷◌, ◌++◌, Option, option_map, if◌then◌else◌, Result, Ok, Err, is_ok, IfErr}
use Rattle.std.proofs.Common.{sym, ap, ◌∙◌}
use Rattle.laws.specs.Tests.{both}
use Rattle.laws.specs.Below.{all_below, all_none, all_suc}
use Rattle.faults.specs.declared.fault.Fault.{Fault}
use Rattle.faults.specs.declared.fault.Number.TheVariants as number
use Rattle.faults.specs.declared.fault.Part.{Part}
use Rattle.faults.specs.declared.rules.Rule.{Rule}

-- a broken rule: what it is on, the byte offset, what is there, and the number that it was held against
abbrev pub fault : Rule → Part → ℕ → ℕ → Option ℕ → Fault
fault rule part at there wants = record { rule = rule; part = part; at = at; there = number.Whole there; wants = option_map number.Whole wants }

-- of an f32, by the bits of the two
abbrev pub float_fault : Rule → Part → ℕ → ℕ → Option ℕ → Fault
float_fault rule part at there wants = record { rule = rule; part = part; at = at; there = number.Float there; wants = option_map number.Float wants }

-- no rule is broken, or one is
abbrev pub Told : Type 0
Told = Result (Unit {0}) Fault

pub record Test : Type 0 where
  pub holds : Bool
  pub fault : Fault

-- what is asked of one field: the rule, whether it holds, then what it is on, offset, what is there and what it is held against
abbrev pub ask : Rule → Bool → Part → ℕ → ℕ → Option ℕ → Test
ask rule holds part at there wants = record { holds = holds; fault = fault rule part at there wants }

abbrev pub ask_float : Rule → Bool → Part → ℕ → ℕ → Option ℕ → Test
ask_float rule holds part at there wants = record { holds = holds; fault = float_fault rule part at there wants }

-- one thing that is asked, as code answers it
abbrev pub asked : Bool → Fault → Told
asked b f = if b then Ok tt else Err f

-- the fault of the first test that fails
unfoldable pub verdict : List Test → Told
verdict [] = Ok tt
verdict (t ∷ ts) = if t.holds then verdict ts else Err t.fault

-- each test holds
unfoldable pub all_hold : List Test → Bool
all_hold [] = true
all_hold (t ∷ ts) = t.holds && all_hold ts

-- the tests of the rows 0 to n - 1
unfoldable pub each_below : ℕ → (ℕ → List Test) → List Test
each_below zero g = []
each_below (suc n) g = each_below n g ++ g n

-- f is the fault of a test that fails, and each test before that one holds
pub data Broken (f : Fault) : List Test → Type 0 where
  here : (t : Test) (ts : List Test) → t.holds ≡ false → f ≡ t.fault → Broken f (t ∷ ts)
  later : (t : Test) (ts : List Test) → t.holds ≡ true → Broken f ts → Broken f (t ∷ ts)

-- r is what the tests tell: it accepts exactly where `ok`, and else is the fault of the first test that fails
pub record Tells (ok : Bool) (ts : List Test) (r : Told) : Type 0 where
  pub first : r ≡ verdict ts
  pub exact : is_ok r ≡ ok
  pub sound : ok ≡ true → r ≡ Ok tt
  pub broken : IfErr r (λ f. Broken f ts)

-- the first of two faults, if it is one
unfoldable pub or_else : Told → Told → Told
or_else (Ok x) g = g
or_else (Err f) g = Err f

-- ---- every test holds, or the first that fails is told

pub and_assoc : (a b c : Bool) → (a && b && c) ≡ (a && (b && c))
and_assoc true b c = refl
and_assoc false b c = refl

pub and_unit : (a : Bool) → (a && true) ≡ a
and_unit true = refl
and_unit false = refl

pub held_none : (ts : List Test) → all_hold ts ≡ true → verdict ts ≡ Ok tt
unfolding verdict all_hold
held_none [] h = refl
held_none (t ∷ ts) h = let b = both t.holds (all_hold ts) h in rw b.0 (held_none ts b.1)

pub first_broken : (ts : List Test) → IfErr (verdict ts) (λ f. Broken f ts)
unfolding verdict
first_broken [] = tt
first_broken (t ∷ ts) = go t.holds refl (verdict ts) (first_broken ts)
  where
    go : (b : Bool) → t.holds ≡ b → (r : Told) → IfErr r (λ f. Broken f ts) → IfErr (if b then r else Err t.fault) (λ f. Broken f (t ∷ ts))
    go true e (Ok x) w = tt
    go true e (Err f) w = later t ts e w
    go false e r w = here t ts e refl

-- ---- two lists, and rows

pub hold_join : (xs ys : List Test) → all_hold (xs ++ ys) ≡ (all_hold xs && all_hold ys)
unfolding all_hold
hold_join [] ys = refl
hold_join (t ∷ xs) ys = rw (hold_join xs ys) (sym (and_assoc t.holds (all_hold xs) (all_hold ys)))

pub hold_each : (n : ℕ) (g : ℕ → List Test) → all_hold (each_below n g) ≡ all_below n (λ i. all_hold (g i))
unfolding each_below all_hold
hold_each zero g = sym (all_none (λ i. all_hold (g i)))
hold_each (suc n) g = hold_join (each_below n g) (g n) ∙ rw (hold_each n g) (sym (all_suc n (λ i. all_hold (g i))))

-- the first list decides where it tells a fault, else the second
pub fault_join : (xs ys : List Test) → verdict (xs ++ ys) ≡ or_else (verdict xs) (verdict ys)
unfolding verdict or_else
fault_join [] ys = refl
fault_join (t ∷ xs) ys = go t.holds (fault_join xs ys)
  where
    go : (b : Bool) → verdict (xs ++ ys) ≡ or_else (verdict xs) (verdict ys)
        → (if b then verdict (xs ++ ys) else Err t.fault) ≡ or_else (if b then verdict xs else Err t.fault) (verdict ys)
    go true h = h
    go false h = refl

-- where the first tests hold, the others decide; where one of them fails, they do
pub held_join : (xs ys : List Test) → all_hold xs ≡ true → verdict (xs ++ ys) ≡ verdict ys
unfolding or_else
held_join xs ys h = fault_join xs ys ∙ rw (held_none xs h)

-- ---- whether a fault is told

-- none is told exactly where each test holds
pub told_exact : (ts : List Test) → is_ok (verdict ts) ≡ all_hold ts
unfolding verdict all_hold
told_exact [] = refl
told_exact (t ∷ ts) = go t.holds (told_exact ts)
  where
    go : (b : Bool) → is_ok (verdict ts) ≡ all_hold ts → is_ok (if b then verdict ts else Err t.fault) ≡ (b && all_hold ts)
    go true h = h
    go false h = refl

pub accepts : (ts : List Test) → verdict ts ≡ Ok tt → all_hold ts ≡ true
accepts ts e = sym (told_exact ts) ∙ ap (λ (r : Told). is_ok r) e

pub other_failed : (ts : List Test) → (verdict ts ≡ Ok tt → ⊥) → all_hold ts ≡ false
other_failed ts n = go (all_hold ts) refl
  where
    go : (b : Bool) → all_hold ts ≡ b → b ≡ false
    go true h = absurd (n (held_none ts h))
    go false h = refl

pub failed_join : (xs ys : List Test) → all_hold xs ≡ false → verdict (xs ++ ys) ≡ verdict xs
unfolding or_else
failed_join xs ys h = fault_join xs ys ∙ go (verdict xs) (told_exact xs ∙ h)
  where
    go : (r : Told) → is_ok r ≡ false → or_else r (verdict ys) ≡ r
    go (Ok x) e = cc
    go (Err f) e = refl

-- ---- what is told, whole

pub tells : (ts : List Test) {ok : Bool} {r : Told} → all_hold ts ≡ ok → r ≡ verdict ts → Tells ok ts r
tells ts {r = r} h e =
    record {
      first = e;
      exact = ap (λ (r : Told). is_ok r) e ∙ told_exact ts ∙ h;
      sound = λ q. e ∙ held_none ts (h ∙ q);
      broken = rw e (first_broken ts);
    }

-- an answer that tells nothing accepts
pub accepted : {ok : Bool} {ts : List Test} {r : Told} → Tells ok ts r → r ≡ Ok tt → ok ≡ true
accepted w z = sym w.exact ∙ ap (λ (r : Told). is_ok r) z

-- and any other declines
pub declined : {ok : Bool} {ts : List Test} {r : Told} → Tells ok ts r → (r ≡ Ok tt → ⊥) → ok ≡ false
declined {ok} w n = go ok refl
  where
    go : (b : Bool) → ok ≡ b → b ≡ false
    go true h = absurd (n (w.sound h))
    go false h = refl
