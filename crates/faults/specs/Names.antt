-- The rules on floats in a row and on the names of a table's rows (document 01, "Sheet and book") as lists of tests, for panes and for materials. Definitions, and
-- the laws that all of them hold exactly where the definitions of the crate field do.
use Rattle.std.specs.Prelude.{ℕ, ◌+◌, ◌*◌, List, [], ◌∷◌, not, ◌≡◌, None, Some}
use Rattle.laws.specs.Below.{all_same}
use Rattle.field.specs.Read.{byte_at, u32_at, finite_in, finite_row}
use Rattle.field.specs.Name.{empty_name, other_name, name_ok, names_ok}
use Rattle.faults.specs.declared.rules.Rule.{Rule}
use Rattle.faults.specs.declared.fault.Part.TheVariants as part
use Rattle.faults.specs.Tests.{Test, ask, ask_float, all_hold, each_below, and_unit, hold_each}

-- the k-th f32 of those from `at` on, in row i: finite
unfoldable pub float_test : List ℕ → Rule → ℕ → ℕ → ℕ → List Test
float_test b rule i at k = ask_float rule (finite_in b at k) (part.Row i) (at + k * 4) (u32_at b (at + k * 4)) None ∷ []

-- row i has another name than row j
unfoldable pub twice_test : List ℕ → Rule → ℕ → ℕ → ℕ → ℕ → List Test
twice_test b rule base stride i j = ask rule (other_name b base stride i j) (part.Row i) (base + i * stride) (byte_at b (base + i * stride)) (Some j) ∷ []

-- row i has a name, and no earlier row has the same
unfoldable pub name_tests : List ℕ → Rule → Rule → ℕ → ℕ → ℕ → List Test
name_tests b empty twice base stride i =
    ask empty (not (empty_name b (base + i * stride))) (part.Row i) (base + i * stride) (byte_at b (base + i * stride)) None
    ∷ each_below i (twice_test b twice base stride i)

-- ---- all tests hold

pub floats_hold : (b : List ℕ) (rule : Rule) (i at n : ℕ) → all_hold (each_below n (float_test b rule i at)) ≡ finite_row b at n
unfolding float_test finite_row all_hold
floats_hold b rule i at n = rw (hold_each n (float_test b rule i at)) (all_same n _ _ (λ k l. and_unit (finite_in b at k)))

pub name_holds : (b : List ℕ) (empty twice : Rule) (base stride i : ℕ) → all_hold (name_tests b empty twice base stride i) ≡ name_ok b base stride i
unfolding name_tests twice_test name_ok all_hold
name_holds b empty twice base stride i = rw (hold_each i (twice_test b twice base stride i), all_same i _ _ (λ j l. and_unit (other_name b base stride i j)))

pub names_hold : (b : List ℕ) (empty twice : Rule) (base stride n : ℕ) → all_hold (each_below n (name_tests b empty twice base stride)) ≡ names_ok b base stride n
unfolding names_ok
names_hold b empty twice base stride n = rw (hold_each n (name_tests b empty twice base stride)) (all_same n _ _ (λ i l. name_holds b empty twice base stride i))
