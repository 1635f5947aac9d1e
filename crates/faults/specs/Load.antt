-- A sheet with its keys, as loading takes it: the rules of its layout, and then those of its keys. Definitions, and what the code's two steps tell.
use Rattle.std.specs.Prelude.{List, ◌++◌, Bool, ◌&&◌, ◌≡◌, ℕ, Ok}
use Rattle.std.proofs.Math.Bool.{true, false}
use Rattle.std.proofs.Math.Path.{refl, sym}
use Rattle.std.proofs.Common.{◌∙◌}
use Rattle.sheet.specs.Sheet.{sheet_ok}
use Rattle.sheet.specs.Checked.{Checked, checked}
use Rattle.keys.specs.Rules.{key_rules}
use Rattle.keys.specs.Stored.{stored_frames, stored_values, stored_slopes}
use Rattle.faults.specs.Tests.{Told, Test, verdict, all_hold, Tells, hold_join, held_join, failed_join, tells, accepted, declined}
use Rattle.faults.specs.Sheet.{sheet_tests, sheet_holds}
use Rattle.faults.specs.Keys.{keys_tests, keys_hold}

-- the layout's tests, then the keys'
unfoldable pub load_tests : List ℕ → List Test
load_tests s = sheet_tests s ++ keys_tests s

-- what loading asks of the sheet: its layout (row 1 of document 01's table), and the key rules of its own keys (row 4)
unfoldable pub load_ok : List ℕ → Bool
load_ok s = sheet_ok s && key_rules s (stored_frames s) (stored_values s) (stored_slopes s)

load_holds : (s : List ℕ) → all_hold (load_tests s) ≡ load_ok s
unfolding load_tests load_ok
load_holds s = rw (hold_join, sheet_holds s) (go (sheet_ok s) refl)
  where
    go : (b : Bool) → sheet_ok s ≡ b → (b && all_hold (keys_tests s)) ≡ (b && key_rules s (stored_frames s) (stored_values s) (stored_slopes s))
    go true q = keys_hold (checked s q)
    go false q = refl

pub load_told : (s : List ℕ) {r : Told} → r ≡ verdict (load_tests s) → Tells (load_ok s) (load_tests s) r
load_told s e = tells (load_tests s) (load_holds s) e

-- ---- the answer, step by step

module _ (s : List ℕ) {f : Told} (w : Tells (sheet_ok s) (sheet_tests s) f) where
  pub load_checked : f ≡ Ok tt → Checked s
  load_checked z = checked s (accepted w z)

  -- the layout is broken
  pub load_layout : (f ≡ Ok tt → ⊥) → Tells (load_ok s) (load_tests s) f
  unfolding load_tests
  load_layout n = load_told s (w.first ∙ sym (failed_join (sheet_tests s) (keys_tests s) (sheet_holds s ∙ declined w n)))

  -- the layout is kept, and the keys decide
  pub load_keys : {r : Told} → f ≡ Ok tt → Tells (key_rules s (stored_frames s) (stored_values s) (stored_slopes s)) (keys_tests s) r → Tells (load_ok s) (load_tests s) r
  unfolding load_tests
  load_keys z k = load_told s (k.first ∙ sym (held_join (sheet_tests s) (keys_tests s) (sheet_holds s ∙ accepted w z)))
