-- A law on texts: what was read back is shown. Assumes nothing.
use Rattle.std.specs.Prelude.{◌≡◌, ℕ, true, List, Float, Option, Some}
use Rattle.std.proofs.Common.{sym, ap, ◌∙◌}
use Rattle.float.specs.Numbers.{same_bits}
use Rattle.cli_words.specs.Numbers.{number_of}
use Rattle.cli_numbers.specs.Text.{Shown, is_bits}

-- a text that reads as y, which has the bits of x
pub shown_back : (x y : Float) (text : List ℕ) {m : Option Float} → m ≡ number_of text → m ≡ Some y → same_bits x y ≡ true → Shown x text
shown_back x y text e h b = ap (is_bits x) (sym e ∙ h) ∙ b
