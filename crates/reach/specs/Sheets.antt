-- Two sheets that differ in their keys alone, as saving leaves them: one length, and every byte before the key arrays. Assumes nothing.
use Rattle.std.specs.Prelude.{ℕ, Bool, true, ◌&&◌, List, ◌≡◌, eqb, length}
use Rattle.std.proofs.Common.{eqb-true}
use Rattle.laws.specs.Tests.{both}
use Rattle.laws.specs.Below.{all_below, all_at}
use Rattle.field.specs.Read.{byte_at}
use Rattle.sheet.specs.Sizes.{frames_at}
use Rattle.sheet.specs.Alike.{Alike}

-- byte i is the same in both
abbrev pub same_byte : List ℕ → List ℕ → ℕ → Bool
same_byte s t i = eqb (byte_at t i) (byte_at s i)

-- t agrees with the sheet s in length and before the key arrays
unfoldable pub same_sheet : List ℕ → List ℕ → Bool
same_sheet s t = eqb (length t) (length s) && all_below (frames_at s) (same_byte s t)

-- so t is s with other keys
pub same_alike : (s t : List ℕ) → same_sheet s t ≡ true → Alike s t
unfolding same_sheet
same_alike s t e =
    let h = both (eqb (length t) (length s)) (all_below (frames_at s) (same_byte s t)) e in
    record { long = eqb-true (length t) (length s) h.0; same = λ i l. eqb-true (byte_at t i) (byte_at s i) (all_at (frames_at s) (same_byte s t) i h.1 l) }
