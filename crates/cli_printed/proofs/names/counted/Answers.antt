-- `counted` ends behind the last byte that is not 0.
use Rattle.std.proofs.Common.{rules, arith, ◌≡◌, ◌==◌, ◌-◌, ◌<◌, ◌≤◌, ◌+◌, length, ℕ, Bool, true, false, get_or}
use Rattle.std.specs.List.{suffix_len}
use Rattle.std.proofs.lemmas.List.Sums.{suffix_len_is}
use Rattle.cli_printed.proofs.names.counted.Goals as goal

pub returns-in-Some : goal.returns-in-Some
returns-in-Some c =
    let field = c.args.field.now in
    let last = c.in-Some.last in
    let zero : ℕ → Bool = λ b. b == 0 in
    let inside : last + 1 ≤ length field = search rules in
    let behind : (k : ℕ) → last + 1 ≤ k → k < length field → zero (get_or field k 0) ≡ true = search rules in
    let here : 0 < last + 1 → zero (get_or field (last + 1 - 1) 0) ≡ false = search rules in
    let zeros : suffix_len zero field ≡ length field - (last + 1) = suffix_len_is zero field (last + 1) 0 inside behind here in
    let ends : length field - suffix_len zero field ≡ last + 1 = omega (arith, zeros) in
    rw ends

pub returns-in-None : goal.returns-in-None
returns-in-None c =
    let field = c.args.field.now in
    let zero : ℕ → Bool = λ b. b == 0 in
    let behind : (k : ℕ) → 0 ≤ k → k < length field → zero (get_or field k 0) ≡ true = search rules in
    let zeros : suffix_len zero field ≡ length field - 0 = suffix_len_is zero field 0 0 (omega arith) behind (λ h. absurd (omega arith)) in
    let ends : length field - suffix_len zero field ≡ 0 = omega (arith, zeros) in
    rw ends
