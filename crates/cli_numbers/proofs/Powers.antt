-- Powers that fit.
use Rattle.std.proofs.Common.{ℕ, ◌≤◌, ◌<◌, ◌^◌, arith}
use Rattle.std.proofs.Math.Pow.{pow_mono}
use Rattle.std.proofs.Math.Nat.{pow-le-pow_right, one-le-pow}

pub at_most_60 : (k : ℕ) → k ≤ 60 → 2 ^ k ≤ 1152921504606846976
at_most_60 k h = pow_mono h

pub at_most_6 : (k : ℕ) → k ≤ 6 → 10 ^ k ≤ 1000000
at_most_6 k h = pow-le-pow_right (omega arith) h

pub tens_positive : (k : ℕ) → 0 < 10 ^ k
tens_positive k = one-le-pow k 10 (omega arith)
