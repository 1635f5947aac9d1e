-- A number within a list counts elements of it. Assumes nothing.
use Rattle.std.specs.Prelude.{ℕ, ◌≤◌, List, length}
use Rattle.std.proofs.Common.{sym, length-take-le}
use Rattle.io.specs.Counts.{IsPrefixLen}

pub counts : (n : ℕ) (xs : List ℕ) → n ≤ length xs → IsPrefixLen n xs
counts n xs l = (l, sym (length-take-le n xs l))
