use Rattle.std.proofs.Common.{◌≡◌, ℕ, List}
use Rattle.std.specs.Prelude.{Ok}
use Rattle.faults.specs.Tests.{Test, verdict, each_below}
use Rattle.faults.specs.Verdict.{Answers}
use Rattle.faults.proofs.walk.each.Given as goal

-- the rows so far break no rule
abbrev pub invariant-loop-i : goal.invariant-loop-i
invariant-loop-i g l = (t : ℕ → List Test) → Answers l.n (goal.F-post g l.row) t → verdict (each_below l.i t) ≡ Ok tt
