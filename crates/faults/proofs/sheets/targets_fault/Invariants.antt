use Rattle.std.proofs.Common.{◌≡◌, ◌*◌, ◌≤◌}
use Rattle.std.specs.Prelude.{Ok}
use Rattle.laws.specs.Sum.{sum_below}
use Rattle.sheet.specs.Sheet.{keys_of}
use Rattle.faults.specs.Tests.{verdict, each_below}
use Rattle.faults.specs.Sheet.{target_tests}
use Rattle.faults.proofs.sheets.targets_fault.Given as goal

-- the targets so far break no rule, and sum is the sum of their counts
abbrev pub invariant-loop-i : goal.invariant-loop-i
invariant-loop-i l = record {
  kept : verdict (each_below l.i (target_tests l.s l.base l.c)) ≡ Ok tt;
  summed : l.sum ≡ sum_below l.i (keys_of l.s l.base);
  small : l.sum ≤ l.i * 65535;
}
