use Rattle.std.proofs.Common.{◌*◌, ◌≤◌, ◌≡◌}
use Rattle.laws.specs.Below.{Passed}
use Rattle.laws.specs.Sum.{sum_below}
use Rattle.sheet.specs.Sheet.{keys_of, target_ok}
use Rattle.sheet.specs.Tested.{prior, content_of}
use Rattle.sheet.proofs.layout.targets_ok.Given as goal

-- the rows so far passed, sum is the sum of their counts, which are below 65,536, and last is the content of the one before
abbrev pub invariant-loop-i : goal.invariant-loop-i
invariant-loop-i l = record {
  passed : Passed l.n (target_ok l.s l.base l.c) l.i;
  summed : l.sum ≡ sum_below l.i (keys_of l.s l.base);
  small : l.sum ≤ l.i * 65535;
  before : l.last ≡ prior (content_of l.s l.base) l.i;
}
