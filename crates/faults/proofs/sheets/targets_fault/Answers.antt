-- Before the first row no count is summed; after the last the sum is asked for.
use Rattle.std.proofs.Common.{ℕ, List, arith, sym, ◌≡◌, nat_eq}
use Rattle.laws.specs.Sum.{sum_none, sum_below}
use Rattle.sheet.specs.Sheet.{keys_of}
use Rattle.std.specs.Prelude.{Some}
use Rattle.faults.specs.declared.rules.Rule.TheVariants as rule
use Rattle.faults.specs.declared.fault.Part.TheVariants as part
use Rattle.faults.specs.Tests.{fault, verdict, asked}
use Rattle.faults.specs.Verdict.{each_none, first_accepts}
use Rattle.faults.specs.Sheet.{targets_tests, count_test}
use Rattle.faults.proofs.sheets.targets_fault.Goals as goal

counted : (s : List ℕ) (base n k sum : ℕ) → sum ≡ sum_below n (keys_of s base) → asked (nat_eq sum k) (fault rule.CountSum part.Whole 6 k (Some sum)) ≡ verdict (count_test s base n k)
unfolding verdict count_test
counted s base n k sum e = rw e

pub loop-i-init : goal.loop-i-init
loop-i-init c = record { kept = each_none _; summed = sym (sum_none _); small = omega arith }

pub returns : goal.returns
unfolding targets_tests
returns c =
    let e : c.loop-i.i ≡ c.args.n = omega arith in
    let h = c.loop-i.invariant in
    rw (first_accepts _ _ (rw e at h.kept), c.ask.ensures, c.of.ensures) (counted _ _ _ _ _ (rw e at h.summed))
