-- `number_to` has read the digits so far.
use Rattle.std.proofs.Common.{◌≡◌, ◌<◌}
use Rattle.cli_words.specs.Numbers.{written}
use Rattle.cli_words.proofs.number.number_to.Given as goal

abbrev pub invariant-loop-b : goal.invariant-loop-b
invariant-loop-b l = record { value : l.n ≡ written l.base l.limit l.s l.b-index; below : l.n < l.limit }
