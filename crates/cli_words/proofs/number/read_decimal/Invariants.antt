-- `read_decimal` has read the bytes so far.
use Rattle.std.proofs.Common.{◌≡◌, ◌<◌}
use Rattle.cli_words.specs.Numbers.{decimal_of}
use Rattle.cli_words.proofs.number.read_decimal.Given as goal

abbrev pub invariant-loop-b : goal.invariant-loop-b
invariant-loop-b l = record { value : l.d ≡ decimal_of l.s l.b-index; digits : l.d.digits < 16777216; scale : l.d.scale < 16777216 }
