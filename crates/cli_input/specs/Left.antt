-- What a lent line leaves of its input.
use Rattle.std.specs.Prelude.{◌<◌}
use Rattle.std.specs.Borrow.{Fml, MutBor}
use Rattle.std.specs.Io.BufRead.{Rests}
use Rattle.cli_input.specs.declared.Input.{Input}
use Rattle.cli_input.specs.contracts.Input.{the_row}

-- once the line is let go, fewer bytes may still come than before
abbrev pub LeftFalls : MutBor Input → Fml
LeftFalls s = Rests the_row s (λ n. 0 < s.now.left → n.left < s.now.left)
