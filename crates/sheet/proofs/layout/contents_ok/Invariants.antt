use Rattle.std.proofs.Common.{◌≡◌}
use Rattle.laws.specs.Below.{Passed}
use Rattle.sheet.specs.Sheet.{content_ok}
use Rattle.sheet.specs.Tested.{prior, animation_of}
use Rattle.sheet.proofs.layout.contents_ok.Given as goal

-- the rows so far passed, and last is the animation of the one before
abbrev pub invariant-loop-i : goal.invariant-loop-i
invariant-loop-i l = record {
  passed : Passed l.n (content_ok l.s l.base l.a) l.i;
  before : l.last ≡ prior (animation_of l.s l.base) l.i;
}
