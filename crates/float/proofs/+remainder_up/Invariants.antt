-- With each call t is twice as large.
use Rattle.std.proofs.Common.{◌+◌, ◌-◌}
use lib.Ieee.{binary32}
use Rattle.float.specs.Rank.{mid, rank}
use Rattle.float.proofs.+remainder_up.Given as goal

abbrev pub decreases-remainder_up : goal.decreases-remainder_up
decreases-remainder_up l = mid binary32 + mid binary32 - rank binary32 l.t
