-- The number of the four bytes' pattern; it is finite, so its bits are kept.
use Rattle.std.proofs.Common.{sym, ap, ◌∙◌}
use Rattle.float.specs.Numbers.{#}
use Rattle.float.specs.Bits.{finite_bits, finite_no_nan}
use Rattle.field.specs.Read.{finite_at, float_at}
use Rattle.field.proofs.f32_at.Goals as goal

-- a finite pattern is no NaN's
pub float_from_bits-result : goal.float_from_bits-result
unfolding finite_at float_at
float_from_bits-result c = rw c.u32_at.ensures (finite_no_nan _ (sym (finite_bits _) ∙ c.requires.1))

pub returns : goal.returns
unfolding float_at
returns c = ap # c.u32_at.ensures
