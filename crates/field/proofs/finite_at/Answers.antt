-- The exponent's eight bits are all ones exactly in an infinity and in a NaN.
use Rattle.std.proofs.Common.{ℕ, not, eqb, sym, ap, ◌∙◌}
use Rattle.float.specs.Bits.{exponent, finite_bits}
use Rattle.field.specs.Read.{finite_at, float_at}
use Rattle.field.proofs.finite_at.Goals as goal

-- a pattern is finite by its exponent's field
pub returns : goal.returns
unfolding finite_at float_at
returns c = ap (λ (n : ℕ). not (eqb (exponent n) 255)) c.u32_at.ensures ∙ sym (finite_bits _)
