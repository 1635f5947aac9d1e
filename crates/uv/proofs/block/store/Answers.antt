use Rattle.std.proofs.Common.{subst, refl, ℕ, arith}
use Rattle.laws.specs.Table.{Filled, filled_none}
use Rattle.uv.specs.Uvs.{number_of}
use Rattle.uv.specs.Layers.{pair_stored}
use Rattle.uv.proofs.block.store.Goals as goal

pub loop-i-init : goal.loop-i-init
loop-i-init c = subst (λ (n : ℕ). Filled n (number_of c.args.uvs) c.args.out.now 0) c.requires (filled_none _ _)

pub loop-i-preserved : goal.loop-i-preserved
loop-i-preserved c = pair_stored _ _ c.loop-i.invariant (omega arith) refl refl
