-- Each corner has its pair of each of the three sets.
use Rattle.uv.specs.Sets.{sets_base}
use Rattle.uv.proofs.block.compute_uvs.Goals as goal

pub returns : goal.returns
returns c = rw (c.get_uv_set-a.ensures, c.get_uv_set-b.ensures, c.get_uv_set-c.ensures) (sets_base _)
