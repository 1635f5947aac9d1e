-- The test of the length is the definition's, and each pair of the set is transformed.
use borrow.Author.Tests.{le-leb, lt-leb}
use Rattle.uv.specs.Sets.{set_transformed, set_made}
use Rattle.uv.proofs.block.transform_set.Goals as goal

pub returns-then-layer-srts : goal.returns-then-layer-srts
returns-then-layer-srts c = set_made _ _ _ (le-leb _ _ c.if-layer-srts.true) c.srt_at-srt.ensures c.srt_turn-turn.ensures c.transform_uv_srt-a.ensures c.transform_uv_srt-b.ensures
    c.transform_uv_srt-c.ensures c.transform_uv_srt-d.ensures

pub returns : goal.returns
unfolding set_transformed
returns c = rw (lt-leb _ _ c.if-layer-srts.false)
