-- No row has the bucket, so none has the name; a row that has the name is the only one.
use Rattle.std.proofs.Common.{sym, ◌∙◌, arith}
use Rattle.field.specs.Index.{unindexed, first_named}
use Rattle.field.proofs.names.Names.find_indexed.Goals as goal

pub returns-then-k-eq0 : goal.returns-then-k-eq0
returns-then-k-eq0 c = unindexed _ _ _ _ _ _ c.requires.indexed (rw (← c.bucket_of.ensures.0) c.if-k-eq0.true)

pub returns-then-same_name : goal.returns-then-same_name
returns-then-same_name c =
    first_named _ _ _ _ _ _ _ c.requires.distinct (omega (arith, c.if-k-self.true))
    (rw (← c.place.ensures.place) (sym c.same_name.ensures ∙ c.if-same_name.true))
