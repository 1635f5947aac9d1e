-- Where a row's bucket was not seen, no earlier row has its name.
use Rattle.std.proofs.Common.{refl, arith}
use Rattle.laws.specs.Below.{passed_none, passed_more}
use Rattle.laws.specs.Noted.{noted_none, noted_more}
use Rattle.field.specs.Bucket.{row_bucket, unseen_fresh}
use Rattle.field.proofs.names.Names.are_distinct.Goals as goal

pub loop-i-init : goal.loop-i-init
loop-i-init c = record { passed = passed_none _ _; noted = noted_none _ refl }

pub name_ok-requires-clause-unseen : goal.name_ok-requires-clause-unseen
unfolding row_bucket
name_ok-requires-clause-unseen c = λ z. unseen_fresh _ _ _ _ c.loop-i.invariant.noted (rw (← c.place.ensures.place, ← c.bucket_of-bucket.ensures.0) z)

pub loop-i-preserved : goal.loop-i-preserved
unfolding row_bucket
loop-i-preserved c = record {
  passed = passed_more c.loop-i.invariant.passed (omega arith) (cc);
  noted = noted_more c.loop-i.invariant.noted (rw (← c.place.ensures.place) c.bucket_of-bucket.ensures.0) c.bucket_of-bucket.ensures.1;
}
