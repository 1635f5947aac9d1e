-- The three words are summed and the sum is hashed, as the definition says.
use Rattle.field.specs.Bucket.{bucket_of, hash_of, hash_below}
use Rattle.field.proofs.bucket_of.Goals as goal

pub returns : goal.returns
unfolding bucket_of hash_of
returns c = (cc, hash_below c.wrapping_add_u64-sum.result)
