-- A name is empty exactly when its three words are 0, since the slice holds bytes.
use Rattle.std.proofs.Common.{arith}
use Rattle.field.specs.Word.{empty_words}
use Rattle.field.proofs.empty_name.Goals as goal

pub returns : goal.returns
returns c = let a = c.args in rw (empty_words a.s.now (λ k. omega (arith, c.type_inv.s k)) a.at) (cc)
