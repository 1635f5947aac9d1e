-- The last words are the same exactly where the last eight bytes are.
use Rattle.std.proofs.Common.{arith}
use Rattle.field.specs.Name.{same_name}
use Rattle.field.specs.Word.{other_last, ends_same}
use Rattle.field.proofs.names.same_tail.Goals as goal

pub returns : goal.returns
unfolding same_name
returns c =
    let a = c.args in
    record {
      other = λ e. other_last a.s.now a.t.now (λ k. omega (arith, c.type_inv.s k)) (λ k. omega (arith, c.type_inv.t k)) a.i a.j (rw (c.word_at.ensures, c.word_at-2.ensures) at e);
      same = λ e p. ends_same a.s.now a.t.now (λ k. omega (arith, c.type_inv.s k)) (λ k. omega (arith, c.type_inv.t k)) a.i a.j 16 p (omega arith) (rw (c.word_at.ensures, c.word_at-2.ensures) at e);
    }
