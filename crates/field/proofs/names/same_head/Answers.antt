-- The first words are the same exactly where the first eight bytes are.
use Rattle.std.proofs.Common.{arith}
use Rattle.field.specs.Word.{first_word, other_first}
use Rattle.field.proofs.names.same_head.Goals as goal

pub returns : goal.returns
returns c =
    let a = c.args in
    record {
      other = λ e. other_first a.s.now a.t.now (λ k. omega (arith, c.type_inv.s k)) (λ k. omega (arith, c.type_inv.t k)) a.i a.j (rw (c.word_at.ensures, c.word_at-2.ensures) at e);
      same = λ e. first_word a.s.now a.t.now (λ k. omega (arith, c.type_inv.s k)) (λ k. omega (arith, c.type_inv.t k)) a.i a.j (rw (c.word_at.ensures, c.word_at-2.ensures) at e);
    }
