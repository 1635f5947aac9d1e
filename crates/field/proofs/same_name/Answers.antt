-- Two fields hold one name exactly when their three words of eight bytes are the same.
use Rattle.std.proofs.Common.{arith}
use Rattle.field.specs.Word.{same_words}
use Rattle.field.proofs.same_name.Goals as goal
use Rattle.field.proofs.same_name.Goals.{then-word_at, else-word_at}

pub returns-then-word_at-2 : goal.returns-then-word_at-2
returns-then-word_at-2 c =
    let a = c.args in
    let e = same_words a.s.now a.t.now (λ k. omega (arith, c.type_inv.s k)) (λ k. omega (arith, c.type_inv.t k)) a.i a.j in
    elim c.if-word_at.branch [ then-word_at w ↦ grind arith | else-word_at w ↦ grind arith ]

pub returns-else-word_at-2 : goal.returns-else-word_at-2
returns-else-word_at-2 c =
    let a = c.args in
    let e = same_words a.s.now a.t.now (λ k. omega (arith, c.type_inv.s k)) (λ k. omega (arith, c.type_inv.t k)) a.i a.j in
    elim c.if-word_at.branch [ then-word_at w ↦ grind arith | else-word_at w ↦ grind arith ]
