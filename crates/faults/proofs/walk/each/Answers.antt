-- A row that accepts is one more that breaks no rule; one that tells a fault is the first.
use Rattle.std.proofs.Common.{rules, arith, sym, ◌∙◌, ◌≡◌}
use Rattle.std.specs.Prelude.{Err}
use Rattle.faults.specs.Verdict.{each_none, each_more, each_tells}
use Rattle.faults.proofs.walk.each.Goals as goal

pub loop-i-init : goal.loop-i-init
loop-i-init g c = λ t h. each_none t

pub loop-i-preserved : goal.loop-i-preserved
loop-i-preserved g c = λ t h. each_more _ t (c.loop-i.invariant t h) (sym (h _ _ (omega arith) c.in_ok-row.ensures))

pub returns-in_err-row : goal.returns-in_err-row
returns-in_err-row g c =
    let e : c.from_residual.result ≡ Err c.in_err-row.field-0.0 = search rules in
    λ t h. e ∙ sym (each_tells _ _ t _ (omega arith) (c.loop-i.invariant t h) (sym (h _ _ (omega arith) c.in_err-row.ensures)))
