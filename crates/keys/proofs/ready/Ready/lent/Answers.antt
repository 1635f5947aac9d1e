-- What passed the two rows is one length, and keeps the key rules.
use Rattle.std.proofs.Common.{rules, arith, ◌≡◌}
use Rattle.laws.specs.Rows.{declines}
use Rattle.keys.specs.Load.{lent_rows}
use Rattle.keys.specs.Loading.{lent_checked}
use Rattle.keys.proofs.ready.Ready.lent.Goals as goal

pub invariant_of-keys : goal.invariant_of-keys
invariant_of-keys c =
    let a = c.args in
    let e : declines (lent_rows a.sheet.bytes.now a.frames.now a.values.now a.slopes.now) ≡ 0 = search rules in
    let w = lent_checked _ _ _ _ e in
    record { values_long = omega (arith, w.values, w.frames); slopes_long = omega (arith, w.slopes, w.frames) }

pub invariant_of-result : goal.invariant_of-result
invariant_of-result c = record { ready = lent_checked _ _ _ _ (search rules) }
