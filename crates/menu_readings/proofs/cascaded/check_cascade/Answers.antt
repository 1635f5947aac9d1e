-- Where a row that every reading asks declines, the call does.
use Rattle.std.proofs.Common.{◌≡◌, rules, Err}
use Rattle.laws.specs.Refused.{refused}
use Rattle.laws.specs.Rows.{stops}
use Rattle.menu_checks.specs.Lent.{keys_of}
use Rattle.menu_checks.specs.Rows.{reading_rows}
use Rattle.menu_readings.specs.Rows.{cascade_table}
use Rattle.menu_readings.proofs.cascaded.check_cascade.Goals as goal

pub returns-in_err-menu-clause-declined : goal.returns-in_err-menu-clause-declined
unfolding cascade_table
returns-in_err-menu-clause-declined c =
    let q : c.from_residual.result ≡ Err c.in_err-menu.field-0.0 = search rules in
    rw q (stops (reading_rows c.args.lent.sheet.now c.args.b.now c.args.p.now (keys_of c.args.lent)) _ c.in_err-menu.ensures.declined (refused _))
