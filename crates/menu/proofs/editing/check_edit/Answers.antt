-- The rows before the track's hold, and one of the track's declines.
use Rattle.std.proofs.Common.{◌≡◌, refl, rules, Err}
use Rattle.laws.specs.Refused.{refused}
use Rattle.laws.specs.Rows.{goes, stops}
use Rattle.edit.specs.Edit.{track_rows, edit_rows}
use Rattle.menu_checks.specs.Rows.{state_rows}
use Rattle.menu_checks.specs.Lent.{keys_of}
use Rattle.menu.specs.Rows.{edit_table}
use Rattle.menu.proofs.editing.check_edit.Goals as goal

pub returns-in_err-check_track-clause-declined : goal.returns-in_err-check_track-clause-declined
unfolding edit_table edit_rows
returns-in_err-check_track-clause-declined c =
    let s = c.args.lent.sheet.now in
    let p = c.args.p.now in
    let ks = keys_of c.args.lent in
    let own = track_rows s p.selection p.drag.«open» c.args.track c.args.key in
    let q : c.from_residual-in_err-check_track.result ≡ Err c.in_err-check_track.field-0.0 = search rules in
    rw q (goes (state_rows s p ks) _ tt c.in_ok-ready.ensures.declined refl (stops own _ (rw c.in_ok-ready.ensures.lent.sheet at c.in_err-check_track.ensures) (refused _)))
