-- A declined load leaves the arrays as they were lent; else each holds its floats of the sheet.
use Rattle.std.proofs.Common.{rules, refl, ◌≡◌}
use Rattle.laws.specs.Refused.{refused}
use Rattle.keys.specs.Loading.{load_declined, load_done}
use Rattle.keys.proofs.load.load_keys.Goals as goal

pub returns-in_err-sheet : goal.returns-in_err-sheet
returns-in_err-sheet c = load_declined _ _ _ _ _ (search rules) (search (rules, refused))

pub returns : goal.returns
returns c =
    let same : c.in_ok-sheet.sheet.bytes.now ≡ c.args.s.now = search rules in
    load_done _ _ _ _ 0 (search rules) refl _ _ _
    (rw (c.frames_at.ensures, same) at c.copy_floats.ensures)
    (rw (c.points_at-points.ensures, same) at c.copy_floats-2.ensures)
    (rw (c.points_at-points.ensures, same) at c.copy_floats-3.ensures)
