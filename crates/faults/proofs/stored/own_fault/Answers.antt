-- The numbers were found finite.
use Rattle.std.proofs.Common.{rules, refl}
use Rattle.faults.specs.Keys.{keys_finite}
use Rattle.faults.proofs.stored.own_fault.Goals as goal

pub invariant_of-curve_tracks : goal.invariant_of-curve_tracks
invariant_of-curve_tracks c = record { stored = keys_finite c.args.sheet.checked refl (search rules) }
