-- The refusals of asking for the name come first; a name that is given is as long as a name.
use Rattle.std.proofs.Common.{refl, sym, ap, ◌∙◌, length}
use Rattle.laws.specs.Refused.{refused}
use Rattle.menu_c.specs.Long.{next_long}
use Rattle.menu_c.specs.Naming.{next_name_into, next_name_out_table}
use Rattle.menu_c.proofs.Handed.{into_refused, into_given}
use Rattle.menu.specs.Rows.{next_name_table}
use Rattle.menu_c.proofs.naming.menu_next_name.Goals as goal

pub hand_out-requires : goal.hand_out-requires
hand_out-requires c = ap length c.in-Ok.ensures.name ∙ next_long _ _ (sym c.in-Ok.ensures.declined)

pub returns-in-Ok : goal.returns-in-Ok
unfolding next_name_into next_name_out_table next_name_table
returns-in-Ok c = into_given _ _ _ c.in-Ok.ensures.declined tt refl c.in-Ok.ensures.name c.hand_out.ensures

pub returns-in-Err : goal.returns-in-Err
unfolding next_name_into next_name_out_table
returns-in-Err c = rw c.number.ensures (into_refused _ _ _ c.in-Err.ensures.declined (refused _))
