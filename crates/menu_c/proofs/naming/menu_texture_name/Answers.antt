-- The refusals of reading the slot come first; a name that is given is as long as a name.
use Rattle.std.proofs.Common.{refl, sym, ap, ◌∙◌, length}
use Rattle.laws.specs.Refused.{refused}
use Rattle.menu_c.specs.Long.{texture_long}
use Rattle.menu_c.specs.Naming.{texture_name_into, texture_name_out_table}
use Rattle.menu_c.proofs.Handed.{into_refused, into_given}
use Rattle.menu_readings.specs.Rows.{texture_name_table, layer_rows}
use Rattle.menu_c.proofs.naming.menu_texture_name.Goals as goal

pub hand_out-requires : goal.hand_out-requires
hand_out-requires c = ap length c.in-Ok.ensures.name ∙ texture_long _ _ _ _ _ _ (sym c.in-Ok.ensures.declined)

pub returns-in-Ok : goal.returns-in-Ok
unfolding texture_name_into texture_name_out_table texture_name_table layer_rows
returns-in-Ok c = into_given _ _ _ c.in-Ok.ensures.declined tt refl c.in-Ok.ensures.name c.hand_out.ensures

pub returns-in-Err : goal.returns-in-Err
unfolding texture_name_into texture_name_out_table
returns-in-Err c = rw c.number.ensures (into_refused _ _ _ c.in-Err.ensures.declined (refused _))
