-- `hand_out` gives `written_by`, its outputs included: the name, where each row of the call holds.
use lib.Seq.{take-length}
use Rattle.std.proofs.Common.{◌≡◌, sym, ◌∙◌, length, arith}
use Rattle.field.specs.Name.{name_bytes}
use Rattle.menu_c.proofs.Handed.{handed}
use Rattle.menu_c.proofs.naming.hand_out.Goals as goal

pub returns : goal.returns
returns c =
    let as_long : length c.args.out.now ≡ name_bytes = omega arith in
    handed _ _ c.requires as_long (c.copy.ensures ∙ sym (rw take-length))
