-- What a call is lent, and what is ready once it has been checked. Definitions only.
use Rattle.std.specs.Prelude.{◌≡◌}
use Rattle.keys.specs.declared.ready.Ready.{Ready}
use Rattle.edit.specs.Keys.{Keys, keys}
use Rattle.menu_checks.specs.declared.lent.Lent.{Lent}

-- the keys that three lent arrays hold
abbrev pub keys_of : Lent → Keys
keys_of l = keys l.frames.now l.values.now l.slopes.now

-- the sheet and the keys that are ready are those that were lent
pub record IsOf (r : Ready) (l : Lent) : Type 0 where
  pub sheet : r.sheet.bytes.now ≡ l.sheet.now
  pub frames : r.keys.frames.now ≡ l.frames.now
  pub values : r.keys.values.now ≡ l.values.now
  pub slopes : r.keys.slopes.now ≡ l.slopes.now
