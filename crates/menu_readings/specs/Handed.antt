-- What C is handed of a reading: the number, and nothing beside a refusal. Definitions only.
use Rattle.std.specs.Prelude.{Result, Ok, Err}
use Rattle.laws.specs.declared.refusal.Refusal.{Refusal}
use Rattle.laws.specs.Refusal.{number}
use Rattle.reading.specs.declared.Reading.{Reading}
use Rattle.reading.specs.declared.Reading.TheVariants.{Nothing}
use Rattle.menu_readings.specs.declared.single.ReadOne.{ReadOne}

abbrev pub one : Result Reading Refusal → ReadOne
one (Ok r) = record { refusal = 0; reading = r }
one (Err e) = record { refusal = number e; reading = Nothing }
