-- The keys of a sheet as one record of three lists. Definitions only.
use Rattle.std.specs.Prelude.{List, Float}

pub record Keys : Type 0 where
  pub frames : List Float
  pub values : List Float
  pub slopes : List Float

abbrev pub keys : List Float → List Float → List Float → Keys
keys fs vs ss = record { frames = fs; values = vs; slopes = ss }
