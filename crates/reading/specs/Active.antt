-- What is active: an animation at a frame, or nothing. Definitions only.
use Rattle.std.specs.Prelude.{ℕ, Float, Option, Some}
use Rattle.reading.specs.declared.At.{At}

abbrev pub Active : Type 0
Active = Option At

abbrev pub active_at : ℕ → Float → Active
active_at a x = Some (record { animation = a; frame = x })
