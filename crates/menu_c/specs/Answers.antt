-- The answers that hold an enum as structs of numbers (document 01, "Where each language form belongs": a definition gives the number of each case of an
-- enum). Definitions only.
use Rattle.std.specs.Prelude.{ℕ}
use Rattle.reading.specs.declared.Reading.{Reading}
use Rattle.reading.specs.declared.Reading.TheVariants.{Nothing, Number, Shown, Row, Level}
use Rattle.reading.specs.Reading.{number_of}
use Rattle.player.specs.declared.Tick.{Tick}
use Rattle.player.specs.declared.Tick.TheVariants.{Idle, Running, Ended, Next}
use Rattle.menu.specs.declared.playing.Ticked as ticked
use Rattle.menu_readings.specs.declared.single.ReadOne as one
use Rattle.menu_c.specs.declared.answers.Ticked.{Ticked}
use Rattle.menu_c.specs.declared.answers.ReadOne.{ReadOne}

-- idle, running, ended, or ended with a next name
abbrev pub tick_number : Tick → ℕ
tick_number Idle = 0
tick_number Running = 1
tick_number Ended = 2
tick_number Next = 3

abbrev pub ticked_of : ticked.Ticked → Ticked
ticked_of g = record { refusal = g.refusal; answer = tick_number g.answer; player = g.player }

-- nothing, a number, shown or hidden, a texture row or a level
abbrev pub kind_of : Reading → ℕ
kind_of Nothing = 0
kind_of (Number v) = 1
kind_of (Shown b) = 2
kind_of (Row k) = 3
kind_of (Level l) = 4

abbrev pub read_one_of : one.ReadOne → ReadOne
read_one_of g = record { refusal = g.refusal; kind = kind_of g.reading; number = number_of g.reading }
