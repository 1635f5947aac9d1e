-- The channels of the sixteen corner colours by name are those which `pane_channel` gives by number. Assumes nothing.
use Rattle.std.specs.Prelude.{ℕ, ◌+◌, ◌<◌, ◌≡◌, refl, Bool, eqb}
use Rattle.std.proofs.Common.{arith, eqb-true, ne_eqb, lt-ltb}
use Rattle.laws.specs.Below.{all_below, all_at}
use Rattle.std.specs.Prelude.{Some}
use Rattle.channel.specs.Channel.{listed, pane_channel}
use Rattle.channel.specs.declared.Family.TheVariants.{VertexColor}
use Rattle.channel.specs.CornerColours.{pane_alpha, corner_colour, corner_channel}

-- the channel by name is the one by number: one test, computed at each of the sixteen
by_number : ℕ → Bool
by_number raw = eqb (corner_channel (corner_colour raw)) (12 + raw)

pub corner_by_number : (raw : ℕ) → raw < pane_alpha → corner_channel (corner_colour raw) ≡ 12 + raw
unfolding all_below by_number
corner_by_number raw l = eqb-true (corner_channel (corner_colour raw)) (12 + raw) (all_at pane_alpha by_number raw refl l)

-- ---- each raw number reaches the channel of its name

-- below PaneAlpha's: that of its corner colour
pub corner_reached : (raw : ℕ) → raw < pane_alpha → pane_channel VertexColor raw ≡ Some (corner_channel (corner_colour raw))
unfolding pane_channel listed
corner_reached raw l = rw (lt-ltb raw 17 (omega arith), ne_eqb raw pane_alpha (λ e. omega arith), corner_by_number raw l)
