-- The sixteen corner colours by name: which one a raw number stands for, and which channel each has. That these are the channels which
-- `pane_channel` gives by number is shown in proofs/Corners. Assumes nothing.
use Rattle.std.specs.Prelude.{ℕ, ◌<◌, ◌≡◌, refl, List, [], ◌∷◌, get_or}
use Rattle.std.proofs.Common.{arith, le-ltb}
use Rattle.std.specs.Prelude.{Some}
use Rattle.channel.specs.Channel.{alpha_channel, listed, pane_channel}
use Rattle.channel.specs.declared.Family.TheVariants.{VertexColor}
use Rattle.channel.specs.declared.corner_colours.CornerColour.{CornerColour}
use Rattle.channel.specs.declared.corner_colours.CornerColour.TheVariants.{LeftTopRed, LeftTopGreen, LeftTopBlue, LeftTopAlpha, RightTopRed, RightTopGreen, RightTopBlue, RightTopAlpha, LeftBottomRed, LeftBottomGreen, LeftBottomBlue, LeftBottomAlpha, RightBottomRed, RightBottomGreen, RightBottomBlue, RightBottomAlpha}

-- the raw number of targets.rs's PaneAlpha, which is no corner's: the corner colours have those below it
abbrev pub pane_alpha : ℕ
pane_alpha = 16

-- the variants in targets.rs's order, so that each stands at its raw number
abbrev pub corner_colours : List CornerColour
corner_colours =
    LeftTopRed ∷ LeftTopGreen ∷ LeftTopBlue ∷ LeftTopAlpha ∷
    RightTopRed ∷ RightTopGreen ∷ RightTopBlue ∷ RightTopAlpha ∷
    LeftBottomRed ∷ LeftBottomGreen ∷ LeftBottomBlue ∷ LeftBottomAlpha ∷
    RightBottomRed ∷ RightBottomGreen ∷ RightBottomBlue ∷ RightBottomAlpha ∷
    []

-- the corner colour of a raw number below PaneAlpha's
abbrev pub corner_colour : ℕ → CornerColour
corner_colour raw = get_or corner_colours raw LeftTopRed

-- the pane's channel of each
abbrev pub corner_channel : CornerColour → ℕ
corner_channel LeftTopRed = 12
corner_channel LeftTopGreen = 13
corner_channel LeftTopBlue = 14
corner_channel LeftTopAlpha = 15
corner_channel RightTopRed = 16
corner_channel RightTopGreen = 17
corner_channel RightTopBlue = 18
corner_channel RightTopAlpha = 19
corner_channel LeftBottomRed = 20
corner_channel LeftBottomGreen = 21
corner_channel LeftBottomBlue = 22
corner_channel LeftBottomAlpha = 23
corner_channel RightBottomRed = 24
corner_channel RightBottomGreen = 25
corner_channel RightBottomBlue = 26
corner_channel RightBottomAlpha = 27

-- ---- each raw number reaches the channel of its name

-- PaneAlpha's: the pane's alpha
pub alpha_reached : pane_channel VertexColor pane_alpha ≡ Some alpha_channel
unfolding pane_channel listed
alpha_reached = refl

-- above it, where targets.rs lists none: that of the first
pub unlisted_reached : (raw : ℕ) → pane_alpha < raw → pane_channel VertexColor raw ≡ Some (corner_channel LeftTopRed)
unfolding pane_channel listed
unlisted_reached raw l = rw (le-ltb raw 17 (omega arith))
