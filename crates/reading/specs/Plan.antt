-- A plan: what of a whole reading doesn't change from frame to frame. The targets of one animation are one run, since the animations of targets
-- never fall; the plan has the run's ends, and a list beside it the channel of each of its targets. Definitions only.
use Rattle.std.specs.Prelude.{ℕ, ◌<◌, ◌≤◌, cond, List, ◌≡◌, eqb, length, get_or}
use Rattle.std.specs.Prelude.{Option}
use Rattle.std.specs.Prelude.{Some, None}
use Rattle.sheet.specs.Sizes.{target_count}
use Rattle.channel.specs.Channel.{target_channel}
use Rattle.channel.specs.Animation.{target_animation}
use Rattle.reading.specs.declared.plan.Plan.{Plan}

-- a channel as a number, and the number of none
abbrev pub no_channel : ℕ
no_channel = 65535

abbrev pub channel_number : Option ℕ → ℕ
channel_number (Some c) = c
channel_number None = no_channel

-- and the channel back
abbrev pub numbered_channel : ℕ → Option ℕ
numbered_channel n = cond (eqb n no_channel) None (Some n)

-- every target of the plan's animation is from `from` up to `to`
pub record Run (s : List ℕ) (p : Plan) : Type 0 where
  pub order : p.from ≤ p.to
  pub within : p.to ≤ target_count s
  pub before : (t : ℕ) → t < p.from → target_animation s t ≡ p.animation → ⊥
  pub behind : (t : ℕ) → p.to ≤ t → t < target_count s → target_animation s t ≡ p.animation → ⊥

-- the targets of the run below i have their channels in the list
pub record Numbered (s b : List ℕ) (p : Plan) (channels : List ℕ) (i : ℕ) : Type 0 where
  pub room : target_count s ≤ length channels
  pub numbered : (t : ℕ) → p.from ≤ t → t < i → get_or channels t 0 ≡ channel_number (target_channel s b p.animation t)

pub record Planned (s b : List ℕ) (p : Plan) (channels : List ℕ) : Type 0 where
  pub run : Run s p
  pub held : Numbered s b p channels p.to
