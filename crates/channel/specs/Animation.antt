-- A track belongs to one animation, and addresses nothing while another is active. Assumes nothing.
use Rattle.std.specs.Prelude.{ℕ, Bool, true, false, cond, List, ◌≡◌, refl, ltb}
use Rattle.std.proofs.Common.{ne_eqb}
use Rattle.std.specs.Prelude.{Option, None}
use Rattle.sheet.specs.Sizes.{content_count}
use Rattle.sheet.specs.Rows.{content_row, target_row}
use Rattle.channel.specs.Channel.{active_reach, address, row_channel, target_channel}
use Rattle.channel.specs.declared.Reached.{Reached}

-- the animation that target t belongs to, by its content
unfoldable pub target_animation : List ℕ → ℕ → ℕ
target_animation s t = (content_row s (target_row s t).content).animation

pub other_animation : (s b : List ℕ) (a t : ℕ) → (target_animation s t ≡ a → ⊥) → target_channel s b a t ≡ None
unfolding target_channel row_channel active_reach target_animation address
other_animation s b a t h = rw (ne_eqb (content_row s (target_row s t).content).animation a h, either (ltb (target_row s t).content (content_count s)))
  where
    either : {o : Option Reached} (q : Bool) → cond q o o ≡ o
    either true = refl
    either false = refl
