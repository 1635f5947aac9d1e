-- Where one track alone has other keys, each channel that it doesn't decide is untouched. Assumes nothing.
use Rattle.std.specs.Prelude.{ℕ, ◌<◌, List, true, false, ◌≡◌, Float}
use Rattle.std.proofs.lemmas.Bool.{false≢true}
use Rattle.std.proofs.Math.Path.{sym}
use Rattle.std.proofs.Common.{◌∙◌}
use Rattle.laws.specs.Swept.{is_at}
use Rattle.std.specs.Prelude.{Some, None}
use Rattle.sheet.specs.Sizes.{target_count}
use Rattle.channel.specs.Channel.{target_channel}
use Rattle.channel.specs.Animation.{target_animation, other_animation}
use Rattle.reading.specs.Reading.{last_target}
use Rattle.reading.proofs.LastTarget.{last_target_only}
use Rattle.reading.specs.Active.{active_at}
use Rattle.reading.specs.Untouched.{SameKeys, Untouched}

module _ (s b : List ℕ) (fs vs ss gs us ts : List Float) where
  -- ---- one track t has other keys
  module _ (t : ℕ) (others : (u : ℕ) → u < target_count s → (u ≡ t → ⊥) → SameKeys s fs vs ss gs us ts u) where
    -- a channel is untouched where t doesn't decide it
    pub not_decided : (a : ℕ) (x : Float) (c : ℕ) → (last_target s b a c ≡ Some t → ⊥) → Untouched s b fs vs ss gs us ts (active_at a x) c
    not_decided a x c d u e = others u (last_target_only s b a c u e).within (λ q. d (rw q at e))

    -- every channel that t doesn't address
    pub not_addressed : (a : ℕ) (x : Float) (c : ℕ) → is_at (target_channel s b a t) c ≡ false → Untouched s b fs vs ss gs us ts (active_at a x) c
    not_addressed a x c d = not_decided a x c (λ e. false≢true (sym d ∙ (last_target_only s b a c t e).addresses))

    -- so all of them, where t addresses nothing
    pub addresses_nothing : (a : ℕ) (x : Float) (c : ℕ) → target_channel s b a t ≡ None → Untouched s b fs vs ss gs us ts (active_at a x) c
    addresses_nothing a x c e = not_addressed a x c (rw e)

    -- or belongs to another animation
    pub elsewhere : (a : ℕ) (x : Float) (c : ℕ) → (target_animation s t ≡ a → ⊥) → Untouched s b fs vs ss gs us ts (active_at a x) c
    elsewhere a x c d = addresses_nothing a x c (other_animation s b a t d)

    -- and a channel that a later target addresses too
    pub decided_later : (a : ℕ) (x : Float) (c u : ℕ) → t < u → u < target_count s → is_at (target_channel s b a u) c ≡ true → Untouched s b fs vs ss gs us ts (active_at a x) c
    decided_later a x c u l m h = not_decided a x c (λ e. false≢true (sym ((last_target_only s b a c t e).later u l m) ∙ h))
