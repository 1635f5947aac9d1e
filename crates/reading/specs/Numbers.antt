-- The number of a channel in a plan tells the channel: it is below the number of none. Assumes nothing.
use Rattle.std.specs.Prelude.{ℕ, ◌≤◌, List, ◌≡◌, refl}
use Rattle.std.proofs.Common.{arith, ne_eqb}
use Rattle.std.specs.Prelude.{Option}
use Rattle.std.specs.Prelude.{Some, None}
use Rattle.book.specs.Checked.{CheckedBook}
use Rattle.channel.specs.Channel.{channel_count, target_channel}
use Rattle.channel.proofs.Inside.{target_within}
use Rattle.reading.specs.Plan.{no_channel, channel_number, numbered_channel}

-- a channel's number is below that of none
pub number_fits : (s b : List ℕ) (a t : ℕ) → CheckedBook b → channel_number (target_channel s b a t) ≤ no_channel
unfolding channel_count
number_fits s b a t w = go (target_channel s b a t) refl
  where
    go : (o : Option ℕ) → target_channel s b a t ≡ o → channel_number o ≤ no_channel
    go (Some c) e = omega (arith, target_within s b a t c e)
    go None e = omega arith

-- so the number tells the channel
pub number_none : (s b : List ℕ) (a t : ℕ) → CheckedBook b → channel_number (target_channel s b a t) ≡ no_channel → target_channel s b a t ≡ None
unfolding channel_count
number_none s b a t w q = go (target_channel s b a t) refl q
  where
    go : (o : Option ℕ) → target_channel s b a t ≡ o → channel_number o ≡ no_channel → target_channel s b a t ≡ None
    go (Some c) e k = absurd (omega (arith, target_within s b a t c e))
    go None e k = e

pub number_at_lem : (o : Option ℕ) → (channel_number o ≡ no_channel → ⊥) → o ≡ Some (channel_number o)
number_at_lem (Some c) k = refl
number_at_lem None k = absurd (k refl)

-- the channel is read back from its number
pub number_back : (s b : List ℕ) (a t : ℕ) → CheckedBook b → numbered_channel (channel_number (target_channel s b a t)) ≡ target_channel s b a t
unfolding channel_count
number_back s b a t w = go (target_channel s b a t) refl
  where
    go : (o : Option ℕ) → target_channel s b a t ≡ o → numbered_channel (channel_number o) ≡ o
    go (Some c) e = let l = target_within s b a t c e in rw (ne_eqb c no_channel (λ z. omega arith))
    go None e = refl
