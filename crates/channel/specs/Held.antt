-- What a pass over the targets holds of the last content that it met. Assumes nothing.
use Rattle.std.specs.Prelude.{ℕ, List, ◌≡◌, refl, None}
use Rattle.std.proofs.Common.{arith, le-ltb}
use Rattle.sheet.specs.Sizes.{content_count}
use Rattle.sheet.specs.Checked.{Checked}
use Rattle.channel.specs.Channel.{active_reach}
use Rattle.channel.specs.declared.reach.Held.{Held}

-- no content
abbrev pub none_held : Held
none_held = record { content = 65536; reached = None }

-- content c, and the row that it reaches while animation a is active
abbrev pub held_for : List ℕ → List ℕ → ℕ → ℕ → Held
held_for s b a c = record { content = c; reached = active_reach s b a c }

-- what is held is true of its content
pub record Holds (s b : List ℕ) (a : ℕ) (h : Held) : Type 0 where
  pub reaches : h.reached ≡ active_reach s b a h.content

pub holds_for : (s b : List ℕ) (a c : ℕ) → Holds s b a (held_for s b a c)
holds_for s b a c = record { reaches = refl }

pub holds_none : (s b : List ℕ) (a : ℕ) → Checked s → Holds s b a none_held
unfolding active_reach
holds_none s b a w = record { reaches = rw (le-ltb 65536 (content_count s) (omega arith)) }

-- what is held of content c is what c reaches
pub holds_is : {s b : List ℕ} {a c : ℕ} {h : Held} → Holds s b a h → h.content ≡ c → h ≡ held_for s b a c
holds_is w e = rw (← e, ← w.reaches)
