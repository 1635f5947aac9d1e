-- What the functions on one key ask of its place: it and its neighbours are in the lent arrays; and those neighbours' frames. Assumes nothing.
use Rattle.std.specs.Prelude.{◌+◌, ◌-◌, ◌<◌, ◌≤◌, ◌≡◌, true, cond, eqb, List, length, get_or, Float, Option, None, Some}
use Rattle.std.specs.Float.{nan}
use Rattle.edit.specs.declared.spot.Spot.{Spot}

pub record Inside (fs : List Float) (p : Spot) : Type 0 where
  pub here : p.at < length fs
  pub before : p.key ≤ p.at
  pub after : p.more ≡ true → p.at + 1 < length fs

pub record InsideAll (fs vs ss : List Float) (p : Spot) : Type 0 where
  pub frames : Inside fs p
  pub values : p.at < length vs
  pub slopes : p.at < length ss

-- the frames of the track's keys before and after it, where there are such keys
unfoldable pub previous_of : List Float → Spot → Option Float
previous_of fs p = cond (eqb p.key 0) None (Some (get_or fs (p.at - 1) nan))

unfoldable pub next_of : List Float → Spot → Option Float
next_of fs p = cond p.more (Some (get_or fs (p.at + 1) nan)) None
