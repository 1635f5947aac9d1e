-- A sheet with other keys (`Alike` of the crate sheet) asks the same of keys: the rules look at its sizes and its targets' rows alone. Assumes nothing.
use Rattle.std.specs.Prelude.{ℕ, ◌<◌, List, ◌≡◌, Float}
use Rattle.laws.specs.Below.{all_same}
use Rattle.sheet.specs.Sizes.{target_count}
use Rattle.sheet.specs.Alike.{Alike, targets_same, keys_same, length_same, target_same}
use Rattle.keys.specs.Rules.{track_ok}
use Rattle.keys.specs.Keys.{keys_fit, held_track, keys_ok}

module _ {s t : List ℕ} (a : Alike s t) (fs vs ss : List Float) where
  track_same : (i : ℕ) → i < target_count s → held_track t fs vs ss i ≡ held_track s fs vs ss i
  unfolding held_track track_ok
  track_same i l = rw (target_same a i l, keys_same a)

  pub rules_same : keys_ok t fs vs ss ≡ keys_ok s fs vs ss
  unfolding keys_ok keys_fit
  rules_same = rw (a.long, length_same a, keys_same a, targets_same a, all_same _ _ _ track_same)
