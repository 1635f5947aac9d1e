-- The journal's used rows, counted by edit numbers. Assumes nothing.
use Rattle.std.specs.Prelude.{ℕ, ◌+◌, ◌-◌, ◌<◌, ◌≡◌, Bool, true, ◌&&◌, List, map, length, get_or}
use Rattle.std.specs.List.{list_all, range_with_len}
use Rattle.std.proofs.Common.{ap, sym, ◌∙◌, arith, ext_get_or}
use Rattle.std.proofs.lemmas.List.Folds.{list_all-map}
use Rattle.std.proofs.lemmas.List.FromFn.{length-map-range_with_len, get_or-map-range_with_len}
use Rattle.std.proofs.Math.Bool.{and-true}
use Rattle.laws.specs.Below.{all_below}
use Rattle.laws.specs.Tests.{both}
use Rattle.float.specs.Numbers.{finite}
use Rattle.player.specs.declared.Player.{Player}
use Rattle.player.specs.Journal.{row_of}
use Rattle.player.specs.Drag.{drag_ok}
use Rattle.player.specs.Player.{selection_ok, entry_ok, used_ok, counts_ok, numbers_ok, all_used_ok, player_ok}
use Rattle.player.specs.Sound.{own_counts}

-- n numbers from a on
all_from : (a n : ℕ) (p : ℕ → Bool) → list_all p (range_with_len a n) ≡ all_below n (λ i. p (a + i))
unfolding all_below
all_from a n p =
    sym (list_all-map (λ b. b) p (range_with_len a n))
    ∙ ap (list_all (λ b. b)) (ext_get_or true _ _ (length-map-range_with_len p a n ∙ sym (length-map-range_with_len (λ i. p (a + i)) 0 n)) same)
    ∙ list_all-map (λ b. b) (λ i. p (a + i)) (range_with_len 0 n)
  where
    same : (i : ℕ) → i < length (map p (range_with_len a n)) → get_or (map p (range_with_len a n)) i true ≡ get_or (map (λ j. p (a + j)) (range_with_len 0 n)) i true
    same i h =
        let l = length-map-range_with_len p a n in
        get_or-map-range_with_len p a n i (a + i) true (omega arith) (omega arith) ∙ sym (get_or-map-range_with_len (λ i. p (a + i)) 0 n i i true (omega arith) (omega arith))

-- as a player's own numbers bound them
pub used_rows : (s : List ℕ) (p : Player) → numbers_ok s p ≡ true
    → list_all (λ n. entry_ok s (row_of p.journal n)) (range_with_len (p.standing - p.reach) (p.standing + p.redo - (p.standing - p.reach))) ≡ all_used_ok s p
unfolding used_ok all_used_ok
used_rows s p e =
    let c = own_counts s p e in
    let n : p.standing + p.redo - (p.standing - p.reach) ≡ p.reach + p.redo = omega (arith, c.below) in
    rw n (all_from (p.standing - p.reach) (p.reach + p.redo) (λ k. entry_ok s (row_of p.journal k)))

-- where the numbers hold, the used rows decide
pub used_left : (s : List ℕ) (p : Player) → numbers_ok s p ≡ true → player_ok s p ≡ all_used_ok s p
unfolding numbers_ok player_ok all_used_ok
used_left s p e =
    let h = both (selection_ok s p.selection && finite p.frame && counts_ok p.reach p.redo p.accepted p.undone p.redone p.standing) (drag_ok s p.drag) e in
    rw (h.0, h.1, and-true)
