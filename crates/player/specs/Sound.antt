-- What a player whose state is not broken tells (row 5 of the table): its counts are within their bounds, its used rows and its open drag name keys of the sheet. Assumes nothing.
use Rattle.std.specs.Prelude.{ℕ, ◌+◌, ◌-◌, ◌≤◌, ◌<◌, ◌≡◌, refl, Bool, true, false, ◌&&◌, List, leb, eqb}
use Rattle.std.proofs.Math.Bool.{and-true, and-false}
use Rattle.std.proofs.Common.{arith}
use borrow.Author.Tests.{leb-true, ltb-true, eqb-true, ne_eqb}
use Rattle.laws.specs.Tests.{both, and_1, and_2}
use Rattle.laws.specs.Below.{all_below, all_at}
use Rattle.float.specs.Numbers.{finite}
use Rattle.sheet.specs.Sizes.{animation_count}
use Rattle.player.specs.declared.Player.{Player}
use Rattle.player.specs.Journal.{row_of, rows}
use Rattle.edit.specs.Edit.{none}
use Rattle.player.specs.Drag.{drag_ok}
use Rattle.player.specs.Player.{most, selection_ok, entry_ok, used_ok, counts_ok, player_ok, numbers_ok, all_used_ok}

-- what stands between two tests doesn't make them hold
first_not : (a b c : Bool) → (a && c) ≡ false → (a && b && c) ≡ false
first_not true true c e = e
first_not true false c e = refl
first_not false b c e = refl

pub record Counts (reach redo accepted undone redone standing : ℕ) : Type 0 where
  pub room : reach + redo ≤ rows
  pub below : reach ≤ standing
  pub accepts : accepted ≤ most
  pub undoes : undone ≤ most
  pub redoes : redone ≤ most
  pub stands : standing ≤ most
  pub sums : accepted + redone ≡ undone + standing

pub counts : (reach redo accepted undone redone standing : ℕ) → counts_ok reach redo accepted undone redone standing ≡ true → Counts reach redo accepted undone redone standing
unfolding counts_ok
counts reach redo accepted undone redone standing e =
    let g = both _ (eqb (accepted + redone) (undone + standing)) e in
    let f = both _ (leb standing most) g.0 in
    let d = both _ (leb redone most) f.0 in
    let c = both _ (leb undone most) d.0 in
    let b = both _ (leb accepted most) c.0 in
    let a = both (leb (reach + redo) rows) (leb reach standing) b.0 in
    record {
      room = leb-true _ _ a.0;
      below = leb-true _ _ a.1;
      accepts = leb-true _ _ b.1;
      undoes = leb-true _ _ c.1;
      redoes = leb-true _ _ d.1;
      stands = leb-true _ _ f.1;
      sums = eqb-true _ _ g.1;
    }

-- the counts of a player whose own numbers hold
pub own_counts : (s : List ℕ) (p : Player) → numbers_ok s p ≡ true → Counts p.reach p.redo p.accepted p.undone p.redone p.standing
unfolding numbers_ok
own_counts s p e = counts _ _ _ _ _ _ (and_2 (selection_ok s p.selection && finite p.frame) _ (and_1 _ (drag_ok s p.drag) e))

-- ---- row 5 by its two parts
module _ (s : List ℕ) (p : Player) where
  pub numbers_not : numbers_ok s p ≡ false → player_ok s p ≡ false
  unfolding numbers_ok player_ok
  numbers_not e =
      first_not (selection_ok s p.selection && finite p.frame && counts_ok p.reach p.redo p.accepted p.undone p.redone p.standing)
      (all_below (p.reach + p.redo) (used_ok s p.journal (p.standing - p.reach))) (drag_ok s p.drag) e

  pub used_not : all_used_ok s p ≡ false → player_ok s p ≡ false
  unfolding all_used_ok player_ok
  used_not e = simp (e, and-false)

  pub parts_hold : numbers_ok s p ≡ true → all_used_ok s p ≡ true → player_ok s p ≡ true
  unfolding numbers_ok all_used_ok player_ok
  parts_hold e u = rw (u, and-true) e

-- what closes a `return` of a check that asks the two
pub ruleset broken_laws = (numbers_not, used_not, parts_hold)

pub record Sound (s : List ℕ) (p : Player) : Type 0 where
  pub selection : selection_ok s p.selection ≡ true
  pub frame : finite p.frame ≡ true
  pub counts : Counts p.reach p.redo p.accepted p.undone p.redone p.standing
  pub used : all_below (p.reach + p.redo) (used_ok s p.journal (p.standing - p.reach)) ≡ true
  pub drag : drag_ok s p.drag ≡ true

pub sound : (s : List ℕ) (p : Player) → player_ok s p ≡ true → Sound s p
unfolding player_ok
sound s p e =
    let d = both _ (drag_ok s p.drag) e in
    let c = both _ (all_below (p.reach + p.redo) (used_ok s p.journal (p.standing - p.reach))) d.0 in
    let b = both _ (counts_ok p.reach p.redo p.accepted p.undone p.redone p.standing) c.0 in
    let a = both (selection_ok s p.selection) (finite p.frame) b.0 in
    record { selection = a.0; frame = a.1; counts = counts _ _ _ _ _ _ b.1; used = c.1; drag = d.1 }

-- an open drag names a key of the sheet
pub sound_drag : (s : List ℕ) (p : Player) → player_ok s p ≡ true → drag_ok s p.drag ≡ true
sound_drag s p e = (sound s p e).drag

module _ {s : List ℕ} {p : Player} (w : Sound s p) where
  -- what is selected is one of the animations
  pub selected_below : (p.selection ≡ none → ⊥) → p.selection < animation_count s
  unfolding selection_ok
  selected_below d = ltb-true p.selection (animation_count s) (rw (ne_eqb p.selection none d) at w.selection)

  -- the entry of a used row names a key of the sheet
  pub used_ok_lem : (k : ℕ) → p.standing ≤ k + p.reach → k < p.standing + p.redo → entry_ok s (row_of p.journal k) ≡ true
  unfolding used_ok
  used_ok_lem k l m =
      let i = k + p.reach - p.standing in
      let q : p.standing - p.reach + i ≡ k = omega (arith, w.counts.below) in
      rw q at (all_at (p.reach + p.redo) (used_ok s p.journal (p.standing - p.reach)) i w.used (omega (arith, w.counts.below)))
