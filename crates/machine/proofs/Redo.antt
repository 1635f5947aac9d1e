-- A redo keeps the player an image of the machine. Assumes nothing.
use mathlib.Core.Path.{◌≡◌, refl}
use mathlib.Core.Bool.{true}
use mathlib.Core.List.{List, [], ◌∷◌}
use Prim.Native.Nat.{ℕ, ◌<◌, ◌^◌}
use native.Mathlib.Omega.{arith}
use native.Mathlib.Numerals.{add-one}
use lib.ListN.{length}
use Rattle.laws.specs.Rows.{unless, declines}
use Rattle.sheet.specs.Sheet.{sheet_ok}
use Rattle.player.specs.declared.journal.Journal.{Journal}
use Rattle.edit.specs.Keys.{Keys}
use Rattle.player.specs.Parts.{View}
use Rattle.edit.specs.Edit.{Edit, made_edit}
use Rattle.player.specs.Undo.{takes_ok, take_fits, take_rows, entry_of, taken_keys, redone_player}
use Rattle.menu.specs.Rows.{take_table}
use Rattle.menu.specs.Calls.{entry_for, take_of}
use Rattle.machine.specs.Calls.{redo}
use Rattle.machine.specs.Plain.{closed, Plain, replay}
use Rattle.machine.proofs.Invariant.{Fair, Good}
use Rattle.machine.proofs.Checks.{state_passes}
use Rattle.machine.proofs.Kept.{Kept, suc_not, less_one, later}

module _ (s : List ℕ) (ks : Keys) where
  -- an edit that was taken back is made again
  made_again : (es : List Edit) (e : Edit) →
      taken_keys s (replay s ks es) (entry_for s (replay s ks es) e.track e.key e.request) ≡ replay s ks (e ∷ es)
  unfolding taken_keys replay made_edit entry_for
  made_again es e = refl

  redo_fits : (es : List Edit) (e : Edit) → Fair s (replay s ks es) e →
      takes_ok s (replay s ks es) (entry_for s (replay s ks es) e.track e.key e.request) ≡ true
  unfolding takes_ok made_edit entry_for
  redo_fits es e f = rw (f.old, f.made.rules)

module _ (s : List ℕ) (n : ℕ) (j : Journal) (ok : sheet_ok s ≡ true) (few : n < 2 ^ 40) (ks : Keys) (a d c : ℕ) (v : View) where
  abbrev M : List Edit → List Edit → ℕ → Plain
  M es us r = record { loaded = ks; standing = es; redo = us; reach = r; accepted = a; undone = d; redone = c; view = v; drag = closed }

  pub redo_kept : (es us : List Edit) (r : ℕ) → Good s n (M es us r) j → Kept s n redo (M es us r) j
  unfolding take_of take_table take_rows take_fits entry_of redone_player declines unless
  redo_kept es [] r g = record { journal = j; same = rw (state_passes s n (M es [] r) j ok (omega arith) g _); good = later s n (M es [] r) j g }
  redo_kept es (e ∷ us) r g =
      let f = g.fore.0.fair in
      record {
        journal = j;
        same =
            rw (state_passes s n (M es (e ∷ us) r) j ok (omega arith) g _, g.fore.0.is, redo_fits s ks es e f, suc_not (length us))
            (cc (made_again s ks es e, add-one (length es), less_one (length us)));
        good =
            rw (suc_not (length us))
            (record {
              whole = g.whole;
              sane = unfold replay in f.made;
              drag = tt;
              seen = g.seen;
              back = rw add-one (g.fore.0, g.back);
              fore = g.fore.1;
              room = omega arith;
              below = omega arith;
              sums = omega arith;
              few = omega arith;
            });
      }
