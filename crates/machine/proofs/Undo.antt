-- An undo keeps the player an image of the machine. Assumes nothing.
use mathlib.Core.Path.{◌≡◌, ◌∙◌}
use mathlib.Core.Bool.{true}
use mathlib.Core.List.{List, [], ◌∷◌}
use Prim.Native.Nat.{ℕ, zero, suc, ◌<◌, ◌^◌}
use native.Mathlib.Omega.{arith}
use native.Mathlib.Numerals.{add-one}
use lib.ListN.{length}
use Rattle.laws.specs.Rows.{unless, declines}
use Rattle.sheet.specs.Sheet.{sheet_ok}
use Rattle.player.specs.declared.journal.Journal.{Journal}
use Rattle.edit.specs.Keys.{Keys, key_at, get_put, put_put, put_get}
use Rattle.player.specs.Parts.{View}
use Rattle.edit.specs.Edit.{Edit, place, edited, made_edit}
use Rattle.player.specs.Undo.{turned, takes_ok, take_fits, take_rows, entry_of, taken_keys, undone_player}
use Rattle.menu.specs.Rows.{take_table}
use Rattle.menu.specs.Calls.{entry_for, take_of}
use Rattle.machine.specs.Calls.{undo}
use Rattle.machine.specs.Plain.{closed, Plain, replay}
use Rattle.machine.proofs.Invariant.{Fair, Good}
use Rattle.machine.proofs.Checks.{state_passes}
use Rattle.machine.proofs.Kept.{Kept, suc_not, less_one, later}

module _ (s : List ℕ) (ks : Keys) where
  -- an edit that was made is taken back: the key is as the entry left it, and what it returns keeps the key rules
  taken_back : (es : List Edit) (e : Edit) → Fair s (replay s ks es) e →
      taken_keys s (replay s ks (e ∷ es)) (turned (entry_for s (replay s ks es) e.track e.key e.request)) ≡ replay s ks es
  unfolding taken_keys replay made_edit entry_for
  taken_back es e f = put_put _ _ _ _ ∙ put_get _ _

  undo_fits : (es : List Edit) (e : Edit) → Fair s (replay s ks es) e →
      takes_ok s (replay s ks (e ∷ es)) (turned (entry_for s (replay s ks es) e.track e.key e.request)) ≡ true
  unfolding takes_ok replay made_edit entry_for
  undo_fits es e f = rw (get_put _ _ (edited s (replay s ks es) e.track e.key e.request) f.within, f.new, put_put _ _ (edited s (replay s ks es) e.track e.key e.request) (key_at (replay s ks es) (place s e.track e.key)), put_get (replay s ks es) (place s e.track e.key), f.sane.rules)

module _ (s : List ℕ) (n : ℕ) (j : Journal) (ok : sheet_ok s ≡ true) (few : n < 2 ^ 40) (ks : Keys) (a d c : ℕ) (v : View) where
  abbrev M : List Edit → List Edit → ℕ → Plain
  M es us r = record { loaded = ks; standing = es; redo = us; reach = r; accepted = a; undone = d; redone = c; view = v; drag = closed }

  pub undo_kept : (es us : List Edit) (r : ℕ) → Good s n (M es us r) j → Kept s n undo (M es us r) j
  unfolding take_of take_table take_rows take_fits entry_of undone_player declines unless
  undo_kept es us zero g = record { journal = j; same = rw (state_passes s n (M es us 0) j ok (omega arith) g _); good = later s n (M es us 0) j g }
  undo_kept [] us (suc r) g = absurd g.back
  undo_kept (e ∷ es) us (suc r) g =
      let f = g.back.0.fair in
      record {
        journal = j;
        same =
            rw (state_passes s n (M (e ∷ es) us (suc r)) j ok (omega arith) g _, less_one (length es), g.back.0.is, undo_fits s ks es e f, suc_not r)
            (cc (taken_back s ks es e f, add-one (length us)));
        good =
            rw (suc_not r)
            (record {
              whole = g.whole;
              sane = f.sane;
              drag = tt;
              seen = g.seen;
              back = rw (less_one r) g.back.1;
              fore = (g.back.0, g.fore);
              room = omega arith;
              below = omega arith;
              sums = omega arith;
              few = omega arith;
            });
      }
