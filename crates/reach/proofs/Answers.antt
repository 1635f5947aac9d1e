-- What the call declines with, by the parts that ask its rows, and what it is on each side of its refusal. Assumes nothing.
use Prim.Native.Nat.{ℕ}
use mathlib.Core.Bool.{true}
use mathlib.Core.List.{List}
use mathlib.Core.Path.{◌≡◌, sym, ◌∙◌, ap}
use borrow.Author.Tests.{eqb-true, ne_eqb}
use lib.Dec.{eqb}
use lib.ListN.{length}
use Rattle.std.specs.Prelude.{Bool, false, refl, Ok}
use Rattle.laws.specs.Refusal.{asked}
use Rattle.laws.specs.declared.refusal.Refusal.{Refusal}
use Rattle.laws.specs.Rows.{declines, held}
use Rattle.laws.specs.Tests.{and_1, and_2}
use Rattle.laws.specs.Table.{table_length}
use Rattle.sheet.specs.Checked.{checked}
use Rattle.book.specs.Sizes.{pane_count}
use Rattle.book.specs.Checked.{checked_book}
use Rattle.keys.specs.Checked.{keys_checked}
use Rattle.channel.specs.Channel.{channel_count}
use Rattle.edit.specs.Keys.{Keys}
use Rattle.reach.specs.Touched.{channel_marks, pane_marks}
use Rattle.reach.specs.Calls.{reach_table, gave_marks, reach_of}
use Rattle.reach.specs.Ready.{ComparedIn}

-- the channels' marks are one a channel
pub marks_long : (s b : List ℕ) (ks ls : Keys) (a : ℕ) {l : List ℕ} → l ≡ channel_marks s b ks ls a → length l ≡ channel_count b
unfolding channel_marks
marks_long s b ks ls a e = ap length e ∙ table_length (channel_count b) _

-- a row that was asked and passed holds
pub asked_holds : (r : Refusal) (b : Bool) {u : Unit {0}} → asked r b ≡ Ok u → b ≡ true
asked_holds r true e = refl
asked_holds r false e = cc

module _ (s b : List ℕ) (ks ls : Keys) (a : ℕ) (channels panes : List ℕ) where
  module _ {n : ℕ} (e : n ≡ declines (reach_table s b ks ls a channels panes)) where
    pub refused : (n ≡ 0 → ⊥) → gave_marks n channels panes ≡ reach_of s b ks ls a channels panes
    unfolding reach_of
    refused d = rw (← e, ne_eqb n 0 d)

    -- nothing is declined: what is lent can be compared, and the outputs are as long as they have to be
    pub accepted : n ≡ 0 → ComparedIn s b ks ls × ((length channels ≡ channel_count b) × (length panes ≡ pane_count b))
    unfolding reach_table
    accepted z =
        let h = held (reach_table s b ks ls a channels panes) tt (sym e ∙ z) in
        let long = h.1.1.1.1.1.1.1.0 in (
          record {
            keys = record { sheet = checked s h.0; old = keys_checked s _ _ _ h.1.1.1.1.0; new = keys_checked s _ _ _ h.1.1.1.1.1.0 };
            book = checked_book b h.1.0;
          },
          (eqb-true _ _ (and_1 _ (eqb (length panes) (pane_count b)) long), eqb-true _ _ (and_2 (eqb (length channels) (channel_count b)) _ long)),
        )

    pub made : {channels' panes' : List ℕ} → n ≡ 0 → channels' ≡ channel_marks s b ks ls a → panes' ≡ pane_marks b channels' → gave_marks 0 channels' panes' ≡ reach_of s b ks ls a channels panes
    unfolding reach_of
    made z x y = rw (← e, z, y, x)
