-- The call that marks what differing keys reach: what it declines (by rising number), and what it leaves in its two
-- outputs. Definitions only.
use Rattle.std.specs.Prelude.{ℕ, ◌&&◌, cond, List, [], ◌∷◌, eqb, ltb, length}
use Rattle.laws.specs.Rows.{Row, row, declines}
use Rattle.sheet.specs.Sizes.{animation_count}
use Rattle.sheet.specs.Sheet.{sheet_ok}
use Rattle.book.specs.Sizes.{pane_count}
use Rattle.book.specs.Book.{book_ok}
use Rattle.keys.specs.Load.{lengths_ok}
use Rattle.channel.specs.Channel.{channel_count}
use Rattle.edit.specs.Keys.{Keys, keys_ok_of}
use Rattle.reach.specs.Touched.{channel_marks, pane_marks}

-- row 3, of a set of keys: each array is K long
abbrev pub arrays_long : List ℕ → Keys → Row
arrays_long s ks = row 3 (lengths_ok s ks.frames ks.values ks.slopes)

-- sheet, book, both sets of keys, an animation from A up (6), outputs not exactly as long (13)
unfoldable pub reach_table : List ℕ → List ℕ → Keys → Keys → ℕ → List ℕ → List ℕ → List Row
reach_table s b ks ls a channels panes =
    row 1 (sheet_ok s)
    ∷ row 2 (book_ok b)
    ∷ arrays_long s ks
    ∷ arrays_long s ls
    ∷ row 4 (keys_ok_of s ks)
    ∷ row 4 (keys_ok_of s ls)
    ∷ row 6 (ltb a (animation_count s))
    ∷ row 13 (eqb (length channels) (channel_count b) && eqb (length panes) (pane_count b))
    ∷ []

-- what the call leaves in its outputs
pub record Marks : Type 0 where
  pub refusal : ℕ
  pub channels : List ℕ
  pub panes : List ℕ

abbrev pub gave_marks : ℕ → List ℕ → List ℕ → Marks
gave_marks n channels panes = record { refusal = n; channels = channels; panes = panes }

unfoldable pub reach_of : List ℕ → List ℕ → Keys → Keys → ℕ → List ℕ → List ℕ → Marks
reach_of s b ks ls a channels panes =
    let n = declines (reach_table s b ks ls a channels panes) in
    let made = channel_marks s b ks ls a in
    gave_marks n (cond (eqb n 0) made channels) (cond (eqb n 0) (pane_marks b made) panes)
