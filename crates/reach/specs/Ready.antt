-- What the comparison of two sets of keys asks of what it is lent, and the parts that its functions look at by themselves. Assumes nothing.
use Rattle.std.specs.Prelude.{ℕ, ◌+◌, ◌≤◌, Bool, not, ◌&&◌, List, [], ◌∷◌, eqb, ltb, length, get_or}
use Rattle.laws.specs.Below.{all_below}
use Rattle.laws.specs.Rows.{Row, row}
use Rattle.sheet.specs.Sizes.{animation_count}
use Rattle.sheet.specs.Checked.{Checked}
use Rattle.book.specs.Sizes.{pane_count, no_parent}
use Rattle.book.specs.Checked.{CheckedBook}
use Rattle.keys.specs.Checked.{KeysChecked}
use Rattle.channel.specs.Channel.{channel_count}
use Rattle.edit.specs.Keys.{Keys, key_at, same_key, keys_ok_of}
use Rattle.reach.specs.Calls.{arrays_long}

-- a checked sheet, and two sets of keys that keep its rules
pub record Compared (s : List ℕ) (ks ls : Keys) : Type 0 where
  pub sheet : Checked s
  pub old : KeysChecked s ks.frames ks.values ks.slopes
  pub new : KeysChecked s ls.frames ls.values ls.slopes

-- and a checked book
pub record ComparedIn (s b : List ℕ) (ks ls : Keys) : Type 0 where
  pub keys : Compared s ks ls
  pub book : CheckedBook b

-- the three lists have n keys at least
pub record HasKeys (ks : Keys) (n : ℕ) : Type 0 where
  pub frames : n ≤ length ks.frames
  pub values : n ≤ length ks.values
  pub slopes : n ≤ length ks.slopes

-- the `count` keys from `first` on are the same in both, bit for bit
unfoldable pub same_part : Keys → Keys → ℕ → ℕ → Bool
same_part ks ls first count = all_below count (λ i. same_key (key_at ks (first + i)) (key_at ls (first + i)))

-- what a table by row has for a pane with this parent: nothing is handed to a root
unfoldable pub handed_in : List ℕ → ℕ → Bool
handed_in table parent = not (eqb parent no_parent) && not (eqb (get_or table parent 0) 0)

-- rows 3 and 4 of the call's table, and rows 6 and 13
abbrev pub keys_rows : List ℕ → Keys → Keys → List Row
keys_rows s ks ls = arrays_long s ks ∷ arrays_long s ls ∷ row 4 (keys_ok_of s ks) ∷ row 4 (keys_ok_of s ls) ∷ []

abbrev pub output_rows : List ℕ → List ℕ → ℕ → List ℕ → List ℕ → List Row
output_rows s b a channels panes = row 6 (ltb a (animation_count s)) ∷ row 13 (eqb (length channels) (channel_count b) && eqb (length panes) (pane_count b)) ∷ []
