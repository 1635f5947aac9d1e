-- What differing keys reach: of two sets of keys of one sheet, the channels and the panes that can read differently while an animation is active.
-- Everything else reads the same at every frame (specs/Law). Definitions only.
use Rattle.std.specs.Prelude.{ℕ, ◌+◌, ◌*◌, Bool, false, not, List, eqb, get_or}
use Rattle.laws.specs.Below.{all_below}
use Rattle.laws.specs.Table.{table}
use Rattle.std.specs.Prelude.{Option}
use Rattle.std.specs.Prelude.{Some, None}
use Rattle.sheet.specs.Rows.{target_row}
use Rattle.book.specs.Sizes.{pane_count}
use Rattle.channel.specs.Channel.{pane_channels, visible_channel, alpha_channel, channel_count, of_pane}
use Rattle.reading.specs.Reading.{last_target}
use Rattle.resolve.specs.Own.{bit_of}
use Rattle.resolve.specs.Follow.{follows}
use Rattle.edit.specs.Keys.{Keys, key_at, same_key}
use Rattle.edit.specs.Edit.{place}

-- ---- tracks and channels

-- key i of track t is the same in both, bit for bit
abbrev pub same_at : List ℕ → Keys → Keys → ℕ → ℕ → Bool
same_at s ks ls t i = same_key (key_at ks (place s t i)) (key_at ls (place s t i))

-- each key of track t is
unfoldable pub same_track : List ℕ → Keys → Keys → ℕ → Bool
same_track s ks ls t = all_below (target_row s t).count (same_at s ks ls t)

-- the track that decides a channel, if there is one, has a key that differs
abbrev pub differs_at : List ℕ → Keys → Keys → Option ℕ → Bool
differs_at s ks ls (Some t) = not (same_track s ks ls t)
differs_at s ks ls None = false

-- Touched: channel c is decided, while animation a is active, by a track that has a key that differs. (The value is the last such
-- target's, in sheet order.)
unfoldable pub touched : List ℕ → List ℕ → Keys → Keys → ℕ → ℕ → Bool
touched s b ks ls a c = differs_at s ks ls (last_target s b a c)

-- a mark for each channel of the book, in the order of a whole reading: 1 touched, 0 untouched
unfoldable pub channel_marks : List ℕ → List ℕ → Keys → Keys → ℕ → List ℕ
channel_marks s b ks ls a = table (channel_count b) (λ c. bit_of (touched s b ks ls a c))

-- ---- panes, by the marks of the channels

-- channel k of pane p is marked
unfoldable pub marked : List ℕ → ℕ → ℕ → Bool
marked marks p k = not (eqb (get_or marks (of_pane p k) 0) 0)

-- its own visible, and its own alpha
abbrev pub visible_marked : List ℕ → ℕ → Bool
visible_marked marks p = marked marks p visible_channel

abbrev pub alpha_marked : List ℕ → ℕ → Bool
alpha_marked marks p = marked marks p alpha_channel

-- a channel of its own is marked
unfoldable pub own_marked : List ℕ → ℕ → Bool
own_marked marks p = not (all_below pane_channels (λ k. not (marked marks p k)))

-- a pane's mark: 1 where a channel of its own is touched, and 2 more where its row of the cascade follows the row above it
unfoldable pub pane_mark : List ℕ → List ℕ → ℕ → ℕ
pane_mark b marks p = bit_of (own_marked marks p) + 2 * bit_of (follows b (visible_marked marks) (alpha_marked marks) p)

-- a mark for each pane: 0 untouched
unfoldable pub pane_marks : List ℕ → List ℕ → List ℕ
pane_marks b marks = table (pane_count b) (pane_mark b marks)
