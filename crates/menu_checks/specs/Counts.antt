-- How much a sheet and a book hold (document 01, "Sheet and book": A, C, T, K, X, P, M, and 28P + 30M channels), by calls that rows 1 and 2 alone
-- decline. Every count is 0 where the call is declined. Definitions only.
use Rattle.std.specs.Prelude.{ℕ, cond, List, [], ◌∷◌, eqb}
use Rattle.laws.specs.Rows.{Row, row, declines}
use Rattle.sheet.specs.Sizes.{animation_count, content_count, target_count, key_count, texture_count}
use Rattle.sheet.specs.Sheet.{sheet_ok}
use Rattle.book.specs.Sizes.{pane_count, material_count}
use Rattle.book.specs.Book.{book_ok}
use Rattle.channel.specs.Channel.{channel_count}
use Rattle.menu_checks.specs.declared.counts.SheetCounts.{SheetCounts}
use Rattle.menu_checks.specs.declared.counts.BookCounts.{BookCounts}

unfoldable pub sheet_counts_table : List ℕ → List Row
sheet_counts_table s = row 1 (sheet_ok s) ∷ []

unfoldable pub book_counts_table : List ℕ → List Row
book_counts_table b = row 2 (book_ok b) ∷ []

-- what is answered by the refusal n alone
abbrev pub no_sheet_counts : ℕ → SheetCounts
no_sheet_counts n = record { refusal = n; animations = 0; contents = 0; tracks = 0; keys = 0; textures = 0 }

abbrev pub no_book_counts : ℕ → BookCounts
no_book_counts n = record { refusal = n; panes = 0; materials = 0; channels = 0 }

-- a count k, by the refusal n
unfoldable pub counted : ℕ → ℕ → ℕ
counted n k = cond (eqb n 0) k 0

unfoldable pub sheet_counts_by : ℕ → List ℕ → SheetCounts
sheet_counts_by n s =
    record {
      refusal = n;
      animations = counted n (animation_count s);
      contents = counted n (content_count s);
      tracks = counted n (target_count s);
      keys = counted n (key_count s);
      textures = counted n (texture_count s);
    }

unfoldable pub book_counts_by : ℕ → List ℕ → BookCounts
book_counts_by n b =
    record {
      refusal = n;
      panes = counted n (pane_count b);
      materials = counted n (material_count b);
      channels = counted n (channel_count b);
    }

unfoldable pub sheet_counts_of : List ℕ → SheetCounts
sheet_counts_of s = sheet_counts_by (declines (sheet_counts_table s)) s

unfoldable pub book_counts_of : List ℕ → BookCounts
book_counts_of b = book_counts_by (declines (book_counts_table b)) b
