-- What a reading is made from, once it has been checked. Definitions only.
use Rattle.std.specs.Prelude.{ℕ, List, ◌≡◌}
use Rattle.reading.specs.declared.menu.Menu.{Menu}
use Rattle.menu_checks.specs.declared.lent.Lent.{Lent}
use Rattle.menu_checks.specs.Lent.{IsOf}

-- the menu is of the sheet and the keys that were lent, and of the book
pub record MenuOf (m : Menu) (l : Lent) (b : List ℕ) : Type 0 where
  pub ready : IsOf m.ready l
  pub book : m.book.bytes.now ≡ b
