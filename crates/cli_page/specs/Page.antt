-- What stands on a page.
use Rattle.std.specs.Prelude.{List, ℕ, take}
use Rattle.cli_page.specs.declared.page.Page.{Page}

-- the bytes that are not written yet
abbrev pub items : Page → List ℕ
items p = take p.count p.bytes
