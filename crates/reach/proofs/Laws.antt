-- A mark among some is no run of unmarked ones. Assumes nothing.
use Rattle.std.specs.Prelude.{ℕ, Bool, true, false, not, ◌||◌, ◌&&◌, List, [], ◌∷◌, ◌≡◌, refl}
use Rattle.std.specs.List.{list_any, list_all}

pub any_not_all : (p : ℕ → Bool) (l : List ℕ) → list_any p l ≡ not (list_all (λ k. not (p k)) l)
any_not_all p [] = refl
any_not_all p (k ∷ l) = more (p k) _ _ (any_not_all p l)
  where
    more : (b x y : Bool) → x ≡ not y → (b || x) ≡ not (not b && y)
    more true x y e = refl
    more false x y e = e
