-- Each way answers the remainder by one law of `Doubled`.
use Rattle.std.proofs.Common.{◌≡◌, ℕ, ◌+◌, ◌-◌, ◌<◌, true, false, T, sym, ap, ◌∙◌, subst}
use lib.Ieee.{Float, binary32, fits, add, sub, lt}
use Rattle.float.specs.Rank.{mid, rank}
use Rattle.float.proofs.Doubled.{Step, step, rem_low}
use Rattle.float.proofs.+remainder_up.Goals as goal

pub returns-then-x-t : goal.returns-then-x-t
returns-then-x-t t c =
    let x_fits : T (fits binary32 c.args.x) = subst T (sym c.well_formed.0.1) tt in
    let t_fits : T (fits binary32 c.args.t) = subst T (sym c.well_formed.1.0.1) tt in
    rem_low _ _ (x_fits) (t_fits) c.requires.x_up c.requires.x_finite c.requires.t_up c.if-x-t.true

pub remainder_up-r-requires : goal.remainder_up-r-requires
remainder_up-r-requires t c =
    let x_fits : T (fits binary32 c.args.x) = subst T (sym c.well_formed.0.1) tt in
    let t_fits : T (fits binary32 c.args.t) = subst T (sym c.well_formed.1.0.1) tt in
    let s : Step c.args.x c.args.t (add binary32 c.args.t c.args.t) = step _ _ (x_fits) (t_fits) c.requires.x_up c.requires.x_finite c.requires.t_up c.if-x-t.false in
    (subst (λ (n : ℕ). mid binary32 + mid binary32 - rank binary32 (add binary32 c.args.t c.args.t) < n) c.decreases (s).falls, (c.requires.x_up, (c.requires.x_finite, (s).up)))

pub returns-then-r-t : goal.returns-then-r-t
returns-then-r-t t c =
    let x_fits : T (fits binary32 c.args.x) = subst T (sym c.well_formed.0.1) tt in
    let t_fits : T (fits binary32 c.args.t) = subst T (sym c.well_formed.1.0.1) tt in
    let s : Step c.args.x c.args.t (add binary32 c.args.t c.args.t) = step _ _ (x_fits) (t_fits) c.requires.x_up c.requires.x_finite c.requires.t_up c.if-x-t.false in
    c.remainder_up-r.ensures ∙ (s).low (subst (λ (z : Float). lt z c.args.t ≡ true) c.remainder_up-r.ensures c.if-r-t.true)

pub returns-else-r-t : goal.returns-else-r-t
returns-else-r-t t c =
    let x_fits : T (fits binary32 c.args.x) = subst T (sym c.well_formed.0.1) tt in
    let t_fits : T (fits binary32 c.args.t) = subst T (sym c.well_formed.1.0.1) tt in
    let s : Step c.args.x c.args.t (add binary32 c.args.t c.args.t) = step _ _ (x_fits) (t_fits) c.requires.x_up c.requires.x_finite c.requires.t_up c.if-x-t.false in
    ap (λ (z : Float). sub binary32 z c.args.t) c.remainder_up-r.ensures ∙ (s).high (subst (λ (z : Float). lt z c.args.t ≡ false) c.remainder_up-r.ensures c.if-r-t.false)
