-- `nextafter` meets its contract: each return is one case of the definition, by the tests that led there. Assumes nothing.
use mathlib.Core.Path.{◌≡◌, sym, ◌∙◌}
use mathlib.Core.Bool.{true, false}
use Prim.Native.Nat.{◌<◌, ◌≤◌}
use native.Mathlib.Omega.{arith}
use lib.Dec.{ltb}
use borrow.Author.Tests.{eq-eqb, ne_eqb}
use Rattle.float_format.specs.Number.{below}
use Rattle.float_format.specs.Format.{is_nan, unsigned, infinity}
use Rattle.float_format.proofs.Sizes.{sizes}
use Rattle.ordering.specs.Ordering.{same}
use Rattle.ordering.proofs.Ranks.{nan_where, number_where, same_is, below_is}
use Rattle.ordering.proofs.Steps.{at_first_nan, at_second_nan, at_same, stepped, from_zero}
use Rattle.ordering.proofs.neighbour.Goals.{Else-a-top, Else-from-to, Else-rest-top}
use Rattle.ordering.proofs.neighbour.Goals as goal

-- past the first two tests neither operand is a NaN
number-x : (g : _) (c : Else-a-top g) → unsigned g.P.Pattern.format c.args.x ≤ infinity g.P.Pattern.format
number-x g c = omega (arith, c.if-a-top.false, c.rest-a.ensures, c.infinity_of-top.ensures)

number-y : (g : _) (c : Else-rest-top g) → is_nan g.P.Pattern.format c.args.y ≡ false
number-y g c = number_where _ _ (omega (arith, c.if-rest-top.false, c.rest.ensures, c.infinity_of-top.ensures))

-- past the third they are not the same number
differ : (g : _) (c : Else-from-to g) → same g.P.Pattern.format c.args.x c.args.y ≡ false
differ g c = same_is _ _ _ ∙ rw (← c.rank-from.ensures.0, ← c.rank-to.ensures.0) (ne_eqb _ _ c.if-from-to.false)

pub returns-then-a-top : goal.returns-then-a-top
returns-then-a-top g c =
    let s = c in
    let x : is_nan g.P.Pattern.format s.args.x ≡ true = nan_where _ _ (omega (arith, c.if-a-top.true, c.rest-a.ensures, c.infinity_of-top.ensures)) in
    (c.quiet.ensures.0 ∙ sym (at_first_nan g.P.Pattern.format s.args.x s.args.y x), c.quiet.ensures.1)

pub returns-then-rest-top : goal.returns-then-rest-top
returns-then-rest-top g c =
    let s = c in
    let y : is_nan g.P.Pattern.format s.args.y ≡ true = nan_where _ _ (omega (arith, c.if-rest-top.true, c.rest.ensures, c.infinity_of-top.ensures)) in
    (c.quiet-then-rest-top.ensures.0 ∙ sym (at_second_nan g.P.Pattern.format s.args.x s.args.y (number_where _ _ (number-x g (goal.at.returns-then-rest-top g c).Else-a-top)) y), c.quiet-then-rest-top.ensures.1)

pub returns-then-from-to : goal.returns-then-from-to
returns-then-from-to g c =
    let s = c in
    let e : same g.P.Pattern.format s.args.x s.args.y ≡ true = same_is _ _ _ ∙ rw (← c.rank-from.ensures.0, ← c.rank-to.ensures.0) (eq-eqb _ _ c.if-from-to.true) in
    (sym (at_same g.P.Pattern.format s.args.x s.args.y (number_where _ _ (number-x g (goal.at.returns-then-from-to g c).Else-a-top)) (number-y g (goal.at.returns-then-from-to g c).Else-rest-top) e), s.requires.second)

pub returns-then-a-eq0 : goal.returns-then-a-eq0
returns-then-a-eq0 g c =
    let s = c in
    from_zero g.P.Pattern.format s.args.x s.args.y (number_where _ _ (number-x g (goal.at.returns-then-a-eq0 g c).Else-a-top)) (number-y g (goal.at.returns-then-a-eq0 g c).Else-rest-top) (differ g (goal.at.returns-then-a-eq0 g c).Else-from-to)
    c.signed_zero.result g.met.P.Pattern.fits.valid s.requires.second (omega (arith, c.if-a-eq0.true, c.rest-a.ensures)) c.signed_zero.ensures

pub overflow_add-result : goal.overflow_add-result
overflow_add-result g c = record { fits = omega (arith, (returns-then-a-eq0 g c).1, (sizes g.P.Pattern.format g.met.P.Pattern.fits).sign_le) }

pub returns : goal.returns
returns g c =
    let s = c in
    let some : 0 < unsigned g.P.Pattern.format s.args.x = omega (arith, c.if-a-eq0.false, c.rest-a.ensures) in
    let t : ltb c.rank-from.result c.rank-to.result ≡ below g.P.Pattern.format s.args.x s.args.y = rw (c.rank-from.ensures.0, c.rank-to.ensures.0) (sym (below_is g.P.Pattern.format s.args.x s.args.y)) in
    stepped g.P.Pattern.format s.args.x s.args.y (number_where _ _ (number-x g (goal.at.returns g c).Else-a-top)) (number-y g (goal.at.returns g c).Else-rest-top) (differ g (goal.at.returns g c).Else-from-to)
    _ c.step.result g.met.P.Pattern.fits.valid some (number-x g (goal.at.returns g c).Else-a-top) t c.step.ensures
