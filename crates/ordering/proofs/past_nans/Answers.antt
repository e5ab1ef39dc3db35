-- `past_nans` meets its contract: each return is one case of the definition, by the tests that led there. Assumes nothing.
use mathlib.Core.Path.{◌≡◌, sym, ◌∙◌}
use mathlib.Core.Bool.{true, false}
use native.Mathlib.Omega.{arith}
use Rattle.float_format.specs.Format.{is_nan}
use Rattle.ordering.proofs.Ranks.{nan_where, number_where}
use Rattle.ordering.proofs.MinMax.{past_both, past_first, past_second, past_none}
use Rattle.ordering.proofs.past_nans.Goals.{Else-a-top, Else-b-top-2, Then-a-top}
use Rattle.ordering.proofs.past_nans.Goals as goal

-- at the first test: whether x is a NaN; past it, whether y is
nan-x : (g : _) (c : Then-a-top g) → is_nan g.P.Pattern.format c.args.x ≡ true
nan-x g c = nan_where _ _ (omega (arith, c.if-a-top.true, c.rest-a.ensures, c.infinity_of-top.ensures))

number-x : (g : _) (c : Else-a-top g) → is_nan g.P.Pattern.format c.args.x ≡ false
number-x g c = number_where _ _ (omega (arith, c.if-a-top.false, c.rest-a.ensures, c.infinity_of-top.ensures))

number-y : (g : _) (c : Else-b-top-2 g) → is_nan g.P.Pattern.format c.args.y ≡ false
number-y g c = number_where _ _ (omega (arith, c.if-b-top-2.false, c.rest-b.ensures, c.infinity_of-top.ensures))

pub returns-then-b-top : goal.returns-then-b-top
returns-then-b-top g c =
    let s = c in
    let y : is_nan g.P.Pattern.format s.args.y ≡ true = nan_where _ _ (omega (arith, c.if-b-top.true, c.rest-b.ensures, c.infinity_of-top.ensures)) in
    (c.quiet.ensures.0 ∙ sym (past_both g.P.Pattern.format s.args.x s.args.y s.args.word (nan-x g (goal.at.returns-then-b-top g c).Then-a-top) y), c.quiet.ensures.1)

pub returns-then-a-top : goal.returns-then-a-top
returns-then-a-top g c =
    let s = c in
    let y : is_nan g.P.Pattern.format s.args.y ≡ false = number_where _ _ (omega (arith, c.if-b-top.false, c.rest-b.ensures, c.infinity_of-top.ensures)) in
    (sym (past_first g.P.Pattern.format s.args.x s.args.y s.args.word (nan-x g (goal.at.returns-then-a-top g c).Then-a-top) y), s.requires.0.second)

pub returns-then-b-top-2 : goal.returns-then-b-top-2
returns-then-b-top-2 g c =
    let s = c in
    let y : is_nan g.P.Pattern.format s.args.y ≡ true = nan_where _ _ (omega (arith, c.if-b-top-2.true, c.rest-b.ensures, c.infinity_of-top.ensures)) in
    (sym (past_second g.P.Pattern.format s.args.x s.args.y s.args.word (number-x g (goal.at.returns-then-b-top-2 g c).Else-a-top) y), s.requires.0.first)

pub returns : goal.returns
returns g c =
    let s = c in
    (sym (past_none g.P.Pattern.format s.args.x s.args.y s.args.word (number-x g (goal.at.returns g c).Else-a-top) (number-y g (goal.at.returns g c).Else-b-top-2)), s.requires.1)
