-- `lround` meets its contract. Assumes nothing.
use mathlib.Core.Path.{◌≡◌, sym, ap, ◌∙◌}
use Prim.Native.Nat.{ℕ}
use native.Mathlib.Omega.{arith}
use lib.Dec.{leb}
use mir.Syntax.{w64}
use mir.Val.{of_z, to_z}
use Rattle.float_format.specs.Rounding.{with_sign}
use Rattle.float_format.specs.Width.{Finite}
use Rattle.float_format.proofs.Sizes.{sizes, rest_below}
use Rattle.rounding.proofs.Count.{Answers, below_answer}
use borrow.Author.Rules.{rules}
use Rattle.rounding.proofs.lround.Goals.{Start, Then-e-bias_of}
use Rattle.rounding.proofs.lround.Goals as goal

finite : (g : _) (c : Then-e-bias_of g) → Finite g.P.Pattern.format c.to_word-word.result c.field-e.result
finite g c =
    record {
      word = g.met.P.Pattern.fits;
      pattern = c.to_word-word.ensures.1;
      field = c.field-e.ensures.0;
      finite = omega (arith, c.if-e-bias_of.true, c.bias_of.ensures, g.met.P.Wide.wide.past_words);
    }

pub overflow_add-bias_of : goal.overflow_add-bias_of
overflow_add-bias_of g c = omega (arith, c.bias_of.ensures, (sizes g.P.Pattern.format g.met.P.Pattern.fits).bias_lt)

pub whole_below-n-requires : goal.whole_below-n-requires
whole_below-n-requires g c = (finite g (goal.at.whole_below-n-requires g c).Then-e-bias_of, omega (arith, c.if-e-bias_of.true, c.bias_of.ensures))

pub with_sign-requires : goal.with_sign-requires
with_sign-requires g c = c.whole_below-n.ensures.1

pub returns-then-e-bias_of : goal.returns-then-e-bias_of
returns-then-e-bias_of g c =
    let x = c.to_word-word.result in
    let z = c.with_sign.result in
    let e : to_z w64 (of_z w64 z) ≡ z = search rules in
    let w : Finite g.P.Pattern.format x c.field-e.result = finite g (goal.at.returns-then-e-bias_of g c).Then-e-bias_of in
    let a : Answers g.P.Pattern.format x 0 _ =
    below_answer g.P.Pattern.format x c.whole_below-n.result c.whole_below-n.ensures.0
    (rest_below g.P.Pattern.format x c.field-e.result _ w.field w.finite) c.whole_below-n.ensures.1 in
    rw (sym c.to_word-word.ensures.0)
    (a.refusal, e ∙ c.with_sign.ensures ∙ ap (λ (n : ℕ). with_sign (leb n x) c.whole_below-n.result) c.sign_bit.ensures ∙ a.value)

pub integer_large-requires : goal.integer_large-requires
integer_large-requires g c = (c.to_word-word.ensures.1, c.field-e.ensures.0, omega (arith, c.if-e-bias_of.false, c.bias_of.ensures))
