-- `any` meets its contract: where nothing is divided, the word and the refusal are fmod's, and the quotient is 0. Assumes nothing.
use mathlib.Core.Path.{◌≡◌, sym, ◌∙◌}
use mathlib.Core.Bool.{true}
use native.Mathlib.Omega.{arith}
use lib.Ieee.{unlike}
use Rattle.float_format.specs.Format.{negative}
use Rattle.nearest_remainder.proofs.Cases.{undivided, as_fmod, no_quotient, special_undivided}
use Rattle.nearest_remainder.proofs.Signs.{no_sign}
use Rattle.nearest_remainder.proofs.any.Goals.{Start}
use Rattle.nearest_remainder.proofs.any.Goals as goal

pub returns-then-special : goal.returns-then-special
returns-then-special g c =
    let s = c in
    let f = g.P.Pattern.format in
    let a = s.args in
    let e = c.special_answer-answer.ensures in
    let u : undivided f a.x a.y ≡ true = special_undivided f a.x a.y (sym c.special.ensures ∙ c.if-special.true) in
    record {
      word = e.0 ∙ sym (as_fmod f a.x a.y u);
      pattern = e.2;
      quotient = no_sign (unlike (negative f a.x) (negative f a.y)) ∙ sym (no_quotient f a.x a.y u);
      small = omega arith;
      refusal = e.1;
    }
