-- `is_integral` meets its contract: of finite numbers the whole ones are those that trunc leaves alone. Assumes nothing.
use mathlib.Core.Path.{sym, ap, ◌∙◌}
use native.Mathlib.Omega.{arith}
use lib.Dec.{eqb}
use Rattle.float_format.specs.Format.{binary64}
use Rattle.float_format.specs.declared.Direction.TheVariants.{TowardZero}
use Rattle.float_format.proofs.Integers.{integer_beyond, integer_rounded}
use Rattle.semantics.proofs.Sound.Kept.{valid}
use Rattle.marks.proofs.is_integral.Goals as goal

pub returns-then-rest-infinity_of : goal.returns-then-rest-infinity_of
returns-then-rest-infinity_of c = sym (integer_beyond binary64 c.args.x (omega (arith, c.rest.ensures, c.infinity_of.ensures)))

pub returns : goal.returns
returns c =
    let x = c.args.x in
    ap (λ y. eqb y x) c.trunc.ensures ∙ sym (integer_rounded binary64 TowardZero x valid (omega arith) (omega (arith, c.rest.ensures, c.infinity_of.ensures)))
