-- `with_remainder` meets its contract. Assumes nothing.
use mathlib.Core.Path.{◌≡◌, ap, ◌∙◌}
use Prim.Native.Nat.{ℕ, ◌+◌, ◌*◌, ◌^◌, ◌<◌}
use native.Mathlib.Omega.{arith}
use Rattle.float_format.specs.Format.{sign_bit, unsigned}
use Rattle.float_format.specs.Number.{encode}
use Rattle.float_format.proofs.Sizes.{zero_le}
use Rattle.remainder.specs.Shape.{scale_of}
use Rattle.remainder.proofs.Cases.{left_is}
use Rattle.remainder.proofs.with_remainder.Goals.{After-encoded, After-scale-j, Start}
use Rattle.remainder.proofs.with_remainder.Goals as goal

scale-y : (g : _) (c : After-scale-j g) → c.scale-j.result ≡ scale_of g.P.Pattern.format.fraction (unsigned g.P.Pattern.format c.args.y)
scale-y g c = c.scale-j.ensures ∙ ap (scale_of g.P.Pattern.format.fraction) c.rest.ensures

sum_lt : (g : _) (c : After-encoded g) → c.signed_zero.result + c.encoded.result < 2 * sign_bit g.P.Pattern.format
sum_lt g c =
    let s = c in
    omega (arith, c.signed_zero.ensures, c.encoded.ensures.1, zero_le g.P.Pattern.format s.args.x s.requires.0.pattern)

pub returns : goal.returns
returns g c =
    let s = c in (
      ap (λ (n : ℕ). n + c.encoded.result) c.signed_zero.ensures
          ∙ left_is g.P.Pattern.format s.args.x s.args.y c.encoded.result s.requires.0 s.requires.1
          (c.encoded.ensures.0 ∙ ap (λ (n : ℕ). encode g.P.Pattern.format.fraction (s.args.left * 2 ^ n)) (scale-y g (goal.at.returns g c).After-scale-j)),
      sum_lt g (goal.at.returns g c).After-encoded,
    )
