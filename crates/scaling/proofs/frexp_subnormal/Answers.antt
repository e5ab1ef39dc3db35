-- `frexp_subnormal` meets its contract: the leading one goes to its place, and the field is that of one half. Assumes nothing.
use Rattle.std.proofs.Common.{◌≡◌, ◌<◌, ◌^◌, sym, ◌∙◌, arith, w64, to_z, of_z, rules}
use Rattle.float_format.proofs.Sizes.{sizes}
use Rattle.scaling.proofs.Classes.{frexp_zero}
use Rattle.scaling.proofs.Fractions.{Lifted, lifted}
use Rattle.scaling.proofs.frexp_subnormal.Goals.{After-bias_of-below, After-rest-m}
use Rattle.scaling.proofs.frexp_subnormal.Goals as goal

low : (g : _) (c : After-rest-m g) → c.rest-m.result < 2 ^ g.P.Pattern.format.fraction
low g c = rw (c.rest-m.ensures, c.to_word-w.ensures.0) c.requires

lift : (g : _) (c : After-bias_of-below g) → Lifted g.P.Pattern.format c.to_word-w.result c.rest-m.result c.normal_shift-k.result c.bias_of-below.result
lift g c =
    let k = c.normal_shift-k in
    lifted g.P.Pattern.format c.to_word-w.result c.rest-m.result k.result c.bias_of-below.result g.met.P.Pattern.fits c.to_word-w.ensures.1 c.rest-m.ensures
    (omega (arith, c.if-m-eq0.false)) (low g (goal.at.After-bias_of-below g c).After-rest-m) k.ensures.0 k.ensures.3 c.bias_of-below.ensures

pub returns-then-m-eq0 : goal.returns-then-m-eq0
returns-then-m-eq0 g c =
    rw (← c.to_word-w.ensures.0) (frexp_zero g.P.Pattern.format c.to_word-w.result g.met.P.Pattern.fits.valid (sym c.rest-m.ensures ∙ c.if-m-eq0.true))

pub overflow_sub-below : goal.overflow_sub-below
overflow_sub-below g c = omega (arith, c.bias_of-below.ensures, (sizes g.P.Pattern.format g.met.P.Pattern.fits).room.two)

pub overflow_mul-half : goal.overflow_mul-half
overflow_mul-half g c = rw c.unit.ensures (omega (arith, (lift g (goal.at.overflow_mul-half g c).After-bias_of-below).fits, (sizes g.P.Pattern.format g.met.P.Pattern.fits).sign_le))

pub overflow_add-half : goal.overflow_add-half
overflow_add-half g c = rw (c.unit.ensures, c.power.ensures) (omega (arith, (lift g (goal.at.overflow_add-half g c).After-bias_of-below).fits, (sizes g.P.Pattern.format g.met.P.Pattern.fits).sign_le))

pub overflow_add-signed_zero : goal.overflow_add-signed_zero
overflow_add-signed_zero g c = rw (c.signed_zero.ensures, c.unit.ensures, c.power.ensures) (omega (arith, (lift g (goal.at.overflow_add-signed_zero g c).After-bias_of-below).fits, (sizes g.P.Pattern.format g.met.P.Pattern.fits).sign_le))

pub from_word-requires : goal.from_word-requires
from_word-requires g c = rw (c.signed_zero.ensures, c.unit.ensures, c.power.ensures) (lift g (goal.at.from_word-requires g c).After-bias_of-below).fits

pub returns : goal.returns
returns g c =
    let l = lift g (goal.at.returns g c).After-bias_of-below in
    let e : to_z w64 (of_z w64 c.power_of.result) ≡ c.power_of.result = search rules in
    rw (← c.to_word-w.ensures.0)
    (rw (c.from_word.ensures, c.signed_zero.ensures, c.unit.ensures, c.power.ensures) l.is, e ∙ c.power_of.ensures ∙ rw c.fraction_bits.ensures l.exponent)
