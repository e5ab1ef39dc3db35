-- `frexp` meets its contract: a normal number keeps its sign and its fraction, and its field becomes that of one half. Assumes nothing.
use Rattle.std.proofs.Common.{◌≡◌, ℕ, ◌+◌, ◌-◌, ◌*◌, ◌/◌, ◌%◌, ◌^◌, ◌<◌, ◌≤◌, refl, ap, ◌∙◌, div-lt_iff_lt-mul, le_antisymm, arith, pow_pos, w64, to_z, of_z, rules}
use Rattle.float_format.specs.Format.{Format, sign_bit, top_field, infinity, exponent_field, unsigned}
use Rattle.float_format.proofs.Sizes.{sizes, field_le, field_from, fields_apart}
use Rattle.scaling.proofs.Classes.{frexp_not_finite}
use Rattle.scaling.proofs.Fractions.{Halved, halved, digits-short}
use Rattle.scaling.proofs.frexp.Goals.{After-bias_of-half, After-signed_zero, Else-a-infinity_of, Else-a-unit}
use Rattle.scaling.proofs.frexp.Goals as goal

pieces : (f : Format) (x z e u : ℕ) → z ≡ x - x % sign_bit f → e ≡ exponent_field f x → u ≡ 2 ^ f.fraction → x ≡ z + (e * u + x % u)
pieces f x z e u ez ee eu = rw (ez, ee, eu) (fields_apart f x)

-- the exponent field, as the code takes it from the pattern without its sign
abbrev taken : (g : _) (c : After-bias_of-half g) → ℕ
taken g c = c.rest-a.result / 2 ^ g.P.Pattern.format.fraction

field_is : (g : _) (c : After-bias_of-half g) → taken g c ≡ exponent_field g.P.Pattern.format c.to_word-w.result
field_is g c = ap (λ (n : ℕ). n / 2 ^ g.P.Pattern.format.fraction) c.rest-a.ensures

from-unit : (g : _) (c : Else-a-unit g) → 2 ^ g.P.Pattern.format.fraction ≤ unsigned g.P.Pattern.format c.to_word-w.result
from-unit g c = omega (arith, c.rest-a.ensures, c.unit-unit.ensures, c.if-a-unit.false)

halve : (g : _) (c : After-bias_of-half g) → Halved g.P.Pattern.format c.to_word-w.result (taken g c) c.unit-unit.result c.bias_of-half.result
halve g c =
    halved g.P.Pattern.format c.to_word-w.result (taken g c) c.unit-unit.result c.bias_of-half.result g.met.P.Pattern.fits.valid c.to_word-w.ensures.1 (field_is g c)
    (field_from g.P.Pattern.format c.to_word-w.result (taken g c) 1 (field_is g c) (omega (arith, from-unit g (goal.at.After-bias_of-half g c).Else-a-unit)))
    ((div-lt_iff_lt-mul (pow_pos g.P.Pattern.format.fraction)).1 (omega (arith, c.if-a-infinity_of.true, c.infinity_of.ensures)))
    c.unit-unit.ensures c.bias_of-half.ensures

short : (g : _) (c : After-bias_of-half g) → g.P.Pattern.format.fraction + taken g c < 2 ^ 63
short g c = digits-short g.P.Pattern.format (taken g c) g.met.P.Pattern.fits (rw (field_is g c) (field_le g.P.Pattern.format c.to_word-w.result))

-- the pattern, in the pieces that the code names
apart : (g : _) (c : After-signed_zero g) → c.to_word-w.result ≡ c.signed_zero.result + (taken g (goal.at.After-signed_zero g c).After-bias_of-half * c.unit-unit.result + c.to_word-w.result % c.unit-unit.result)
apart g c =
    let s = (goal.at.After-signed_zero g c).After-bias_of-half in
    pieces g.P.Pattern.format c.to_word-w.result c.signed_zero.result (taken g s) c.unit-unit.result c.signed_zero.ensures (field_is g s) c.unit-unit.ensures

moved : (g : _) (c : After-signed_zero g) → c.signed_zero.result + (c.to_word-w.result % c.unit-unit.result + (c.bias_of-half.result - 1) * c.unit-unit.result)
    ≡ c.to_word-w.result - taken g (goal.at.After-signed_zero g c).After-bias_of-half * c.unit-unit.result + (c.bias_of-half.result - 1) * c.unit-unit.result
moved g c = omega (arith, apart g c)

-- an infinity or a NaN
from-top : (g : _) (c : Else-a-infinity_of g) → infinity g.P.Pattern.format ≤ unsigned g.P.Pattern.format c.to_word-w.result
from-top g c = omega (arith, c.rest-a.ensures, c.infinity_of.ensures, c.if-a-infinity_of.false)

pub overflow_add-signed_zero : goal.overflow_add-signed_zero
overflow_add-signed_zero g c =
    let p = (goal.at.overflow_add-signed_zero g c).After-signed_zero in
    omega (arith, (halve g (goal.at.overflow_add-signed_zero g c).After-bias_of-half).fits, apart g p, (sizes g.P.Pattern.format g.met.P.Pattern.fits).sign_le)

pub from_word-requires : goal.from_word-requires
from_word-requires g c = rw (moved g (goal.at.from_word-requires g c).After-signed_zero) (halve g (goal.at.from_word-requires g c).After-bias_of-half).fits

pub power_of-requires : goal.power_of-requires
power_of-requires g c = rw (c.fraction_bits.ensures, c.fraction_bits-then-a-infinity_of.ensures) (short g (goal.at.power_of-requires g c).After-bias_of-half)

pub returns-then-a-infinity_of : goal.returns-then-a-infinity_of
returns-then-a-infinity_of g c =
    let h = halve g (goal.at.returns-then-a-infinity_of g c).After-bias_of-half in
    let e : to_z w64 (of_z w64 c.power_of.result) ≡ c.power_of.result = search rules in
    rw (← c.to_word-w.ensures.0)
    (c.from_word.ensures ∙ moved g (goal.at.returns-then-a-infinity_of g c).After-signed_zero ∙ h.is, e ∙ c.power_of.ensures ∙ rw (c.fraction_bits.ensures, c.fraction_bits-then-a-infinity_of.ensures) h.exponent)

pub not_finite-requires : goal.not_finite-requires
not_finite-requires g c =
    let f = g.P.Pattern.format in
    let x = c.to_word-w.result in
    (c.to_word-w.ensures.1, le_antisymm (field_le f x) (field_from f x (exponent_field f x) (top_field f) refl (from-top g (goal.at.not_finite-requires g c).Else-a-infinity_of)))

pub returns : goal.returns
returns g c =
    let r = frexp_not_finite g.P.Pattern.format c.to_word-w.result c.not_finite.result (from-top g (goal.at.returns g c).Else-a-infinity_of) c.not_finite.ensures.0 in
    rw (← c.to_word-w.ensures.0) (c.from_word-2.ensures ∙ r.0, r.1)
