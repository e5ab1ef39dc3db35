-- `place_of` meets its contract: a normal number's significand stands as it is, a subnormal one's moves up. Assumes nothing.
use Rattle.std.proofs.Common.{◌≡◌, ◌+◌, ◌%◌, ◌^◌, ◌<◌, refl, arith, w64, to_z, of_z, rules}
use Rattle.float_format.specs.Format.{unsigned}
use Rattle.scaling.proofs.Exponents.{Bits, bits}
use Rattle.scaling.proofs.Significands.{low_rest}
use Rattle.scaling.proofs.Places.{normal_position, subnormal_position}
use Rattle.scaling.proofs.place_of.Goals.{After-unit-unit, After-word-w, Else-e-gt0, Start}
use Rattle.scaling.proofs.place_of.Goals as goal

-- n is what its 64 bits stand for
read : (g : _) (s : Start g) → to_z w64 (of_z w64 s.args.n) ≡ s.args.n
read g s = search rules

held : (g : _) (c : After-word-w g) → Bits c.args.n c.word-w.result
held g c = rw (c.word-w.ensures, read g (goal.at.After-word-w g c).Start) (bits c.args.n c.ranges.n)

-- the exponent field is 0
low : (g : _) (c : Else-e-gt0 g) → unsigned g.P.Pattern.format c.args.x < 2 ^ g.P.Pattern.format.fraction
low g c = low_rest g.P.Pattern.format c.args.x c.args.e c.requires.0.field (omega (arith, c.if-e-gt0.false))

pub returns-then-e-gt0 : goal.returns-then-e-gt0
returns-then-e-gt0 g c =
    normal_position g.P.Pattern.format c.args.x c.word-w.result c.args.n (held g (goal.at.returns-then-e-gt0 g c).After-word-w) g.met.P.Pattern.fits
    c.args.e c.unit-unit.result _ c.requires.0.field c.if-e-gt0.true c.requires.0.finite c.unit-unit.ensures refl (omega arith)

pub returns : goal.returns
returns g c =
    let a = c.rest-a in
    let k = c.normal_shift-k in
    subnormal_position g.P.Pattern.format c.args.x c.word-w.result c.args.n (held g (goal.at.returns g c).After-word-w) g.met.P.Pattern.fits
    a.result k.result c.power.result ((c.word-w.result + 1) % 2 ^ 64) _ a.ensures
    (omega (arith, a.ensures, c.requires.1)) (omega (arith, a.ensures, low g (goal.at.returns g c).Else-e-gt0)) k.ensures.0 k.ensures.3
    c.power.ensures refl (omega (arith, k.type_inv)) (omega arith)
