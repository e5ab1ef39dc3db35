-- `aligned` meets its contract. Assumes nothing.
use mathlib.Core.Path.{◌≡◌, sym}
use Prim.Native.Nat.{◌*◌, ◌^◌, ◌<◌}
use native.Mathlib.Omega.{arith}
use Rattle.float_format.specs.Format.{unsigned}
use Rattle.float_format.proofs.Patterns.{below_sign}
use Rattle.integer_arithmetic.specs.Stands.{Scaled, lift}
use Rattle.integer_arithmetic.proofs.Sums.{lifted, scales, aligns}
use Rattle.integer_arithmetic.proofs.Words.{wide_fits}
use Rattle.integer_arithmetic.proofs.aligned.Goals.{After-power-lift, Start}
use Rattle.integer_arithmetic.proofs.aligned.Goals as goal

-- the places where both significands are known, and the parts
abbrev start : (g : _) (c : After-power-lift g) → Start g
start g c = (goal.at.After-power-lift g c).Start

-- the parts that a unit is cut into
lift-is : (g : _) (c : After-power-lift g) → c.power-lift.result ≡ lift g.P.Pattern.format
lift-is g c = rw (c.power-lift.ensures, c.fraction_bits.ensures)

-- x's and y's
first : (g : _) (c : After-power-lift g) → Scaled g.P.Pattern.format (unsigned g.P.Pattern.format (start g c).args.x) c.units-p.result.digits c.units-p.result.scale
first g c = rw (sym c.rest.ensures) c.units-p.ensures

second : (g : _) (c : After-power-lift g) → Scaled g.P.Pattern.format (unsigned g.P.Pattern.format (start g c).args.y) c.units-q.result.digits c.units-q.result.scale
second g c = rw (sym c.rest-2.ensures) c.units-q.ensures

large-lt : (g : _) (c : After-power-lift g) → c.units-p.result.digits * c.power-lift.result < 2 ^ 61
large-lt g c = rw (lift-is g c) (lifted g.P.Pattern.format (wide_fits g.P.Pattern.format g.met.P.Pattern.fits g.met.P.Wide.wide) c.units-p.result.digits (first g c).below)

small-lt : (g : _) (c : After-power-lift g) → c.units-q.result.digits * c.power-lift.result < 2 ^ 61
small-lt g c = rw (lift-is g c) (lifted g.P.Pattern.format (wide_fits g.P.Pattern.format g.met.P.Pattern.fits g.met.P.Wide.wide) c.units-q.result.digits (second g c).below)

pub units-p-requires : goal.units-p-requires
units-p-requires g c = rw c.rest.ensures (below_sign g.P.Pattern.format c.args.x)

pub units-q-requires : goal.units-q-requires
units-q-requires g c =
    let s = c in
    rw c.rest-2.ensures (below_sign g.P.Pattern.format s.args.y)

pub overflow_mul-result : goal.overflow_mul-result
overflow_mul-result g c = omega (arith, large-lt g (goal.at.overflow_mul-result g c).After-power-lift)

pub overflow_mul-q : goal.overflow_mul-q
overflow_mul-q g c = omega (arith, small-lt g (goal.at.overflow_mul-q g c).After-power-lift)

pub overflow_sub-p : goal.overflow_sub-p
overflow_sub-p g c =
    let d = c in
    let s = start g (goal.at.overflow_sub-p g c).After-power-lift in
    let p = d.units-p.result in
    let q = d.units-q.result in
    scales g.P.Pattern.format (unsigned g.P.Pattern.format s.args.x) (unsigned g.P.Pattern.format s.args.y) p.digits p.scale q.digits q.scale (first g (goal.at.overflow_sub-p g c).After-power-lift) (second g (goal.at.overflow_sub-p g c).After-power-lift) s.requires

pub sticky-requires : goal.sticky-requires
sticky-requires g c = small-lt g (goal.at.sticky-requires g c).After-power-lift

pub returns : goal.returns
returns g c =
    let d = c in
    let s = start g (goal.at.returns g c).After-power-lift in
    let p = d.units-p.result in
    let q = d.units-q.result in
    rw (lift-is g (goal.at.returns g c).After-power-lift)
    (aligns g.P.Pattern.format (wide_fits g.P.Pattern.format g.met.P.Pattern.fits g.met.P.Wide.wide) s.args.x s.args.y p.digits p.scale q.digits q.scale c.sticky.result (first g (goal.at.returns g c).After-power-lift) (second g (goal.at.returns g c).After-power-lift) s.requires (rw (lift-is g (goal.at.returns g c).After-power-lift) at c.sticky.ensures))
