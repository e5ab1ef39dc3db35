-- `smaller` meets its contract: the scales are the same, or one apart. Assumes nothing.
use mathlib.Core.Path.{◌≡◌}
use Prim.Native.Nat.{◌+◌, ◌-◌, ◌*◌, ◌%◌, ◌^◌, ◌≤◌}
use native.Mathlib.Nat.{mod-eq_of_lt, mul-le-mul_left}
use native.Mathlib.Omega.{arith}
use lib.Pow.{pow_mono}
use Rattle.remainder.specs.Shape.{scale_of}
use Rattle.remainder.proofs.Split.{split, scale_mono}
use Rattle.nearest_remainder.proofs.Divisions.{smaller_divided}
use Rattle.nearest_remainder.proofs.smaller.Goals.{Start}
use Rattle.nearest_remainder.proofs.smaller.Goals as goal

ordered : (g : _) (s : Start g) → scale_of g.P.Pattern.format.fraction s.args.a ≤ scale_of g.P.Pattern.format.fraction s.args.b
ordered g s = scale_mono g.P.Pattern.format.fraction {a = s.args.b} {b = s.args.a} (omega (arith, s.requires.1))

pub returns : goal.returns
returns g c =
    let s = c in
    let a = s.args in
    let i = c.scale-i in
    let j = c.scale in
    let near : j.result - i.result ≤ 1 = omega (arith, i.ensures, j.ensures, s.requires.2) in
    let back : j.result - i.result + i.result ≡ j.result = omega (arith, i.ensures, j.ensures, ordered g (goal.at.returns g c).Start) in
    let sa = split g.P.Pattern.format.fraction a.a i.result c.significand.result i.ensures c.significand.ensures in
    let sb = split g.P.Pattern.format.fraction a.b j.result c.significand-2.result j.ensures c.significand-2.ensures in
    let two : c.significand-2.result * 2 ^ (j.result - i.result) ≤ c.significand-2.result * 2 = mul-le-mul_left c.significand-2.result (pow_mono {i = j.result - i.result} {j = 1} near) in
    let whole : c.significand-2.result * 2 ^ (j.result - i.result) % 2 ^ 64 ≡ c.significand-2.result * 2 ^ (j.result - i.result) = mod-eq_of_lt (omega (arith, two, sb.few, pow_mono {i = g.P.Pattern.format.fraction} {j = 52} s.requires.0.most)) in
    smaller_divided g.P.Pattern.format a.a a.b s.requires.0 i.result (j.result - i.result) c.significand.result c.significand-2.result _ s.requires.1 sa (rw back sb) i.ensures near whole
