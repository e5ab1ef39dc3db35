-- `cut_division` meets its contract. Assumes nothing.
use mathlib.Core.Path.{ap, ◌∙◌}
use Prim.Native.Nat.{ℕ, ◌*◌, ◌%◌, ◌/◌, ◌^◌}
use native.Mathlib.Nat.{mod-lt}
use native.Mathlib.Omega.{arith}
use lib.Pow.{pow_mono}
use Rattle.nearest_remainder.proofs.Divisions.{eight_quotient, eight_rest}
use Rattle.nearest_remainder.proofs.cut_division.Goals as goal

pub scaled_remainder-requires : goal.scaled_remainder-requires
scaled_remainder-requires g c =
    let s = c in
    let e = pow_mono {i = g.P.Pattern.format.fraction} {j = 52} g.met.P.Wide.wide.spare in
    (omega (arith, s.requires.0, e), s.requires.1, s.requires.2, omega (arith, s.requires.3, e))

pub last_digits-requires : goal.last_digits-requires
last_digits-requires g c =
    let s = c in
    (rw c.scaled_remainder.ensures (mod-lt (s.args.m * 2 ^ s.args.n) (omega (arith, s.requires.2))), omega (arith, s.requires.3, pow_mono {i = g.P.Pattern.format.fraction} {j = 52} g.met.P.Wide.wide.spare))

pub returns : goal.returns
returns g c =
    let s = c in
    let e = c.scaled_remainder.ensures in
    let q = c.last_digits.ensures.0 ∙ ap (λ (k : ℕ). k / s.args.w) e ∙ eight_quotient (s.args.m * 2 ^ s.args.n) s.args.w s.requires.2 in
    (omega (arith, q), c.last_digits.ensures.1 ∙ ap (λ (k : ℕ). k % s.args.w) e ∙ eight_rest (s.args.m * 2 ^ s.args.n) s.args.w s.requires.2)
