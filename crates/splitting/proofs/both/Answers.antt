-- `both` meets its contract: the bits below the unit are the fraction in units, and the rest of x is its whole part. Assumes nothing.
use mathlib.Core.Path.{◌≡◌, ap, ◌∙◌}
use Prim.Native.Nat.{ℕ, suc, ◌+◌, ◌-◌, ◌*◌, ◌/◌, ◌%◌, ◌^◌, ◌≤◌}
use native.Mathlib.Nat.{div-add-mod'}
use native.Mathlib.Omega.{arith}
use lib.Bits.{bit_and}
use lib.Pow.{pow_pos}
use Rattle.float_format.specs.Number.{bias}
use Rattle.splitting.proofs.Fraction.{mask_low, low_lt, low_le, none_past, Placed, placed}
use Rattle.splitting.proofs.both.Goals.{After-bias_of, After-normal_shift-shift, After-power, After-unit-3}
use Rattle.splitting.proofs.both.Goals as goal

-- the low bits
abbrev low : (g : _) (c : After-bias_of g) → ℕ
low g c = bit_and c.args.x ((c.unit.result - 1) / 2 ^ (c.args.e - c.bias_of.result))

is-low : (g : _) (c : After-bias_of g) → low g c ≡ c.args.x % 2 ^ (bias g.P.Pattern.format + g.P.Pattern.format.fraction - c.args.e)
is-low g c =
    let s = c in
    rw (c.unit.ensures, c.bias_of.ensures) (mask_low s.args.x g.P.Pattern.format.fraction (bias g.P.Pattern.format) s.args.e s.requires.1 s.requires.2)

-- with their leading one in its place
lead : (g : _) (c : After-normal_shift-shift g) → Placed g.P.Pattern.format c.args.x c.args.e c.requires.0 (low g (goal.at.After-normal_shift-shift g c).After-bias_of) c.requires.1 c.requires.2 (is-low g (goal.at.After-normal_shift-shift g c).After-bias_of) c.normal_shift-shift.result
lead g c =
    let s = c in
    let l = c.normal_shift-shift.ensures in
    placed g.P.Pattern.format s.args.x s.args.e s.requires.0 (low g (goal.at.After-normal_shift-shift g c).After-bias_of) s.requires.1 s.requires.2 (is-low g (goal.at.After-normal_shift-shift g c).After-bias_of) c.normal_shift-shift.result g.met.P.Wide.wide.below_bias l.0 l.1 l.2

-- a difference of factors, multiplied out
apart : (a k u : ℕ) → suc k ≤ a → ((k + 1) * u ≤ a * u) × (a * u - (k + 1) * u ≡ (a - 1 - k) * u)
apart a k u l =
    let e : a * u ≡ ((a - 1 - k) + (k + 1)) * u = ap (λ (n : ℕ). n * u) (omega arith) in
    (omega (arith, e), omega (arith, e))

-- the fraction as the code computes it
part : (g : _) (c : After-unit-3 g)
    → ((c.normal_shift-shift.result + 1) * c.unit-3.result ≤ c.args.x / 2 ^ c.fraction_bits.result * c.unit-2.result)
    × (c.args.x / 2 ^ c.fraction_bits.result * c.unit-2.result - (c.normal_shift-shift.result + 1) * c.unit-3.result
    ≡ (c.args.x / 2 ^ g.P.Pattern.format.fraction - 1 - c.normal_shift-shift.result) * 2 ^ g.P.Pattern.format.fraction)
part g c =
    rw (c.fraction_bits.ensures, c.unit-2.ensures, c.unit-3.ensures)
    (apart (c.args.x / 2 ^ g.P.Pattern.format.fraction) c.normal_shift-shift.result (2 ^ g.P.Pattern.format.fraction) (lead g (goal.at.After-unit-3 g c).After-normal_shift-shift).above)

sum : (g : _) (c : After-power g)
    → c.args.x / 2 ^ c.fraction_bits.result * c.unit-2.result - (c.normal_shift-shift.result + 1) * c.unit-3.result + low g (goal.at.After-power g c).After-bias_of * c.power.result
    ≡ (c.args.x / 2 ^ g.P.Pattern.format.fraction - 1 - c.normal_shift-shift.result) * 2 ^ g.P.Pattern.format.fraction + low g (goal.at.After-power g c).After-bias_of * 2 ^ c.normal_shift-shift.result
sum g c = rw ((part g (goal.at.After-power g c).After-unit-3).1, c.power.ensures)

pub overflow_sub-low : goal.overflow_sub-low
overflow_sub-low g c = omega (arith, c.unit.ensures, pow_pos g.P.Pattern.format.fraction)

pub returns-then-low-eq0 : goal.returns-then-low-eq0
returns-then-low-eq0 g c =
    let s = c in
    let a = none_past g.P.Pattern.format s.args.x s.args.e s.requires.0 (low g (goal.at.returns-then-low-eq0 g c).After-bias_of) s.requires.1 s.requires.2 (is-low g (goal.at.returns-then-low-eq0 g c).After-bias_of) c.signed_zero.result c.signed_zero.ensures c.if-low-eq0.true in
    (a.whole, a.fraction)

pub normal_shift-shift-requires : goal.normal_shift-shift-requires
normal_shift-shift-requires g c =
    let s = c in (
      omega (arith, c.if-low-eq0.false),
      low_lt g.P.Pattern.format s.args.x s.args.e s.requires.0 (low g (goal.at.normal_shift-shift-requires g c).After-bias_of) s.requires.1 s.requires.2 (is-low g (goal.at.normal_shift-shift-requires g c).After-bias_of),
    )

pub overflow_sub-result : goal.overflow_sub-result
overflow_sub-result g c =
    let s = c in
    low_le g.P.Pattern.format s.args.x s.args.e s.requires.0 (low g (goal.at.overflow_sub-result g c).After-bias_of) s.requires.1 s.requires.2 (is-low g (goal.at.overflow_sub-result g c).After-bias_of)

pub overflow_sub-result-2 : goal.overflow_sub-result-2
overflow_sub-result-2 g c = (part g (goal.at.overflow_sub-result-2 g c).After-unit-3).0

pub overflow_mul-result : goal.overflow_mul-result
overflow_mul-result g c =
    let d : c.args.x / 2 ^ c.fraction_bits.result * c.unit-2.result ≤ c.args.x =
    rw (c.fraction_bits.ensures, c.unit-2.ensures) (omega (arith, div-add-mod' c.args.x (2 ^ g.P.Pattern.format.fraction))) in
    omega (arith, d, (part g (goal.at.overflow_mul-result g c).After-unit-3).0)

pub overflow_mul-result-2 : goal.overflow_mul-result-2
overflow_mul-result-2 g c = rw c.power.ensures (omega (arith, (lead g (goal.at.overflow_mul-result-2 g c).After-normal_shift-shift).fits))

pub overflow_add-result-2 : goal.overflow_add-result-2
overflow_add-result-2 g c =
    let p = (goal.at.overflow_add-result-2 g c).After-power in
    omega (arith, sum g p, (lead g (goal.at.overflow_add-result-2 g c).After-normal_shift-shift).fits)

pub returns : goal.returns
returns g c =
    let a = (lead g (goal.at.returns g c).After-normal_shift-shift).answers in
    (a.whole, sum g (goal.at.returns g c).After-power ∙ a.fraction)
