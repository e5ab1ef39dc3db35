-- `power_of_two` meets its contract. The loop's invariant: r is the power by all digits of n but the last k. Assumes nothing.
use Rattle.std.proofs.Common.{◌≡◌, ℕ, suc, ◌-◌, ◌*◌, ◌/◌, ◌%◌, ◌^◌, ◌<◌, ap, ◌∙◌, mod-lt, arith}
use Rattle.modular.proofs.Powers.{leading_power, digit_power}
use Rattle.modular.proofs.Divisor.power_of_two.Goals.{Start, In-loop-k, After-product}
use Rattle.modular.proofs.Divisor.power_of_two.Goals as goal

some : (s : Start) → 0 < s.args.self.number
some s = omega (arith, s.args.self.formed.from)

-- what the loop squares is a residue, and so is the square
residue : (c : In-loop-k) → c.loop-k.r < c.args.self.number
residue c = rw c.loop-k.invariant.1 (mod-lt (2 ^ (c.args.n / 2 ^ c.loop-k.k)) (some (goal.at.In-loop-k c).Start))

square_lt : (c : After-product) → c.product.result < c.args.self.number
square_lt c = rw c.product.ensures (mod-lt (c.loop-k.r * c.loop-k.r) (some (goal.at.After-product c).Start))

pub overflow_shr-n : goal.overflow_shr-n
overflow_shr-n c = c.digits_past-past.ensures.0

pub power-r-requires : goal.power-r-requires
power-r-requires c = omega (arith, c.digits_past-past.ensures.1)

pub loop-k-init : goal.loop-k-init
loop-k-init c =
    let k = c.digits_past-past in
    (k.ensures.0, c.power-r.ensures ∙ leading_power c.args.n k.result c.args.self.number c.args.self.inverse c.args.self.formed k.ensures.1)

pub product-requires : goal.product-requires
product-requires c = let l = residue (goal.at.product-requires c).In-loop-k in (l, l)

pub overflow_shr-n-in-loop-k : goal.overflow_shr-n-in-loop-k
overflow_shr-n-in-loop-k c = omega (arith, c.loop-k.invariant.0)

pub appended-r-requires : goal.appended-r-requires
appended-r-requires c = (square_lt (goal.at.appended-r-requires c).After-product, omega arith)

pub loop-k-preserved : goal.loop-k-preserved
loop-k-preserved c =
    let a = c.args in
    let w = c.loop-k in
    let k : w.k ≡ suc (w.k - 1) = omega (arith, c.loop-k-test.true) in (
      omega (arith, w.invariant.0),
      digit_power a.n (w.k - 1) a.self.number w.r c.product.result c.appended-r.result (w.invariant.1 ∙ ap (λ (i : ℕ). 2 ^ (a.n / 2 ^ i) % a.self.number) k) c.product.ensures c.appended-r.ensures,
    )

pub returns : goal.returns
returns c =
    let a = c.args in
    let w = c.loop-k in
    let z : w.k ≡ 0 = omega (arith, c.loop-k-test.false) in
    let e : a.n / 2 ^ 0 ≡ a.n = omega arith in
    w.invariant.1 ∙ ap (λ (i : ℕ). 2 ^ (a.n / 2 ^ i) % a.self.number) z ∙ ap (λ (i : ℕ). 2 ^ i % a.self.number) e
