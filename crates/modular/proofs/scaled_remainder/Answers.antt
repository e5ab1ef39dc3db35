-- `scaled_remainder` meets its contract: the divisor is brought to 2^55, and what is left by it is taken back down. Assumes nothing.
use Rattle.std.proofs.Common.{◌≡◌, ℕ, ◌+◌, ◌-◌, ◌*◌, ◌%◌, ◌^◌, ◌≤◌, ap, ◌∙◌, mod-lt, arith}
use Rattle.modular.proofs.Powers.{three_below, brought_whole, taken_back}
use Rattle.modular.proofs.scaled_remainder.Goals.{After-leading_shift-k, After-of-divisor}
use Rattle.modular.proofs.scaled_remainder.Goals as goal

-- the divisor as it is brought up
abbrev d : (c : After-leading_shift-k) → ℕ
d c = c.args.w * 2 ^ c.leading_shift-k.result

whole : (c : After-leading_shift-k) → d c % 2 ^ 64 ≡ d c
whole c =
    let s = c in
    let e = c.leading_shift-k.ensures in
    brought_whole s.args.w c.leading_shift-k.result s.requires.2 s.requires.3 (omega (arith, e.1)) (omega (arith, e.2))

three : (c : After-leading_shift-k) → 3 ≤ c.leading_shift-k.result
three c =
    let s = c in
    let e = c.leading_shift-k.ensures in
    three_below s.args.w c.leading_shift-k.result s.requires.2 s.requires.3 (omega (arith, e.1)) (omega (arith, e.2))

number : (c : After-of-divisor) → c.of-divisor.result.number ≡ d (goal.at.After-of-divisor c).After-leading_shift-k
number c = c.of-divisor.ensures ∙ whole (goal.at.After-of-divisor c).After-leading_shift-k

pub leading_shift-k-requires : goal.leading_shift-k-requires
leading_shift-k-requires c = (omega arith, c.requires.2, omega (arith, c.requires.3))

pub overflow_shl-w : goal.overflow_shl-w
overflow_shl-w c = omega (arith, c.leading_shift-k.ensures.0)

pub of-divisor-requires : goal.of-divisor-requires
of-divisor-requires c =
    let e = c.leading_shift-k.ensures in
    rw (whole (goal.at.of-divisor-requires c).After-leading_shift-k) (omega (arith, e.1), omega (arith, e.2))

pub overflow_add-n : goal.overflow_add-n
overflow_add-n c = omega (arith, c.requires.1, c.leading_shift-k.ensures.0)

pub overflow_sub-n : goal.overflow_sub-n
overflow_sub-n c = omega (arith, three (goal.at.overflow_sub-n c).After-leading_shift-k)

pub product-requires : goal.product-requires
product-requires c =
    let from = c.of-divisor.result.formed.from in
    (omega (arith, from, c.requires.0), rw c.power_of_two-scale.ensures (mod-lt (2 ^ (c.args.n + c.leading_shift-k.result - 3)) (omega (arith, from))))

pub overflow_sub-result : goal.overflow_sub-result
overflow_sub-result c = three (goal.at.overflow_sub-result c).After-leading_shift-k

pub overflow_shr-result : goal.overflow_shr-result
overflow_shr-result c = omega (arith, c.leading_shift-k.ensures.0)

pub returns : goal.returns
returns c =
    let s = c in
    let l = c.leading_shift-k in
    let e = number (goal.at.returns c).After-of-divisor in
    taken_back s.args.w l.result s.requires.2 s.requires.3 (omega (arith, l.ensures.1)) (omega (arith, l.ensures.2)) s.args.m s.args.n c.power_of_two-scale.result c.product.result
    (c.power_of_two-scale.ensures ∙ ap (λ (i : ℕ). 2 ^ (s.args.n + l.result - 3) % i) e)
    (c.product.ensures ∙ ap (λ (i : ℕ). s.args.m * c.power_of_two-scale.result % i) e)
