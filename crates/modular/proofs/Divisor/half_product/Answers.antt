-- `half_product` meets its contract: what the estimate leaves is known from the low words, and one subtraction puts it right. Assumes nothing.
use Rattle.std.proofs.Common.{◌≡◌, ℕ, ◌+◌, ◌-◌, ◌*◌, ◌%◌, ◌^◌, ap, ◌∙◌, mul_comm, arith}
use Rattle.remainder.proofs.Estimate.{Near}
use Rattle.modular.proofs.Residues.{without, difference}
use Rattle.modular.proofs.Estimates.{estimate, first_lt, second_lt, near}
use Rattle.modular.proofs.Divisor.half_product.Goals.{Start}
use Rattle.modular.proofs.Divisor.half_product.Goals as goal

-- the estimate
abbrev at : Start → ℕ
at s = estimate s.args.x s.args.y s.args.self.number s.args.self.inverse s.args.self.formed s.requires.0 s.requires.1

near-at : (s : Start) → Near (s.args.x * s.args.y) s.args.self.number (at s)
near-at s = near s.args.x s.args.y s.args.self.number s.args.self.inverse s.args.self.formed s.requires.0 s.requires.1

-- the low words give what is left
left_is : (s : Start)
    → (s.args.x * s.args.y % 2 ^ 64 + (2 ^ 64 - s.args.self.number * at s % 2 ^ 64)) % 2 ^ 64 ≡ s.args.x * s.args.y - at s * s.args.self.number
left_is s =
    let p : s.args.self.number * at s ≡ at s * s.args.self.number = mul_comm s.args.self.number (at s) in
    difference (s.args.x * s.args.y) (s.args.self.number * at s) (omega (arith, p, (near-at s).under)) (omega (arith, p, (near-at s).over, s.args.self.formed.below))
    ∙ ap (λ (k : ℕ). s.args.x * s.args.y - k) p

pub overflow_mul-high : goal.overflow_mul-high
overflow_mul-high c = omega (arith, first_lt c.args.x c.args.y c.args.self.number c.args.self.inverse c.args.self.formed c.requires.0 c.requires.1)

pub overflow_mul-quotient : goal.overflow_mul-quotient
overflow_mul-quotient c = omega (arith, second_lt c.args.x c.args.y c.args.self.number c.args.self.inverse c.args.self.formed c.requires.0 c.requires.1)

pub less_once-requires : goal.less_once-requires
less_once-requires c = let s = (goal.at.less_once-requires c).Start in rw (left_is s) (omega (arith, (near-at s).under, (near-at s).over))

pub returns : goal.returns
returns c =
    let s = (goal.at.returns c).Start in
    c.less_once.ensures ∙ ap (λ (k : ℕ). k % c.args.self.number) (left_is s) ∙ without (c.args.x * c.args.y) (at s) c.args.self.number (near-at s).under
