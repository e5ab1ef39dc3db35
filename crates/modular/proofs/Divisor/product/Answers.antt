-- `product` meets its contract: the products by the two halves of y, the upper one in its place. Assumes nothing.
use Rattle.std.proofs.Common.{◌*◌, ◌/◌, ◌%◌, ◌^◌, ◌<◌, ◌∙◌, mod-lt, arith}
use Rattle.modular.proofs.Residues.{halves_product}
use Rattle.modular.proofs.Divisor.product.Goals.{After-half_product-high, After-half_product-low, After-half_product}
use Rattle.modular.proofs.Divisor.product.Goals as goal

high_lt : (c : After-half_product-high) → c.half_product-high.result < c.args.self.number
high_lt c = let a = c.args in rw c.half_product-high.ensures (mod-lt (a.x * (a.y / 2 ^ 28)) (omega (arith, c.requires.1)))

low-lt : (c : After-half_product-low) → c.half_product-low.result < c.args.self.number
low-lt c = let a = c.args in rw c.half_product-low.ensures (mod-lt (a.x * (a.y % 2 ^ 28)) (omega (arith, c.requires.1)))

upper-lt : (c : After-half_product) → c.half_product.result < c.args.self.number
upper-lt c = rw c.half_product.ensures (mod-lt (c.half_product-high.result * 2 ^ 28) (omega (arith, c.requires.1)))

pub half_product-high-requires : goal.half_product-high-requires
half_product-high-requires c = (c.requires.0, omega (arith, c.requires.1, c.args.self.formed.below))

pub half_product-requires : goal.half_product-requires
half_product-requires c = (high_lt (goal.at.half_product-requires c).After-half_product-high, omega arith)

pub overflow_add-half_product : goal.overflow_add-half_product
overflow_add-half_product c = omega (arith, low-lt (goal.at.overflow_add-half_product c).After-half_product-low, upper-lt (goal.at.overflow_add-half_product c).After-half_product, c.args.self.formed.below)

pub less_once-requires : goal.less_once-requires
less_once-requires c = omega (arith, low-lt (goal.at.less_once-requires c).After-half_product-low, upper-lt (goal.at.less_once-requires c).After-half_product)

pub returns : goal.returns
returns c =
    let a = c.args in
    c.less_once.ensures
    ∙ halves_product a.x a.y (2 ^ 28) a.self.number c.half_product-high.result c.half_product-low.result c.half_product.result c.half_product-high.ensures c.half_product-low.ensures c.half_product.ensures
