-- `product_zero` meets its contract. Assumes nothing.
use mathlib.Core.Path.{sym, ◌∙◌}
use Rattle.integer_arithmetic.proofs.Words.{zero_like, zero_unlike}
use Rattle.integer_arithmetic.proofs.product_zero.Goals.{Start}
use Rattle.integer_arithmetic.proofs.product_zero.Goals as goal

pub returns-then-signed_zero : goal.returns-then-signed_zero
returns-then-signed_zero g c =
    let s = c in
    zero_like g.P.Pattern.format s.args.x s.args.y s.requires.0 s.requires.1 (sym c.signed_zero.ensures ∙ c.if-signed_zero.true ∙ c.signed_zero-2.ensures)

pub returns : goal.returns
returns g c =
    let s = c in
    c.sign_bit.ensures
    ∙ zero_unlike g.P.Pattern.format s.args.x s.args.y s.requires.0 s.requires.1 (λ e. c.if-signed_zero.false (c.signed_zero.ensures ∙ e ∙ sym c.signed_zero-2.ensures))
