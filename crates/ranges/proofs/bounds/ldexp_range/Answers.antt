-- `ldexp_range` meets its contract. Assumes nothing.
use mathlib.Core.Path.{◌≡◌, sym, ◌∙◌}
use mir.Syntax.{w64}
use mir.Val.{of_z, to_z}
use Rattle.ranges.proofs.Rulings.{ldexp-ranged}
use borrow.Author.Rules.{rules}
use Rattle.ranges.proofs.bounds.ldexp_range.Goals as goal

pub returns : goal.returns
returns c =
    let a = c.args.a in
    let n = c.args.n in
    let k = c.low_power.result in
    let l = c.high_power.result in
    let p : to_z w64 (of_z w64 k) ≡ k = search rules in
    let q : to_z w64 (of_z w64 l) ≡ l = search rules in
    c.between.ensures
    ∙ ldexp-ranged a.low a.high n.low n.high k l _ _ (sym c.has_infinite_end.ensures ∙ c.if-has_infinite_end.false) c.low_power.ensures c.high_power.ensures
    (rw p at c.ldexp_of.ensures) (rw q at c.ldexp_of-2.ensures)
