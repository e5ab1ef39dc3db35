-- `of_ldexp` meets its contract. Assumes nothing.
use mathlib.Core.Path.{◌≡◌, refl, ◌∙◌}
use mathlib.Core.List.{[], ◌∷◌}
use mir.Syntax.{w64}
use mir.Val.{of_z, to_z}
use Rattle.semantics.specs.Cause.{of_a, cause}
use Rattle.explaining.proofs.Reasons.{tells_none, ldexp-told, refused_told}
use borrow.Author.Rules.{rules}
use Rattle.explaining.proofs.causes.of_ldexp.Goals as goal

pub returns : goal.returns
returns c =
    let t = c.args.t in
    let a = c.args.a in
    let n = c.args.n in
    let k = c.low_power.result in
    let l = c.high_power.result in
    let p : to_z w64 (of_z w64 k) ≡ k = search rules in
    let q : to_z w64 (of_z w64 l) ≡ l = search rules in
    let low = c.is_err-low_overflows.result in
    let high = c.is_err-high_overflows.result in
    ldexp-told t a.low a.high n.low n.high k l _ _ _ _
    c.low_power.ensures c.high_power.ensures (rw p at c.ldexp_of.ensures) (rw q at c.ldexp_of-2.ensures)
    (rw (c.is_err-low_overflows.ensures.value ∙ refused_told c.ldexp_of.result, c.is_err-high_overflows.ensures.value ∙ refused_told c.ldexp_of-2.result) at
    (c.of_infinite.ensures t of_a 21 (cause 10 of_a 21 low ∷ cause 11 of_a 21 high ∷ []) refl
    (c.of_ends-overflow.ensures t of_a 21 [] refl (tells_none t))))
