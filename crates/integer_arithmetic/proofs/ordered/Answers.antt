-- `ordered` meets its contract. Assumes nothing.
use mathlib.Core.Path.{◌≡◌, refl, sym, ap, ◌∙◌}
use mathlib.Core.Bool.{not}
use mathlib.Core.Logic.{⊎_elim}
use Prim.Native.Nat.{ℕ, ◌+◌}
use native.Mathlib.Omega.{arith}
use Rattle.float_format.specs.Format.{negative}
use Rattle.float_format.proofs.Sizes.{zero_is}
use Rattle.integer_arithmetic.proofs.Words.{wide_fits, like, opposite, with_rest, rest_fits}
use Rattle.integer_arithmetic.proofs.Sums.{same_answer, unlike_answer, same_zero, opposite_zero}
use Rattle.integer_arithmetic.proofs.ordered.Goals.{After-signed_zero-other, Start}
use Rattle.integer_arithmetic.proofs.ordered.Goals as goal

-- the signs, by the zeros
abbrev start : (g : _) (c : After-signed_zero-other g) → Start g
start g c = (goal.at.After-signed_zero-other g c).Start

same : (g : _) (c : After-signed_zero-other g) → c.signed_zero-zero.result ≡ c.signed_zero-other.result → negative g.P.Pattern.format (start g c).args.y ≡ negative g.P.Pattern.format (start g c).args.x
same g c e =
    let s = start g c in
    sym (like g.P.Pattern.format s.args.x s.args.y s.requires.0 s.requires.1 (sym c.signed_zero-zero.ensures ∙ e ∙ c.signed_zero-other.ensures))

unlike : (g : _) (c : After-signed_zero-other g) → (c.signed_zero-zero.result ≡ c.signed_zero-other.result → ⊥) → negative g.P.Pattern.format (start g c).args.y ≡ not (negative g.P.Pattern.format (start g c).args.x)
unlike g c n =
    let s = start g c in
    opposite g.P.Pattern.format s.args.x s.args.y s.requires.0 s.requires.1 (λ e. n (c.signed_zero-zero.ensures ∙ e ∙ sym c.signed_zero-other.ensures))

pub combined-total-requires : goal.combined-total-requires
combined-total-requires g c = (c.aligned-terms.ensures.smaller, c.aligned-terms.ensures.below)

pub returns-then-zero-other : goal.returns-then-zero-other
returns-then-zero-other g c =
    let d = c in
    let s = start g (goal.at.returns-then-zero-other g c).After-signed_zero-other in
    let t = d.aligned-terms in
    ⊎_elim
    (λ o. d.signed_zero-zero.ensures ∙ zero_is g.P.Pattern.format s.args.x s.requires.0 ∙ same_zero g.P.Pattern.format s.args.x s.args.y t.result.large t.result.small t.result.scale t.ensures (negative g.P.Pattern.format s.args.x) refl (same g (goal.at.returns-then-zero-other g c).After-signed_zero-other o.0) (sym o.1 ∙ c.if-total-eq0.true))
    (λ o. absurd (o.0 c.if-zero-other.true))
    c.combined-total.ensures

pub returns-then-total-eq0 : goal.returns-then-total-eq0
returns-then-total-eq0 g c =
    let d = c in
    let s = start g (goal.at.returns-then-total-eq0 g c).After-signed_zero-other in
    let t = d.aligned-terms in
    ⊎_elim
    (λ o. absurd (c.if-zero-other.false o.0))
    (λ o. opposite_zero g.P.Pattern.format s.args.x s.args.y t.result.large t.result.small t.result.scale t.ensures (negative g.P.Pattern.format s.args.x) refl (unlike g (goal.at.returns-then-total-eq0 g c).After-signed_zero-other o.0) (sym o.1 ∙ c.if-total-eq0.true))
    c.combined-total.ensures

pub packed-requires : goal.packed-requires
packed-requires g c =
    let d = c in
    let t = d.aligned-terms.ensures in
    let total = c.combined-total.ensures in (
      omega (arith, c.if-total-eq0.false),
      ⊎_elim (λ o. omega (arith, o.1, t.smaller, t.below)) (λ o. omega (arith, o.1, t.below)) total,
      omega arith,
      omega (arith, t.upto),
      omega arith,
    )

pub overflow_add-result : goal.overflow_add-result
overflow_add-result g c =
    let d = c in
    let s = start g (goal.at.overflow_add-result g c).After-signed_zero-other in
    omega (arith, d.signed_zero-zero.ensures, rest_fits g.P.Pattern.format s.args.x s.args.y s.requires.0 s.requires.1 c.packed.result (wide_fits g.P.Pattern.format g.met.P.Pattern.fits g.met.P.Wide.wide) c.packed.ensures.1)

pub returns : goal.returns
returns g c =
    let d = c in
    let s = start g (goal.at.returns g c).After-signed_zero-other in
    let t = d.aligned-terms in
    let r = c.packed.result in
    ap (λ (z : ℕ). z + r) d.signed_zero-zero.ensures
    ∙ with_rest g.P.Pattern.format s.args.x s.args.y s.requires.0 s.requires.1 r
    ∙ ⊎_elim
    (λ o. same_answer g.P.Pattern.format s.args.x s.args.y t.result.large t.result.small t.result.scale t.ensures (negative g.P.Pattern.format s.args.x) r refl (same g (goal.at.returns g c).After-signed_zero-other o.0) (λ b n u z. c.packed.ensures.0 b n u (rw (o.1, c.fraction_bits.ensures) z)))
    (λ o. unlike_answer g.P.Pattern.format s.args.x s.args.y t.result.large t.result.small t.result.scale t.ensures (negative g.P.Pattern.format s.args.x) r refl (unlike g (goal.at.returns g c).After-signed_zero-other o.0) (λ e. c.if-total-eq0.false (o.1 ∙ e)) (λ b n u z. c.packed.ensures.0 b n u (rw (o.1, c.fraction_bits.ensures) z)))
    c.combined-total.ensures
