-- `sum_of` meets its contract: it does not depend on the order. Assumes nothing.
use mathlib.Core.Path.{◌≡◌, ◌∙◌}
use mathlib.Core.Logic.{◌⊎◌, inl, inr, ⊎_elim}
use Prim.Native.Nat.{◌≤◌, ◌<◌}
use native.Mathlib.Omega.{arith}
use Rattle.arithmetic.proofs.Laws.{sum_comm}
use Rattle.integer_arithmetic.proofs.sum_of.Goals.{After-picked-second, Start}
use Rattle.integer_arithmetic.proofs.sum_of.Goals as goal

-- which of the two comes first
which : (g : _) (c : After-picked-second g) → ((c.rest-a.result < c.rest-b.result) × (c.picked-first.result ≡ c.args.y) × (c.picked-second.result ≡ c.args.x))
    ⊎ ((c.rest-b.result ≤ c.rest-a.result) × (c.picked-first.result ≡ c.args.x) × (c.picked-second.result ≡ c.args.y))
which g c =
    ⊎_elim
    (λ p. ⊎_elim (λ q. inl (p.0, p.1, q.1)) (λ q. absurd (omega (arith, p.0, q.0))) c.picked-second.ensures)
    (λ p. ⊎_elim (λ q. absurd (omega (arith, p.0, q.0))) (λ q. inr (p.0, p.1, q.1)) c.picked-second.ensures)
    c.picked-first.ensures

pub ordered-requires : goal.ordered-requires
ordered-requires g c =
    let s = c in
    let x = c.rest-a.ensures in
    let y = c.rest-b.ensures in
    ⊎_elim
    (λ w. rw (w.1, w.2) (s.requires.1, s.requires.0, omega (arith, x, y, w.0)))
    (λ w. rw (w.1, w.2) (s.requires.0, s.requires.1, omega (arith, x, y, w.0)))
    (which g (goal.at.ordered-requires g c).After-picked-second)

pub returns : goal.returns
returns g c =
    let s = c in
    c.ordered.ensures ∙ ⊎_elim (λ w. rw (w.1, w.2) (sum_comm g.P.Pattern.format s.args.y s.args.x)) (λ w. rw (w.1, w.2)) (which g (goal.at.returns g c).After-picked-second)
