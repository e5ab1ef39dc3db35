-- `remainder_by` meets its contract. Assumes nothing.
use native.Mathlib.Omega.{arith}
use Rattle.float_format.proofs.Lead.{leading_shift_lem}
use Rattle.remainder.proofs.Split.{Brought, remainder_back}
use Rattle.remainder.proofs.remainder_by.Goals.{After-normal_shift-k}
use Rattle.remainder.proofs.remainder_by.Goals as goal

brought : (g : _) (c : After-normal_shift-k g) → Brought g.P.Pattern.format.fraction c.args.w c.normal_shift-k.result
brought g c =
    let a = c.args in
    let p = c.requires in
    let w = g.met.P.Wide.wide in
    let s = leading_shift_lem g.P.Pattern.format.fraction a.w (omega (arith, w.spare)) p.2 (omega (arith, p.3)) in
    let k = c.normal_shift-k in
    record { short = k.ensures.0; from = rw k.ensures.3 s.0; below = rw k.ensures.3 (omega (arith, s.1)) }

pub returns : goal.returns
returns g c =
    let a = c.args in
    let p = c.requires in
    remainder_back g.P.Pattern.format.fraction a.m a.n a.w c.normal_shift-k.result g.met.P.Wide.wide.spare (brought g (goal.at.returns g c).After-normal_shift-k) c.far.result p.2 c.far.ensures
