-- `ew_ldexp_f64` meets its contract. Assumes nothing.
use mathlib.Core.Path.{◌≡◌, ap, ◌∙◌}
use mir.Syntax.{w64}
use mir.Val.{of_z, to_z}
use Rattle.float_format.specs.Format.{binary64}
use Rattle.scaling.specs.Scaling.{ldexp, ldexp_refusal}
use borrow.Author.Rules.{rules}
use Rattle.c_library.proofs.ew_ldexp_f64.Goals as goal

pub returns : goal.returns
returns c =
    let n = c.args.n in
    let e : to_z w64 (of_z w64 n) ≡ n = search rules in
    (c.into.ensures.0 ∙ c.ldexp.ensures.0 ∙ ap (ldexp binary64 c.args.x) e, c.into.ensures.1 ∙ c.ldexp.ensures.1 ∙ ap (ldexp_refusal binary64 c.args.x) e)
