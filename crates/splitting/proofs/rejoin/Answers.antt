-- `rejoin` meets its contract: the floats that modf answers hold its two parts, and these add up to x. Assumes nothing.
use mathlib.Core.Path.{◌≡◌, sym, ap, ◌∙◌}
use mathlib.Core.Bool.{false}
use Rattle.float_format.specs.Format.{is_nan}
use Rattle.splitting.specs.Answer.{whole_of, is_nan_of}
use Rattle.splitting.proofs.Laws.{Joined}
use Rattle.splitting.proofs.Carried.{joins, joins_bits, rejoins_nan}
use Rattle.splitting.proofs.rejoin.Goals.{After-joined}
use Rattle.splitting.proofs.rejoin.Goals as goal

-- the case tells that x is no NaN
no_nan : (g : _) (c : After-joined g) → is_nan g.P.Pattern.format (g.P.Pattern.bits c.args.x) ≡ false
no_nan g c = sym c.modf.ensures.2 ∙ ap is_nan_of c.in-Ok.is

sum : (g : _) (c : After-joined g) → Joined g.P.FloatPattern.ieee (g.P.Pattern.bits c.args.x) (g.P.FloatPattern.value c.joined.result)
sum g c =
    let h = rw c.in-Ok.is at c.modf.ensures.3 in
    joins g.P.FloatPattern.ieee g.P.Pattern.format g.met.P.FloatPattern.same_format _ _ _ _ c.modf.ensures.4 (no_nan g c) h.0 h.1 c.joined.ensures

pub of_float-requires : goal.of_float-requires
of_float-requires g c = (sum g (goal.at.of_float-requires g c).After-joined).number

pub returns-in-Ok : goal.returns-in-Ok
returns-in-Ok g c =
    let j = (goal.at.returns-in-Ok g c).After-joined in
    c.of_float.ensures ∙ joins_bits g.P.FloatPattern.ieee g.P.Pattern.format _ _ (no_nan g j) (sum g j)

pub returns-in-Err : goal.returns-in-Err
returns-in-Err g c =
    let m = c.modf.ensures in
    rejoins_nan g.P.Pattern.format _ _ (sym m.2 ∙ ap is_nan_of c.in-Err.is) (sym (ap (whole_of g.P.FloatPattern.ieee g.P.FloatPattern.value g.P.Pattern.bits) c.in-Err.is) ∙ m.0)
