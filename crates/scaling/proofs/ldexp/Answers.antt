-- `ldexp` meets its contract: a zero and what is not finite go by themselves, every other number has a place. Assumes nothing.
use Rattle.std.proofs.Common.{sym, ◌∙◌}
use Rattle.float_format.proofs.Sizes.{from_infinity}
use Rattle.scaling.proofs.Classes.{ldexp_not_finite}
use Rattle.scaling.proofs.Places.{zero_answer}
use Rattle.scaling.proofs.ldexp.Goals.{Joined-else-e-eq0, Start, else-e-eq0-via-then-e-eq0+else-rest-eq0, else-e-eq0-via-else-e-eq0}
use Rattle.scaling.proofs.ldexp.Goals as goal

pub returns-then-rest-eq0 : goal.returns-then-rest-eq0
returns-then-rest-eq0 g c =
    let r = zero_answer g.P.Pattern.format c.to_word-w.result c.args.n g.met.P.Pattern.fits.valid c.to_word-w.ensures.1 (sym c.rest.ensures ∙ c.if-rest-eq0.true) in
    (rw (c.of.ensures.0, ← c.to_word-w.ensures.0) r.0, rw (c.of.ensures.1, ← c.to_word-w.ensures.0) r.1)

pub returns-then-e-top_field : goal.returns-then-e-top_field
returns-then-e-top_field g c =
    let h = from_infinity g.P.Pattern.format c.to_word-w.result (sym c.field-e.ensures.0 ∙ c.if-e-top_field.true ∙ c.top_field.ensures) in
    let r = ldexp_not_finite g.P.Pattern.format c.to_word-w.result c.not_finite.result h c.not_finite.ensures.0 c.args.n in
    (rw (c.of-then-e-top_field.ensures.0, c.from_word.ensures, ← c.to_word-w.ensures.0) r.0, rw (c.of-then-e-top_field.ensures.1, ← c.to_word-w.ensures.0) r.1)
