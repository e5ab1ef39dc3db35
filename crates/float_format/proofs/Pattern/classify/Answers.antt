-- `classify` meets its contract: each return is one law of `Patterns`, at the tests that led there. Assumes nothing.
use mathlib.Core.Path.{sym}
use Rattle.float_format.proofs.Patterns.{class_nan, class_infinite, class_zero, class_subnormal, class_normal}
use Rattle.float_format.proofs.Pattern.classify.Goals as goal

pub returns-then-a-infinity : goal.returns-then-a-infinity
returns-then-a-infinity g c =
    rw (← c.to_word.ensures.0)
    (sym (class_nan g.Self.Pattern.format c.to_word.result
    (rw (← c.rest-a.ensures, ← c.infinity_of-infinity.ensures) c.if-a-infinity.true)))

pub returns-then-a-infinity-2 : goal.returns-then-a-infinity-2
returns-then-a-infinity-2 g c =
    rw (← c.to_word.ensures.0)
    (sym (class_infinite g.Self.Pattern.format c.to_word.result
    (rw (← c.rest-a.ensures, ← c.infinity_of-infinity.ensures) c.if-a-infinity.false)
    (rw (← c.rest-a.ensures, ← c.infinity_of-infinity.ensures) c.if-a-infinity-2.true)))

pub returns-then-a-eq0 : goal.returns-then-a-eq0
returns-then-a-eq0 g c =
    rw (← c.to_word.ensures.0)
    (sym (class_zero g.Self.Pattern.format c.to_word.result
    (rw (← c.rest-a.ensures, ← c.infinity_of-infinity.ensures) c.if-a-infinity.false)
    (rw (← c.rest-a.ensures, ← c.infinity_of-infinity.ensures) c.if-a-infinity-2.false)
    (rw (← c.rest-a.ensures) c.if-a-eq0.true)))

pub returns-then-a-smallest_normal : goal.returns-then-a-smallest_normal
returns-then-a-smallest_normal g c =
    rw (← c.to_word.ensures.0)
    (sym (class_subnormal g.Self.Pattern.format c.to_word.result
    (rw (← c.rest-a.ensures, ← c.infinity_of-infinity.ensures) c.if-a-infinity.false)
    (rw (← c.rest-a.ensures, ← c.infinity_of-infinity.ensures) c.if-a-infinity-2.false)
    (rw (← c.rest-a.ensures) c.if-a-eq0.false)
    (rw (← c.rest-a.ensures, ← c.unit-smallest_normal.ensures) c.if-a-smallest_normal.true)))

pub returns : goal.returns
returns g c =
    rw (← c.to_word.ensures.0)
    (sym (class_normal g.Self.Pattern.format c.to_word.result
    (rw (← c.rest-a.ensures, ← c.infinity_of-infinity.ensures) c.if-a-infinity.false)
    (rw (← c.rest-a.ensures, ← c.infinity_of-infinity.ensures) c.if-a-infinity-2.false)
    (rw (← c.rest-a.ensures) c.if-a-eq0.false)
    (rw (← c.rest-a.ensures, ← c.unit-smallest_normal.ensures) c.if-a-smallest_normal.false)))
