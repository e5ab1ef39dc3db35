-- What the code's ranges, and what a step's range comes to, stand for. Definitions only; assumes nothing.
use Rattle.std.specs.Prelude.{Result, Ok, Err}
use Rattle.std.specs.Float.{binary64}
use Rattle.std.specs.Float.Ieee.{to_bits}
use Rattle.values.specs.declared.Refusal.{Refusal}
use Rattle.values.specs.Seen.{number_of}
use Rattle.ranges.specs.declared.Range.{Range}
use Rattle.ranges.specs.declared.Range.TheVariants.{Doubles, Wholes}
use Rattle.semantics.specs.Range as range

abbrev pub seen_range : Range → range.Range
seen_range (Doubles d) = range.doubles (to_bits binary64 d.low.value) (to_bits binary64 d.high.value)
seen_range (Wholes w) = range.wholes w.low w.high

abbrev pub bound_of : Result Range Refusal → range.Ranged
bound_of (Ok r) = range.ranged (seen_range r)
bound_of (Err why) = range.refused (number_of why)
