-- The number and the place of what a call turns down (document 01, "Turning text down"). Definitions only; assumes nothing.
use Rattle.std.specs.Prelude.{ℕ}
use Rattle.recipe.specs.Fault as fault
use Rattle.values.specs.Seen as value
use Rattle.calls.specs.declared.Refused.{Refused}
use Rattle.calls.specs.declared.Refused.TheVariants.{Text, Words, Inputs, Step, FrameLength, FrameDigit, Outside, Room}

abbrev pub number_of : Refused → ℕ
number_of (Text refusal) = fault.number_of refusal.fault
number_of Words = 10
number_of Inputs = 17
number_of (Step why step) = value.number_of why
number_of FrameLength = 30
number_of FrameDigit = 31
number_of (Outside step) = 32
number_of Room = 40

abbrev pub place_of : Refused → ℕ
place_of (Text refusal) = refusal.place.0
place_of Words = 0
place_of Inputs = 0
place_of (Step why step) = step.0
place_of FrameLength = 0
place_of FrameDigit = 0
place_of (Outside step) = step.0
place_of Room = 0
