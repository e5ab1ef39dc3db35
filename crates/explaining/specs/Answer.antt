-- What the explain call answers, of what its own functions come to. Definitions only; assumes nothing.
use Rattle.std.specs.Prelude.{Option, Some, None, Result, Ok, Err}
use Rattle.semantics.specs.declared.ExplainAnswer.{ExplainAnswer}
use Rattle.semantics.specs.Explain.{Explained, passed, explained, refused, answer_of}
use Rattle.calls.specs.declared.Refused.{Refused}
use Rattle.calls.specs.Numbers.{number_of, place_of}
use Rattle.explaining.specs.declared.TurnedDown.{TurnedDown}
use Rattle.explaining.specs.Reasons.{operand_told, code_told}

-- the step that the sheet turns down, if there is one
abbrev pub explained_by : Option TurnedDown → Explained
explained_by (Some turned) = explained turned.step.0 (operand_told turned.why) (code_told turned.why)
explained_by None = passed

-- that, or a refusal's number and place
abbrev pub answered : Result (Option TurnedDown) Refused → ExplainAnswer
answered (Ok turned) = answer_of (explained_by turned)
answered (Err why) = answer_of (refused (number_of why) (place_of why))
