-- What the call on many frame lines answers, of what its own functions come to. Definitions only; assumes nothing.
use Rattle.std.specs.Prelude.{Result, Ok, Err}
use Rattle.programs.specs.declared.LinesAnswer.{LinesAnswer}
use Rattle.programs.specs.declared.Progress.{Progress}
use Rattle.programs.specs.Batch.{refused, answer_of}
use Rattle.calls.specs.declared.Refused.{Refused}
use Rattle.calls.specs.Numbers.{number_of, place_of}

-- the bytes that were read and written, or a refusal's number and place
abbrev pub answered : Result Progress Refused → LinesAnswer
answered (Ok done) = record { refusal = 0; place = 0; read = done.at; written = done.put }
answered (Err why) = answer_of (refused (number_of why) (place_of why))
