-- What the sheet call answers, of what its own functions come to. Definitions only; assumes nothing.
use Rattle.std.specs.Prelude.{ℕ, Result, Ok, Err}
use Rattle.semantics.specs.declared.SheetAnswer.{SheetAnswer}
use Rattle.semantics.specs.Shown.{refused, answer_of}
use Rattle.calls.specs.declared.Refused.{Refused}
use Rattle.calls.specs.Numbers.{number_of, place_of}

-- how many steps the sheet shows, or a refusal's number and place
abbrev pub answered : Result ℕ Refused → SheetAnswer
answered (Ok n) = record { refusal = 0; place = 0; steps = n }
answered (Err why) = answer_of (refused (number_of why) (place_of why))
