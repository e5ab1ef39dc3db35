-- What the run call answers, of what its own functions come to. Definitions only; assumes nothing.
use Rattle.std.specs.Prelude.{Result, Ok, Err}
use Rattle.recipe.specs.Table.{kind_number}
use Rattle.semantics.specs.declared.RunAnswer.{RunAnswer}
use Rattle.semantics.specs.Run.{refused, answer_of}
use Rattle.calls.specs.declared.Refused.{Refused}
use Rattle.calls.specs.Numbers.{number_of, place_of}
use Rattle.running.specs.declared.Last.{Last}

-- a completed run's last kind and word, or a refusal's number and place
abbrev pub answered : Result Last Refused → RunAnswer
answered (Ok last) = record { refusal = 0; place = 0; kind = kind_number last.kind; word = last.word }
answered (Err why) = answer_of (refused (number_of why) (place_of why))
