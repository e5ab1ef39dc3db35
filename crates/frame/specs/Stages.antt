-- What the run call's own functions answer, each a stage of it: the frame's words, and how they stand against the declared ranges.
-- Definitions only; assumes nothing.
use Rattle.std.specs.Prelude.{◌≡◌, Result, Ok, Err, List, ℕ, get_or}
use Rattle.semantics.specs.Frame.{Frame, words, refused}
use Rattle.calls.specs.declared.Refused.{Refused}
use Rattle.calls.specs.Numbers.{number_of, place_of}

-- the same words, with zeros past the end of either
abbrev pub Same : List ℕ → List ℕ → Type 0
Same xs ys = (k : ℕ) → get_or xs k 0 ≡ get_or ys k 0

-- the words read, in the code's own type
abbrev pub Read : Frame → Result (List ℕ) Refused → Type 0
Read (words l) (Ok held) = Same held l
Read (words l) (Err why) = ⊥
Read (refused number place) (Ok held) = ⊥
Read (refused number place) (Err why) = (number ≡ number_of why) × (place ≡ place_of why)

-- what the ranges say of the words ws
abbrev pub ranged_by : Result Unit Refused → List ℕ → Frame
ranged_by (Ok _) ws = words ws
ranged_by (Err why) ws = refused (number_of why) (place_of why)
