-- How far the run program is in its input, what it still owes, and what the code keeps of it: bytes in a buffer, and the steps of a recipe
-- that was read in words. Definitions only; assumes nothing.
use Rattle.std.specs.Prelude.{◌≡◌, Bool, true, false, Option, Some, None, List, [], ◌++◌, ℕ, ◌*◌, ◌-◌, ◌≤◌, ◌<◌, length, get_or, take, drop}
use Rattle.recipe.specs.declared.Step.{Step}
use Rattle.recipe.specs.Answer.{Holds}
use Rattle.programs.specs.declared.Stage.{Stage}
use Rattle.programs.specs.declared.Stage.TheVariants.{Recipe, Frames, Done}
use Rattle.programs.specs.declared.Progress.{Progress}
use Rattle.programs.specs.declared.End.{End}
use Rattle.programs.specs.declared.End.TheVariants.{Missing, Empty, Endless}
use Rattle.programs.specs.Output.{Input, parted, endless, looked_at, lines_after, answers, part_after, output_of}
use Rattle.programs.specs.Batch.{answered, batch_steps}

-- ---- what is owed

pub data Reading : Type 0 where
  -- in the recipe, after these bytes
  heading : List ℕ → Reading
  -- in the frames of a recipe that was read, of these steps, after these bytes of a line
  running : List Step → List ℕ → Reading
  -- after a refused recipe
  stopped : Reading

-- what is written from here on, if the input goes on with s and ends there
unfoldable pub owed : Reading → List ℕ → List ℕ
owed (heading t) s = output_of (part_after t s)
owed (running l line) s = answers l (lines_after line s)
owed stopped s = []

-- nothing is, whatever follows
abbrev pub is_done : Stage → Bool
is_done (Recipe n) = false
is_done (Frames k n) = false
is_done Done = true

-- ---- what is kept

-- no byte of the line is a line feed
abbrev pub NoFeed : List ℕ → Type 0
NoFeed line = (k : ℕ) → k < length line → get_or line k 0 ≡ 10 → ⊥

-- the line so far: its bytes stand at the start of the buffer; or it is longer than any frame
abbrev pub Kept : List ℕ → Option ℕ → List ℕ → Type 0
Kept line (Some n) buffer = (n ≤ 256) × (line ≡ take n buffer)
Kept line None buffer = 256 < length line

-- how many stand there
abbrev pub kept_bytes : Option ℕ → ℕ
kept_bytes (Some n) = n
kept_bytes None = 0

-- The reading that a stage stands for, with what the buffer holds and what the words w hold: in the frames, their first are those of the
-- recipe's steps.
abbrev pub Stands : Reading → Stage → List ℕ → List ℕ → Type 0
Stands (heading t) (Recipe n) buffer w = (n ≤ looked_at) × (t ≡ take n buffer)
Stands (heading t) (Frames k n) buffer w = ⊥
Stands (heading t) Done buffer w = ⊥
Stands (running l line) (Recipe n) buffer w = ⊥
Stands (running l line) (Frames k n) buffer w = (3 * k ≤ length w) × Holds l (take (3 * k) w) × Kept line n buffer × NoFeed line
Stands (running l line) Done buffer w = ⊥
Stands stopped (Recipe n) buffer w = ⊥
Stands stopped (Frames k n) buffer w = ⊥
Stands stopped Done buffer w = Unit {0}

-- so many bytes of the recipe stand in the buffer
abbrev pub recipe_bytes : Stage → ℕ
recipe_bytes (Recipe n) = n
recipe_bytes (Frames k n) = 0
recipe_bytes Done = 0

-- the steps stand in so many words
abbrev pub step_words : Stage → ℕ
step_words (Recipe n) = 0
step_words (Frames k n) = 3 * k
step_words Done = 0

-- so many bytes of a line stand in the buffer
abbrev pub line_bytes : Stage → ℕ
line_bytes (Recipe n) = 0
line_bytes (Frames k n) = kept_bytes n
line_bytes Done = 0

-- ---- what a piece of the input comes to

-- the bytes of a chunk from one place up to another
abbrev pub between : ℕ → ℕ → List ℕ → List ℕ
between from to s = take (to - from) (drop from s)

-- what stood from a place on stands there still
abbrev pub Untouched : ℕ → List ℕ → List ℕ → Type 0
Untouched at before after = drop at after ≡ drop at before

-- the line is written over the first r bytes
abbrev pub Put : List ℕ → ℕ → List ℕ → List ℕ → Type 0
Put line r before after = (r ≤ 19) × (take r after ≡ line) × Untouched r before after

-- where the line that starts at a byte ends: at the first line feed, or at the chunk's end
pub record LineEnd (s : List ℕ) (from to : ℕ) : Type 0 where
  pub after : from ≤ to
  pub within : to ≤ length s
  pub before : (k : ℕ) → from ≤ k → k < to → get_or s k 0 ≡ 10 → ⊥
  pub at : to < length s → get_or s to 0 ≡ 10

-- the recipe's end, in a piece after which the bytes t are the recipe's
abbrev pub parts : End → List ℕ → List ℕ → Input
parts Missing t s = part_after t s
parts Empty t s = parted t s
parts Endless t s = endless

-- a piece of frame lines read after a part of a line: what was due on it is written, and the part is then another
abbrev pub Paid : List Step → List ℕ → List ℕ → List ℕ → List ℕ → Type 0
Paid l line piece written next = (s : List ℕ) → answers l (lines_after line (piece ++ s)) ≡ written ++ answers l (lines_after next s)

-- the same where the piece is of whole lines, and the words w hold the steps; they stop where the output has no room for another answer, or
-- where no line feed is left
pub record Answered (w s : List ℕ) (from : ℕ) (r : Progress) (out : List ℕ) : Type 0 where
  pub after : from ≤ r.at
  pub within : r.at ≤ length s
  pub moved : length out - r.put < 19 → from < r.at
  pub rest : 19 ≤ length out - r.put → LineEnd s r.at (length s)
  pub paid : (l : List Step) → Holds l w → Paid l [] (between from r.at s) (take r.put out) []
  -- which lines: as many as the room is for
  pub batch : (l : List Step) → Holds l w → batch_steps l (drop from s) (length out) ≡ answered (r.at - from) (take r.put out)

-- the same of any piece, with what is kept of the line
pub record Handled (l : List Step) (line piece written : List ℕ) (n : Option ℕ) (buffer : List ℕ) : Type 0 where
  pub next : List ℕ
  pub kept : Kept next n buffer
  pub plain : NoFeed next
  pub owes : Paid l line piece written next

-- a piece of the input read, and what was due on it written
pub record Fed (g : Reading) (piece written : List ℕ) (s : Stage) (buffer w : List ℕ) : Type 0 where
  pub next : Reading
  pub stands : Stands next s buffer w
  pub owes : (rest : List ℕ) → owed g (piece ++ rest) ≡ written ++ owed next rest

-- what is written where the input ends
abbrev pub Finished : Reading → List ℕ → Type 0
Finished g written = owed g [] ≡ written
