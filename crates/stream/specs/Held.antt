-- What a stream holds is the stage, the buffer and the words of which `programs` speaks: here the same said of the stream. Definitions only; assumes
-- nothing.
use Rattle.std.specs.Prelude.{◌≡◌, Bool, List, ℕ, take}
use Rattle.recipe.specs.Text.{Text, short, read_text}
use Rattle.programs.specs.Stage.{Reading, Fed, is_done}
use Rattle.programs.specs.Course.{Starts, Feeds, Finishes, Followed}
use Rattle.stream.specs.declared.Stream.{Stream}

abbrev pub Begins : Stream → Type 0
Begins s = Starts s.stage

abbrev pub is_over : Stream → Bool
is_over s = is_done s.stage

-- a reading, then a piece, with the bytes that are put out
abbrev pub Reads : Reading → List ℕ → List ℕ → Stream → Type 0
Reads g piece put next = Fed g piece put next.stage next.buffer next.words

-- the recipe's first n bytes, and the recipe that they are
abbrev pub recipe_bytes_of : ℕ → Stream → List ℕ
recipe_bytes_of n s = take n s.buffer

abbrev pub recipe_of : ℕ → Stream → Text
recipe_of n s = read_text short (recipe_bytes_of n s)

abbrev pub Goes : Stream → List ℕ → List ℕ → Stream → Type 0
Goes s piece put next = Feeds s.stage s.buffer s.words piece put next.stage next.buffer next.words

abbrev pub Ends : Stream → List ℕ → Type 0
Ends s put = Finishes s.stage s.buffer s.words put

-- where the stream stands for an input, it stands for the same one afterwards, but for the words of a recipe that is not at its end
abbrev pub Stays : Stream → Stream → Type 0
Stays s next = (next.stage ≡ s.stage) × (next.buffer ≡ s.buffer)

-- a program that has taken such a course, in the present chunk up to the place
abbrev pub Follows : List ℕ → ℕ → Stream → Type 0
Follows chunk at s = Followed chunk at s.stage s.buffer s.words
