-- What the run program does between its system calls: a course of calls of `new`, `feed` and `finish`. Definitions only; assumes nothing.
use Rattle.std.specs.Prelude.{List, [], ◌∷◌, ◌++◌, ℕ, ◌≤◌, length, take}
use Rattle.programs.specs.declared.Stage.{Stage}
use Rattle.programs.specs.Stage.{Reading, heading, Stands, Fed, Finished, between}

-- ---- what the calls ensure

-- `new`, with any buffer and any words
abbrev pub Starts : Stage → Type 0
Starts s = (buffer w : List ℕ) → Stands (heading []) s buffer w

-- `feed`: from one stage, buffer and words to the next, a piece of the input read and some bytes put out
abbrev pub Feeds : Stage → List ℕ → List ℕ → List ℕ → List ℕ → Stage → List ℕ → List ℕ → Type 0
Feeds s buffer w piece put next after v = (g : Reading) → Stands g s buffer w → Fed g piece put next after v

-- `finish`: the bytes put out where the input ends
abbrev pub Finishes : Stage → List ℕ → List ℕ → List ℕ → Type 0
Finishes s buffer w put = (g : Reading) → Stands g s buffer w → Finished g put

-- ---- a course

-- A course up to some moment: the chunks that were read and used up, the present chunk and the place up to which it is used, all bytes handed
-- out so far, and the stage with its buffer and its words.
pub data Course : List (List ℕ) → List ℕ → ℕ → List ℕ → Stage → List ℕ → List ℕ → Type 0 where
  -- no chunk yet
  starts : (s : Stage) (buffer w : List ℕ) → Starts s → Course [] [] 0 [] s buffer w
  -- the next chunk, whatever a read gave, once the present one is used up
  reads : (chunks : List (List ℕ)) (chunk out : List ℕ) (s : Stage) (buffer w next : List ℕ)
      → Course chunks chunk (length chunk) out s buffer w → Course (chunks ++ (chunk ∷ [])) next 0 out s buffer w
  -- the chunk fed from the place on; the first bytes of the output are handed out
  feeds : (chunks : List (List ℕ)) (chunk : List ℕ) (from : ℕ) (out : List ℕ) (s : Stage) (buffer w : List ℕ)
      (at : ℕ) (output : List ℕ) (put : ℕ) (next : Stage) (after v : List ℕ)
      → Course chunks chunk from out s buffer w → from ≤ at → at ≤ length chunk
      → Feeds s buffer w (between from at chunk) (take put output) next after v
      → Course chunks chunk at (out ++ take put output) next after v

-- all bytes of the chunks
unfoldable pub joined : List (List ℕ) → List ℕ
joined [] = []
joined (c ∷ cs) = c ++ joined cs

-- a program that has taken such a course, in the present chunk up to the place
pub record Followed (chunk : List ℕ) (at : ℕ) (s : Stage) (buffer w : List ℕ) : Type 0 where
  pub chunks : List (List ℕ)
  pub out : List ℕ
  pub course : Course chunks chunk at out s buffer w
