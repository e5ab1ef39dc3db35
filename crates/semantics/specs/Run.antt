-- The run call: a fold over the steps, and what it answers and writes (document 01, "Turning text down"). Definitions only; assumes
-- nothing.
use Rattle.std.specs.Prelude.{cond, List, [], ◌∷◌, ◌++◌, map, ℕ, suc, ◌+◌, ◌-◌, ltb, pos, length, get_or, drop}
use Rattle.recipe.specs.declared.Step.{Step}
use Rattle.recipe.specs.Table.{row_of, is_input, kind_number}
use Rattle.recipe.specs.Text.{Text, steps, short, first, second, read_text}
use Rattle.recipe.specs.Text as text
use Rattle.semantics.specs.declared.RunAnswer.{RunAnswer}
use Rattle.semantics.specs.Value.{Datum, whole, kind_of, word_of, Outcome, done, step_value}
use Rattle.semantics.specs.Value as value
use Rattle.semantics.specs.Frame.{Frame, words, read_frame}
use Rattle.semantics.specs.Frame as frame

-- every step's value, or a refusal's number and place
pub data Run : Type 0 where
  completed : List Datum → Run
  refused : ℕ → ℕ → Run

-- the start element of the values
abbrev pub no_value : Datum
no_value = whole (pos 0)

-- the step t after steps of the values l; the frame's word for it is w
abbrev pub step_on : Step → ℕ → List Datum → Outcome
step_on t w l = step_value t w (get_or l (first t) no_value) (get_or l (second t) no_value)

unfoldable pub on_outcome : Outcome → ℕ → (Datum → Run) → Run
on_outcome (done v) k more = more v
on_outcome (value.refused number) k more = refused number k

-- the steps from step k on, j inputs being before them, after steps of the values l; ws are the frame's words
unfoldable pub run_from : List Step → ℕ → ℕ → List ℕ → List Datum → Run
run_from [] k j ws l = completed l
run_from (t ∷ ts) k j ws l =
    on_outcome (step_on t (get_or ws j 0) l) k (λ v. run_from ts (suc k) (cond (is_input (row_of t.opcode)) 1 0 + j) ws (l ++ (v ∷ [])))

-- ---- the call on steps: 40, then 30, 31 and 32, then 20 to 22

unfoldable pub on_frame : Frame → (List ℕ → Run) → Run
on_frame (words ws) more = more ws
on_frame (frame.refused number place) more = refused number place

-- what comes of the steps l on the frame s, with room for so many words, where `more` is what comes of them on the frame's words
unfoldable pub call_on : (List ℕ → Run) → List Step → List ℕ → ℕ → Run
call_on more l s room = cond (ltb room (length l)) (refused 40 0) (on_frame (read_frame l s) more)

unfoldable pub run_steps : List Step → List ℕ → ℕ → Run
run_steps l s room = call_on (λ ws. run_from l 0 0 ws []) l s room

-- ---- the call on a text: 10 to 17 before all others

unfoldable pub on_text : Text → List ℕ → ℕ → Run
on_text (steps l) s room = run_steps l s room
on_text (text.refused number place) s room = refused number place

-- the recipe t on the frame s, with room for so many words
unfoldable pub run_of : List ℕ → List ℕ → ℕ → Run
run_of t s room = on_text (read_text short t) s room

-- ---- what is answered, and the lent words before and after

abbrev pub last_of : List Datum → Datum
last_of l = get_or l (length l - 1) no_value

abbrev pub answer_of : Run → RunAnswer
answer_of (completed l) = record { refusal = 0; place = 0; kind = kind_number (kind_of (last_of l)); word = word_of (last_of l) }
answer_of (refused number k) = record { refusal = number; place = k; kind = 0; word = 0 }

-- a refusal changes no word; a completed run writes one a step, and leaves the rest
abbrev pub words_of : Run → List ℕ → List ℕ
words_of (completed l) lent = map word_of l ++ drop (length l) lent
words_of (refused number k) lent = lent
