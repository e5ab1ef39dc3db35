-- Steps in words: three words a step, so that a recipe's steps can be lent as a slice. Definitions only; assumes nothing.
use Rattle.std.specs.Prelude.{Bool, not, ◌||◌, List, [], ◌∷◌, ◌++◌, ℕ, zero, suc, ◌+◌, ◌*◌, ◌/◌, ◌%◌, ◌^◌, ltb, eqb, length, get_or, set}
use Rattle.recipe.specs.declared.Step.{Step}
use Rattle.recipe.specs.Text.{most_steps, step, first, second, no_step}

-- the first word: opcode, A and B; P and Q are the second and the third
abbrev pub head : Step → ℕ
head t = t.opcode + 2 ^ 8 * first t + 2 ^ 24 * second t

abbrev pub unpacked : ℕ → ℕ → ℕ → Step
unpacked h p q = step (h % 2 ^ 8) (h / 2 ^ 8 % 2 ^ 16) (h / 2 ^ 24 % 2 ^ 16) p q

-- step k of the words w
unfoldable pub step_at : List ℕ → ℕ → Step
step_at w k = unpacked (get_or w (3 * k) 0) (get_or w (3 * k + 1) 0) (get_or w (3 * k + 2) 0)

-- the words w with the step t as step k
abbrev pub put_at : List ℕ → ℕ → Step → List ℕ
put_at w k t = set (set (set w (3 * k) (head t)) (3 * k + 1) t.p) (3 * k + 2) t.q

-- the words w with the first n of the steps l as their first n
unfoldable pub put_steps : List ℕ → List Step → ℕ → List ℕ
put_steps w l zero = w
put_steps w l (suc n) = put_at (put_steps w l n) n (get_or l n no_step)

-- the first n steps
unfoldable pub steps_in : List ℕ → ℕ → List Step
steps_in w zero = []
steps_in w (suc n) = steps_in w n ++ (step_at w n ∷ [])

-- all of them
abbrev pub steps_of : List ℕ → List Step
steps_of w = steps_in w (length w / 3)

-- whether so many words are not those of 1 to 128 steps
abbrev pub bad_words : ℕ → Bool
bad_words n = eqb n 0 || not (eqb (n % 3) 0) || ltb (3 * most_steps) n
