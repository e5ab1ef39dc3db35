-- Reading a recipe leaves the words past those of the most steps as they were, whatever the text. Assumes nothing.
use mathlib.Core.Path.{◌≡◌, refl, sym, ◌∙◌}
use mathlib.Core.List.{List}
use mathlib.Core.Logic.{⊎_elim}
use Prim.Native.Nat.{ℕ, ◌*◌, ◌≤◌, ◌<◌}
use native.Mathlib.Omega.{arith}
use lib.ListN.{length}
use Rattle.recipe.specs.Text.{Text, steps, refused, short, longest, most_steps, read_text}
use Rattle.recipe.specs.Answer.{Leaves}
use Rattle.recipe.proofs.Laws.{read_formed, read_refused, rest_unwritten}
use Rattle.semantics.proofs.Lists.{lt_or_ge}
use Rattle.programs.specs.Stage.{Untouched}
use Rattle.programs.proofs.Sheets.{long_read}
use Rattle.programs.proofs.Untouched.{untouched_later}

-- a refusal's place is one of the most steps
place_few : (t : List ℕ) (number place : ℕ) → read_text short t ≡ refused number place → place ≤ most_steps
place_few t number place e = ⊎_elim (λ a. omega (arith, a.1)) (λ b. ⊎_elim (λ l. long l) (λ g. omega (arith, b.2)) (lt_or_ge (longest short) (length t))) (read_refused short t number place e)
  where
    long : longest short < length t → place ≤ most_steps
    long l = let f : refused 10 0 ≡ refused number place = sym (long_read t l) ∙ e in let z : 0 ≡ place = cc in omega arith

pub words_untouched : (t v w : List ℕ) → Leaves (read_text short t) v w → Untouched (3 * most_steps) v w
words_untouched t v w = by_text (read_text short t) refl
  where
    by_text : (x : Text) → read_text short t ≡ x → Leaves x v w → Untouched (3 * most_steps) v w
    by_text (steps l) e h = rest_unwritten l v w h (3 * most_steps) (omega (arith, (read_formed short t l e).few))
    by_text (refused number place) e h = untouched_later v w (3 * place) (3 * most_steps) (omega (arith, place_few t number place e)) h
