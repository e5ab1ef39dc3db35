-- What a user of the run program would state of its whole output: where the recipe ends, which lines are frames, what a refused recipe and an
-- input without an empty line give. The numbers are document 01's own, so that the definitions are held to them. Assumes nothing.
use mathlib.Core.Path.{◌≡◌, refl, ap, ◌∙◌, sym}
use mathlib.Core.List.{List, [], ◌∷◌, ◌++◌, append_assoc, append-nil}
use Prim.Native.Nat.{ℕ, ◌≤◌}
use native.Mathlib.Omega.{arith}
use lib.ListN.{length}
use Rattle.recipe.specs.Text.{short, refused, read_text}
use Rattle.programs.specs.Output.{refusal_line, last_byte, lines_after, last_line, answers, parted, whole, endless, part_after, on_recipe, output_of, run_output}
use Rattle.programs.specs.Stage.{NoFeed}
use Rattle.programs.proofs.Answers.{refused-recipe}
use Rattle.programs.proofs.FrameLines.{lines_plain}
use Rattle.programs.proofs.Parts.{NoEmptyLine, part_endless, part_empty, part_plain}

-- ---- where the recipe ends

module _ (t : List ℕ) (n : NoEmptyLine t) where
  -- All before the empty line is recipe.
  pub parts_at_empty_line : (s : List ℕ) → length t ≤ 4992 → last_byte t ≡ 10 → part_after [] (t ++ (10 ∷ s)) ≡ parted t s
  parts_at_empty_line s h e = part_plain t [] (10 ∷ s) (omega arith) n ∙ part_empty t s 10 (omega arith) refl e

  -- No empty line in the first 4,993 bytes: nothing after them is looked at if the input goes on ..
  pub parts_endless : (b : ℕ) (s : List ℕ) → length t ≡ 4993 → part_after [] (t ++ (b ∷ s)) ≡ endless
  parts_endless b s h = part_plain t [] (b ∷ s) (omega arith) n ∙ part_endless t s b (omega arith)

  -- .. else all of it is recipe.
  pub parts_whole : length t ≤ 4993 → part_after [] t ≡ whole t
  unfolding part_after
  parts_whole h = ap (part_after []) (sym (append-nil t)) ∙ part_plain t [] [] (omega arith) n

-- ---- frame lines

pub data Lines : List (List ℕ) → Type 0 where
  none : Lines []
  more : (s : List ℕ) (ss : List (List ℕ)) → NoFeed s → Lines ss → Lines (s ∷ ss)

-- each line ended by a line feed
unfoldable pub feeds : List (List ℕ) → List ℕ
feeds [] = []
feeds (s ∷ ss) = s ++ (10 ∷ feeds ss)

-- Lines that end with a line feed are frames.
pub lines_back : (ss : List (List ℕ)) (rest : List ℕ) → Lines ss → lines_after [] (feeds ss ++ rest) ≡ ss ++ lines_after [] rest
unfolding feeds lines_after
lines_back [] rest h = refl
lines_back (s ∷ ss) rest (more _ _ n h) =
    ap (lines_after []) (append_assoc s (10 ∷ feeds ss) rest)
    ∙ lines_plain s [] (10 ∷ (feeds ss ++ rest)) n
    ∙ ap (λ (x : List (List ℕ)). s ∷ x) (lines_back ss rest h)

-- A last line that lacks its line feed is a frame as well.
pub last_line_back : (ss : List (List ℕ)) (b : ℕ) (s : List ℕ) → Lines ss → NoFeed (b ∷ s) → lines_after [] (feeds ss ++ (b ∷ s)) ≡ ss ++ ((b ∷ s) ∷ [])
unfolding lines_after last_line
last_line_back ss b s h n =
    lines_back ss (b ∷ s) h
    ∙ ap (λ (x : List (List ℕ)). ss ++ x) (ap (lines_after []) (sym (append-nil (b ∷ s))) ∙ lines_plain (b ∷ s) [] [] n)

-- ---- the whole output

module _ (t : List ℕ) (n : NoEmptyLine t) (h : length t ≤ 4992) (e : last_byte t ≡ 10) where
  -- A recipe, an empty line, and frame lines that all end with a line feed.
  pub run_lines : (ss : List (List ℕ)) → Lines ss → run_output (t ++ (10 ∷ feeds ss)) ≡ on_recipe (read_text short t) (λ l. answers l ss)
  unfolding run_output output_of lines_after last_line
  run_lines ss k =
      let f : lines_after [] (feeds ss) ≡ ss = ap (lines_after []) (sym (append-nil (feeds ss))) ∙ lines_back ss [] k ∙ append-nil ss in
      ap output_of (parts_at_empty_line t n (feeds ss) h e) ∙ ap (λ (x : List (List ℕ)). on_recipe (read_text short t) (λ l. answers l x)) f

  -- A refused recipe gives one line, whatever follows it.
  pub run_refused : (number place : ℕ) (s : List ℕ) → read_text short t ≡ refused number place → run_output (t ++ (10 ∷ s)) ≡ refusal_line number place
  unfolding run_output output_of
  run_refused number place s r =
      ap output_of (parts_at_empty_line t n s h e) ∙ refused-recipe (read_text short t) (λ l. answers l (lines_after [] s)) number place r

module _ (t : List ℕ) (n : NoEmptyLine t) where
  -- No empty line in the first 4,993 bytes: refusal 10 if the input goes on, however it does ..
  pub run_endless : (b : ℕ) (s : List ℕ) → length t ≡ 4993 → run_output (t ++ (b ∷ s)) ≡ refusal_line 10 0
  unfolding run_output output_of
  run_endless b s h = ap output_of (parts_endless t n b s h)

  -- .. else all of it is recipe, with no frames.
  pub run_whole : length t ≤ 4993 → run_output t ≡ on_recipe (read_text short t) (λ l. [])
  unfolding run_output output_of
  run_whole h = ap output_of (parts_whole t n h)
