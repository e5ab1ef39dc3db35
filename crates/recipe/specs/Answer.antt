-- What the reader's answer says of a text, and what is known of a text that passed. Definitions only; assumes nothing.
use Rattle.std.specs.Prelude.{◌≡◌, false, ◌&&◌, List, ℕ, ◌*◌, ◌≤◌, ◌<◌, leb, length, get_or, take, drop}
use Rattle.recipe.specs.declared.Step.{Step}
use Rattle.recipe.specs.declared.Reading.{Reading}
use Rattle.recipe.specs.Table.{row_of, is_input}
use Rattle.recipe.specs.Text.{Text, steps, refused, most_steps, no_step, is_unknown, unused_set, operand_ahead, wrong_kind, bad_range, inputs_in, step_refusal}
use Rattle.recipe.specs.Packed.{put_steps, steps_in, steps_of}

-- the text has the steps l, and they stand in the first words of w
pub record Passed (l : List Step) (r : Reading) (w : List ℕ) : Type 0 where
  pub not_refused : r.refusal ≡ 0
  pub no_place : r.place.0 ≡ 0
  pub counted : r.count ≡ length l
  pub kept : steps_in w r.count ≡ l

-- the answer has a refusal's number and place
pub record Refused (number k : ℕ) (r : Reading) : Type 0 where
  pub numbered : r.refusal ≡ number
  pub placed : r.place.0 ≡ k
  pub none : r.count ≡ 0

abbrev pub Says : Text → Reading → List ℕ → Type 0
Says (steps l) r w = Passed l r w
Says (refused number k) r w = Refused number k r

-- What reading the text leaves of the words v that were lent, w: the steps in the first of them and the others as they were; after a refusal
-- at step k those from step k on are as they were, and what stands before them is left free.
abbrev pub Leaves : Text → List ℕ → List ℕ → Type 0
Leaves (steps l) v w = w ≡ put_steps v l (length l)
Leaves (refused number k) v w = drop (3 * k) w ≡ drop (3 * k) v

-- What is known of the steps of a text that passed: there are 1 to `most`, and each, after those before it, is refused for nothing.
pub record Formed (most : ℕ) (l : List Step) : Type 0 where
  pub some : 1 ≤ length l
  pub few : length l ≤ most
  pub passed : (k : ℕ) → k < length l → step_refusal (take k l) (get_or l k no_step) ≡ 0

-- The words w are those of the steps l, which are formed, and of nothing else.
pub record Holds (l : List Step) (w : List ℕ) : Type 0 where
  pub formed : Formed most_steps l
  pub size : length w ≡ 3 * length l
  pub kept : steps_of w ≡ l

-- What `Formed` says of one step t after the steps l, check by check.
pub record Checked (l : List Step) (t : Step) : Type 0 where
  pub known : is_unknown (row_of t.opcode) ≡ false
  pub unused : unused_set (row_of t.opcode) t ≡ false
  pub earlier : operand_ahead (row_of t.opcode) (length l) t ≡ false
  pub kinds : wrong_kind (row_of t.opcode) l t ≡ false
  pub range : bad_range (row_of t.opcode) t ≡ false
  pub inputs : (is_input (row_of t.opcode) && leb 16 (inputs_in l)) ≡ false
