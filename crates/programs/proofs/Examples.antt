-- Document 01's example and a text for each rule of "Sheet and run on paper", through the definition: one claim about the whole list, which
-- antt computes. Then the same frames through the call on frame lines, with more and less room. Assumes nothing.
use mathlib.Core.Path.{◌≡◌, refl}
use mathlib.Core.List.{List, [], ◌∷◌, ◌++◌, map}
use Prim.Native.Nat.{ℕ}
use lib.ListN.{replicate}
use Rattle.recipe.proofs.Examples.{bytes, lines}
use lib.Ieee.{size}
use Rattle.float_format.specs.Format.{is_nan, is_infinite}
use Rattle.float_format.specs.Number.{above, under, magnitude, encode}
use Rattle.float_format.specs.Rounding.{parts, whole_part, integral, lround_refusal, lround_value}
use Rattle.hexadecimal.specs.Hex.{field_of, digit_of, digits}
use Rattle.recipe.specs.Table.{row_of}
use Rattle.recipe.specs.Text.{read_text, read_from, on_next, next_of, judged, step_refusal, inputs_in, line_at, from_fields}
use Rattle.semantics.specs.Value.{rule_of, step_value}
use Rattle.semantics.specs.Frame.{on_field, words_from, ranged, on_words, read_frame}
use Rattle.semantics.specs.Run.{on_outcome, run_from, on_frame, call_on, run_steps}
use Rattle.programs.specs.Output.{refusal_line, answer_line, frame_line, last_line, lines_after, answers, part_after, on_recipe, output_of, run_output}
use Rattle.programs.specs.Batch.{Batch, answered, refused, ended_after, answered_in, line_bytes, batch_steps, on_text, batch_of}

pub record Case : Type 0 where
  pub input : List ℕ
  pub output : List ℕ

infix 5 ◌gives◌
abbrev pub ◌gives◌ : List ℕ → List ℕ → Case
a gives b = record { input = a; output = b }

-- document 01's recipe
pub recipe : List ℕ
recipe = lines ("010000c004000000000000401d000000000000" ∷ "10000000000000000000000000000000000000" ∷ "18010000000000000000000000000000000000" ∷ [])

-- the recipe, an empty line, and frames
pub run : List ℕ → List ℕ
run frames = recipe ++ (10 ∷ frames)

pub examples : List Case
examples =
    -- document 01's two frames, of which the refused one doesn't stop the next
    (run (lines ("bfe0000000000000" ∷ "401e000000000000" ∷ "bfe0000000000000" ∷ [])) gives lines ("02ffffffffffffffff" ∷ "ff2000" ∷ "02ffffffffffffffff" ∷ []))
    -- a last line without its line feed; no bytes after a line feed
    ∷ (run (bytes "bfe0000000000000") gives lines ("02ffffffffffffffff" ∷ []))
    ∷ (run [] gives [])
    -- 30: no digits in a line; 31: no digit
    ∷ (run (lines ("" ∷ "bfe000000000000g" ∷ [])) gives lines ("ff1e00" ∷ "ff1f00" ∷ []))
    -- 30: a line of 256 bytes, and one of 257
    ∷ (run (replicate 256 48 ++ (10 ∷ replicate 257 48)) gives lines ("ff1e00" ∷ "ff1e00" ∷ []))
    -- no empty line: all of it is recipe, with no frames
    ∷ (recipe gives [])
    ∷ (bytes "1" gives lines ("ff0a00" ∷ []))
    ∷ ([] gives lines ("ff0a00" ∷ []))
    -- an empty line at the start: no recipe
    ∷ (lines ("" ∷ "bfe0000000000000" ∷ []) gives lines ("ff0a00" ∷ []))
    -- a refused recipe gives one line and stops
    ∷ (lines ("19000000000000000000000000000000000000" ∷ "" ∷ "bfe0000000000000" ∷ []) gives lines ("ff0c00" ∷ []))
    -- a recipe with no inputs has empty lines as its frames
    ∷ (lines ("04000000000000000000070000000000000000" ∷ "" ∷ "" ∷ "" ∷ []) gives lines ("020000000000000007" ∷ "020000000000000007" ∷ []))
    ∷ []

pub run_examples : map (λ (c : Case). run_output c.input) examples ≡ map (λ (c : Case). c.output) examples
unfolding examples run recipe lines bytes run_output output_of on_recipe part_after answers lines_after last_line frame_line answer_line refusal_line digits read_text read_from on_next next_of judged step_refusal inputs_in line_at from_fields row_of field_of digit_of is_nan is_infinite above under magnitude encode size parts whole_part integral lround_refusal lround_value rule_of step_value on_field words_from ranged on_words read_frame on_outcome run_from on_frame run_steps call_on
run_examples = refl

-- ---- the call on frame lines

-- document 01's two frames, the first of them again, and a line that lacks its line feed: 3 lines of 17 bytes, and 16 bytes
pub frames : List ℕ
frames = lines ("bfe0000000000000" ∷ "401e000000000000" ∷ "bfe0000000000000" ∷ []) ++ bytes "bfe0000000000000"

-- so much room, and what comes of it
pub record Lent : Type 0 where
  pub room : ℕ
  pub comes : Batch

infix 5 ◌lets◌
abbrev pub ◌lets◌ : ℕ → Batch → Lent
n lets b = record { room = n; comes = b }

pub batches : List Lent
batches =
    -- 40: a byte too few for the longest answer
    (18 lets refused 40 0)
    -- one answer; and 18 bytes that are left are too few for another, however short it would be
    ∷ (19 lets answered 17 (lines ("02ffffffffffffffff" ∷ [])))
    ∷ (37 lets answered 17 (lines ("02ffffffffffffffff" ∷ [])))
    -- the second answer is a refusal's, of 7 bytes
    ∷ (44 lets answered 34 (lines ("02ffffffffffffffff" ∷ "ff2000" ∷ [])))
    -- all three; the last line is not read, whatever the room
    ∷ (45 lets answered 51 (lines ("02ffffffffffffffff" ∷ "ff2000" ∷ "02ffffffffffffffff" ∷ [])))
    ∷ (100 lets answered 51 (lines ("02ffffffffffffffff" ∷ "ff2000" ∷ "02ffffffffffffffff" ∷ [])))
    ∷ []

pub batch_examples : map (λ (c : Lent). batch_of recipe frames c.room) batches ≡ map (λ (c : Lent). c.comes) batches
unfolding batches frames recipe lines bytes batch_of on_text batch_steps answered_in ended_after line_bytes answers frame_line answer_line refusal_line digits read_text read_from on_next next_of judged step_refusal inputs_in line_at from_fields row_of field_of digit_of is_nan is_infinite above under magnitude encode size parts whole_part integral lround_refusal lround_value rule_of step_value on_field words_from ranged on_words read_frame on_outcome run_from on_frame run_steps call_on
batch_examples = refl
