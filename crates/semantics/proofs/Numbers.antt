-- The numbers of refusals: a step's are 20 to 22, and no run's is 0. Assumes nothing.
use mathlib.Core.Path.{◌≡◌, refl}
use mathlib.Core.List.{List, [], ◌∷◌, ◌++◌}
use mathlib.Core.Logic.{⊎_elim}
use mathlib.Core.Bool.{Bool, true, false, ◌||◌, cond}
use Prim.Native.Nat.{ℕ, zero, suc, ◌+◌, ◌*◌, ◌^◌, ◌≤◌}
use native.Mathlib.Omega.{arith}
use lib.Dec.{eqb, leb, ltb}
use lib.IntN.{nat_abs, ◌+ℤ◌, ◌-ℤ◌}
use lib.ListN.{length, get_or}
use Rattle.float_format.specs.Format.{binary64, is_infinite}
use Rattle.float_format.specs.Rounding.{lround_refusal}
use Rattle.remainder.specs.Remainder.{fmod_refusal}
use Rattle.scaling.specs.Scaling.{ldexp_refusal}
use Rattle.hexadecimal.specs.Hex.{field_of}
use Rattle.std.specs.Prelude.{Option, Some, None}
use Rattle.recipe.specs.declared.Step.{Step}
use Rattle.recipe.specs.Table.{row_of, is_input}
use Rattle.recipe.specs.Text.{Text, steps, short, inputs_in, read_text}
use Rattle.recipe.specs.Text as text
use Rattle.recipe.proofs.Laws as reader
use Rattle.semantics.specs.Value.{Datum, Outcome, done, refused, as_double, as_whole, fits_word, worked, rule_of, step_value}
use Rattle.semantics.specs.Frame.{Frame, on_field, words_from, outside, ranged, on_words, read_frame}
use Rattle.semantics.specs.Frame as frame
use Rattle.semantics.specs.Run.{Run, completed, on_outcome, run_from, on_frame, call_on, run_steps, on_text, run_of}
use Rattle.semantics.specs.Run as run

-- ---- a step

-- a value, or a refusal numbered 20 to 22
pub data Numbered : Outcome → Type 0 where
  value : (v : Datum) → Numbered (done v)
  stop : (number : ℕ) → 20 ≤ number → number ≤ 22 → Numbered (refused number)

either : (b : Bool) (x y : Outcome) → Numbered x → Numbered y → Numbered (cond b x y)
either true x y p q = p
either false x y p q = q

worked_numbered : (x y r : ℕ) → Numbered (worked x y r)
worked_numbered x y r =
    either (is_infinite binary64 x || is_infinite binary64 y) _ _ (stop 20 (omega arith) (omega arith)) (either (is_infinite binary64 r) _ _ (stop 21 (omega arith) (omega arith)) (value _))

pub step_numbered : (t : Step) (w : ℕ) (a b : Datum) → Numbered (step_value t w a b)
unfolding step_value rule_of
step_numbered t w a b =
    let domain : Numbered (refused 20) = stop 20 (omega arith) (omega arith) in
    let range : Numbered (refused 21) = stop 21 (omega arith) (omega arith) in
    let size : Numbered (refused 22) = stop 22 (omega arith) (omega arith) in
    either (eqb t.opcode 0x01) _ _ (value _)
    (either (eqb t.opcode 0x02) _ _ (value _)
    (either (eqb t.opcode 0x03) _ _ (value _)
    (either (eqb t.opcode 0x04) _ _ (value _)
    (either (eqb t.opcode 0x10) _ _ (value _)
    (either (eqb t.opcode 0x11) _ _ (value _)
    (either (eqb t.opcode 0x12) _ _ (value _)
    (either (eqb t.opcode 0x13) _ _ (value _)
    (either (eqb t.opcode 0x14) _ _ (value _)
    (either (eqb t.opcode 0x15) _ _ (value _)
    (either (eqb t.opcode 0x16) _ _ (value _)
    (either (eqb t.opcode 0x17) _ _ (value _)
    (either (eqb t.opcode 0x18) _ _ (either (eqb (lround_refusal binary64 (as_double a)) 0) _ _ (value _) range)
    (either (eqb t.opcode 0x20) _ _ (value _)
    (either (eqb t.opcode 0x21) _ _ (value _)
    (either (eqb t.opcode 0x22) _ _ (either (eqb (fmod_refusal binary64 (as_double a) (as_double b)) 0) _ _ (value _) domain)
    (either (eqb t.opcode 0x23) _ _ (either (eqb (ldexp_refusal binary64 (as_double a) (as_whole b)) 0) _ _ (value _) range)
    (either (eqb t.opcode 0x24) _ _ (either (eqb (fmod_refusal binary64 (as_double a) (as_double b)) 0) _ _ (value _) domain)
    (either (eqb t.opcode 0x30) _ _ (either (fits_word (as_whole a +ℤ as_whole b)) _ _ (value _) range)
    (either (eqb t.opcode 0x31) _ _ (either (fits_word (as_whole a -ℤ as_whole b)) _ _ (value _) range)
    (either (eqb t.opcode 0x32) _ _ (either (leb (nat_abs (as_whole a)) (2 ^ 53)) _ _ (value _) size)
    (either (eqb t.opcode 0x40) _ _ (worked_numbered (as_double a) (as_double b) _)
    (either (eqb t.opcode 0x41) _ _ (worked_numbered (as_double a) (as_double b) _)
    (either (eqb t.opcode 0x42) _ _ (worked_numbered (as_double a) (as_double b) _)
    (value _))))))))))))))))))))))))

-- ---- the frame

-- words, or a refusal numbered 30 to 32
data FrameNumbered : Frame → Type 0 where
  read : (ws : List ℕ) → FrameNumbered (frame.words ws)
  unread : (number place : ℕ) → 30 ≤ number → number ≤ 32 → FrameNumbered (frame.refused number place)

field_numbered : (x : Option ℕ) (more : ℕ → Frame) → ((w : ℕ) → FrameNumbered (more w)) → FrameNumbered (on_field x more)
unfolding on_field
field_numbered (Some w) more h = h w
field_numbered None more h = unread 31 0 (omega arith) (omega arith)

words_numbered : (s : List ℕ) (n k : ℕ) (l : List ℕ) → FrameNumbered (words_from s n k l)
unfolding words_from
words_numbered s zero k l = read l
words_numbered s (suc n) k l =
    field_numbered (field_of s (k * 16) 16 0) (λ w. words_from s n (suc k) (l ++ (w ∷ []))) (λ w. words_numbered s n (suc k) (l ++ (w ∷ [])))

range_either : (b : Bool) (x y : Frame) → FrameNumbered x → FrameNumbered y → FrameNumbered (elim b [ true ↦ x | false ↦ y ])
range_either true x y p q = p
range_either false x y p q = q

ranges_numbered : (l : List Step) (k j : ℕ) (ws : List ℕ) → FrameNumbered (ranged l k j ws)
unfolding ranged
ranges_numbered [] k j ws = read ws
ranges_numbered (t ∷ l) k j ws =
    range_either
    (outside (row_of t.opcode) t (get_or ws j 0))
    (frame.refused 32 k)
    (ranged l (suc k) (cond (is_input (row_of t.opcode)) 1 0 + j) ws)
    (unread 32 k (omega arith) (omega arith))
    (ranges_numbered l (suc k) (cond (is_input (row_of t.opcode)) 1 0 + j) ws)

on_words_lem : (x : Frame) (more : List ℕ → Frame) → FrameNumbered x → ((ws : List ℕ) → FrameNumbered (more ws)) → FrameNumbered (on_words x more)
unfolding on_words
on_words_lem (frame.words ws) more p h = h ws
on_words_lem (frame.refused number place) more p h = p

by_length : (b : Bool) (x : Frame) → FrameNumbered x → FrameNumbered (cond b x (frame.refused 30 0))
by_length true x p = p
by_length false x p = unread 30 0 (omega arith) (omega arith)

frame_numbered : (l : List Step) (s : List ℕ) → FrameNumbered (read_frame l s)
unfolding read_frame
frame_numbered l s =
    by_length
    (eqb (length s) (16 * inputs_in l))
    (on_words (words_from s (inputs_in l) 0 []) (λ ws. ranged l 0 0 ws))
    (on_words_lem (words_from s (inputs_in l) 0 []) (λ ws. ranged l 0 0 ws) (words_numbered s (inputs_in l) 0 []) (λ ws. ranges_numbered l 0 0 ws))

-- ---- the run

-- values, or a refusal numbered 10 to 40
pub data RunNumbered : Run → Type 0 where
  completes : (l : List Datum) → RunNumbered (completed l)
  stops : (number place : ℕ) → 10 ≤ number → number ≤ 40 → RunNumbered (run.refused number place)

outcome_numbered : {o : Outcome} → Numbered o → (k : ℕ) (more : Datum → Run) → ((v : Datum) → RunNumbered (more v)) → RunNumbered (on_outcome o k more)
unfolding on_outcome
outcome_numbered (value v) k more h = h v
outcome_numbered (stop number a b) k more h = stops number k (omega arith) (omega arith)

steps_numbered : (ts : List Step) (k j : ℕ) (ws : List ℕ) (l : List Datum) → RunNumbered (run_from ts k j ws l)
unfolding run_from
steps_numbered [] k j ws l = completes l
steps_numbered (t ∷ ts) k j ws l =
    outcome_numbered
    (step_numbered t (get_or ws j 0) _ _)
    k
    (λ v. run_from ts (suc k) (cond (is_input (row_of t.opcode)) 1 0 + j) ws (l ++ (v ∷ [])))
    (λ v. steps_numbered ts (suc k) (cond (is_input (row_of t.opcode)) 1 0 + j) ws (l ++ (v ∷ [])))

on_frame_lem : {x : Frame} (l : List Step) → FrameNumbered x → RunNumbered (on_frame x (λ ws. run_from l 0 0 ws []))
unfolding on_frame
on_frame_lem l (read ws) = steps_numbered l 0 0 ws []
on_frame_lem l (unread number place a b) = stops number place (omega arith) (omega arith)

by_room : (b : Bool) (x : Run) → RunNumbered x → RunNumbered (cond b (run.refused 40 0) x)
by_room true x p = stops 40 0 (omega arith) (omega arith)
by_room false x p = p

by_text : (t s : List ℕ) (room : ℕ) (x : Text) → read_text short t ≡ x → RunNumbered (on_text x s room)
unfolding on_text run_steps call_on
by_text t s room (steps l) e = by_room (ltb room (length l)) (on_frame (read_frame l s) (λ ws. run_from l 0 0 ws [])) (on_frame_lem l (frame_numbered l s))
by_text t s room (text.refused number place) e =
    ⊎_elim
    (λ w. let a = w.0 in stops number place (omega arith) (omega arith))
    (λ w. let a = w.0 in let b = w.1 in stops number place (omega arith) (omega arith))
    (reader.read_refused short t number place e)

pub run_numbered : (t s : List ℕ) (room : ℕ) → RunNumbered (run_of t s room)
unfolding run_of
run_numbered t s room = by_text t s room (read_text short t) refl
