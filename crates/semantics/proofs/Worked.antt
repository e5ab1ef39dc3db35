-- What a run that completes has worked out, by induction on the steps: each step's value is its rule's, of the values before it. Assumes
-- nothing.
use mathlib.Core.Path.{◌≡◌, refl, ap, sym, ◌∙◌}
use mathlib.Core.Bool.{Bool, true, false, cond}
use mathlib.Core.List.{List, [], ◌∷◌, ◌++◌, append_assoc, append-nil}
use Prim.Native.Nat.{ℕ, zero, suc, ◌+◌, ◌≤◌, ◌<◌}
use native.Mathlib.Omega.{arith}
use lib.Dec.{ltb}
use lib.ListN.{length, take, get_or}
use borrow.Author.Tests.{ltb-false}
use Rattle.recipe.specs.declared.Step.{Step}
use Rattle.recipe.specs.Table.{row_of, is_input}
use Rattle.recipe.specs.Text.{Text, steps, short, no_step, inputs_in, read_text}
use Rattle.recipe.specs.Text as text
use Rattle.semantics.specs.Value.{Datum, Outcome, done}
use Rattle.semantics.specs.Value as value
use Rattle.semantics.specs.Frame.{Frame, words, read_frame}
use Rattle.semantics.specs.Frame as frame
use Rattle.semantics.specs.Run.{completed, refused, no_value, step_on, on_outcome, run_from, on_frame, call_on, run_steps, on_text, run_of}

-- ---- the fold

-- the values l are those before, and one a step of ts, j inputs being before them
record From (ts : List Step) (j : ℕ) (ws : List ℕ) (before l : List Datum) : Type 0 where
  pub rest : List Datum
  pub joined : l ≡ before ++ rest
  pub count : length rest ≡ length ts
  pub each : (i : ℕ) → i < length ts → step_on (get_or ts i no_step) (get_or ws (inputs_in (take i ts) + j) 0) (before ++ take i rest) ≡ done (get_or rest i no_value)

module _ (t : Step) (ts : List Step) (j : ℕ) (ws : List ℕ) (before l : List Datum) (v : Datum)
    (e : step_on t (get_or ws j 0) before ≡ done v) (g : From ts (cond (is_input (row_of t.opcode)) 1 0 + j) ws (before ++ (v ∷ [])) l) where
  each_more : (i : ℕ) → i < length (t ∷ ts)
      → step_on (get_or (t ∷ ts) i no_step) (get_or ws (inputs_in (take i (t ∷ ts)) + j) 0) (before ++ take i (v ∷ g.rest)) ≡ done (get_or (v ∷ g.rest) i no_value)
  unfolding inputs_in
  each_more zero h =
      let z : 0 + j ≡ j = omega arith in
      ap (λ (x : ℕ). step_on t (get_or ws x 0) (before ++ [])) z ∙ ap (λ (x : List Datum). step_on t (get_or ws j 0) x) (append-nil before) ∙ e
  each_more (suc i) h =
      let c : ℕ = cond (is_input (row_of t.opcode)) 1 0 in
      let z : c + inputs_in (take i ts) + j ≡ inputs_in (take i ts) + (c + j) = omega arith in
      ap (λ (x : ℕ). step_on (get_or ts i no_step) (get_or ws x 0) (before ++ (v ∷ take i g.rest))) z
      ∙ ap (λ (x : List Datum). step_on (get_or ts i no_step) (get_or ws (inputs_in (take i ts) + (c + j)) 0) x) (sym (append_assoc before (v ∷ []) (take i g.rest)))
      ∙ g.each i (omega arith)

  from_more : From (t ∷ ts) j ws before l
  from_more =
      record {
        rest = v ∷ g.rest;
        joined = g.joined ∙ append_assoc before (v ∷ []) g.rest;
        count = ap suc g.count;
        each = each_more;
      }

never : {A : Type 0} (l : List Datum) (number k : ℕ) → refused number k ≡ completed l → A
never l number k e = let z : ◌≡◌ {A = ℕ} 0 1 = cc in absurd (omega arith)

-- one step, the rest being known
by_outcome : (t : Step) (ts : List Step) (k j : ℕ) (ws : List ℕ) (before l : List Datum)
    → ((v : Datum) → run_from ts (suc k) (cond (is_input (row_of t.opcode)) 1 0 + j) ws (before ++ (v ∷ [])) ≡ completed l → From ts (cond (is_input (row_of t.opcode)) 1 0 + j) ws (before ++ (v ∷ [])) l)
    → (o : Outcome) → step_on t (get_or ws j 0) before ≡ o
    → on_outcome o k (λ v. run_from ts (suc k) (cond (is_input (row_of t.opcode)) 1 0 + j) ws (before ++ (v ∷ []))) ≡ completed l → From (t ∷ ts) j ws before l
unfolding on_outcome
by_outcome t ts k j ws before l more (done v) e h = from_more t ts j ws before l v e (more v h)
by_outcome t ts k j ws before l more (value.refused number) e h = never l number k h

run_from_lem : (ts : List Step) (k j : ℕ) (ws : List ℕ) (before l : List Datum) → run_from ts k j ws before ≡ completed l → From ts j ws before l
unfolding run_from
run_from_lem [] k j ws before l e =
    let q : before ≡ l = cc in
    record { rest = []; joined = sym q ∙ sym (append-nil before); count = refl; each = λ i h. absurd (omega arith) }
run_from_lem (t ∷ ts) k j ws before l e =
    by_outcome t ts k j ws before l
    (λ v h. run_from_lem ts (suc k) (cond (is_input (row_of t.opcode)) 1 0 + j) ws (before ++ (v ∷ [])) l h)
    (step_on t (get_or ws j 0) before) refl e

-- the values l of all of the steps ts: each is what its step's rule gives of the values before it, and of the frame's word for it
pub record Worked (ts : List Step) (ws : List ℕ) (l : List Datum) : Type 0 where
  pub count : length l ≡ length ts
  pub each : (k : ℕ) → k < length ts → step_on (get_or ts k no_step) (get_or ws (inputs_in (take k ts)) 0) (take k l) ≡ done (get_or l k no_value)

pub run_worked : (ts : List Step) (ws : List ℕ) (l : List Datum) → run_from ts 0 0 ws [] ≡ completed l → Worked ts ws l
run_worked ts ws l e =
    let g = run_from_lem ts 0 0 ws [] l e in
    record {
      count = ap length g.joined ∙ g.count;
      each = λ k h.
          let z : inputs_in (take k ts) ≡ inputs_in (take k ts) + 0 = omega arith in
          ap (λ (x : ℕ). step_on (get_or ts k no_step) (get_or ws x 0) (take k l)) z
          ∙ ap (λ (x : List Datum). step_on (get_or ts k no_step) (get_or ws (inputs_in (take k ts) + 0) 0) (take k x)) g.joined
          ∙ g.each k h
          ∙ ap (λ (x : List Datum). done (get_or x k no_value)) (sym g.joined);
    }

-- ---- the whole call

-- what is so where the run of the text t on the frame s, with room for so many words, completes with the values l
pub record Completed (t s : List ℕ) (room : ℕ) (l : List Datum) : Type 0 where
  pub ts : List Step
  pub ws : List ℕ
  pub text : read_text short t ≡ steps ts
  pub fits : length ts ≤ room
  pub frame : read_frame ts s ≡ words ws
  pub worked : Worked ts ws l

module _ (t s : List ℕ) (room : ℕ) (l : List Datum) where
  by_frame : (ts : List Step) → read_text short t ≡ steps ts → length ts ≤ room → (x : Frame) → read_frame ts s ≡ x → on_frame x (λ ws. run_from ts 0 0 ws []) ≡ completed l → Completed t s room l
  unfolding on_frame
  by_frame ts e r (words ws) f h = record { ts = ts; ws = ws; text = e; fits = r; frame = f; worked = run_worked ts ws l h }
  by_frame ts e r (frame.refused number place) f h = never l number place h

  by_room : (ts : List Step) → read_text short t ≡ steps ts → (b : Bool) → ltb room (length ts) ≡ b → cond b (refused 40 0) (on_frame (read_frame ts s) (λ ws. run_from ts 0 0 ws [])) ≡ completed l → Completed t s room l
  by_room ts e true q h = never l 40 0 h
  by_room ts e false q h = by_frame ts e (ltb-false room (length ts) q) (read_frame ts s) refl h

  by_text : (x : Text) → read_text short t ≡ x → on_text x s room ≡ completed l → Completed t s room l
  unfolding on_text run_steps call_on
  by_text (steps ts) e h = by_room ts e (ltb room (length ts)) refl h
  by_text (text.refused number place) e h = never l number place h

  pub by_run : run_of t s room ≡ completed l → Completed t s room l
  unfolding run_of
  by_run h = by_text (read_text short t) refl h
