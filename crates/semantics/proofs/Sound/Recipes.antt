-- Demand 3 (`Promise`), over the definitions of the run and the sheet. The one idea: sheet and run are folds over the same steps, and that
-- every value so far lies in its range is kept by each step. Assumes nothing.
use mathlib.Core.Path.{◌≡◌, refl, sym, ap, ◌∙◌}
use mathlib.Core.Bool.{Bool, true, false, cond}
use mathlib.Core.List.{List, [], ◌∷◌, ◌++◌, map, append_assoc, append-nil}
use Prim.Native.Nat.{ℕ, suc, ◌+◌, ◌*◌, ◌≤◌, ◌<◌}
use native.Mathlib.Omega.{arith}
use lib.Dec.{eqb}
use lib.ListN.{length, get_or, take, drop, length-append, get_or-append, get_or-eq_default}
use lib.Seq.{get_or_at}
use borrow.Author.Tests.{le-ltb}
use Rattle.float_format.proofs.Units.{three_way}
use Rattle.recipe.specs.declared.Kind.{Kind}
use Rattle.recipe.specs.declared.Step.{Step}
use Rattle.recipe.specs.Table.{row_of, is_input}
use Rattle.recipe.specs.Text.{steps, short, most_steps, first, second, no_step, is_unknown, bad_range, inputs_in}
use Rattle.recipe.specs.Text as text
use Rattle.recipe.specs.Answer.{Formed}
use Rattle.recipe.proofs.Laws.{step_checked, read_formed}
use Rattle.semantics.specs.Value.{Datum, word_of, Outcome, step_value}
use Rattle.semantics.specs.Range.{Range, Ranged, ranged, step_range}
use Rattle.semantics.specs.Range as range
use Rattle.semantics.specs.Frame.{Frame, words, outside, on_words, words_from, read_frame}
use Rattle.semantics.specs.Frame as frame
use Rattle.semantics.specs.Run.{Run, completed, no_value, on_outcome, run_from, on_frame, call_on, run_steps, answer_of, words_of}
use Rattle.semantics.specs.Sheet.{passed, no_range, on_ranged, sheet_from}
use Rattle.semantics.specs.Promise.{Lies, Proper, Promise, TextPromise}
use Rattle.semantics.proofs.Calls.{run_read}
use Rattle.semantics.proofs.Worked.{run_worked}
use Rattle.semantics.proofs.Sound.Kept.{never, Kept}
use Rattle.semantics.proofs.Sound.Steps.{step_kept}
use Rattle.semantics.proofs.Sound.Kinds.{lies_kind, HasKind, step_kind}
use Rattle.semantics.proofs.Sound.Marks.{marks_kept}

-- ---- values in their ranges, step by step

-- past the last step both lists count as zero, so that no bound on k is needed
pub record Covers (rs : List Range) (vs : List Datum) : Type 0 where
  pub as_many : length rs ≡ length vs
  pub lie : (k : ℕ) → Lies (get_or rs k no_range) (get_or vs k no_value)
  pub proper : (k : ℕ) → Proper (get_or rs k no_range)

pub covers_none : Covers [] []
unfolding Lies Proper
covers_none = record { as_many = refl; lie = λ k. (refl, refl); proper = λ k. tt }

zero_lies : Lies no_range no_value
unfolding Lies
zero_lies = (refl, refl)

zero_proper : Proper no_range
unfolding Proper
zero_proper = tt

module _ {rs : List Range} {vs : List Datum} (c : Covers rs vs) (r : Range) (v : Datum) (l : Lies r v) (p : Proper r) where
  more_lie : (k : ℕ) → Lies (get_or (rs ++ (r ∷ [])) k no_range) (get_or (vs ++ (v ∷ [])) k no_value) × Proper (get_or (rs ++ (r ∷ [])) k no_range)
  more_lie k = three_way k (length rs) before same after
    where
      before : k < length rs → Lies (get_or (rs ++ (r ∷ [])) k no_range) (get_or (vs ++ (v ∷ [])) k no_value) × Proper (get_or (rs ++ (r ∷ [])) k no_range)
      before h =
          let h' : k < length vs = omega (arith, c.as_many) in
          rw (get_or-append rs (r ∷ []) no_range k h, get_or-append vs (v ∷ []) no_value k h') (c.lie k, c.proper k)

      same : k ≡ length rs → Lies (get_or (rs ++ (r ∷ [])) k no_range) (get_or (vs ++ (v ∷ [])) k no_value) × Proper (get_or (rs ++ (r ∷ [])) k no_range)
      same e = rw (get_or_at rs r [] no_range k (sym e), get_or_at vs v [] no_value k (sym (e ∙ c.as_many))) (l, p)

      after : length rs < k → Lies (get_or (rs ++ (r ∷ [])) k no_range) (get_or (vs ++ (v ∷ [])) k no_value) × Proper (get_or (rs ++ (r ∷ [])) k no_range)
      after h =
          let a : length (rs ++ (r ∷ [])) ≤ k = omega (arith, length-append rs (r ∷ [])) in
          let b : length (vs ++ (v ∷ [])) ≤ k = omega (arith, length-append vs (v ∷ []), c.as_many) in
          rw (get_or-eq_default (rs ++ (r ∷ [])) no_range a, get_or-eq_default (vs ++ (v ∷ [])) no_value b) (zero_lies, zero_proper)

  pub covers_more : Covers (rs ++ (r ∷ [])) (vs ++ (v ∷ []))
  covers_more =
      record {
        as_many = omega (arith, length-append rs (r ∷ []), length-append vs (v ∷ []), c.as_many);
        lie = λ k. (more_lie k).0;
        proper = λ k. (more_lie k).1;
      }

-- ---- the two folds

-- no step has a declared range that refusal 16 turns down
abbrev pub Declared : List Step → Type 0
Declared ls = (k : ℕ) → k < length ls → bad_range (row_of (get_or ls k no_step).opcode) (get_or ls k no_step) ≡ false

-- how many inputs are before the next step
abbrev pub following : Step → ℕ → ℕ
following t j = cond (is_input (row_of t.opcode)) 1 0 + j

-- a frame that is not turned down at the first step is not turned down after it, and its words are kept
pub frame_step : (t : Step) (ts : List Step) (k j : ℕ) (ws us : List ℕ) → frame.ranged (t ∷ ts) k j ws ≡ words us
    → (outside (row_of t.opcode) t (get_or ws j 0) ≡ false) × (frame.ranged ts (suc k) (following t j) ws ≡ words us)
unfolding frame.ranged
frame_step t ts k j ws us e = pick (outside (row_of t.opcode) t (get_or ws j 0)) e
  where
    pick : (b : Bool) → elim b [ true ↦ frame.refused 32 k | false ↦ frame.ranged ts (suc k) (following t j) ws ] ≡ words us
        → (b ≡ false) × (frame.ranged ts (suc k) (following t j) ws ≡ words us)
    pick true h = never (cc)
    pick false h = (refl, h)

frame_words : (ts : List Step) (k j : ℕ) (ws us : List ℕ) → frame.ranged ts k j ws ≡ words us → ws ≡ us
unfolding frame.ranged
frame_words [] k j ws us e = cc
frame_words (t ∷ ts) k j ws us e = frame_words ts (suc k) (following t j) ws us (frame_step t ts k j ws us e).1

-- a run that completes with n values, each in its range of rs
pub record Completes (o : Run) (n : ℕ) (rs : List Range) : Type 0 where
  pub values : List Datum
  pub is : o ≡ completed values
  pub covers : Covers rs values
  pub count : length values ≡ n

module _ (ws : List ℕ) (end : List Range) where
  next : (ts : List Step) (k j n : ℕ) (rs : List Range) (vs : List Datum) (R : Ranged) (o : Outcome) → Kept R o
      → ((r : Range) (v : Datum) → Lies r v → Proper r → sheet_from ts (suc k) (rs ++ (r ∷ [])) ≡ passed end → Completes (run_from ts (suc k) j ws (vs ++ (v ∷ []))) n end)
      → on_ranged R k (λ r. sheet_from ts (suc k) (rs ++ (r ∷ []))) ≡ passed end
      → Completes (on_outcome o k (λ v. run_from ts (suc k) j ws (vs ++ (v ∷ [])))) n end
  unfolding on_ranged on_outcome
  next ts k j n rs vs (ranged r) o h more e = rw h.is (more r h.value h.lies h.proper e)
  next ts k j n rs vs (range.refused number) o h more e = never (cc)

  pub fold_sound : (ls : List Step) (k j : ℕ) (rs : List Range) (vs : List Datum) → Declared ls → frame.ranged ls k j ws ≡ words ws → Covers rs vs
      → sheet_from ls k rs ≡ passed end → Completes (run_from ls k j ws vs) (length vs + length ls) end
  unfolding sheet_from run_from
  fold_sound [] k j rs vs d f c e =
      let q : rs ≡ end = cc in
      record { values = vs; is = refl; covers = rw (← q) c; count = omega arith }
  fold_sound (t ∷ ts) k j rs vs d f c e =
      let w : ℕ = get_or ws j 0 in
      let g : (outside (row_of t.opcode) t (get_or ws j 0) ≡ false) × (frame.ranged ts (suc k) (following t j) ws ≡ words ws) = frame_step t ts k j ws ws f in
      let h : Kept (step_range t (get_or rs (first t) no_range) (get_or rs (second t) no_range)) (step_value t (get_or ws j 0) (get_or vs (first t) no_value) (get_or vs (second t) no_value)) =
      step_kept t (get_or ws j 0) (get_or rs (first t) no_range) (get_or rs (second t) no_range) (get_or vs (first t) no_value) (get_or vs (second t) no_value)
      (c.lie (first t)) (c.lie (second t)) (c.proper (first t)) (c.proper (second t)) (d 0 (omega arith)) g.0 in
      next ts k (following t j) (length vs + length (t ∷ ts)) rs vs _ _ h
      (λ r v l p z.
      let i : Completes (run_from ts (suc k) (following t j) ws (vs ++ (v ∷ []))) (length (vs ++ (v ∷ [])) + length ts) end =
      fold_sound ts (suc k) (following t j) (rs ++ (r ∷ [])) (vs ++ (v ∷ [])) (λ m b. d (suc m) (omega arith)) g.1 (covers_more c r v l p) z in
      record { values = i.values; is = i.is; covers = i.covers; count = omega (arith, i.count, length-append vs (v ∷ [])) })
      e

-- ---- the whole recipe and the whole frame

-- the words of a frame that was read lie in their declared ranges
pub frame_read : (ls : List Step) (s ws : List ℕ) → read_frame ls s ≡ words ws → frame.ranged ls 0 0 ws ≡ words ws
unfolding read_frame on_words
frame_read ls s ws e = pick (eqb (length s) (16 * inputs_in ls)) (words_from s (inputs_in ls) 0 []) e
  where
    pick : (b : Bool) (x : Frame) → cond b (on_words x (λ us. frame.ranged ls 0 0 us)) (frame.refused 30 0) ≡ words ws → frame.ranged ls 0 0 ws ≡ words ws
    pick true (words us) h =
        let q : us ≡ ws = frame_words ls 0 0 us ws h in
        rw q at h
    pick true (frame.refused number place) h = never (cc)
    pick false x h = never (cc)

-- formed steps declare ranges that refusal 16 lets pass
pub declared : (ls : List Step) → Formed most_steps ls → Declared ls
declared ls f k b = (step_checked (take k ls) (get_or ls k no_step) (f.passed k b)).range

-- a frame's words, read for formed steps whose sheet passes, make a run that completes
pub words_complete : (s : List ℕ) (ls : List Step) (ws : List ℕ) (rs : List Range)
    → Formed most_steps ls → sheet_from ls 0 [] ≡ passed rs → read_frame ls s ≡ words ws → Completes (run_from ls 0 0 ws []) (length ls) rs
words_complete s ls ws rs e g f =
    let i : Completes (run_from ls 0 0 ws []) (0 + length ls) rs = fold_sound ws rs ls 0 0 [] [] (declared ls e) (frame_read ls s ws f) covers_none g in
    record { values = i.values; is = i.is; covers = i.covers; count = i.count ∙ omega arith }

-- a run on a frame that was read, with room
run_completes : (ls : List Step) (s ws : List ℕ) (room : ℕ) (vs : List Datum) → length ls ≤ room → read_frame ls s ≡ words ws
    → run_from ls 0 0 ws [] ≡ completed vs → run_steps ls s room ≡ completed vs
unfolding run_steps call_on on_frame
run_completes ls s ws room vs h f g = rw (le-ltb room (length ls) h, f) g

-- ---- kinds

-- the table has every step's opcode
abbrev Known : List Step → Type 0
Known ls = (k : ℕ) → k < length ls → is_unknown (row_of (get_or ls k no_step).opcode) ≡ false

map_more : (rs : List Range) (r : Range) → map range.kind_of (rs ++ (r ∷ [])) ≡ map range.kind_of rs ++ (range.kind_of r ∷ [])
map_more [] r = refl
map_more (q ∷ rs) r = ap (λ (l : List Kind). range.kind_of q ∷ l) (map_more rs r)

module _ (end : List Range) where
  next_kinds : (t : Step) (ts : List Step) (k : ℕ) (rs : List Range) (R : Ranged) → HasKind (text.kind_of t) R
      → ((r : Range) → sheet_from ts (suc k) (rs ++ (r ∷ [])) ≡ passed end → map range.kind_of end ≡ map range.kind_of (rs ++ (r ∷ [])) ++ map text.kind_of ts)
      → on_ranged R k (λ r. sheet_from ts (suc k) (rs ++ (r ∷ []))) ≡ passed end → map range.kind_of end ≡ map range.kind_of rs ++ (text.kind_of t ∷ map text.kind_of ts)
  unfolding on_ranged
  next_kinds t ts k rs (ranged r) h more e =
      more r e
      ∙ ap (λ (l : List Kind). l ++ map text.kind_of ts) (map_more rs r)
      ∙ append_assoc (map range.kind_of rs) (range.kind_of r ∷ []) (map text.kind_of ts)
      ∙ ap (λ (c : Kind). map range.kind_of rs ++ (c ∷ map text.kind_of ts)) h
  next_kinds t ts k rs (range.refused number) h more e = never (cc)

  fold_kinds : (ls : List Step) (k : ℕ) (rs : List Range) → Known ls → sheet_from ls k rs ≡ passed end
      → map range.kind_of end ≡ map range.kind_of rs ++ map text.kind_of ls
  unfolding sheet_from
  fold_kinds [] k rs d e =
      let q : rs ≡ end = cc in
      ap (map range.kind_of) (sym q) ∙ sym (append-nil (map range.kind_of rs))
  fold_kinds (t ∷ ts) k rs d e =
      next_kinds t ts k rs _ (step_kind t (get_or rs (first t) no_range) (get_or rs (second t) no_range) (d 0 (omega arith)))
      (λ r z. fold_kinds ts (suc k) (rs ++ (r ∷ [])) (λ m b. d (suc m) (omega arith)) z)
      e

-- The ranges of a sheet that passes have the steps' kinds.
pub sheet_kinds : (ls : List Step) (rs : List Range) → Formed most_steps ls → sheet_from ls 0 [] ≡ passed rs → map range.kind_of rs ≡ map text.kind_of ls
sheet_kinds ls rs f g = fold_kinds rs ls 0 [] (λ k b. (step_checked (take k ls) (get_or ls k no_step) (f.passed k b)).known) g

-- ---- demand 3

pub sheet_sound : Promise
sheet_sound l f s lent rs ws g =
    let i : Completes (run_from l 0 0 ws []) (length l) rs = words_complete s l ws rs f g.passes g.admits in
    let e : run_steps l s (length lent) ≡ completed i.values = run_completes l s ws (length lent) i.values g.fits g.admits i.is in
    record {
      values = i.values;
      count = i.count;
      completes = e;
      shown = sheet_kinds l rs f g.passes;
      kinds = λ k h. lies_kind (get_or rs k no_range) (get_or i.values k no_value) (i.covers.lie k);
      lie = λ k h. i.covers.lie k;
      integral = λ k h m. marks_kept l ws i.values rs (run_worked l ws i.values i.is) i.covers.as_many i.covers.lie i.covers.proper k (omega arith) m;
      written = ap (λ (o : Run). words_of o lent) e ∙ ap (λ (n : ℕ). map word_of i.values ++ drop n lent) i.count;
      returned = ap answer_of e;
    }

-- a text adds the reading
pub text_sound : TextPromise
text_sound t l e s lent rs ws g = rw (run_read t s (length lent) l e) (sheet_sound l (read_formed short t l e) s lent rs ws g)
