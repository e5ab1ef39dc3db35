-- What holds while the lines are read, and what the answer says where reading stops. The whole text comes to what is left of it after the
-- steps so far, which stand in the first words; each law below is one way on from there. Assumes nothing.
use mathlib.Core.Path.{◌≡◌, refl, ap, ◌∙◌, sym}
use mathlib.Core.Bool.{true, false, cond}
use mathlib.Core.List.{List, [], ◌∷◌, ◌++◌}
use Prim.Native.Nat.{ℕ, ◌+◌, ◌-◌, ◌*◌, ◌/◌, ◌%◌, ◌≤◌, ◌<◌}
use native.Mathlib.Omega.{arith}
use lib.ListN.{length, get_or, set, drop}
use Rattle.recipe.specs.declared.Kind.{Kind}
use Rattle.recipe.specs.declared.Kind.TheVariants.{Double}
use Rattle.recipe.specs.declared.Step.{Step}
use Rattle.recipe.specs.declared.Reading.{Reading}
use Rattle.recipe.specs.Table.{row_of, is_input}
use Rattle.recipe.specs.Text.{most_steps, short, line_length, longest, good, malformed, kind_of, step_refusal, line_at, read_from, bad_length, read_text}
use Rattle.recipe.specs.Packed.{put_at, put_steps, steps_in}
use Rattle.recipe.specs.Answer.{Says, Leaves, Refused}
use Rattle.recipe.proofs.Counts.{whole_lines}
use Rattle.recipe.proofs.Packed.{steps_length, put_length, put_steps_rest, put_steps_more}
use Rattle.recipe.proofs.Checks.{bad_text}
use Rattle.reader.specs.Checks.{Known}
use Rattle.reader.proofs.Steps.{read_good, read_refused, read_malformed, read_done, good_text}
use Rattle.reader.proofs.Known.{known_none, known_more}

-- of the text s, of n lines, i are read: their steps stand in the words w, which were v, with what is kept beside them
pub record Going (s : List ℕ) (n : ℕ) (v w : List ℕ) (kinds : List Kind) (inputs i : ℕ) : Type 0 where
  pub within : i ≤ n
  pub room : n ≤ most_steps
  pub whole : n * line_length short ≤ length s
  pub wide : 3 * most_steps ≤ length v
  pub long : length w ≡ length v
  pub put : w ≡ put_steps v (steps_in w i) i
  pub few : inputs ≤ i
  pub known : Known (steps_in w i) i inputs kinds
  pub same : read_text short s ≡ read_from short s (n - i) i (steps_in w i)

pub going_start : (s v : List ℕ) (kinds : List Kind) → 3 * most_steps ≤ length v → length kinds ≡ most_steps → ((k : ℕ) → k < most_steps → get_or kinds k Double ≡ Double)
    → bad_length short (length s) ≡ false → Going s (length s / line_length short) v v kinds 0 0
unfolding steps_in put_steps
going_start s v kinds e z f h =
    let l = whole_lines short (length s) h in
    let r : length s % line_length short ≡ 0 = l.1 in
    let m : length s ≤ longest short = l.2 in
    let d : length s / line_length short - 0 ≡ length s / line_length short = omega arith in
    record {
      within = omega arith;
      room = omega arith;
      whole = omega arith;
      wide = e;
      long = refl;
      put = refl;
      few = omega arith;
      known = known_none kinds z f;
      same = rw d (good_text short s h);
    }

-- what `read` ensures of the text s, where it answers r and the words w were v before
abbrev Answers : List ℕ → Reading → List ℕ → List ℕ → Type 0
Answers s r v w = (length w ≡ length v) × Says (read_text short s) r w × Leaves (read_text short s) v w

pub says_bad : (s v : List ℕ) (r : Reading) → bad_length short (length s) ≡ true → Refused 10 0 r → Answers s r v v
says_bad s v r h e = rw (bad_text short s h) (refl, e, refl)

module _ (s : List ℕ) (n : ℕ) (v w : List ℕ) (kinds : List Kind) (inputs i : ℕ) (g : Going s n v w kinds inputs i) where
  -- one step more, put into the words
  pub going_more : i < n → (t : Step) → line_at short s (i * line_length short) ≡ good t → step_refusal (steps_in w i) t ≡ 0
      → (u : List ℕ) → u ≡ put_at w i t → steps_in u (i + 1) ≡ steps_in w i ++ (t ∷ [])
      → (c : ℕ) → c ≡ cond (is_input (row_of t.opcode)) 1 0 → c ≤ 1 → (x : Kind) → x ≡ kind_of t → Going s n v u (set kinds i x) (inputs + c) (i + 1)
  going_more h t e z u eu more c ec lc x ex =
      let fits : 3 * i + 2 < length w = omega (arith, g.room, g.wide, g.long) in
      record {
        within = omega arith;
        room = g.room;
        whole = g.whole;
        wide = g.wide;
        long = ap length eu ∙ put_length w i t fits ∙ g.long;
        put = eu ∙ ap (λ (y : List ℕ). put_at y i t) g.put ∙ sym (rw more (put_steps_more v (steps_in w i) t i (steps_length w i)));
        few = omega (arith, g.few);
        known = rw more (known_more (steps_in w i) i inputs kinds g.known t (omega (arith, g.room)) c x ec ex);
        same = g.same ∙ read_good short s n i (steps_in w i) t h e z ∙ rw more;
      }

  -- the words from step i on are as they were lent
  rest : drop (3 * i) w ≡ drop (3 * i) v
  rest = ap (drop (3 * i)) g.put ∙ put_steps_rest v (steps_in w i) i (3 * i) (omega arith)

  pub says_malformed : i < n → line_at short s (i * line_length short) ≡ malformed → (r : Reading) → Refused 11 i r → Answers s r v w
  says_malformed h e r d = rw (g.same ∙ read_malformed short s n i (steps_in w i) h e) (g.long, d, rest)

  pub says_refused : i < n → (t : Step) → line_at short s (i * line_length short) ≡ good t → (q : ℕ) → q ≡ step_refusal (steps_in w i) t → (q ≡ 0 → ⊥)
      → (r : Reading) → Refused q i r → Answers s r v w
  says_refused h t e q eq z r d = rw (g.same ∙ read_refused short s n i (steps_in w i) t h e (λ x. z (eq ∙ x)), ← eq) (g.long, d, rest)

  pub says_done : n ≤ i → Answers s (record { count = n; refusal = 0; place = record { 0 = 0 } }) v w
  says_done h =
      let e : i ≡ n = omega (arith, g.within) in
      let l : length (steps_in w i) ≡ i = steps_length w i in
      rw (g.same ∙ read_done short s n i (steps_in w i) h) (
        g.long,
        record { not_refused = refl; no_place = refl; counted = rw e (sym (steps_length w n)); kept = rw e },
        g.put ∙ sym (ap (put_steps v (steps_in w i)) l),
      )
