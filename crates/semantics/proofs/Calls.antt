-- The run and the sheet of steps, stage by stage: what they come to where they stop, and where they go on. A text adds the reading. Assumes
-- nothing.
use mathlib.Core.Path.{◌≡◌, refl, ap, ◌∙◌, sym}
use mathlib.Core.Bool.{Bool, true, false, cond}
use mathlib.Core.List.{List, []}
use Prim.Native.Nat.{ℕ, ◌*◌, ◌≤◌, ◌<◌}
use native.Mathlib.Omega.{arith}
use lib.Dec.{ltb}
use lib.ListN.{length}
use borrow.Author.Tests.{lt-ltb, le-ltb, eq-eqb, ne_eqb, ltb-false}
use Rattle.recipe.specs.declared.Step.{Step}
use Rattle.recipe.specs.Text.{Text, short, steps, inputs_in, read_text}
use Rattle.recipe.specs.Text as text
use Rattle.semantics.specs.Frame.{Frame, words, on_words, words_from, ranged, read_frame}
use Rattle.semantics.specs.Frame as frame
use Rattle.semantics.specs.Range.{Range}
use Rattle.semantics.specs.Run.{Run, refused, run_from, on_frame, call_on, run_steps, on_text, run_of}
use Rattle.semantics.specs.Mark.{marks_of}
use Rattle.semantics.specs.Sheet.{Sheet, passed, sheet_from}
use Rattle.semantics.specs.Sheet as sheet
use Rattle.semantics.specs.Shown.{shown, marked, sheet_line, sheet_steps, sheet_of}
use Rattle.semantics.specs.Shown as call
use Rattle.semantics.proofs.Sound.Kept.{never}

-- ---- the frame

-- Refusal 30 comes first: a frame of the wrong length is refused so, whatever its bytes.
pub length_first : (l : List Step) (s : List ℕ) → (length s ≡ inputs_in l * 16 → ⊥) → read_frame l s ≡ frame.refused 30 0
unfolding read_frame
length_first l s h = rw (ne_eqb (length s) (16 * inputs_in l) (λ q. h (omega arith)))

frame_words : (l : List Step) (s : List ℕ) → length s ≡ inputs_in l * 16
    → read_frame l s ≡ on_words (words_from s (inputs_in l) 0 []) (λ ws. ranged l 0 0 ws)
unfolding read_frame
frame_words l s h = rw (eq-eqb (length s) (16 * inputs_in l) (omega arith))

words_refused : (x : Frame) (l : List Step) (more : List ℕ → Run) (number place : ℕ) → x ≡ frame.refused number place
    → on_frame (on_words x (λ ws. ranged l 0 0 ws)) more ≡ refused number place
unfolding on_frame on_words
words_refused x l more number place e = rw e

words_good : (x : Frame) (l : List Step) (more : List ℕ → Run) (ws : List ℕ) → x ≡ words ws
    → on_frame (on_words x (λ ws. ranged l 0 0 ws)) more ≡ on_frame (ranged l 0 0 ws) more
unfolding on_words
words_good x l more ws e = rw e

frame_refused : (x : Frame) (more : List ℕ → Run) (number place : ℕ) → x ≡ frame.refused number place → on_frame x more ≡ refused number place
unfolding on_frame
frame_refused x more number place e = rw e

frame_good : (x : Frame) (more : List ℕ → Run) (ws : List ℕ) → x ≡ words ws → on_frame x more ≡ more ws
unfolding on_frame
frame_good x more ws e = rw e

-- ---- a call, whatever comes of the steps on the frame's words

module _ (more : List ℕ → Run) (l : List Step) (s : List ℕ) (room : ℕ) where
  -- refusal 40
  pub call_short : room < length l → call_on more l s room ≡ refused 40 0
  unfolding call_on
  call_short h = rw (lt-ltb room (length l) h)

  module _ (r : length l ≤ room) where
    framed : call_on more l s room ≡ on_frame (read_frame l s) more
    unfolding call_on
    framed = rw (le-ltb room (length l) r)

    -- refusal 30
    pub call_length : (length s ≡ inputs_in l * 16 → ⊥) → call_on more l s room ≡ refused 30 0
    call_length h = framed ∙ frame_refused (read_frame l s) more 30 0 (length_first l s h)

    module _ (h : length s ≡ inputs_in l * 16) where
      worded : call_on more l s room ≡ on_frame (on_words (words_from s (inputs_in l) 0 []) (λ ws. ranged l 0 0 ws)) more
      worded = framed ∙ ap (λ (x : Frame). on_frame x more) (frame_words l s h)

      -- refusal 31
      pub call_malformed : (number place : ℕ) → words_from s (inputs_in l) 0 [] ≡ frame.refused number place → call_on more l s room ≡ refused number place
      call_malformed number place e = worded ∙ words_refused (words_from s (inputs_in l) 0 []) l more number place e

      module _ (ws : List ℕ) (e : words_from s (inputs_in l) 0 [] ≡ words ws) where
        ranges : call_on more l s room ≡ on_frame (ranged l 0 0 ws) more
        ranges = worded ∙ words_good (words_from s (inputs_in l) 0 []) l more ws e

        -- refusal 32
        pub call_outside : (number place : ℕ) → ranged l 0 0 ws ≡ frame.refused number place → call_on more l s room ≡ refused number place
        call_outside number place f = ranges ∙ frame_refused (ranged l 0 0 ws) more number place f

        -- none of these
        pub call_reached : ranged l 0 0 ws ≡ words ws → call_on more l s room ≡ more ws
        call_reached f = ranges ∙ frame_good (ranged l 0 0 ws) more ws f

-- what comes to the same on every frame that is admitted comes to the same on all
pub call_same : (f g : List ℕ → Run) (l : List Step) (s : List ℕ) (room : ℕ) → ((ws : List ℕ) → read_frame l s ≡ words ws → f ws ≡ g ws)
    → call_on f l s room ≡ call_on g l s room
unfolding call_on on_frame
call_same f g l s room h = ap (λ (x : Run). cond (ltb room (length l)) (refused 40 0) x) (by_frame (read_frame l s) refl)
  where
    by_frame : (x : Frame) → read_frame l s ≡ x → on_frame x f ≡ on_frame x g
    by_frame (words ws) e = h ws e
    by_frame (frame.refused number place) e = refl

-- ---- the run

-- a frame of the wrong length is refused 30
pub run_length : (l : List Step) (s : List ℕ) (room : ℕ) → length l ≤ room → (length s ≡ inputs_in l * 16 → ⊥) → run_steps l s room ≡ refused 30 0
unfolding run_steps
run_length l s room r h = call_length (λ ws. run_from l 0 0 ws []) l s room r h

module _ (t s : List ℕ) (room : ℕ) where
  -- the reader's refusal
  pub run_refused : (number place : ℕ) → read_text short t ≡ text.refused number place → run_of t s room ≡ refused number place
  unfolding run_of on_text
  run_refused number place e = rw e

  pub run_read : (l : List Step) → read_text short t ≡ steps l → run_of t s room ≡ run_steps l s room
  unfolding run_of on_text
  run_read l e = rw e

-- ---- the sheet

module _ (l : List Step) (room : ℕ) where
  -- refusal 40
  pub sheet_short : room < sheet_line * length l → sheet_steps l room ≡ call.refused 40 0
  unfolding sheet_steps
  sheet_short h = rw (lt-ltb room (sheet_line * length l) h)

  -- else the ranges and the marks
  pub sheet_reached : sheet_line * length l ≤ room → sheet_steps l room ≡ marked l (sheet_from l 0 [])
  unfolding sheet_steps
  sheet_reached h = rw (le-ltb room (sheet_line * length l) h)

module _ (t : List ℕ) (room : ℕ) where
  -- the reader's refusal
  pub sheet_refused : (number place : ℕ) → read_text short t ≡ text.refused number place → sheet_of t room ≡ call.refused number place
  unfolding sheet_of call.on_text
  sheet_refused number place e = rw e

  pub sheet_read : (l : List Step) → read_text short t ≡ steps l → sheet_of t room ≡ sheet_steps l room
  unfolding sheet_of call.on_text
  sheet_read l e = rw e

-- ---- as a user would state it

-- The sheet call, given room, shows the ranges and the marks of every recipe whose sheet is passed.
pub sheet_shows : (t : List ℕ) (l : List Step) (rs : List Range) (room : ℕ) → read_text short t ≡ steps l → sheet_from l 0 [] ≡ passed rs → sheet_line * length l ≤ room
    → sheet_of t room ≡ shown rs (marks_of l rs)
unfolding marked
sheet_shows t l rs room e g h = sheet_read t room l e ∙ sheet_reached l room h ∙ ap (marked l) g

-- What is known of a sheet that the call shows.
pub record Shows (t : List ℕ) (room : ℕ) (rs : List Range) (ms : List Bool) : Type 0 where
  pub list : List Step
  pub reads : read_text short t ≡ steps list
  pub passes : sheet_from list 0 [] ≡ passed rs
  pub marks : ms ≡ marks_of list rs
  pub fits : sheet_line * length list ≤ room

-- It passes no other recipe.
pub sheet_passes_no_other : (t : List ℕ) (room : ℕ) (rs : List Range) (ms : List Bool) → sheet_of t room ≡ shown rs ms → Shows t room rs ms
unfolding sheet_of call.on_text sheet_steps marked
sheet_passes_no_other t room rs ms e = by_text (read_text short t) refl e
  where
    by_fold : (l : List Step) (x : Sheet) → read_text short t ≡ steps l → sheet_line * length l ≤ room → sheet_from l 0 [] ≡ x → marked l x ≡ shown rs ms → Shows t room rs ms
    by_fold l (passed qs) f r g e =
        let q : qs ≡ rs = cc in
        let m : marks_of l qs ≡ ms = cc in
        record { list = l; reads = f; passes = g ∙ ap passed q; marks = sym m ∙ ap (marks_of l) q; fits = r }
    by_fold l (sheet.refused number k) f r g e = never (cc)

    by_room : (l : List Step) (b : Bool) → read_text short t ≡ steps l → ltb room (sheet_line * length l) ≡ b
        → cond b (call.refused 40 0) (marked l (sheet_from l 0 [])) ≡ shown rs ms → Shows t room rs ms
    by_room l true f q g = never (cc)
    by_room l false f q g = by_fold l (sheet_from l 0 []) f (ltb-false room (sheet_line * length l) q) refl g

    by_text : (x : Text) → read_text short t ≡ x → call.on_text x room ≡ shown rs ms → Shows t room rs ms
    by_text (steps l) f g = by_room l (ltb room (sheet_line * length l)) f refl g
    by_text (text.refused number place) f g = never (cc)
