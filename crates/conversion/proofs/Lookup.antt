-- A function whose body is `match k { 0 => .., 1 => .., .. _ => .. }`, a constant u32 in each arm, answers a rule at k where its arms are those that the
-- rule gives. One law over the number of arms, by induction on it: the borrow checker's own rules, arm after arm, with one claim for every arm (its
-- plan would have a claim for each, and does not take so many arms). Assumes nothing.
use mathlib.Core.Path.{refl, sym, subst}
use mathlib.Core.Bool.{Bool, ◌&&◌}
use mathlib.Core.List.{List, [], ◌∷◌}
use mathlib.Core.Option.{some, none}
use Prim.Native.Nat.{ℕ, zero, suc, ◌+◌, ◌<◌, ◌≤◌, ◌^◌}
use native.Mathlib.Omega.{arith}
use lib.Arith.{lt_of_le-ne}
use lib.Dec.{T, ltb, lit<}
use mir.Facts.{and_yes}
use mir.Syntax.{w16, w32, ty_int, Ty, Home, value_local, Opd, Body, Fn, Arms, arm, default, int, int_big, copy, place, assign, rv_opd, switch, seq, return}
use seplogic.Ra.Ura.{Ura}
use types.Logic.{Logic}
use prog.Wp.{Env, Tables, WpFn}
use types.Run.{OneOf}
use contract.Lifetimes.{Lfts}
use denote.Triple.Statement.{Triple}
use denote.Triple.Clauses.{AtExit}
use borrow.Kind.Num.{p_num, r_num}
use borrow.Fn.Kinds.{ParamKind, ResultKind, In, Out, Dens, ended_of}
use borrow.Fn.Frame.{EnvOf}
use borrow.Fn.Any.{want_q}
use borrow.Fn.Function.{fn_of, plain_of, init}
use borrow.Fn.Plain.{t_fn_plain}
use borrow.Table.Row.{Row, Cx, s_int, val_s}
use borrow.Table.Rows.{sc_here, any_gone}
use borrow.Table.Reads.{room_gone}
use borrow.Table.Typed.{Mo, TF, Outs, Want, Typed, with_next, want_next, at_next, at_ret, s_Typed, s_seq, t_seq, t_return, g_pre_lem}
use borrow.Rule.Scalar.{Oper, o_int, o_big, o_at, put_at, n_use, n_room, t_use, g_room, Holds-Sc, reads_Sc, room_Sc}
use borrow.Rule.Switch.{Wants, Φarms, Φswitch, TypedArms, t_switch}

-- ---- the code: local 0 is the result, 1 is k, 2 is where each arm stores its constant
abbrev ps : List (ParamKind 0)
ps = p_num w16 ∷ []

abbrev r : ResultKind 0
r = r_num w32

abbrev xs : List Ty
xs = ty_int w32 ∷ []

abbrev hs : List Home
hs = value_local ∷ value_local ∷ value_local ∷ []

abbrev constant : ℕ → Opd
constant zero = int w32 zero
constant (suc x) = int_big w32 (suc x)

abbrev store : ℕ → Body
store x = assign (place 2 []) (rv_opd (constant x))

abbrev after : Body
after = seq (assign (place 0 []) (rv_opd (copy (place 2 [])))) return

-- ---- what the locals hold at each point
abbrev empty : Row
empty = any_gone (ty_int w32)

abbrev full : Row
full = sc_here (s_int w32)

abbrev holding : Row → Row → Row → Cx
holding result k entry = record { locals = (0, result) ∷ (1, k) ∷ (2, entry) ∷ []; slots = [] }

abbrev started : Cx
started = holding empty (sc_here (s_int w16)) empty

abbrev stored : Cx
stored = holding empty (sc_here (s_int w16)) full

abbrev outs : Outs
outs = record { next = none; exits = []; returns = some (holding full (any_gone (ty_int w16)) empty) }

abbrev arm_outs : Outs
arm_outs = with_next (some stored) outs

abbrev entry : Oper stored.locals
entry = o_at 2 (ty_int w32) (val_s (s_int w32))

-- ---- what each part asks
abbrev stores : ℕ → TF started arm_outs
stores x Ψ u = at_next arm_outs Ψ (put_at started 2 full x u)

abbrev leaves : TF stored outs
leaves Ψ u = at_ret outs Ψ (n_room (holding full (sc_here (s_int w16)) empty) 1 (ty_int w16) (n_room (holding full (sc_here (s_int w16)) full) 2 (ty_int w32) (n_use stored entry 0 full (s_int w32).of u)))

module _ (rule : ℕ → ℕ) where
  -- n arms from key i on, and the last, which has no key
  abbrev arms : ℕ → ℕ → Arms
  arms zero i = default (store (rule i))
  arms (suc n) i = arm (i ∷ []) (store (rule i)) (arms n (suc i))

  abbrev wants : (n i : ℕ) → Wants started arm_outs (arms n i)
  wants zero i = stores (rule i)
  wants (suc n) i = (stores (rule i), wants n (suc i))

  abbrev asks : ℕ → TF started arm_outs
  asks n = Φswitch started arm_outs 1 (λ x. x) (arms n 0) (wants n 0)

  abbrev choice : ℕ → Body
  choice n = switch (copy (place 1 [])) (arms n 0)

  -- each entry fits a u32
  abbrev pub fit : ℕ → ℕ → Bool
  fit zero i = ltb (rule i) (2 ^ 32)
  fit (suc n) i = ltb (rule i) (2 ^ 32) && fit n (suc i)

  -- the function with n arms and a last one
  abbrev pub table : ℕ → Fn
  table n = fn_of 0 ps r xs 0 hs (seq (choice n) after)

  -- where the rule at k is what is wanted, it is wanted of the arm that k chooses: the last one where k passed every key
  module _ (k : ℕ) (Ψ : Want arm_outs) (u : Mo started) (right : stores (rule k) Ψ u) where
    chosen : (n i : ℕ) (N : Type 0) → (N → i ≤ k) → k < i + suc n → Φarms started arm_outs (arms n i) (wants n i) N k Ψ u
    chosen zero i N past h = λ q. subst (λ (j : ℕ). stores (rule j) Ψ u) (omega (arith, past q)) right
    chosen (suc n) i N past h = (
      (λ e. subst (λ (j : ℕ). stores (rule j) Ψ u) e right),
      chosen n (suc i) (N × (OneOf (i ∷ []) k → ⊥)) (λ q. lt_of_le-ne (past q.0) (λ e. q.1 (sym e))) (omega arith),
    )

  module _ {M : Type 1} {𝓤 : Ura M} (𝓛 : Logic 𝓤) (𝓣 : Tables 𝓤 𝓛.H) where
    open 𝓛 use {H}

    module _ (bs : List ℕ) where
      abbrev E : Env 𝓤 H
      E = EnvOf 𝓛 (ty_int w32 ∷ ty_int w16 ∷ ty_int w32 ∷ []) bs

      one : (x : ℕ) → T (ltb x (2 ^ 32)) → Typed 𝓛 𝓣 E started (store x) arm_outs (stores x)
      one zero h = s_Typed 𝓛 𝓣 E started (store zero) arm_outs _ tt (t_use 𝓛 E 𝓣 started (o_int w32 zero) 2 full (ty_int w32) (val_s (s_int w32)) (s_int w32).of tt (room_gone 𝓛 (ty_int w32)) (Holds-Sc 𝓛 (s_int w32)) refl (λ u. refl) (λ u. tt))
      one (suc x) h =
          s_Typed 𝓛 𝓣 E started (store (suc x)) arm_outs _ tt
          (t_use 𝓛 E 𝓣 started (o_big w32 (suc x)) 2 full (ty_int w32) (val_s (s_int w32)) (s_int w32).of (record { lower = record { fits = lit< h } }) (room_gone 𝓛 (ty_int w32)) (Holds-Sc 𝓛 (s_int w32)) refl (λ u. refl) (λ u. tt))

      each : (n i : ℕ) → T (fit n i) → TypedArms 𝓛 𝓣 E started arm_outs (arms n i) (wants n i)
      each zero i h = one (rule i) h
      each (suc n) i h =
          let b : T (ltb (rule i) (2 ^ 32)) × T (fit n (suc i)) = and_yes (ltb (rule i) (2 ^ 32)) (fit n (suc i)) h in
          (one (rule i) b.0, each n (suc i) b.1)

      left : Typed 𝓛 𝓣 E stored after outs leaves
      left =
          s_seq 𝓛 𝓣 E stored _ _ return outs _ _ (t_use 𝓛 E 𝓣 stored entry 0 full (ty_int w32) (val_s (s_int w32)) (s_int w32).of (reads_Sc 𝓛 (s_int w32), refl) (room_gone 𝓛 (ty_int w32)) (Holds-Sc 𝓛 (s_int w32)) refl (λ u. refl) (λ u. tt))
          (g_pre_lem 𝓛 𝓣 E _ _ return outs _ _ (g_room 𝓛 E (holding full (sc_here (s_int w16)) full) 2 (ty_int w32) (room_Sc 𝓛 (s_int w32)))
          (g_pre_lem 𝓛 𝓣 E _ _ return outs _ _ (g_room 𝓛 E (holding full (sc_here (s_int w16)) empty) 1 (ty_int w16) (room_Sc 𝓛 (s_int w16))) (t_return 𝓛 𝓣 E outs tt)))

      whole : (n : ℕ) → T (fit n 0) → Typed 𝓛 𝓣 E started (seq (choice n) after) outs (λ Ψ. asks n (want_next stored outs (leaves Ψ) Ψ))
      whole n h = t_seq 𝓛 𝓣 E started stored (choice n) after outs (asks n) leaves (t_switch 𝓛 E 𝓣 started 1 w16 (λ x. x) (arms n 0) arm_outs (wants n 0) (reads_Sc 𝓛 (s_int w16)) refl (each n 0 h)) left

    pub answers : (n : ℕ) → T (fit n 0) → (Pre : In 0 ps) (Post : Out 0 ps r)
        → ((κs : Lfts 0) (a : Dens κs ps) → Pre κs a → (a.0 < suc n) × ((e : AtExit (ended_of 0 ps r) κs) → Post κs a (rule a.0) e))
        → Triple 𝓤 (WpFn 𝓤 H 𝓣.C 𝓣.Λ (table n)) (plain_of 𝓛 0 ps r Pre Post)
    answers n h Pre Post right =
        t_fn_plain 𝓛 𝓣 0 ps r xs 0 hs (seq (choice n) after) (λ κs qs bs Ψ. asks n (want_next stored outs (leaves Ψ) Ψ)) (λ κs qs bs bd. whole bs n h) Pre Post (λ κs qs a good pre bs.
        let Ψ : Want outs = want_q 0 ps r xs 0 κs qs a (Post κs a) in
        chosen a.0 (want_next stored outs (leaves Ψ) Ψ) (init 0 ps r xs 0 κs qs a) ((tt, tt), (right κs a pre).1 _) n 0 (Unit {0}) (λ _. omega arith) (omega (arith, (right κs a pre).0)))
