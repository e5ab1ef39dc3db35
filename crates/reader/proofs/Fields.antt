-- A line of the short form is read from its own bytes as it is from the whole text. Assumes nothing.
use mathlib.Core.Path.{◌≡◌}
use mathlib.Core.List.{List}
use Prim.Native.Nat.{ℕ, ◌+◌, ◌-◌}
use native.Mathlib.Omega.{arith}
use lib.ListN.{take, drop}
use lib.Seq.{get_or-take, get_or-drop}
use Rattle.hexadecimal.proofs.Laws.{field_part}
use Rattle.recipe.specs.Text.{short, line_length, line_at}

pub line_part : (s : List ℕ) (at : ℕ) → line_at short (take (at + line_length short - at) (drop at s)) 0 ≡ line_at short s at
unfolding line_at
line_part s at =
    let z : at + 0 ≡ at = omega arith in
    let b : at + 2 + 2 ≡ at + 4 = omega arith in
    let p : at + 2 + 4 ≡ at + 6 = omega arith in
    let q : at + 18 + 4 ≡ at + 22 = omega arith in
    let e : at + 34 + 4 ≡ at + 38 = omega arith in
    let m = line_length short in
    let n : at + m - at ≡ m = omega arith in
    rw (
      n,
      field_part s at m 2 0 0 (omega arith),
      field_part s at m 2 2 0 (omega arith),
      field_part s at m 2 4 0 (omega arith),
      field_part s at m 16 6 0 (omega arith),
      field_part s at m 16 22 0 (omega arith),
      get_or-take m (drop at s) 38 0 (omega arith),
      get_or-drop at s 38 0,
      z,
      b,
      p,
      q,
      e,
    )
