-- `case::parse` meets its contract: what each call of `hex::read` answered is a field of `from_fields`. Assumes nothing.
use mathlib.Core.Path.{◌≡◌, refl, ◌∙◌, sym}
use mathlib.Core.Bool.{true}
use native.Mathlib.Omega.{arith}
use Rattle.hexadecimal.specs.Hex.{field_of}
use Rattle.std.specs.Prelude.{Some}
use Rattle.hexadecimal.proofs.Laws.{word_part}
use Rattle.vectors.specs.Line.{from_fields, separated_by}
use Rattle.vectors.proofs.Lines.{unseparated, fields}
use Rattle.vectors.proofs.case.parse.Goals.{Else-not-separated, In-Some, In-Some-read, In-Some-read-2, In-Some-read-3, Start}
use Rattle.vectors.proofs.case.parse.Goals as goal

-- ---- the places after the test of the separators and after each field, and what is known there

abbrev start : Else-not-separated → Start
start k = (goal.at.Else-not-separated k).Start

separators : (k : Else-not-separated) → separated_by (start k).args.line.now ≡ true
separators k = sym k.separated.ensures ∙ k.if-not-separated.false

abbrev after0 : In-Some → Else-not-separated
after0 k = (goal.at.In-Some k).Else-not-separated

function-is : (k : In-Some) → field_of (start (after0 k)).args.line.now 0 2 0 ≡ Some k.in-Some.function
function-is k =
    let s = start (after0 k) in
    word_part s.args.line.now 0 2 (omega arith) (omega (arith, s.requires)) (omega arith) k.read.ensures k.in-Some.is

abbrev after1 : In-Some-read → In-Some
after1 k = (goal.at.In-Some-read k).In-Some

width_is : (k : In-Some-read) → field_of (start (after0 (after1 k))).args.line.now 3 2 0 ≡ Some k.in-Some-read.width
width_is k =
    let s = start (after0 (after1 k)) in
    word_part s.args.line.now 3 5 (omega arith) (omega (arith, s.requires)) (omega arith) k.read-2.ensures k.in-Some-read.is

abbrev after2 : In-Some-read-2 → In-Some-read
after2 k = (goal.at.In-Some-read-2 k).In-Some-read

x-is : (k : In-Some-read-2) → field_of (start (after0 (after1 (after2 k)))).args.line.now 6 16 0 ≡ Some k.in-Some-read-2.x
x-is k =
    let s = start (after0 (after1 (after2 k))) in
    word_part s.args.line.now 6 22 (omega arith) (omega (arith, s.requires)) (omega arith) k.read-3.ensures k.in-Some-read-2.is

abbrev after3 : In-Some-read-3 → In-Some-read-2
after3 k = (goal.at.In-Some-read-3 k).In-Some-read-2

y-is : (k : In-Some-read-3) → field_of (start (after0 (after1 (after2 (after3 k))))).args.line.now 23 16 0 ≡ Some k.in-Some-read-3.y
y-is k =
    let s = start (after0 (after1 (after2 (after3 k)))) in
    word_part s.args.line.now 23 39 (omega arith) (omega (arith, s.requires)) (omega arith) k.read-4.ensures k.in-Some-read-3.is

-- ---- the needs

pub returns-then-not-separated : goal.returns-then-not-separated
returns-then-not-separated c = unseparated c.args.line.now (sym c.separated.ensures ∙ c.if-not-separated.true)

pub returns-in_default : goal.returns-in_default
unfolding from_fields
returns-in_default c =
    let s = start (goal.at.returns-in_default c).Else-not-separated in
    fields s.args.line.now _ _ _ _ (separators (goal.at.returns-in_default c).Else-not-separated)
    (word_part s.args.line.now 0 2 (omega arith) (omega (arith, s.requires)) (omega arith) c.read.ensures c.in_default.is)
    refl
    refl
    refl

pub returns-in_default-read : goal.returns-in_default-read
unfolding from_fields
returns-in_default-read c =
    let s = start (after0 (goal.at.returns-in_default-read c).In-Some) in
    fields s.args.line.now _ _ _ _ (separators (after0 (goal.at.returns-in_default-read c).In-Some))
    (function-is (goal.at.returns-in_default-read c).In-Some)
    (word_part s.args.line.now 3 5 (omega arith) (omega (arith, s.requires)) (omega arith) c.read-2.ensures c.in_default-read.is)
    refl
    refl

pub returns-in_default-read-2 : goal.returns-in_default-read-2
unfolding from_fields
returns-in_default-read-2 c =
    let s = start (after0 (after1 (goal.at.returns-in_default-read-2 c).In-Some-read)) in
    fields s.args.line.now _ _ _ _ (separators (after0 (after1 (goal.at.returns-in_default-read-2 c).In-Some-read)))
    (function-is (after1 (goal.at.returns-in_default-read-2 c).In-Some-read))
    (width_is (goal.at.returns-in_default-read-2 c).In-Some-read)
    (word_part s.args.line.now 6 22 (omega arith) (omega (arith, s.requires)) (omega arith) c.read-3.ensures c.in_default-read-2.is)
    refl

pub returns-in_default-read-3 : goal.returns-in_default-read-3
unfolding from_fields
returns-in_default-read-3 c =
    let s = start (after0 (after1 (after2 (goal.at.returns-in_default-read-3 c).In-Some-read-2))) in
    fields s.args.line.now _ _ _ _ (separators (after0 (after1 (after2 (goal.at.returns-in_default-read-3 c).In-Some-read-2))))
    (function-is (after1 (after2 (goal.at.returns-in_default-read-3 c).In-Some-read-2)))
    (width_is (after2 (goal.at.returns-in_default-read-3 c).In-Some-read-2))
    (x-is (goal.at.returns-in_default-read-3 c).In-Some-read-2)
    (word_part s.args.line.now 23 39 (omega arith) (omega (arith, s.requires)) (omega arith) c.read-4.ensures c.in_default-read-3.is)

pub returns : goal.returns
unfolding from_fields
returns c = fields (start (after0 (after1 (after2 (after3 (goal.at.returns c).In-Some-read-3))))).args.line.now _ _ _ _ (separators (after0 (after1 (after2 (after3 (goal.at.returns c).In-Some-read-3))))) (function-is (after1 (after2 (after3 (goal.at.returns c).In-Some-read-3)))) (width_is (after2 (after3 (goal.at.returns c).In-Some-read-3))) (x-is (after3 (goal.at.returns c).In-Some-read-3)) (y-is (goal.at.returns c).In-Some-read-3)
