-- The operators by document 01's numbers, under the Rust's names.
use Rattle.std.specs.Prelude.{ℕ}

abbrev pub Not : ℕ
Not = 1

abbrev pub And : ℕ
And = 2

abbrev pub Or : ℕ
Or = 3

abbrev pub Equals : ℕ
Equals = 4

abbrev pub LessThan : ℕ
LessThan = 5

abbrev pub LessEq : ℕ
LessEq = 6

abbrev pub GreaterThan : ℕ
GreaterThan = 7

abbrev pub GreaterEq : ℕ
GreaterEq = 8

abbrev pub Add : ℕ
Add = 9

abbrev pub Sub : ℕ
Sub = 10

abbrev pub Mult : ℕ
Mult = 11

abbrev pub IntDiv : ℕ
IntDiv = 12

abbrev pub RealDiv : ℕ
RealDiv = 13

abbrev pub ToReal : ℕ
ToReal = 14

abbrev pub BvAdd : ℕ
BvAdd = 15

abbrev pub BvSub : ℕ
BvSub = 16

abbrev pub BvNeg : ℕ
BvNeg = 17

abbrev pub BvMul : ℕ
BvMul = 18
