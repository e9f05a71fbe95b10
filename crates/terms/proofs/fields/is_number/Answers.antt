-- The tests are those of the two sizes, which make the range, and of the denominator's sign, one after the other.
use mathlib.Core.Path.{◌≡◌, sym, ap, ◌∙◌}
use Prim.Native.Nat.{ℕ, ◌≤◌, ◌<◌}
use native.Mathlib.Omega.{arith}
use borrow.Author.Tests.{le-leb, lt-leb}
use lib.Dec.{leb}
use lib.IntN.{nat_abs, pos}
use lib.Signed.{lt_z}
use mir.Facts.{to_z-of_z}
use Rattle.numbers.specs.Rational.{Rational, frac, limit, in_range}
use Rattle.numbers.proofs.Ranges.{large-num}
use Rattle.terms.proofs.Layouts.{passed, stopped, size_is}
use Rattle.terms.proofs.fields.is_number.Goals as goal
use Rattle.terms.proofs.fields.is_number.Goals.{then-magnitude-le-LIMIT, else-magnitude-le-LIMIT}

module _ (q : Rational) where
  small-num : {k m : ℕ} → k ≡ nat_abs q.num → k ≤ limit → m ≡ nat_abs q.den → leb m limit ≡ in_range q
  unfolding in_range
  small-num e h f = let small : nat_abs q.num ≤ limit = omega arith in rw (f, le-leb (nat_abs q.num) limit small)

  large-num-range : {k : ℕ} → k ≡ nat_abs q.num → limit < k → leb k limit ≡ in_range q
  large-num-range {k} e h = lt-leb k limit h ∙ sym (large-num q (omega arith))

pub returns-then-magnitude-le-LIMIT-2 : goal.returns-then-magnitude-le-LIMIT-2
returns-then-magnitude-le-LIMIT-2 c =
    let s = c in
    let q = frac s.args.n s.args.d in
    let n = size_is s.magnitude.ensures s.ranges.n in
    let positive = ap (lt_z (pos 0)) (to_z-of_z s.ranges.d) in
    elim c.if-magnitude-le-LIMIT.branch [
      | then-magnitude-le-LIMIT w ↦
          let d = size_is w.magnitude-then-magnitude-le-LIMIT.ensures s.ranges.d in
          passed (w.value-is ∙ small-num q n w.if-magnitude-le-LIMIT.true d) c.if-magnitude-le-LIMIT-2.true positive
      | else-magnitude-le-LIMIT w ↦
          passed (w.value-is ∙ large-num-range q n w.if-magnitude-le-LIMIT.false) c.if-magnitude-le-LIMIT-2.true positive
    ]

pub returns-else-magnitude-le-LIMIT-2 : goal.returns-else-magnitude-le-LIMIT-2
returns-else-magnitude-le-LIMIT-2 c =
    let s = c in
    let q = frac s.args.n s.args.d in
    let n = size_is s.magnitude.ensures s.ranges.n in
    let fails = c.if-magnitude-le-LIMIT-2.false in
    elim c.if-magnitude-le-LIMIT.branch [
      | then-magnitude-le-LIMIT w ↦
          let d = size_is w.magnitude-then-magnitude-le-LIMIT.ensures s.ranges.d in
          fails ∙ stopped _ (w.value-is ∙ small-num q n w.if-magnitude-le-LIMIT.true d) fails
      | else-magnitude-le-LIMIT w ↦
          fails ∙ stopped _ (w.value-is ∙ large-num-range q n w.if-magnitude-le-LIMIT.false) fails
    ]
