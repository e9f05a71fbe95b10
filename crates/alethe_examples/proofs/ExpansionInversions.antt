-- A constant, and a sum, a difference and a product of two terms that are written out in one way each (`Out`), are
-- written out in one way too; and so is such a term over a constant.
use mathlib.Core.Path.{◌≡◌, ap, ap₂}
use mathlib.Core.Bool.{false}
use mathlib.Core.List.{[], ◌∷◌, ◌++◌}
use Prim.Native.Nat.{ℕ}
use native.Mathlib.Omega.{arith}
use lib.IntN.{ℤ}
use Rattle.numbers.specs.Rational as Rational
use Rattle.numbers.specs.Rational.{Rational, is_zero, div_q}
use Rattle.terms.specs.Operator.{Add, Sub, Mult, RealDiv}
use Rattle.terms.specs.Term.{Sort, Term, unary, binary}
use Rattle.terms.specs.Term.Term.{integer, op}
use Rattle.terms.specs.Term.Terms.{nil, ◌▹◌}
use Rattle.terms.specs.Readers.{as_number, as_signed_number, quotient_of, as_unsigned_fraction, as_fraction}
use Rattle.terms.proofs.Readings.{not-number}
use Rattle.alethe.specs.AletheTerms.{is, Products, one, minus_one, scale_each, multiply, IsSum, IsMinus, IsDifference}
use Rattle.alethe.specs.AletheTerms.{IsProduct, Expands, ExpandsAll, Factors}
use Rattle.rules_theory.proofs.WrittenNumbers.{written_read}
use Rattle.alethe_examples.proofs.ExampleLaws.{is_itself, constant-written, written-constant}
use Rattle.alethe_examples.proofs.ExampleLaws.{constant_no_operation}
use Rattle.alethe_examples.proofs.StepInversions.{once, atom_expands}

-- the term is written out so, and in no other way
abbrev pub Out : Term → Products → Type 0
Out t m = (n : Products) → Expands t n → n ≡ m

pub atom_out : (i : ℕ) (s : Sort) (n : ℕ) → Out (Term.atom i s n) (once (Term.atom i s n))
atom_out i s n m e = atom_expands i s n e

pub constant_out : (i : ℕ) (c : ℤ) → Out (integer i c) ((Rational.whole c, []) ∷ [])
constant_out i c n (Expands.number w) = ap (λ (q : Rational). (q, []) ∷ []) (written-constant i c _ w)
constant_out i c n (Expands.atom k) = absurd (k.no_number _ (constant-written i c))
constant_out i c n (Expands.sum k h e) = constant_no_operation i c h
constant_out i c n (Expands.real h e) = constant_no_operation i c h
constant_out i c n (Expands.minus k h e) = constant_no_operation i c h
constant_out i c n (Expands.difference k h e f) = constant_no_operation i c h
constant_out i c n (Expands.product k h e) = constant_no_operation i c h
constant_out i c n (Expands.quotient h w z e) = constant_no_operation i c h

module _ {a b : Term} {l r : Products} (oa : Out a l) (ob : Out b r) where
  all_out : {n : Products} → ExpandsAll (a ▹ b ▹ nil) n → n ≡ l ++ (r ++ [])
  all_out (ExpandsAll.next f (ExpandsAll.next g ExpandsAll.none)) =
      ap₂ ◌++◌ (oa _ f) (ap (λ (m : Products). m ++ []) (ob _ g))

  rest_out : {n : Products} → ExpandsAll (b ▹ nil) n → n ≡ r ++ []
  rest_out (ExpandsAll.next g ExpandsAll.none) = ap (λ (m : Products). m ++ []) (ob _ g)

  factors_out : {n : Products} → Factors (a ▹ b ▹ nil) n → n ≡ multiply l (multiply r ((one, []) ∷ []))
  factors_out (Factors.factor f (Factors.factor g Factors.no_factor)) =
      ap₂ multiply (oa _ f) (ap (λ (m : Products). multiply m ((one, []) ∷ [])) (ob _ g))

  pub sum_out : (i : ℕ) → Out (op i Add (a ▹ b ▹ nil)) (l ++ (r ++ []))
  unfolding as_fraction as_unsigned_fraction quotient_of unary binary as_number
  sum_out i n (Expands.number w) = not-number (written_read w)
  sum_out i n (Expands.atom k) = absurd (k.not_sum Add _ IsSum.add (is i))
  sum_out i n (Expands.sum k h e) = all_out (rw (is_itself h).1 at e)
  sum_out i n (Expands.real h e) = absurd (omega (arith, (is_itself h).0))
  sum_out i n (Expands.minus IsMinus.sub h e) = absurd (omega (arith, (is_itself h).0))
  sum_out i n (Expands.minus IsMinus.bvneg h e) = absurd (omega (arith, (is_itself h).0))
  sum_out i n (Expands.difference IsDifference.sub h e f) = absurd (omega (arith, (is_itself h).0))
  sum_out i n (Expands.difference IsDifference.bvsub h e f) = absurd (omega (arith, (is_itself h).0))
  sum_out i n (Expands.product IsProduct.mult h e) = absurd (omega (arith, (is_itself h).0))
  sum_out i n (Expands.product IsProduct.bvmul h e) = absurd (omega (arith, (is_itself h).0))
  sum_out i n (Expands.quotient h w z e) = absurd (omega (arith, (is_itself h).0))

  pub difference_out : (i : ℕ) → Out (op i Sub (a ▹ b ▹ nil)) (l ++ scale_each minus_one (r ++ []))
  unfolding as_fraction as_unsigned_fraction quotient_of unary binary as_number
  difference_out i n (Expands.number w) = not-number (written_read w)
  difference_out i n (Expands.atom k) = absurd (k.not_difference Sub _ IsDifference.sub (is i))
  difference_out i n (Expands.sum IsSum.add h e) = absurd (omega (arith, (is_itself h).0))
  difference_out i n (Expands.sum IsSum.bvadd h e) = absurd (omega (arith, (is_itself h).0))
  difference_out i n (Expands.real h e) = absurd (omega (arith, (is_itself h).0))
  difference_out i n (Expands.minus k h e) =
      let f = (is_itself h).1 in let z : ◌≡◌ {A = ℕ} 0 1 = cc in absurd (omega arith)
  difference_out i n (Expands.difference {t = t} {u = u} {ts = ts} k h e f) =
      let g = (is_itself h).1 in
      let et : t ≡ a = cc in
      let es : u ▹ ts ≡ b ▹ nil = cc in
      ap₂ (λ (m : Products) (k : Products). m ++ scale_each minus_one k) (oa _ (rw et at e)) (rest_out (rw es at f))
  difference_out i n (Expands.product IsProduct.mult h e) = absurd (omega (arith, (is_itself h).0))
  difference_out i n (Expands.product IsProduct.bvmul h e) = absurd (omega (arith, (is_itself h).0))
  difference_out i n (Expands.quotient h w z e) = absurd (omega (arith, (is_itself h).0))

  pub product_out : (i : ℕ) → Out (op i Mult (a ▹ b ▹ nil)) (multiply l (multiply r ((one, []) ∷ [])))
  unfolding as_fraction as_unsigned_fraction quotient_of unary binary as_number
  product_out i n (Expands.number w) = not-number (written_read w)
  product_out i n (Expands.atom k) = absurd (k.not_product Mult _ IsProduct.mult (is i))
  product_out i n (Expands.sum IsSum.add h e) = absurd (omega (arith, (is_itself h).0))
  product_out i n (Expands.sum IsSum.bvadd h e) = absurd (omega (arith, (is_itself h).0))
  product_out i n (Expands.real h e) = absurd (omega (arith, (is_itself h).0))
  product_out i n (Expands.minus IsMinus.sub h e) = absurd (omega (arith, (is_itself h).0))
  product_out i n (Expands.minus IsMinus.bvneg h e) = absurd (omega (arith, (is_itself h).0))
  product_out i n (Expands.difference IsDifference.sub h e f) = absurd (omega (arith, (is_itself h).0))
  product_out i n (Expands.difference IsDifference.bvsub h e f) = absurd (omega (arith, (is_itself h).0))
  product_out i n (Expands.product k h e) = factors_out (rw (is_itself h).1 at e)
  product_out i n (Expands.quotient h w z e) = absurd (omega (arith, (is_itself h).0))

-- (/ t c) for an atom t
module _ (i j : ℕ) (c : ℤ) (nz : is_zero (Rational.whole c) ≡ false) (k : ℕ) (s : Sort) (m : ℕ) where
  abbrev divided-atom : Term
  divided-atom = Term.atom k s m

  pub quotient_out :
      Out (op i RealDiv (divided-atom ▹ integer j c ▹ nil))
      (scale_each (div_q one (Rational.whole c)) (once divided-atom))
  unfolding as_fraction as_unsigned_fraction quotient_of unary binary as_number as_signed_number is_zero
  quotient_out n (Expands.number w) = not-number (rw nz at (written_read w))
  quotient_out n (Expands.atom k) = absurd (k.not_quotient _ _ _ (is i) (constant-written j c) nz)
  quotient_out n (Expands.sum IsSum.add h e) = absurd (omega (arith, (is_itself h).0))
  quotient_out n (Expands.sum IsSum.bvadd h e) = absurd (omega (arith, (is_itself h).0))
  quotient_out n (Expands.real h e) = absurd (omega (arith, (is_itself h).0))
  quotient_out n (Expands.minus IsMinus.sub h e) = absurd (omega (arith, (is_itself h).0))
  quotient_out n (Expands.minus IsMinus.bvneg h e) = absurd (omega (arith, (is_itself h).0))
  quotient_out n (Expands.difference IsDifference.sub h e f) = absurd (omega (arith, (is_itself h).0))
  quotient_out n (Expands.difference IsDifference.bvsub h e f) = absurd (omega (arith, (is_itself h).0))
  quotient_out n (Expands.product IsProduct.mult h e) = absurd (omega (arith, (is_itself h).0))
  quotient_out n (Expands.product IsProduct.bvmul h e) = absurd (omega (arith, (is_itself h).0))
  quotient_out n (Expands.quotient {a = a} {b = b} {q = q} h w z e) =
      let f = (is_itself h).1 in
      let ea : a ≡ divided-atom = cc in
      let eb : b ≡ integer j c = cc in
      ap₂ (λ (p : Rational) (r : Products). scale_each (div_q one p) r) (written-constant j c q (rw eb at w))
      (atom_expands k s m (rw ea at e))
