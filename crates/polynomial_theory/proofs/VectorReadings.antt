-- Terms of sort bits w as numbers modulo 2 ^ w, for every width (`vector_reading`): what `TermReading` asks
-- holds of the terms of one book. The operators on bit-vectors are those on whole numbers, and then a
-- remainder, which is the same residue.
use mathlib.Core.Path.{◌≡◌, refl, sym, ◌∙◌, ap}
use mathlib.Core.Bool.{true, ◌&&◌}
use Prim.Native.Nat.{ℕ, suc, ◌^◌, ◌≤◌}
use native.Mathlib.Omega.{arith}
use borrow.Author.Tests.{eqb-true}
use lib.IntN.{ℤ, pos, neg_ℤ}
use lib.ListN.{length}
use Rattle.numbers.specs.Rational.{Rational, modulo}
use Rattle.terms.specs.Operator.{BvAdd, BvSub, BvNeg, BvMul}
use Rattle.terms.specs.Term.{Term, Terms, sort, sorts, same_sort, is_bits, all, first, takes, gives, same, unary, binary}
use Rattle.numbers.specs.Choice.{when◌then◌else◌}
use Rattle.terms.specs.Term.Sort.{bool, int, real, bits}
use Rattle.terms.specs.Term.Term.{integer, rational, bitvector, atom, op}
use Rattle.terms.specs.Term.Terms.{nil, ◌▹◌}
use Rattle.terms.specs.Readers.{unbounded, as_number, quotient_of, as_unsigned_fraction, as_fraction}
use Rattle.terms.specs.Book.{count_ok}
use Rattle.terms.specs.Smtlib.{Assignment, as_vector, sum_z, product_z, difference_z, opposite_z, width_of, meaning, value}
use Rattle.terms.specs.Smtlib.{values}
use Rattle.numbers.proofs.Ring.{Ring}
use Rattle.numbers.proofs.Truths.{both}
use Rattle.book.proofs.WellFormed.{WellFormed, Operation}
use Rattle.terms.proofs.Readings.{not-number}
use Rattle.book.proofs.BookTerms.{Each, Closed}
use Rattle.numbers.proofs.Modulo.{two_pow_pos}
use Rattle.numbers.proofs.Residues.{residues, residue, residue-add, residue-mul, residue-neg, residue-modulo}
use Rattle.book.proofs.Vectors.{not_vector, by_vector-operator, width_is, argument-sort}
use Rattle.polynomial_walk.specs.PolynomialTerms.{arm_of}
use Rattle.rules.proofs.WholeNumbers.{wholes, IsWhole, numberₘ}
use Rattle.polynomial_theory.proofs.TermReadings.{TermReading, sum_of, difference_of, factors_of, product_of, Taken}
use Rattle.std.specs.Prelude.{Ok}

-- a term of P of sort bits w
pub record VectorOf (P : Term → Type 0) (w : ℕ) (t : Term) : Type 0 where
  pub of : P t
  pub sized : sort t ≡ bits w

module _ (w : ℕ) (ρ : Assignment) where
  abbrev pub residue_of : Term → (residues (2 ^ w)).carrier
  residue_of t = residue (2 ^ w) (as_vector (value ρ t))

  abbrev Z : Ring
  Z = residues (2 ^ w)

  abbrev class : ℤ → Z.carrier
  class = residue (2 ^ w)

  -- ---- sums and products of whole numbers

  sum_is : (ts : Terms) → class (sum_z (values ρ ts)) ≡ sum_of Z residue_of ts
  unfolding values sum_z sum_of
  sum_is nil = refl
  sum_is (t ▹ ts) =
      residue-add (2 ^ w) (as_vector (value ρ t)) (sum_z (values ρ ts)) ∙ ap (Z.add (residue_of t)) (sum_is ts)

  factors-are :
      (ts : Terms) → class (product_z (values ρ ts)) ≡ factors_of Z residue_of ts
  unfolding values product_z factors_of
  factors-are nil = refl
  factors-are (t ▹ ts) =
      residue-mul (2 ^ w) (as_vector (value ρ t)) (product_z (values ρ ts))
      ∙ ap (Z.mul (residue_of t)) (factors-are ts)

  -- ---- the terms that fit

  module _ {P : Term → Type 0} (closed : Closed P) where
    abbrev Fits : Term → Type 0
    Fits = VectorOf P w

    pub respects : (s t : Term) → Fits s → Fits t → same s t ≡ true → residue_of s ≡ residue_of t
    respects s t hs ht e = ap residue_of (closed.known s t hs.of ht.of e)

    module _ (positive : 1 ≤ w) where
      all_fit : (ts : Terms) → Each P ts → all (same_sort (bits w)) (sorts ts) ≡ true → Each Fits ts
      unfolding sorts all
      all_fit nil h e = tt
      all_fit (t ▹ ts) (h, hs) e =
          let b = both (same_sort (bits w) (sort t)) (all (same_sort (bits w)) (sorts ts)) e in
          (record { of = h; sized = argument-sort w positive (sort t) b.0 }, all_fit ts hs b.1)

      -- ---- the operators

      abbrev TakenAs : ℕ → Terms → ℤ → Type 0
      TakenAs o ts z =
          Taken (wholes (2 ^ w)) residue_of Fits (arm_of o ts) ts (class (pos (modulo z (2 ^ width_of ts))))

      -- a remainder is the same residue
      remainder_is :
          (ts : Terms) (z : ℤ) → first (sorts ts) ≡ bits w →
          class (pos (modulo z (2 ^ width_of ts))) ≡ class z
      remainder_is ts z e = rw (width_is w ts e) (residue-modulo (2 ^ w) (two_pow_pos w) z)

      sum-taken :
          (ts : Terms) → Each Fits ts → first (sorts ts) ≡ bits w → TakenAs BvAdd ts (sum_z (values ρ ts))
      unfolding arm_of when◌then◌else◌
      sum-taken ts h e = (h, remainder_is ts (sum_z (values ρ ts)) e ∙ sum_is ts)

      difference-taken :
          (ts : Terms) → Each Fits ts → first (sorts ts) ≡ bits w →
          TakenAs BvSub ts (difference_z (values ρ ts))
      unfolding arm_of when◌then◌else◌ sorts values difference_of
      difference-taken nil h e = not_vector bool refl e
      difference-taken (t ▹ ts) h e = (
        h,
        remainder_is (t ▹ ts) (difference_z (values ρ (t ▹ ts))) e
            ∙ residue-add (2 ^ w) (as_vector (value ρ t)) (neg_ℤ (sum_z (values ρ ts)))
            ∙ ap (Z.add (residue_of t)) (residue-neg (2 ^ w) (sum_z (values ρ ts)) ∙ ap Z.neg (sum_is ts)),
      )

      product-taken :
          (ts : Terms) → Each Fits ts → first (sorts ts) ≡ bits w → TakenAs BvMul ts (product_z (values ρ ts))
      unfolding arm_of when◌then◌else◌ sorts product_of factors_of
      product-taken nil h e = not_vector bool refl e
      product-taken (t ▹ ts) h e =
          (h, remainder_is (t ▹ ts) (product_z (values ρ (t ▹ ts))) e ∙ factors-are (t ▹ ts))

      opposite-taken :
          (ts : Terms) → Each Fits ts → first (sorts ts) ≡ bits w → count_ok BvNeg (length (sorts ts)) ≡ true →
          TakenAs BvNeg ts (opposite_z (values ρ ts))
      unfolding arm_of when◌then◌else◌ sorts values sum_of count_ok
      opposite-taken nil h e c = not_vector bool refl e
      opposite-taken (t ▹ nil) h e c = (
        h,
        remainder_is (t ▹ nil) (opposite_z (values ρ (t ▹ nil))) e
            ∙ residue-neg (2 ^ w) (as_vector (value ρ t))
            ∙ ap Z.neg (sym (Z.add-zero (residue_of t))),
      )
      opposite-taken (t ▹ s ▹ ts) h e c = absurd (omega (arith, eqb-true (suc (suc (length (sorts ts)))) 1 c))

      operator-taken :
          (i o : ℕ) (ts : Terms) → Operation o (sorts ts) →
          (all (same_sort (bits w)) (sorts ts) ≡ true → Each Fits ts) → gives o (sorts ts) ≡ bits w →
          Taken (wholes (2 ^ w)) residue_of Fits (arm_of o ts) ts (residue_of (op i o ts))
      unfolding takes gives meaning value when◌then◌else◌
      operator-taken i o ts h fit e =
          by_vector-operator
          (λ o.
          takes o (sorts ts) ≡ true → count_ok o (length (sorts ts)) ≡ true → gives o (sorts ts) ≡ bits w →
          Taken (wholes (2 ^ w)) residue_of Fits (arm_of o ts) ts (residue_of (op i o ts)))
          o ts h e (λ t c e. sum-taken ts (fits t e) e) (λ t c e. difference-taken ts (fits t e) e)
          (λ t c e. opposite-taken ts (fits t e) e c) (λ t c e. product-taken ts (fits t e) e)
          h.sorted h.counted e
        where
          fits :
              (is_bits (first (sorts ts)) && all (same_sort (first (sorts ts))) (sorts ts)) ≡ true →
              first (sorts ts) ≡ bits w → Each Fits ts
          fits t e = fit (rw e at (both (is_bits (first (sorts ts))) _ t).1)

      pub operation :
          (i o : ℕ) (ts : Terms) → Fits (op i o ts) →
          Taken (wholes (2 ^ w)) residue_of Fits (arm_of o ts) ts (residue_of (op i o ts))
      unfolding WellFormed sort
      operation i o ts h =
          operator-taken i o ts (closed.formed (op i o ts) h.of).0
          (all_fit ts (closed.below i o ts h.of)) h.sized

      -- no bit-vector is read as a fraction
      pub fraction :
          (t : Term) → Fits t → (q : Rational) → as_fraction unbounded t ≡ Ok q →
          IsWhole q × (residue_of t ≡ numberₘ (2 ^ w) q)
      unfolding as_fraction as_unsigned_fraction quotient_of unary binary as_number sort WellFormed
      fraction (integer i v) h q e = not_vector int refl h.sized
      fraction (rational i p) h q e = not_vector real refl h.sized
      fraction (bitvector i v n) h q e = not-number e
      fraction (atom i s n) h q e = not-number e
      fraction (op i o ts) h q e =
          by_vector-operator
          (λ o.
          as_fraction unbounded (op i o ts) ≡ Ok q → IsWhole q × (residue_of (op i o ts) ≡ numberₘ (2 ^ w) q))
          o ts (closed.formed (op i o ts) h.of).0 h.sized not-number not-number not-number not-number e

      pub vector : (i v n : ℕ) → Fits (bitvector i v n) → residue_of (bitvector i v n) ≡ class (pos v)
      unfolding value
      vector i v n h = refl

      abbrev pub vector_reading : TermReading (wholes (2 ^ w))
      vector_reading = record {
        value = residue_of;
        Fits = VectorOf P w;
        respects = respects;
        fraction = fraction;
        vector = vector;
        operation = operation;
      }
