-- The departures that decide steps of la_tautology, poly_simp and poly_simp_rel: with each its smallest input is
-- accepted, without it refused, whatever else is granted (`Admits` in AletheDepartures).
use mathlib.Core.Path.{◌≡◌, refl}
use mathlib.Core.Logic.{◌⊎◌, inl, inr}
use Prim.Native.Nat.{ℕ}
use native.Mathlib.Omega.{arith}
use lib.IntN.{pos}
use Rattle.terms.specs.Operator.{LessThan, ToReal}
use Rattle.terms.specs.Term.{Term}
use Rattle.terms.specs.Term.Sort.{bool, int}
use Rattle.terms.specs.Term.Term.{op}
use Rattle.terms.specs.Term.Terms.{nil, ◌▹◌}
use Rattle.numbers.proofs.Truths.{never}
use Rattle.book.proofs.Vectors.{not_vector}
use Rattle.alethe.specs.AletheTerms.{Departure, Departures, is, less_than, Products}
use Rattle.alethe.specs.Alethe.{Bound, BoundsForm, LaTautology, SamePolynomial, PolySimp, Difference, ScaledNumbers}
use Rattle.alethe.specs.Alethe.{ScaledVectors, PolySimpRel}
use Rattle.alethe.specs.Alethe.BoundsForm.{below, below_or_not, above, above_or_not, apart}
use Rattle.alethe.specs.AletheExamples as Step
use Rattle.alethe.specs.AletheExamples.{x, y, p, one, alethe}
use Rattle.alethe_examples.proofs.ExampleLaws.{is_itself, atom_unwritten, constant-written}
use Rattle.alethe_examples.proofs.StepInversions.{no_literal, no_negation}
use Rattle.alethe_examples.proofs.DepartureInversions.{two-itself, left-factors}
use Rattle.alethe_examples.proofs.PolynomialExamples.{factor-atom}
use Rattle.alethe_examples.proofs.AletheDepartures.{Admits}

-- ---- other_sort: p is written out as itself

itself-accepted : (by : Departures) → by Departure.other_sort → PolySimp by Step.itself
unfolding alethe
itself-accepted by d =
    record {
      t = p;
      s = p;
      left = _;
      right = _;
      conclusion = is 94;
      left_side = factor-atom 6 bool 6;
      right_side = factor-atom 6 bool 6;
      same = SamePolynomial.other_sort d refl λ ts. refl;
    }

itself-refused : (by : Departures) → (by Departure.other_sort → ⊥) → PolySimp by Step.itself → ⊥
unfolding alethe
itself-refused by n h =
    let e = (is_itself h.conclusion).1 in let et : h.t ≡ p = cc in go et h.same
  where
    go : {t s : Term} {l r : Products} → t ≡ p → SamePolynomial by t s l r → ⊥
    go e (SamePolynomial.numbers c d g) = never (rw e at c)
    go e (SamePolynomial.vectors w c d g) = not_vector bool refl (rw e at c)
    go e (SamePolynomial.other_sort d c g) = n d

pub other_sort_admits_poly-simp : Admits Departure.other_sort (λ by. PolySimp by Step.itself)
other_sort_admits_poly-simp = record { accepted = itself-accepted; refused = itself-refused }

-- ---- any_bound: y is no number

either_of_two-accepted : (by : Departures) → by Departure.any_bound → LaTautology by Step.either_of_two
either_of_two-accepted by d =
    LaTautology.bounds _ _ (is 98)
    (below_or_not x y (is 61) (record { body = Step.x_below_y; relation = is 61; negation = is 65 }) (Bound.any_bound d))

module _ {by : Departures} (n : by Departure.any_bound → ⊥) where
  atom_is_no_bound : {d : Term} → d ≡ y → Bound by d → ⊥
  atom_is_no_bound e (Bound.number q w) = atom_unwritten 1 int 1 q (rw e at w)
  atom_is_no_bound e (Bound.any_bound d) = n d

  either-bounds :
      {phi psi : Term} → BoundsForm by phi psi → phi ≡ Step.x_below_y → ⊥
  either-bounds (below s c d q r m h v w l) e = no_negation (omega arith) (rw e at m)
  either-bounds (below_or_not s d h m b) e = atom_is_no_bound (two-itself (rw e at h)).2 b
  either-bounds (above s c d q r m h v w l) e = no_negation (omega arith) (rw e at m)
  either-bounds (above_or_not s d h m b) e = omega (arith, (is_itself (rw e at h)).0)
  either-bounds (apart s c d q r m h v w l) e = no_negation (omega arith) (rw e at m)

  either_of_two-refused : LaTautology by Step.either_of_two → ⊥
  either_of_two-refused (LaTautology.comparison k s c e) = no_literal by k (omega arith) (omega arith) s
  either_of_two-refused (LaTautology.bounds phi psi h b) = let e = (is_itself h).1 in either-bounds b (cc)

pub any_bound_admits : Admits Departure.any_bound (λ by. LaTautology by Step.either_of_two)
any_bound_admits = record { accepted = either_of_two-accepted; refused = λ by n. either_of_two-refused n }

-- ---- real_difference

real-multiples-accepted :
    (by : Departures) → by Departure.real_difference → PolySimpRel by Step.real_multiples Step.less_is_less
unfolding alethe
real-multiples-accepted by d =
    record {
      o = LessThan;
      relation = less_than;
      x1 = x;
      x2 = y;
      y1 = x;
      y2 = y;
      left = Step.x_less_y;
      right = Step.x_less_y;
      premise_form =
          inl
          (record {
            c1 = one;
            c2 = one;
            dx = _;
            dy = _;
            left = _;
            right = _;
            q1 = _;
            q2 = _;
            first = constant-written 9 (pos 1);
            second = constant-written 9 (pos 1);
            first_nonzero = refl;
            second_nonzero = refl;
            same_sign = inr refl;
            left_difference = Difference.real_difference d (is 83) (is 111);
            right_difference = Difference.plain (is 83);
            left_product = is 112;
            right_product = is 113;
            equation = is 114;
          });
      left_side = is 115;
      right_side = is 115;
      conclusion = is 116;
    }

module _ {by : Departures} (n : by Departure.real_difference → ⊥) where
  real_is_no_difference : {a b d : Term} → d ≡ op 111 ToReal (Step.x_minus_y ▹ nil) → Difference by a b d → ⊥
  real_is_no_difference e (Difference.plain h) = omega (arith, (is_itself (rw e at h)).0)
  real_is_no_difference e (Difference.real_difference d h k) = n d

  real-multiples_no_premise :
      {o : ℕ} {a b c d : Term} →
      ScaledNumbers by o Step.real_multiples a b c d ⊎ ScaledVectors o Step.real_multiples a b c d → ⊥
  real-multiples_no_premise (inl h) =
      real_is_no_difference (left-factors h.equation h.left_product).2 h.left_difference
  real-multiples_no_premise (inr h) = omega (arith, (left-factors h.equation h.left_product).0)

pub real_difference_admits : Admits Departure.real_difference (λ by. PolySimpRel by Step.real_multiples Step.less_is_less)
real_difference_admits =
    record { accepted = real-multiples-accepted; refused = λ by n h. real-multiples_no_premise n h.premise_form }
