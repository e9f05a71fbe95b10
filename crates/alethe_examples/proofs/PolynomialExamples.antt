-- Closed steps of poly_simp and poly_simp_rel that the specification's words accept, each by its derivation. The
-- steps are those of specs/AletheExamples; where Carcara refuses what the words accept, the Rust's answer stands
-- beside it.
use mathlib.Core.Path.{◌≡◌, refl}
use mathlib.Core.Bool.{Bool, true, false}
use mathlib.Core.List.{List, [], ◌∷◌}
use mathlib.Core.Logic.{inl, inr}
use Prim.Native.Nat.{ℕ}
use lib.IntN.{pos}
use Rattle.numbers.specs.Rational as Rational
use Rattle.numbers.specs.Rational.{Rational, add_q, modulo}
use Rattle.terms.specs.Operator.{LessEq, Mult}
use Rattle.terms.specs.Term.{Sort, Term}
use Rattle.terms.specs.Term.Sort.{int, bits}
use Rattle.std.specs.Prelude.{Err}
use Rattle.rules.specs.declared.refusal.Refusal.TheVariants.{PolynomialsNotEqual}
use Rattle.rules.specs.Limits.{the_rust}
use Rattle.poly_simp.specs.PolySimp.{poly_simp}
use Rattle.alethe_examples.specs.Computes.{rules}
use Rattle.alethe.specs.AletheTerms.{words, is, less_eq, Written, nought, IsSum, IsProduct, Expands, ExpandsAll, Factors}
use Rattle.alethe.specs.AletheTerms.{same_atoms, coefficient_in}
use Rattle.alethe.specs.Alethe.{SamePolynomial, PolySimp, Difference, PolySimpRel}
use Rattle.alethe.specs.AletheExamples as Step
use Rattle.alethe.specs.AletheExamples.{x, y, fa, fb, v, twice, three, alethe}
use Rattle.alethe_examples.proofs.ExampleLaws.{indivisible_atom, constant-written}

-- ---- poly_simp

pub factor-atom : (i : ℕ) (s : Sort) (n : ℕ) → Expands (Term.atom i s n) ((Rational.whole (pos 1), Term.atom i s n ∷ []) ∷ [])
factor-atom i s n = Expands.atom (indivisible_atom i s n)

twice-written : Written twice (Rational.whole (pos 2))
twice-written = constant-written 10 (pos 2)

-- (* 2 t) for an atom t of sort Int
twice-atom :
    (i n : ℕ) →
    Expands (Step.two i Mult twice (Term.atom n int n)) ((Rational.whole (pos 2), Term.atom n int n ∷ []) ∷ [])
unfolding alethe
twice-atom i n =
    Expands.product IsProduct.mult (is i)
    (Factors.factor (Expands.number twice-written) (Factors.factor (factor-atom n int n) Factors.no_factor))

distributed-accepted : PolySimp words Step.distributed
unfolding alethe
distributed-accepted =
    record {
      t = _;
      s = _;
      left = _;
      right = _;
      conclusion = is 74;
      left_side =
          Expands.product IsProduct.mult (is 70)
          (Factors.factor (Expands.number twice-written)
          (Factors.factor
          (Expands.sum IsSum.add (is 69)
          (ExpandsAll.next (factor-atom 0 int 0) (ExpandsAll.next (factor-atom 1 int 1) ExpandsAll.none)))
          Factors.no_factor));
      right_side =
          Expands.sum IsSum.add (is 73)
          (ExpandsAll.next (twice-atom 71 0) (ExpandsAll.next (twice-atom 72 1) ExpandsAll.none));
      same = SamePolynomial.numbers refl refl λ ts. refl;
    }

abbrev c128 : Rational
c128 = Rational.whole (pos 128)

abbrev added : Bool → Rational → Rational → Rational
added s a b = elim s [ true ↦ add_q a b | false ↦ b ]

-- K9: the two products of 128 and v add up to 256, which is 0 modulo 2 ^ 8
pub sum-vanishes :
    (ts : List Term) →
    modulo (coefficient_in ts ((c128, v ∷ []) ∷ (c128, v ∷ []) ∷ [])).num 256
    ≡ modulo (coefficient_in ts ((nought, []) ∷ [])).num 256
unfolding alethe
sum-vanishes ts = go (same_atoms (v ∷ []) ts) (same_atoms [] ts)
  where
    go :
        (s t : Bool) →
        modulo (added s c128 (added s c128 nought)).num 256 ≡ modulo (added t nought nought).num 256
    go true true = refl
    go true false = refl
    go false true = refl
    go false false = refl

unfoldable pub vanishing-accepted : PolySimp words Step.vanishing
unfolding alethe
vanishing-accepted =
    record {
      t = _;
      s = _;
      left = _;
      right = _;
      conclusion = is 77;
      left_side =
          Expands.product IsProduct.bvmul (is 76)
          (Factors.factor (Expands.vector 15 128 8)
          (Factors.factor
          (Expands.sum IsSum.bvadd (is 75)
          (ExpandsAll.next (factor-atom 7 (bits 8) 7) (ExpandsAll.next (factor-atom 7 (bits 8) 7) ExpandsAll.none)))
          Factors.no_factor));
      right_side = Expands.vector 16 0 8;
      same = SamePolynomial.vectors 8 refl refl sum-vanishes;
    }

vanishing-refused_by_the_Rust : poly_simp the_rust (Step.vanishing ∷ []) 0 ≡ Err PolynomialsNotEqual
unfolding rules
vanishing-refused_by_the_Rust = refl

-- ---- poly_simp_rel

related-accepted : PolySimpRel words Step.multiples Step.related
unfolding alethe
related-accepted =
    record {
      o = LessEq;
      relation = less_eq;
      x1 = x;
      x2 = y;
      y1 = fa;
      y2 = fb;
      left = Step.x_below_y;
      right = _;
      premise_form =
          inl
          (record {
            c1 = twice;
            c2 = three;
            dx = _;
            dy = _;
            left = _;
            right = _;
            q1 = _;
            q2 = _;
            first = twice-written;
            second = constant-written 11 (pos 3);
            first_nonzero = refl;
            second_nonzero = refl;
            same_sign = inr refl;
            left_difference = Difference.plain (is 83);
            right_difference = Difference.plain (is 85);
            left_product = is 84;
            right_product = is 86;
            equation = is 87;
          });
      left_side = is 61;
      right_side = is 88;
      conclusion = is 89;
    }
