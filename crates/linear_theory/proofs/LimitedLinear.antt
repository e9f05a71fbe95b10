-- The limits theorem for linear combinations and rules 4 to 6: `la_tautology-limited`, `la_generic-limited` and
-- `la_generic_partial-limited`. Rules 1 to 3 are under no limit.
use mathlib.Core.Path.{refl}
use mathlib.Core.Bool.{◌&&◌, ◌||◌}
use Rattle.std.specs.Prelude.{Option, Some, None}
use mathlib.Core.List.{List, [], ◌∷◌}
use Prim.Native.Nat.{ℕ}
use lib.Dec.{eqb}
use lib.IntN.{ℤ, pos}
use Rattle.numbers.specs.Rational.{Rational, whole, neg_q, is_zero, eq_q}
use Rattle.terms.specs.Term.{Term, Terms, binary}
use Rattle.terms.specs.Term.Term.{integer, rational, bitvector, atom, op}
use Rattle.terms.specs.Term.Terms.{nil, ◌▹◌}
use Rattle.terms.specs.Operator.{Or, Equals, GreaterThan, GreaterEq}
use Rattle.rules.specs.Limits.{Limits, the_rust}
use Rattle.index_map.specs.IndexMap.{Map, Walked, walked, new, add_entry}
use Rattle.linear_walk.specs.LinearTerms.{arm_of, add_leaf, factors_of, add_term, add_args}
use Rattle.linear_comb.specs.LinearComb.{LinearComb, mul, coefficients_gcd, all_int}
use Rattle.linear_walk.specs.LinearTerms.{add_difference, add_first, add_second, from_term}
use Rattle.index_map.specs.Memory.Entries.{terms}
use Rattle.process_disequality.specs.ProcessDisequality.{Progress, progress, inferred, argument_of, strengthened, scalar}
use Rattle.process_disequality.specs.ProcessDisequality.{process_disequality}
use Rattle.linear_arithmetic.specs.LinearArithmetic.{read_args, fold_literals, la_generic_partial, la_generic, la_tautology}
use Rattle.disequality.specs.Disequality.{negate_disequality, disequality_of, is_integer_times, raised, floored, strengthen}
use Rattle.rules.specs.Shapes.{Clause, only_literal}
use Rattle.rules_theory.proofs.Limited.{◌≼◌, bind, either, maybe, fraction_of-limited, fraction_err-limited}
use Rattle.rules_theory.proofs.Limited.{times-limited, plus-limited, over-limited, scale_all-limited, add-limited}
use Rattle.rules_theory.proofs.Limited.{sub-limited, visit-limited, add_entry-limited, add_product-limited, Unbounded}
use Rattle.linear_theory.proofs.LinearCases.{at_arm_lem, at_factors}
use Rattle.rules_theory.proofs.Limited.◌≼◌.{equal}

-- ---- linear combinations

free : Unbounded terms
free n = refl

module _ (l : Limits) where
  pub mul-limited : (s : LinearComb) (q : Rational) → mul l s q ≼ mul the_rust s q
  unfolding mul
  mul-limited s q =
      either (is_zero q) (equal _)
      (either (eq_q q (whole (pos 1))) (equal _)
      (bind (scale_all-limited l q s.entries) λ m. bind (times-limited l s.constant q) λ c. equal _))

  add_atom_limited : (t : Term) (c : Rational) (w : Walked Term) →
      add_entry terms l t c w ≼ add_entry terms the_rust t c w
  add_atom_limited = add_entry-limited terms free l

  add_leaf-limited : (t : Term) (c : Rational) (w : Walked Term) → add_leaf l t c w ≼ add_leaf the_rust t c w
  unfolding add_leaf
  add_leaf-limited t c w =
      bind (fraction_of-limited l t) λ f.
      maybe f (λ q. add_product-limited l q c w) (add_atom_limited t c w)

  factors_of-limited : (ts : Terms) → factors_of l ts ≼ factors_of the_rust ts
  unfolding factors_of
  factors_of-limited nil = equal _
  factors_of-limited (a ▹ nil) = equal _
  factors_of-limited (a ▹ b ▹ ts) =
      bind (fraction_of-limited l a) λ p. bind (fraction_of-limited l b) λ q. equal _

module _ (l : Limits) where
  mutual
    unfolding add_term

    add_term-limited : (t : Term) (c : Rational) (w : Walked Term) → add_term t l c w ≼ add_term t the_rust c w
    add_term-limited (integer i v) c w = bind (visit-limited l w) (add_leaf-limited l (integer i v) c)
    add_term-limited (rational i q) c w = bind (visit-limited l w) (add_leaf-limited l (rational i q) c)
    add_term-limited (bitvector i v n) c w = bind (visit-limited l w) (add_leaf-limited l (bitvector i v n) c)
    add_term-limited (atom i s n) c w = bind (visit-limited l w) (add_leaf-limited l (atom i s n) c)
    add_term-limited (op i o ts) c w =
        bind (visit-limited l w) λ v.
        at_arm_lem ◌≼◌ (arm_of o ts)
        (add_args-limited ts c v)
        (add_args-limited ts (neg_q c) v)
        (add_difference-limited ts c v)
        (bind (factors_of-limited l ts) λ k.
        at_factors ◌≼◌ k
        (λ q. bind (times-limited l q c) λ r. add_second-limited ts r v)
        (λ q. bind (times-limited l q c) λ r. add_first-limited ts r v)
        (add_atom_limited l (op i o ts) c v))
        (add_leaf-limited l (op i o ts) c v)

    add_args-limited : (ts : Terms) (c : Rational) (w : Walked Term) →
        add_args ts l c w ≼ add_args ts the_rust c w
    add_args-limited nil c w = equal _
    add_args-limited (t ▹ ts) c w = bind (add_term-limited t c w) λ v. add_args-limited ts c v

    add_difference-limited : (ts : Terms) (c : Rational) (w : Walked Term) →
        add_difference ts l c w ≼ add_difference ts the_rust c w
    add_difference-limited nil c w = equal _
    add_difference-limited (t ▹ ts) c w = bind (add_term-limited t c w) λ v. add_args-limited ts (neg_q c) v

    add_first-limited : (ts : Terms) (c : Rational) (w : Walked Term) →
        add_first ts l c w ≼ add_first ts the_rust c w
    add_first-limited nil c w = equal _
    add_first-limited (t ▹ ts) c w = add_term-limited t c w

    add_second-limited : (ts : Terms) (c : Rational) (w : Walked Term) →
        add_second ts l c w ≼ add_second ts the_rust c w
    add_second-limited nil c w = equal _
    add_second-limited (t ▹ ts) c w = add_first-limited ts c w

  pub from_term-limited : (t : Term) (n : ℕ) → from_term l t n ≼ from_term the_rust t n
  unfolding from_term
  from_term-limited t n = add_term-limited t (whole (pos 1)) (walked new n)

  -- ---- the rules

  negate_disequality-limited : (phi : Term) (n : ℕ) →
      negate_disequality l phi n ≼ negate_disequality the_rust phi n
  unfolding negate_disequality
  negate_disequality-limited phi n =
      bind (equal _) λ (o, args).
      bind (equal _) λ (a, b).
      bind (from_term-limited a n) λ s1.
      bind (from_term-limited b s1.visits) λ s2. equal _

  disequality_of-limited : (phi : Term) (n : ℕ) → disequality_of l phi n ≼ disequality_of the_rust phi n
  unfolding disequality_of
  disequality_of-limited phi n =
      bind (negate_disequality-limited phi n) λ (o, s1, s2, visits).
      bind (sub-limited terms free l s1 s2) λ s. equal _

  raised-limited : (s : LinearComb) (z : ℤ) → raised l s z ≼ raised the_rust s z
  unfolding raised
  raised-limited s z = bind (plus-limited l s.constant (whole z)) λ c. equal _

  strengthen-limited : (o : ℕ) (s : LinearComb) (a : Rational) → strengthen l o s a ≼ strengthen the_rust o s a
  unfolding strengthen
  strengthen-limited o s a =
      either (eqb o GreaterEq && is_integer_times s.constant a) (equal _)
      (either (eqb o GreaterThan && is_integer_times s.constant a)
      (raised-limited (floored s) (coefficients_gcd (floored s)))
      (either (eqb o GreaterThan || eqb o GreaterEq) (raised-limited (floored s) (pos 1)) (equal _)))

  strengthened-limited : (o : ℕ) (s : LinearComb) (a : Rational) →
      strengthened l o s a ≼ strengthened the_rust o s a
  strengthened-limited o s a = either (all_int s.entries) (strengthen-limited o s a) (equal _)

  inferred-limited : (acc m : Map Term) → inferred l acc m ≼ inferred the_rust acc m
  unfolding inferred
  inferred-limited acc [] = equal _
  inferred-limited acc ((var, coeff1) ∷ []) =
      bind (equal _) λ u. bind (equal _) λ coeff2. over-limited l (neg_q coeff2) coeff1
  inferred-limited acc (e ∷ f ∷ m) = equal _

  argument_of-limited : (p : Progress) (s : LinearComb) (arg : Option Rational) →
      argument_of l p s arg ≼ argument_of the_rust p s arg
  unfolding argument_of
  argument_of-limited p s (Some a) = equal _
  argument_of-limited p s None = bind (inferred-limited p.acc.entries s.entries) λ a. equal _

  process_disequality-limited : (p : Progress) (phi : Term) (arg : Option Rational) →
      process_disequality l p phi arg ≼ process_disequality the_rust p phi arg
  unfolding process_disequality
  process_disequality-limited p phi arg =
      bind (disequality_of-limited phi p.visits) λ d.
      bind (argument_of-limited p d.sum arg) λ (a, trace).
      bind (strengthened-limited d.operator d.sum a) λ (o, s).
      bind (mul-limited l s (scalar o a)) λ scaled.
      bind (add-limited terms free l p.acc scaled) λ acc. equal _

  read_args-limited : (args : List Term) → read_args l args ≼ read_args the_rust args
  unfolding read_args
  read_args-limited [] = equal _
  read_args-limited (a ∷ args) = bind (fraction_err-limited l a) λ q. bind (read_args-limited args) λ qs. equal _

  fold_literals-limited : (c : Clause) (args : List Rational) (p : Progress) →
      fold_literals l c args p ≼ fold_literals the_rust c args p
  unfolding fold_literals
  fold_literals-limited [] args p = equal _
  fold_literals-limited (phi ∷ c) [] p =
      bind (process_disequality-limited p phi None) (fold_literals-limited c [])
  fold_literals-limited (phi ∷ c) (a ∷ args) p =
      bind (process_disequality-limited p phi (Some a)) (fold_literals-limited c args)

  pub la_generic_partial-limited : (c : Clause) (args : List Term) (n : ℕ) →
      la_generic_partial l c args n ≼ la_generic_partial the_rust c args n
  unfolding la_generic_partial
  la_generic_partial-limited c args n =
      bind (read_args-limited args) λ qs.
      bind (fold_literals-limited c qs (progress Equals new [] n)) λ p. equal _

  pub la_generic-limited : (c : Clause) (args : List Term) (n : ℕ) →
      la_generic l c args n ≼ la_generic the_rust c args n
  unfolding la_generic
  la_generic-limited c args n = bind (equal _) λ u. la_generic_partial-limited c args n

  pub la_tautology-limited : (c : Clause) (n : ℕ) → la_tautology l c n ≼ la_tautology the_rust c n
  unfolding la_tautology
  la_tautology-limited c n =
      bind (equal (only_literal c)) λ phi.
      maybe (binary Or phi) (λ p. equal _) (bind (disequality_of-limited phi n) λ d. equal _)
