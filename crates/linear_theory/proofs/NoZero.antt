-- No coefficient of a linear combination that the definitions make is 0 and its keys differ, under any limits: an entry
-- is made by `insert`, which passes over 0, adds to the entry whose key is the same and removes a sum that is 0, and
-- then only changes its sign or is multiplied by a number that is not 0. So the test before the division in `inferred`
-- never refuses (`inferred-untested`, `literal-untested`).
use mathlib.Core.Path.{◌≡◌, refl, ◌∙◌}
use mathlib.Core.Bool.{false, ◌&&◌, ◌||◌}
use Rattle.std.specs.Prelude.{Option, Some, None}
use mathlib.Core.List.{List, [], ◌∷◌}
use Prim.Native.Nat.{ℕ, suc}
use lib.Dec.{eqb}
use lib.IntN.{ℤ, pos}
use Rattle.numbers.specs.Rational.{Rational, whole, mul_q, neg_q, is_zero, eq_q}
use Rattle.terms.specs.Term.{Term, Terms}
use Rattle.terms.specs.Term.Term.{integer, rational, bitvector, atom, op}
use Rattle.terms.specs.Term.Terms.{nil, ◌▹◌}
use Rattle.terms.specs.Operator.{LessThan, LessEq, GreaterThan, GreaterEq}
use Rattle.terms.specs.Readers.{within}
use Rattle.numbers.proofs.Truths.{if_either}
use Rattle.rules.specs.Refusal.{Result, ◌>>=◌, assert, or_else}
use Rattle.std.specs.Prelude.{Err}
use Rattle.rules.specs.declared.refusal.Refusal.TheVariants.{VisitLimit, PolynomialSize, InvalidDisequalityOp, NotUnit, CoeffNotFound}
use Rattle.rules.specs.Limits.{Limits, times, plus, over, fraction_of}
use Rattle.index_map.specs.IndexMap.{Map, Combination, Keys, Walked, walked, new, combination, last_first, swap_remove}
use Rattle.index_map.specs.IndexMap.{neg_all, scale_all, get, enter, insert, insert_all, add, neg, sub, visit, add_entry}
use Rattle.index_map.specs.IndexMap.{add_constant}
use Rattle.linear_walk.specs.LinearTerms.{arm_of, add_leaf, factors_of, add_term, add_args}
use Rattle.linear_comb.specs.LinearComb.{LinearComb, mul, coefficients_gcd}
use Rattle.linear_walk.specs.LinearTerms.{add_difference, add_first, add_second, from_term}
use Rattle.index_map.specs.Memory.Entries.{terms}
use Rattle.process_disequality.specs.ProcessDisequality.{Progress, inferred, argument_of, strengthened, scalar}
use Rattle.process_disequality.specs.ProcessDisequality.{process_disequality}
use Rattle.linear_arithmetic.specs.LinearArithmetic.{fold_literals}
use Rattle.disequality.specs.Disequality.{Disequality, inner, two_sides, negate_disequality, turned, disequality_of}
use Rattle.disequality.specs.Disequality.{is_integer_times, raised, floored, strengthen}
use Rattle.rules.specs.Shapes.{Clause}
use Rattle.alethe.proofs.NonzeroNumbers.{neg_q-nonzero, mul_q-nonzero}
use Rattle.index_map.proofs.KeyedMaps.{Lacks, nothing, another, same_key}
use Rattle.linear_theory.proofs.KeyNames.{Named, same-turned, term_names, swap_remove-lacks, neg_all-lacks}
use Rattle.linear_theory.proofs.KeyNames.{scale_all-lacks, enter-lacks}
use Rattle.rules.proofs.Yields.{Yields, gives, at_ok, and_then, known, past, weaker, by_test, by_option, ranged-yields}
use Rattle.linear_theory.proofs.LinearCases.{by_arm, by_factors_lem}

-- ---- maps

-- no coefficient is 0, and no later key is the same
pub data NoZero {K : Type 0} (keys : Keys K) : Map K → Type 0 where
  empty : NoZero keys []
  entry :
      {e : K × Rational} {m : Map K} → is_zero e.1 ≡ false → Lacks (same_key keys e.0) m → NoZero keys m →
      NoZero keys (e ∷ m)

abbrev pub SumNoZero : {K : Type 0} → Keys K → Combination K → Type 0
SumNoZero keys s = NoZero keys s.entries

abbrev pub WalkNoZero : {K : Type 0} → Keys K → Walked K → Type 0
WalkNoZero keys w = SumNoZero keys w.sum

module _ {K : Type 0} {keys : Keys K} where
  neg_all-nonzero : (m : Map K) → NoZero keys m → NoZero keys (neg_all m)
  unfolding neg_all
  neg_all-nonzero [] h = empty
  neg_all-nonzero (e ∷ m) (entry z k h) =
      entry (neg_q-nonzero e.1 z) (neg_all-lacks (same_key keys e.0) m k) (neg_all-nonzero m h)

  pub neg-nonzero : (a : Combination K) → SumNoZero keys a → SumNoZero keys (neg a)
  unfolding neg
  neg-nonzero a h = neg_all-nonzero a.entries h

  pub scale_all-nonzero :
      (l : Limits) (q : Rational) (m : Map K) → is_zero q ≡ false → NoZero keys m →
      Yields (NoZero keys) (scale_all l q m)
  unfolding scale_all times
  scale_all-nonzero l q [] y h = gives empty
  scale_all-nonzero l q (e ∷ m) y (entry z k h) =
      and_then (ranged-yields l (mul_q e.1 q)) λ v x.
      known (scale_all l q m) λ r g.
      gives
      (entry (rw x (mul_q-nonzero e.1 q z y)) (at_ok (scale_all-lacks (same_key keys e.0) l q m k) g)
      (at_ok (scale_all-nonzero l q m y h) g))

module _ {K : Type 0} {keys : Keys K} (names : Named keys) where
  last_first-nonzero :
      (e : K × Rational) (m : Map K) → is_zero e.1 ≡ false → Lacks (same_key keys e.0) m → NoZero keys m →
      NoZero keys (last_first e m)
  unfolding last_first swap_remove
  last_first-nonzero e [] z k h = entry z nothing empty
  last_first-nonzero e (f ∷ m) z k (entry y j h) =
      at (last_first f m) (swap_remove-lacks (same_key keys e.0) (f ∷ m) k) (last_first-nonzero f m y j h)
    where
      at :
          (r : Map K) → Lacks (same_key keys e.0) r → NoZero keys r →
          NoZero keys (elim r as (λ x. Map K) [ [] ↦ e ∷ [] | g ∷ r ↦ g ∷ e ∷ r ])
      at [] k h = entry z nothing empty
      at (g ∷ r) (another other k) (entry y j h) =
          entry y (another (same-turned names e.0 g.0 ∙ other) j) (entry z k h)

  swap_remove-nonzero : (m : Map K) → NoZero keys m → NoZero keys (swap_remove m)
  unfolding swap_remove
  swap_remove-nonzero [] h = empty
  swap_remove-nonzero (e ∷ m) (entry z k h) = last_first-nonzero e m z k h

  module _ (l : Limits) where
    enter-nonzero :
        (n : ℕ) (m : Map K) (key : K) (v : Rational) → is_zero v ≡ false → NoZero keys m →
        Yields (NoZero keys) (enter keys l n m key v)
    unfolding enter
    enter-nonzero n [] key v z h =
        past (assert (within (keys.most l) (suc n)) PolynomialSize) λ u. gives (entry z nothing empty)
    enter-nonzero n (e ∷ m) key v z (entry y k h) =
        by_test (keys.same e.0 key) _ _
        (λ s. past (plus l e.1 v) λ q.
        gives (if_either (NoZero keys) (is_zero q) (λ t. swap_remove-nonzero m h) (λ t. entry t k h)))
        (λ s. known (enter keys l (suc n) m key v) λ r g.
        gives
        (entry y
        (at_ok (enter-lacks (same_key keys e.0) l keys (suc n) m key v (same-turned names key e.0 ∙ s) k) g)
        (at_ok (enter-nonzero (suc n) m key v z h) g)))

    pub insert-nonzero :
        (m : Map K) (key : K) (v : Rational) → NoZero keys m → Yields (NoZero keys) (insert keys l m key v)
    unfolding insert
    insert-nonzero m key v h = by_test (is_zero v) _ _ (λ z. gives h) (λ z. enter-nonzero 0 m key v z h)

    pub insert_all-nonzero : (m r : Map K) → NoZero keys m → Yields (NoZero keys) (insert_all keys l m r)
    unfolding insert_all
    insert_all-nonzero m [] h = gives h
    insert_all-nonzero m (e ∷ r) h =
        and_then (insert-nonzero m e.0 e.1 h) λ n g. insert_all-nonzero n r g

    -- of the combination that is added nothing is asked
    pub add-nonzero : (a b : Combination K) → SumNoZero keys a → Yields (SumNoZero keys) (add keys l a b)
    unfolding add
    add-nonzero a b h =
        and_then (insert_all-nonzero a.entries b.entries h) λ m g.
        past (plus l a.constant b.constant) λ c. gives g

    pub sub-nonzero : (a b : Combination K) → SumNoZero keys a → Yields (SumNoZero keys) (sub keys l a b)
    unfolding sub
    sub-nonzero a b h = add-nonzero a (neg b) h

    pub add_entry-nonzero :
        (key : K) (v : Rational) (w : Walked K) → WalkNoZero keys w →
        Yields (WalkNoZero keys) (add_entry keys l key v w)
    unfolding add_entry
    add_entry-nonzero key v w h = and_then (insert-nonzero w.sum.entries key v h) λ m g. gives g

module _ {K : Type 0} {keys : Keys K} (l : Limits) where
  pub visit-nonzero : (w : Walked K) → WalkNoZero keys w → Yields (WalkNoZero keys) (visit l w)
  unfolding visit
  visit-nonzero w h = past (assert (within l.visits (suc w.visits)) VisitLimit) λ u. gives h

  pub add_constant-nonzero :
      (q : Rational) (w : Walked K) → WalkNoZero keys w → Yields (WalkNoZero keys) (add_constant l q w)
  unfolding add_constant
  add_constant-nonzero q w h = past (plus l w.sum.constant q) λ c. gives h

-- ---- linear combinations

pub turned-nonzero : (o : ℕ) (s : LinearComb) (n : ℕ) → SumNoZero terms s → SumNoZero terms (turned o s n).sum
unfolding turned
turned-nonzero o s n h =
    if_either (λ (d : Disequality). SumNoZero terms d.sum) (eqb o LessThan) (λ e. neg-nonzero s h) λ e.
    if_either (λ (d : Disequality). SumNoZero terms d.sum) (eqb o LessEq) (λ e. neg-nonzero s h) λ e. h

module _ (l : Limits) where
  -- by any number: 0 leaves no entries
  pub mul-nonzero : (s : LinearComb) (q : Rational) → SumNoZero terms s → Yields (SumNoZero terms) (mul l s q)
  unfolding mul
  mul-nonzero s q h =
      by_test (is_zero q) _ _ (λ z. gives empty) λ z.
      by_test (eq_q q (whole (pos 1))) _ _ (λ e. gives h) λ e.
      and_then (scale_all-nonzero l q s.entries z h) λ m g. past (times l s.constant q) λ c. gives g

  add_leaf-nonzero : (t : Term) (c : Rational) (w : Walked Term) → WalkNoZero terms w →
      Yields (WalkNoZero terms) (add_leaf l t c w)
  unfolding add_leaf
  add_leaf-nonzero t c w h =
      past (fraction_of l t) λ f.
      by_option (λ x. Unit {0}) (λ q u. past (times l q c) λ r. add_constant-nonzero l r w h)
      (λ u. add_entry-nonzero term_names l t c w h) f tt

  mutual
    unfolding add_term

    pub add_term-nonzero : (t : Term) (c : Rational) (w : Walked Term) → WalkNoZero terms w →
        Yields (WalkNoZero terms) (add_term t l c w)
    add_term-nonzero (integer i v) c w h = and_then (visit-nonzero l w h) (add_leaf-nonzero (integer i v) c)
    add_term-nonzero (rational i q) c w h = and_then (visit-nonzero l w h) (add_leaf-nonzero (rational i q) c)
    add_term-nonzero (bitvector i v n) c w h =
        and_then (visit-nonzero l w h) (add_leaf-nonzero (bitvector i v n) c)
    add_term-nonzero (atom i s n) c w h = and_then (visit-nonzero l w h) (add_leaf-nonzero (atom i s n) c)
    add_term-nonzero (op i o ts) c w h =
        and_then (visit-nonzero l w h) λ v g.
        by_arm (Yields (WalkNoZero terms)) (arm_of o ts)
        (add_args-nonzero ts c v g)
        (add_args-nonzero ts (neg_q c) v g)
        (add_difference-nonzero ts c v g)
        (past (factors_of l ts) λ k.
        by_factors_lem (Yields (WalkNoZero terms)) k
        (λ q. past (times l q c) λ r. add_second-nonzero ts r v g)
        (λ q. past (times l q c) λ r. add_first-nonzero ts r v g)
        (add_entry-nonzero term_names l (op i o ts) c v g))
        (add_leaf-nonzero (op i o ts) c v g)

    add_args-nonzero : (ts : Terms) (c : Rational) (w : Walked Term) → WalkNoZero terms w →
        Yields (WalkNoZero terms) (add_args ts l c w)
    add_args-nonzero nil c w h = gives h
    add_args-nonzero (t ▹ ts) c w h = and_then (add_term-nonzero t c w h) λ v g. add_args-nonzero ts c v g

    add_difference-nonzero : (ts : Terms) (c : Rational) (w : Walked Term) → WalkNoZero terms w →
        Yields (WalkNoZero terms) (add_difference ts l c w)
    add_difference-nonzero nil c w h = gives h
    add_difference-nonzero (t ▹ ts) c w h =
        and_then (add_term-nonzero t c w h) λ v g. add_args-nonzero ts (neg_q c) v g

    add_first-nonzero : (ts : Terms) (c : Rational) (w : Walked Term) → WalkNoZero terms w →
        Yields (WalkNoZero terms) (add_first ts l c w)
    add_first-nonzero nil c w h = gives h
    add_first-nonzero (t ▹ ts) c w h = add_term-nonzero t c w h

    add_second-nonzero : (ts : Terms) (c : Rational) (w : Walked Term) → WalkNoZero terms w →
        Yields (WalkNoZero terms) (add_second ts l c w)
    add_second-nonzero nil c w h = gives h
    add_second-nonzero (t ▹ ts) c w h = add_first-nonzero ts c w h

  pub from_term-nonzero : (t : Term) (n : ℕ) → Yields (WalkNoZero terms) (from_term l t n)
  unfolding from_term
  from_term-nonzero t n = add_term-nonzero t (whole (pos 1)) (walked new n) empty

  -- ---- disequalities

  negate_disequality-nonzero : (phi : Term) (n : ℕ) → Yields (λ r. SumNoZero terms r.1) (negate_disequality l phi n)
  unfolding negate_disequality
  negate_disequality-nonzero phi n =
      past (or_else (inner phi) InvalidDisequalityOp) λ (o, args).
      past (two_sides args) λ (a, b).
      and_then (from_term-nonzero a n) λ s1 h. past (from_term l b s1.visits) λ s2. gives h

  pub disequality_of-nonzero : (phi : Term) (n : ℕ) → Yields (λ d. SumNoZero terms d.sum) (disequality_of l phi n)
  unfolding disequality_of
  disequality_of-nonzero phi n =
      and_then (negate_disequality-nonzero phi n) λ (o, s1, s2, visits) h.
      and_then (sub-nonzero term_names l s1 s2 h) λ s g.
      gives (turned-nonzero o (combination s.entries (neg_q s.constant)) visits g)

  raised-nonzero : (s : LinearComb) (z : ℤ) → SumNoZero terms s → Yields (λ r. SumNoZero terms r.1) (raised l s z)
  unfolding raised
  raised-nonzero s z h = past (plus l s.constant (whole z)) λ c. gives h

  pub strengthen-nonzero : (o : ℕ) (s : LinearComb) (a : Rational) → SumNoZero terms s →
      Yields (λ r. SumNoZero terms r.1) (strengthen l o s a)
  unfolding strengthen
  strengthen-nonzero o s a h =
      by_test (eqb o GreaterEq && is_integer_times s.constant a) _ _ (λ e. gives h) λ e.
      by_test (eqb o GreaterThan && is_integer_times s.constant a) _ _
      (λ e. raised-nonzero (floored s) (coefficients_gcd (floored s)) h) λ e.
      by_test (eqb o GreaterThan || eqb o GreaterEq) _ _ (λ e. raised-nonzero (floored s) (pos 1) h) λ e. gives h

  -- ---- the fold of la_generic

  pub process_disequality-nonzero : (p : Progress) (phi : Term) (arg : Option Rational) → SumNoZero terms p.acc →
      Yields (λ q. SumNoZero terms q.acc) (process_disequality l p phi arg)
  unfolding process_disequality
  process_disequality-nonzero p phi arg h =
      past (disequality_of l phi p.visits) λ d.
      past (argument_of l p d.sum arg) λ (a, trace).
      past (strengthened l d.operator d.sum a) λ (o, s).
      past (mul l s (scalar o a)) λ scaled.
      and_then (add-nonzero term_names l p.acc scaled h) λ acc g. gives g

  pub fold_literals-nonzero : (c : Clause) (args : List Rational) (p : Progress) → SumNoZero terms p.acc →
      Yields (λ q. SumNoZero terms q.acc) (fold_literals l c args p)
  unfolding fold_literals
  fold_literals-nonzero [] args p h = gives h
  fold_literals-nonzero (phi ∷ c) [] p h =
      and_then (process_disequality-nonzero p phi None h) λ q g. fold_literals-nonzero c [] q g
  fold_literals-nonzero (phi ∷ c) (a ∷ args) p h =
      and_then (process_disequality-nonzero p phi (Some a) h) λ q g. fold_literals-nonzero c args q g

  -- ---- the division

  -- `inferred` as the Rust has it, with no test
  abbrev pub untested : Map Term → Map Term → Result Rational
  untested acc [] = Err NotUnit
  untested acc ((var, coeff1) ∷ []) = do
    coeff2 ← or_else (get terms acc var) CoeffNotFound
    over l (neg_q coeff2) coeff1
  untested acc (e ∷ f ∷ m) = Err NotUnit

  pub inferred-untested : (acc m : Map Term) → NoZero terms m → inferred l acc m ≡ untested acc m
  unfolding inferred ◌>>=◌ assert
  inferred-untested acc [] h = refl
  inferred-untested acc ((var, coeff1) ∷ []) (entry z k h) = rw z
  inferred-untested acc (e ∷ f ∷ m) h = refl

  abbrev pub NeedsNoTest : Map Term → Type 0
  NeedsNoTest m = (acc : Map Term) → inferred l acc m ≡ untested acc m

  -- of every literal
  pub literal-untested : (phi : Term) (n : ℕ) →
      Yields (λ d. NeedsNoTest d.sum.entries) (disequality_of l phi n)
  literal-untested phi n =
      weaker (λ d h acc. inferred-untested acc d.sum.entries h) (disequality_of-nonzero phi n)
