-- The visits made before do not change what a walk makes, and limits only refuse: where `disequality_of` gives
-- a disequality under some limits and after some visits, it gives one with the same sum under no limits and
-- after any visits (`disequality_of-free`). Demand 3's premise on whole numbers reads it so.
use mathlib.Core.Path.{◌≡◌, refl, subst}
use mathlib.Core.Bool.{Bool, true, false}
use Rattle.std.specs.Prelude.{Option, Some, None}
use Prim.Native.Nat.{ℕ}
use lib.Dec.{eqb}
use lib.IntN.{pos}
use Rattle.numbers.specs.Rational.{Rational, whole, neg_q}
use Rattle.terms.specs.Operator.{LessThan, LessEq, GreaterThan, GreaterEq}
use Rattle.terms.specs.Term.{Term, Terms}
use Rattle.numbers.specs.Choice.{when◌then◌else◌}
use Rattle.terms.specs.Term.Term.{integer, rational, bitvector, atom, op}
use Rattle.terms.specs.Term.Terms.{nil, ◌▹◌}
use Rattle.rules.specs.Refusal.{Result, ◌>>=◌, assert}
use Rattle.rules.specs.declared.refusal.Refusal.{Refusal}
use Rattle.std.specs.Prelude.{Ok, Err}
use Rattle.rules.specs.Limits.{Limits, the_rust, times}
use Rattle.index_map.specs.IndexMap as IndexMap
use Rattle.index_map.specs.IndexMap.{combination, Walked, walked, new, visit, add_entry, add_constant}
use Rattle.linear_walk.specs.LinearTerms.{arm_of, add_leaf, add_term, add_args, add_difference, add_first}
use Rattle.linear_comb.specs.LinearComb.{LinearComb}
use Rattle.linear_walk.specs.LinearTerms.{add_second, from_term}
use Rattle.index_map.specs.Memory.Entries.{terms}
use Rattle.disequality.specs.Disequality.{Disequality, disequality, negate_disequality, turned, disequality_of}
use Rattle.rules_theory.proofs.Limited.{◌≼◌, sub-limited, Unbounded}
use Rattle.rules_theory.proofs.Limited.◌≼◌.{equal, stopped}
use Rattle.linear_theory.proofs.LinearCases.{at_arm_lem, at_factors}
use Rattle.linear_theory.proofs.LimitedLinear.{from_term-limited}

-- ---- where the first answers, the second answers in the relation R

pub data Follows {A B : Type 0} (R : A → B → Type 0) : Result A → Result B → Type 0 where
  answers : {a : A} {b : B} → R a b → Follows R (Ok a) (Ok b)
  stops : {r : Refusal} {u : Result B} → Follows R (Err r) u

module _ {A B C D : Type 0} {R : A → B → Type 0} {S : C → D → Type 0} where
  chained : {x : Result A} {y : Result B} {f : A → Result C} {g : B → Result D} → Follows R x y →
      ((a : A) (b : B) → R a b → Follows S (f a) (g b)) → Follows S (x >>= f) (y >>= g)
  unfolding ◌>>=◌
  chained (answers {a} {b} h) k = k a b h
  chained stops k = stops

module _ {A C D : Type 0} {S : C → D → Type 0} where
  -- what is the same without limits, or refused
  limited-then : {x y : Result A} {f : A → Result C} {g : A → Result D} → x ≼ y →
      ((a : A) → Follows S (f a) (g a)) → Follows S (x >>= f) (y >>= g)
  unfolding ◌>>=◌
  limited-then (equal (Ok a)) k = k a
  limited-then (equal (Err r)) k = stops
  limited-then (stopped p) k = stops

-- ---- walks

abbrev SameSum : Walked Term → Walked Term → Type 0
SameSum w v = w.sum ≡ v.sum

abbrev ◌↝◌ : Result (Walked Term) → Result (Walked Term) → Type 0
◌↝◌ = Follows SameSum

infix 4 ◌↝◌
-- from one combination, after any visits
abbrev Free : (Walked Term → Result (Walked Term)) → Type 0
Free f = (s : LinearComb) (n k : ℕ) → f (walked s n) ↝ f (walked s k)

limited_first : {x y z : Result (Walked Term)} → x ≼ y → y ↝ z → x ↝ z
limited_first (equal r) h = h
limited_first (stopped p) h = stops

walk-then : {x y : Result (Walked Term)} (f : Walked Term → Result (Walked Term)) → x ↝ y → Free f →
    (x >>= f) ↝ (y >>= f)
walk-then f h k =
    chained h
    (λ w v e.
    subst (λ (s : LinearComb). f w ↝ f (walked s v.visits)) e (k w.sum w.visits v.visits))

-- ---- walks under no limits, after n and after k visits

visit-free : Free (visit the_rust)
unfolding visit ◌>>=◌ assert
visit-free s n k = answers refl

entry_free : (t : Term) (c : Rational) → Free (add_entry terms the_rust t c)
unfolding add_entry
entry_free t c s n k = limited-then (equal _) λ m. answers refl

constant-free : (q : Rational) → Free (add_constant the_rust q)
unfolding add_constant
constant-free q s n k = limited-then (equal _) λ c. answers refl

-- the last arm of the walk, by what was read
abbrev leaf_as : Term → Rational → Walked Term → Option Rational → Result (Walked Term)
leaf_as t c w o = elim o [
  | Some q ↦ times the_rust q c >>= λ r. add_constant the_rust r w
  | None ↦ add_entry terms the_rust t c w
]

leaf-free : (t : Term) (c : Rational) → Free (add_leaf the_rust t c)
unfolding add_leaf
leaf-free t c s n k = limited-then (equal _) at
  where
    at : (o : Option Rational) →
        leaf_as t c (walked s n) o ↝ leaf_as t c (walked s k) o
    at (Some q) = limited-then (equal _) λ r. constant-free r s n k
    at None = entry_free t c s n k

mutual
  unfolding add_term

  term-free : (t : Term) (c : Rational) → Free (add_term t the_rust c)
  term-free (integer i v) c s n k = walk-then _ (visit-free s n k) (leaf-free (integer i v) c)
  term-free (rational i q) c s n k = walk-then _ (visit-free s n k) (leaf-free (rational i q) c)
  term-free (bitvector i v w) c s n k = walk-then _ (visit-free s n k) (leaf-free (bitvector i v w) c)
  term-free (atom i a v) c s n k = walk-then _ (visit-free s n k) (leaf-free (atom i a v) c)
  term-free (op i o ts) c s n k =
      walk-then _ (visit-free s n k) λ s n k.
      at_arm_lem ◌↝◌ (arm_of o ts) (args-free ts c s n k) (args-free ts (neg_q c) s n k) (difference-free ts c s n k)
      (limited-then (equal _) λ f.
      at_factors ◌↝◌ f (λ q. limited-then (equal _) λ d. second_free ts d s n k)
      (λ q. limited-then (equal _) λ d. first_free ts d s n k)
      (entry_free (op i o ts) c s n k))
      (leaf-free (op i o ts) c s n k)

  args-free : (ts : Terms) (c : Rational) → Free (add_args ts the_rust c)
  args-free nil c s n k = answers refl
  args-free (t ▹ ts) c s n k = walk-then _ (term-free t c s n k) λ s n k. args-free ts c s n k

  difference-free : (ts : Terms) (c : Rational) → Free (add_difference ts the_rust c)
  difference-free nil c s n k = answers refl
  difference-free (t ▹ ts) c s n k = walk-then _ (term-free t c s n k) λ s n k. args-free ts (neg_q c) s n k

  first_free : (ts : Terms) (c : Rational) → Free (add_first ts the_rust c)
  first_free nil c s n k = answers refl
  first_free (t ▹ ts) c s n k = term-free t c s n k

  second_free : (ts : Terms) (c : Rational) → Free (add_second ts the_rust c)
  second_free nil c s n k = answers refl
  second_free (t ▹ ts) c s n k = first_free ts c s n k

-- ---- disequalities

abbrev pub SameTerms : Disequality → Disequality → Type 0
SameTerms d e = d.sum ≡ e.sum

-- `turned` by its two tests
abbrev turned_by : ℕ → LinearComb → Bool → Bool → ℕ → Disequality
turned_by o s b c n =
    when b then disequality GreaterThan (IndexMap.neg s) n else
    when c then disequality GreaterEq (IndexMap.neg s) n else
    disequality o s n

turned-sum : (o : ℕ) (s : LinearComb) (n k : ℕ) → SameTerms (turned o s n) (turned o s k)
unfolding turned when◌then◌else◌
turned-sum o s n k = go (eqb o LessThan) (eqb o LessEq)
  where
    go : (b c : Bool) →
        SameTerms (turned_by o s b c n) (turned_by o s b c k)
    go true c = refl
    go false true = refl
    go false false = refl

-- the operator and the two sides are the same
SameSides : ℕ × LinearComb × LinearComb × ℕ → ℕ × LinearComb × LinearComb × ℕ → Type 0
SameSides p q = (p.0 ≡ q.0) × (p.1 ≡ q.1) × (p.2 ≡ q.2)

-- the constant goes to the right, and the disequality is turned
abbrev moved : ℕ → ℕ → LinearComb → Result Disequality
moved o n s = Ok (turned o (combination s.entries (neg_q s.constant)) n)

-- the Rust bounds the number of entries by nothing
free : Unbounded terms
free n = refl

module _ (l : Limits) where
  from_term-free : (t : Term) (n k : ℕ) → from_term l t n ↝ from_term the_rust t k
  unfolding from_term
  from_term-free t n k = limited_first (from_term-limited l t n) (term-free t (whole (pos 1)) new n k)

  sides-free : (phi : Term) (n k : ℕ) →
      Follows SameSides (negate_disequality l phi n) (negate_disequality the_rust phi k)
  unfolding negate_disequality SameSides
  sides-free phi n k =
      limited-then (equal _) λ (o, args).
      limited-then (equal _) λ (a, b).
      chained (from_term-free a n k) λ s1 t1 e1.
      chained (from_term-free b s1.visits t1.visits) λ s2 t2 e2. answers (refl, e1, e2)

  moved-free : (o : ℕ) (s1 s2 : LinearComb) (n k : ℕ) →
      Follows SameTerms (IndexMap.sub terms l s1 s2 >>= moved o n) (IndexMap.sub terms the_rust s1 s2 >>= moved o k)
  moved-free o s1 s2 n k = limited-then (sub-limited terms free l s1 s2) λ s. answers (turned-sum o _ n k)

  pub disequality_of-free : (phi : Term) (n k : ℕ) →
      Follows SameTerms (disequality_of l phi n) (disequality_of the_rust phi k)
  unfolding disequality_of SameSides
  disequality_of-free phi n k =
      chained (sides-free phi n k) λ p q (eo, e1, e2).
      rw (eo, e1, e2) (moved-free q.0 q.1 q.2 p.3 q.3)
