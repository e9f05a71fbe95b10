-- The relation that a literal's negation is: a lemma for each answer of `inner` and `relation_of`, from what the
-- callees have promised. Under a negation the operation itself is looked at, and elsewhere its operator is negated. The
-- records that are found are arguments, which lie below their record where it is laid out as a term.
use mathlib.Core.Path.{◌≡◌, refl, sym, ◌∙◌, ap, subst}
use mathlib.Core.Bool.{true, false}
use mathlib.Core.List.{List, [], ◌∷◌}
use Rattle.std.specs.Prelude.{Option, Some, None}
use Prim.Native.Nat.{ℕ, ◌/◌, ◌≤◌, ◌<◌}
use native.Mathlib.Omega.{arith}
use borrow.Author.Tests.{le-leb, lt-leb, ltb-true}
use lib.Dec.{ltb}
use lib.ListN.{length}
use Rattle.numbers.specs.Bytes.{Bytes}
use Rattle.terms.specs.Operator.{Not, Equals, GreaterEq}
use Rattle.terms.specs.Term.{Term, Terms, record_number, unary}
use Rattle.numbers.specs.Choice.{when◌then◌else◌}
use Rattle.terms.specs.Term.Term.{op}
use Rattle.terms.specs.Term.Terms.{nil, ◌▹◌}
use Rattle.terms.specs.Book.{count, record_of, arg_bytes, tree, numbers, arguments, argument_at, earlier, forest}
use Rattle.terms.specs.Book.{all_below}
use Rattle.terms.specs.Readers.{Child, found, as_op, operator_of, arguments_of, remove_negation}
use Rattle.numbers.proofs.Truths.{both}
use Rattle.terms.proofs.RecordBytes.{earlier-before, forest_of_two}
use Rattle.terms.proofs.Readings.{unary-shape}
use Rattle.terms.proofs.NumberedNodes.{record_number-tree}
use Rattle.terms.proofs.RecordReadings.{arguments_of_record}
use Rattle.rules.specs.Refusal.{Result, ◌>>=◌, or_else}
use Rattle.std.specs.Prelude.{Ok, Err}
use Rattle.std.specs.Option.{ok_or}
use Rattle.rules.specs.declared.refusal.Refusal.{Refusal}
use Rattle.rules.specs.declared.refusal.Refusal.TheVariants.{InvalidDisequalityOp, TooManyArgsInDisequality}
use Rattle.rules.specs.Shapes.{size, is_relation}
use Rattle.disequality.specs.Disequality.{negate_operator, inner, two_sides}
use Rattle.rules.specs.Memory.Parts.{Laid}
use Rattle.disequality.specs.Memory.DisequalitySteps.{InnerIs, relation_of, RelationIs}
use Rattle.rules.proofs.ArgumentsLeft.{counted, next-below}
use Rattle.book.proofs.ArgumentsBelow.{args-below}

-- ---- inner

-- an operation that is a relation
abbrev relation_in : Option (ℕ × Terms) → Option (ℕ × Terms)
relation_in m = elim m [ Some p ↦ elim (is_relation p.0) [ true ↦ Some p | false ↦ None ] | None ↦ None ]

-- under a negation
negation-inner : (i : ℕ) (u : Term) → inner (op i Not (u ▹ nil)) ≡ relation_in (as_op u)
unfolding inner remove_negation unary as_op negate_operator when◌then◌else◌
negation-inner i u = refl

-- what m is as an operator and arguments
abbrev operator_in : Option (ℕ × Terms) → ℕ
operator_in m = elim m [ Some p ↦ p.0 | None ↦ 0 ]

abbrev arguments_in : Option (ℕ × Terms) → Terms
arguments_in m = elim m [ Some p ↦ p.1 | None ↦ nil ]

is_relation_lem :
    (m : Option (ℕ × Terms)) (o : ℕ) → o ≡ operator_in m → Equals ≤ o → o ≤ GreaterEq →
    relation_in m ≡ Some (o, arguments_in m)
is_relation_lem None o e h k = absurd (omega arith)
is_relation_lem (Some p) o e h k =
    rw (← e, relation_in, le-leb Equals o h, le-leb o GreaterEq k) (ap (λ (q : ℕ). Some (q, p.1)) (sym e))

no_relation : (m : Option (ℕ × Terms)) → is_relation (operator_in m) ≡ false → relation_in m ≡ None
no_relation None e = refl
no_relation (Some p) e = rw (e, relation_in)

-- elsewhere
abbrev negated_in : Option (ℕ × Terms) → Option (ℕ × Terms)
negated_in m = elim m [ Some p ↦ elim (negate_operator p.0) [ Some o ↦ Some (o, p.1) | None ↦ None ] | None ↦ None ]

plain-inner : (t : Term) → remove_negation t ≡ None → inner t ≡ negated_in (as_op t)
unfolding inner
plain-inner t e = rw (e, inner)

is_negated :
    (m : Option (ℕ × Terms)) {o : ℕ} → Some o ≡ negate_operator (operator_in m) →
    negated_in m ≡ Some (o, arguments_in m)
unfolding negate_operator when◌then◌else◌
is_negated None e = cc
is_negated (Some p) e = rw (← e, negated_in)

no_negated : (m : Option (ℕ × Terms)) → None ≡ negate_operator (operator_in m) → negated_in m ≡ None
no_negated None e = refl
no_negated (Some p) e = rw (← e, negated_in)

-- the argument of a record that is laid out as a term
only_below :
    (b : Bytes) (i x : ℕ) (l : List ℕ) → all_below i l ≡ true → forest (tree b) (arguments i l) ≡ tree b x ▹ nil → x < i
unfolding forest arguments all_below
only_below b i x [] h e = let z : ◌≡◌ {A = ℕ} 0 1 = cc in absurd (omega arith)
only_below b i x (a ∷ l) h e =
    let lower = (both (ltb a i) (all_below i l) h).0 in
    let same : tree b (earlier i a) ≡ tree b x = cc in
    let is : earlier i a ≡ x =
    sym (record_number-tree b (earlier i a)) ∙ ap record_number same ∙ record_number-tree b x in
    let first : a < i = ltb-true a i lower in
    subst (λ (z : ℕ). z < i) (sym (earlier-before i a first) ∙ is) first

module _ (b : Bytes) (i : ℕ) {r : Option ℕ} (n : Child b i r (remove_negation (tree b i))) where
  module _ {x : ℕ} (e : r ≡ Some x) where
    negation : tree b i ≡ op (record_number (tree b i)) Not (tree b x ▹ nil)
    unfolding remove_negation
    negation = unary-shape Not (tree b i) (tree b x) (sym n.is ∙ ap (found b) e)

    inner_is : inner (tree b i) ≡ relation_in (as_op (tree b x))
    inner_is = ap inner negation ∙ negation-inner (record_number (tree b i)) (tree b x)

    negated-below : Laid b → i < count b → x < count b
    unfolding as_op
    negated-below laid inside =
        let args = arg_bytes (record_of b i) in
        let is = arguments_of_record b i refl in
        let all = args-below b i inside (laid i inside) args (sym is) in
        let lower = only_below b i x (numbers args) all (sym is ∙ ap arguments_of negation) in
        omega (arith, lower)

    pub negated-relation :
        {o : ℕ} → Laid b × (i < count b) → o ≡ operator_of (tree b x) → Equals ≤ o → o ≤ GreaterEq →
        InnerIs b (Some (o, x)) (inner (tree b i))
    negated-relation {o} (laid, inside) o_is h k =
        (inner_is ∙ is_relation_lem (as_op (tree b x)) o o_is h k, negated-below laid inside)

    negated-other : is_relation (operator_of (tree b x)) ≡ false → inner (tree b i) ≡ None
    negated-other h = inner_is ∙ no_relation (as_op (tree b x)) h

    pub negated-low : {o : ℕ} → o ≡ operator_of (tree b x) → o < Equals → inner (tree b i) ≡ None
    negated-low {o} o_is h = negated-other (rw (← o_is, lt-leb Equals o h))

    pub negated-high : {o : ℕ} → o ≡ operator_of (tree b x) → Equals ≤ o → GreaterEq < o → inner (tree b i) ≡ None
    negated-high {o} o_is h k = negated-other (rw (← o_is, le-leb Equals o h, lt-leb o GreaterEq k))

  module _ (e : r ≡ None) {o : ℕ} (o_is : o ≡ operator_of (tree b i)) where
    plain : inner (tree b i) ≡ negated_in (as_op (tree b i))
    plain = plain-inner (tree b i) (sym n.is ∙ ap (found b) e)

    pub plain-relation :
        {p : ℕ} → Some p ≡ negate_operator o → Laid b × (i < count b) → InnerIs b (Some (p, i)) (inner (tree b i))
    plain-relation p_is (laid, inside) = (plain ∙ is_negated (as_op (tree b i)) (rw o_is at p_is), inside)

    pub plain_other : None ≡ negate_operator o → inner (tree b i) ≡ None
    plain_other none = plain ∙ no_negated (as_op (tree b i)) (rw o_is at none)

-- ---- relation_of

not-two-sides : (ts : Terms) → (size ts ≡ 2 → ⊥) → two_sides ts ≡ Err TooManyArgsInDisequality
not-two-sides nil h = refl
not-two-sides (a ▹ nil) h = refl
not-two-sides (a ▹ c ▹ nil) h = absurd (h refl)
not-two-sides (a ▹ c ▹ d ▹ ts) h = refl

-- an operator with its two sides
abbrev with_sides : ℕ → Result (Term × Term) → Result (ℕ × Term × Term)
with_sides o m = m >>= λ p. Ok (o, p.0, p.1)

pub no_relation_of :
    (b : Bytes) (t : Term) (r : Option (ℕ × ℕ)) → InnerIs b r (inner t) → {e : Refusal} →
    Err e ≡ ok_or r InvalidDisequalityOp → relation_of t ≡ Err e
unfolding relation_of or_else ◌>>=◌
no_relation_of b t (Some p) n h = cc
no_relation_of b t None n {e} h = let is : InvalidDisequalityOp ≡ e = cc in rw (n, relation_of, is)

module _
    (b : Bytes) (i : ℕ) {o x : ℕ} (n : InnerIs b (Some (o, x)) (inner (tree b i))) (args : Bytes)
    (args-is : forest (tree b) (arguments x (numbers args)) ≡ arguments_of (tree b x)) where
  relation_is : relation_of (tree b i) ≡ with_sides o (two_sides (arguments_of (tree b x)))
  unfolding relation_of or_else ◌>>=◌
  relation_is = rw (n.0, relation_of)

  pub other-sides : (length args / 2 ≡ 2 → ⊥) → relation_of (tree b i) ≡ Err TooManyArgsInDisequality
  unfolding ◌>>=◌
  other-sides h =
      let many = not-two-sides (arguments_of (tree b x)) (λ k. h (counted (tree b x) b x args args-is ∙ k)) in
      relation_is ∙ ap (with_sides o) many

  side-below : Laid b → (k : ℕ) → k < length args / 2 → argument_at args k x < count b
  side-below laid k h =
      let inside = n.1 in
      let all = args-below b x inside (laid x inside) args args-is in
      omega (arith, next-below args x {k = k} h refl all)

  pub two-sides :
      {y z : ℕ} → Laid b → length args / 2 ≡ 2 → y ≡ argument_at args 0 x → z ≡ argument_at args 1 x →
      RelationIs b (Ok (o, y, z)) (relation_of (tree b i))
  unfolding ◌>>=◌
  two-sides laid two y-is z-is =
      let are = sym args-is ∙ forest_of_two (tree b) x args two in
      rw (y-is, z-is) (
        relation_is ∙ ap (λ (ts : Terms). with_sides o (two_sides ts)) are,
        (side-below laid 0 (omega arith), side-below laid 1 (omega arith)),
      )
