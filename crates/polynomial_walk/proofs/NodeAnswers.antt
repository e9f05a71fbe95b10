-- The answers of `look` of the polynomial walk and of the functions that it calls are the definition's nodes: a lemma
-- for each answer, from what the callees have promised.
use Rattle.std.specs.Prelude.{Option, Some, None, Ok, Err}
use Rattle.std.specs.Option.{ok_or}
use mathlib.Core.Path.{◌≡◌, refl, sym, ◌∙◌, ap}
use mathlib.Core.Bool.{Bool, true, false, ◌&&◌, cond}
use mathlib.Core.Logic.{◌⊎◌, ⊎_elim}
use mathlib.Core.List.{List, [], ◌∷◌}
use Prim.Native.Nat.{ℕ, suc, ◌/◌, ◌^◌, ◌≤◌, ◌<◌}
use native.Mathlib.Nat.{eq-or-lt_of_le}
use native.Mathlib.Omega.{arith}
use borrow.Author.Tests.{ltb-true, eq-eqb, ne_eqb}
use lib.Dec.{eqb, ltb}
use lib.IntN.{pos}
use lib.ListN.{length, get_or}
use lib.Pow.{pow_mono}
use mir.Syntax.{w64}
use mir.Val.{SFits}
use Rattle.numbers.specs.Rational.{Rational, Proper, Gives, Makes, limit, whole, mul_q, div_q, neg_q, is_zero}
use Rattle.numbers.specs.Rational.{checked, Checked}
use Rattle.numbers.specs.Bytes.{Bytes}
use Rattle.terms.specs.Operator.{Add, Sub, Mult, RealDiv, ToReal, BvAdd, BvSub, BvNeg, BvMul}
use Rattle.terms.specs.Term.{Term, Terms}
use Rattle.numbers.specs.Choice.{when◌then◌else◌}
use Rattle.terms.specs.Term.Term.{integer, rational, bitvector, atom, op}
use Rattle.terms.specs.Book.{record_of, kind, field1, field2, is_width, is_vector, numbers, nothing, arguments}
use Rattle.terms.specs.Book.{argument_at, forest, tree}
use Rattle.terms.specs.Readers.{Reading, Finds, ranged, as_fraction, as_bitvector, as_op, operator_of}
use Rattle.terms.specs.Readers.{arguments_of}
use Rattle.numbers.proofs.Truths.{both}
use Rattle.terms.proofs.NumberedNodes.{record_number-tree}
use Rattle.terms.proofs.Layouts.{width-bounded}
use Rattle.numbers.proofs.Machine.{R}
use Rattle.terms.proofs.RecordBytes.{argument_of_arguments}
use Rattle.terms.proofs.RecordReadings.{as_bitvector_of, record_node}
use Rattle.rules.specs.Refusal.{Result, ◌>>=◌, or_else}
use Rattle.rules.specs.declared.refusal.Refusal.{Refusal}
use Rattle.rules.specs.declared.refusal.Refusal.TheVariants.{NumberRange}
use Rattle.rules.specs.Shapes.{size}
use Rattle.rules.proofs.Results.{stops, none-refused}
use Rattle.polynomial_walk.specs.PolynomialTerms.{arm_of}
use Rattle.polynomial_walk.specs.PolynomialTerms.Arm.{leaf}
use Rattle.polynomial_walk.specs.Memory.PolynomialNodes.{NodeIs, NodeProper, constant_of, leaf_node}
use Rattle.polynomial_walk.specs.Memory.PolynomialNodes.{divided_node, divisor_node, quotient_node, quotient_of}
use Rattle.polynomial_walk.specs.Memory.PolynomialNodes.{operation_node, node_of}
use Rattle.polynomial_walk.specs.declared.polynomial_walk.Node.{Node}
use Rattle.polynomial_walk.specs.declared.polynomial_walk.Node.TheVariants as node
use Rattle.rules.proofs.ArgumentsLeft.{arguments-count, by_operator}
use Rattle.index_map.proofs.CheckedNumbers.{whole-proper, small-fits, small-back}
use Rattle.terms.specs.declared.term.NotRead.TheVariants.{NotNumber, OutOfRange}

node_is : {r d : Result Node} → NodeProper r → r ≡ d → NodeIs r d
node_is p e = record { is = e; proper = p }

node_of_lem : {r d e : Result Node} → NodeIs r d → d ≡ e → NodeIs r e
node_of_lem n e = node_is n.proper (n.is ∙ e)

-- ---- constant

-- a node that is made of a number in range
module _ (make : Rational → Node) {a p : Checked} (g : Gives a p) where
  made_of : {c : Rational} → a ≡ Some c → Ok (make c) ≡ (or_else p NumberRange >>= λ c. Ok (make c))
  unfolding or_else ◌>>=◌
  made_of e = rw (← g.is, e)

  made-outside : {r : Refusal} → Err r ≡ ok_or a NumberRange → Err r ≡ (or_else p NumberRange >>= λ c. Ok (make c))
  made-outside e = stops _ (none-refused (λ (o : Checked). o) a NumberRange g.is refl e)

module _ (q coeff : Rational) {a : Checked} (g : Gives a (checked (mul_q q coeff))) where
  pub scaled : {c : Rational} → a ≡ Some c → NodeIs (Ok (node.Constant c)) (constant_of q coeff)
  unfolding constant_of
  scaled e = node_is (g.proper _ e) (made_of (λ c. node.Constant c) g e)

  pub scaled-outside : {r : Refusal} → Err r ≡ ok_or a NumberRange → NodeIs (Err r) (constant_of q coeff)
  unfolding constant_of
  scaled-outside e = node_is tt (made-outside (λ c. node.Constant c) g e)

-- ---- leaf

-- the value of a bit-vector has 30 bits at most
vector-small : (r : Bytes) → is_vector r ≡ true → field1 r ≤ limit
vector-small r e =
    let tests = both (is_width (field2 r)) (ltb (field1 r) (2 ^ field2 r)) e in
    let below : field1 r < 2 ^ field2 r = ltb-true (field1 r) (2 ^ field2 r) tests.1 in
    let most : 2 ^ field2 r ≤ 2 ^ 30 = pow_mono (width-bounded (field2 r) tests.0) in
    omega (arith, below, most)

module _ (b : Bytes) (i : ℕ) {v w : ℕ} where
  read_small :
      (r : Bytes) (t : Bool) → eqb (kind r) 3 && is_vector r ≡ t →
      cond {A = Option (ℕ × ℕ)} t (Some (field1 r, field2 r)) None ≡ Some (v, w) → v ≤ limit
  read_small r true e is =
      let parts : ◌≡◌ {A = ℕ × ℕ} (field1 r, field2 r) (v, w) = cc in
      let same : field1 r ≡ v = ap (λ (z : ℕ × ℕ). z.0) parts in
      rw (← same) (vector-small r (both (eqb (kind r) 3) (is_vector r) e).1)
  read_small r false e is = let z : ◌≡◌ {A = ℕ} 0 1 = cc in absurd (omega arith)

  module _ (e : Some (v, w) ≡ as_bitvector (tree b i)) where
    pub bits_small : v ≤ limit
    bits_small =
        let r = record_of b i in
        read_small r (eqb (kind r) 3 && is_vector r) refl (sym (as_bitvector_of r (record_node b i refl)) ∙ sym e)

    pub bits_fit : SFits w64 (pos v)
    bits_fit = small-fits (pos v) bits_small

    -- as the machine reads it
    pub bits-whole : {q : Rational} → q ≡ whole (R (pos v)) → q ≡ whole (pos v)
    bits-whole is = is ∙ ap whole (small-back (pos v) bits_small)

    pub bits-proper : {q : Rational} → q ≡ whole (R (pos v)) → Proper q
    bits-proper is = rw (bits-whole is) (whole-proper (pos v) bits_small)

module _ (t : Term) (coeff : Rational) where
  pub leaf-number :
      {q : Rational} {n : Result Node} → Finds (Ok q) (as_fraction ranged t) → NodeIs n (constant_of q coeff) →
      NodeIs n (leaf_node t coeff)
  unfolding leaf_node
  leaf-number f n = node_of_lem n (rw (← f.is, leaf_node))

  pub leaf-outside : Finds (Err OutOfRange) (as_fraction ranged t) → NodeIs (Err NumberRange) (leaf_node t coeff)
  unfolding leaf_node
  leaf-outside f = node_is tt (rw (← f.is, leaf_node))

  module _ (f : Finds (Err NotNumber) (as_fraction ranged t)) where
    pub leaf-vector :
        {v w : ℕ} {q : Rational} {n : Result Node} → Some (v, w) ≡ as_bitvector t → q ≡ whole (pos v) →
        NodeIs n (constant_of q coeff) → NodeIs n (leaf_node t coeff)
    unfolding leaf_node
    leaf-vector e q-is n = node_of_lem n (rw (← f.is, leaf_node, ← e, q-is))

    pub leaf-atom : None ≡ as_bitvector t → NodeIs (Ok node.Atom) (leaf_node t coeff)
    unfolding leaf_node
    leaf-atom e = node_is tt (rw (← f.is, leaf_node, ← e))

-- ---- quotient

module _ (t : Term) (coeff : Rational) (f : ℕ → Term) where
  few : (l : List ℕ) → length l < 2 → quotient_node t (forest f l) coeff ≡ leaf_node t coeff
  unfolding forest
  few [] h = refl
  few (a ∷ []) h = refl
  few (a ∷ c ∷ l) h = absurd (omega arith)

  many :
      (l : List ℕ) → 2 ≤ length l →
      quotient_node t (forest f l) coeff
      ≡ divisor_node t (f (get_or l 0 nothing)) (as_fraction ranged (f (get_or l 1 nothing))) coeff
  unfolding forest
  many [] h = absurd (omega arith)
  many (a ∷ []) h = absurd (omega arith)
  many (a ∷ c ∷ l) h = refl

module _
    (b : Bytes) (i : ℕ) (coeff : Rational) (args : Bytes)
    (args_are : forest (tree b) (arguments i (numbers args)) ≡ arguments_of (tree b i)) where
  of_sides :
      quotient_node (tree b i) (forest (tree b) (arguments i (numbers args))) coeff ≡ quotient_of (tree b i) coeff
  unfolding quotient_of
  of_sides = rw args_are

  pub few-sides :
      {n : Result Node} → length args / 2 < 2 → NodeIs n (leaf_node (tree b i) coeff) →
      NodeIs n (quotient_of (tree b i) coeff)
  few-sides h n =
      node_of_lem n (sym (few (tree b i) coeff (tree b) _ (omega (arith, arguments-count i args))) ∙ of_sides)

  -- y is the divisor, read as r
  module _ (h : 2 ≤ length args / 2) {y : ℕ} (y-is : y ≡ argument_at args 1 i) where
    at :
        {r : Reading} → Finds r (as_fraction ranged (tree b y)) →
        divisor_node (tree b i) (tree b (argument_at args 0 i)) r coeff ≡ quotient_of (tree b i) coeff
    at f =
        rw (f.is, y-is, ← argument_of_arguments i args 0, ← argument_of_arguments i args 1)
        (sym (many (tree b i) coeff (tree b) _ (omega (arith, arguments-count i args))) ∙ of_sides)

    pub divisor-outside :
        Finds (Err OutOfRange) (as_fraction ranged (tree b y)) →
        NodeIs (Err NumberRange) (quotient_of (tree b i) coeff)
    divisor-outside f = node_is tt (at f)

    pub no_divisor :
        {n : Result Node} → Finds (Err NotNumber) (as_fraction ranged (tree b y)) →
        NodeIs n (leaf_node (tree b i) coeff) → NodeIs n (quotient_of (tree b i) coeff)
    no_divisor f n = node_of_lem n (at f)

    module _ {q : Rational} (f : Finds (Ok q) (as_fraction ranged (tree b y))) where
      pub zero-divisor :
          {n : Result Node} → is_zero q ≡ true → NodeIs n (leaf_node (tree b i) coeff) →
          NodeIs n (quotient_of (tree b i) coeff)
      zero-divisor z n = node_of_lem n (rw (z, divisor_node) at (at f))

      module _ (z : is_zero q ≡ false) {a : Checked} (g : Gives a (checked (div_q coeff q))) where
        divided-node : divided_node (argument_at args 0 i) (checked (div_q coeff q)) ≡ quotient_of (tree b i) coeff
        divided-node = rw (← record_number-tree b (argument_at args 0 i)) (rw (z, divisor_node) at (at f))

        pub quotient-outside :
            {r : Refusal} → Err r ≡ ok_or a NumberRange → NodeIs (Err r) (quotient_of (tree b i) coeff)
        quotient-outside e = node_is tt (made-outside (λ c. node.Quotient _ c) g e ∙ divided-node)

        pub quotient-found :
            {x : ℕ} {c : Rational} → x ≡ argument_at args 0 i → a ≡ Some c →
            NodeIs (Ok (node.Quotient x c)) (quotient_of (tree b i) coeff)
        quotient-found x-is value =
            node_is (g.proper _ value) (rw x-is (made_of (λ c. node.Quotient _ c) g value ∙ divided-node))

-- ---- look

-- what the last arm of the match knows of the operator: it is none of the single numbers, and not of the range from
-- ToReal to BvAdd
pub record OtherOperator (o : ℕ) : Type 0 where
  pub not-add : o ≡ Add → ⊥
  pub not-sub : o ≡ Sub → ⊥
  pub not-bv_sub : o ≡ BvSub → ⊥
  pub not-bv_neg : o ≡ BvNeg → ⊥
  pub not-mult : o ≡ Mult → ⊥
  pub not-bv_mul : o ≡ BvMul → ⊥
  pub not-real_div : o ≡ RealDiv → ⊥

abbrev pub OutOfSums : ℕ → Type 0
OutOfSums o = (o < ToReal) ⊎ (suc BvAdd ≤ o)

module _ (t : Term) (coeff : Rational) where
  at_operator : (o : ℕ) → operator_of t ≡ suc o → node_of t coeff ≡ operation_node t (suc o) (arguments_of t) coeff
  unfolding node_of
  at_operator o = by_operator (λ k ts. operation_node t k ts coeff) (leaf_node t coeff) o (as_op t)

  pub sum-node : operator_of t ≡ Add → Proper coeff → NodeIs (Ok (node.Args coeff coeff)) (node_of t coeff)
  unfolding operation_node arm_of when◌then◌else◌
  sum-node e p = node_is (p, p) (sym (at_operator 8 e))

  -- ToReal and BvAdd
  pub sums-node :
      ToReal ≤ operator_of t → operator_of t < suc BvAdd → Proper coeff →
      NodeIs (Ok (node.Args coeff coeff)) (node_of t coeff)
  unfolding operation_node arm_of when◌then◌else◌
  sums-node h k p =
      node_is (p, p)
      (sym (⊎_elim (at_operator 14) (λ l. at_operator 13 (omega (arith, h, l))) (eq-or-lt_of_le (omega (arith, k)))))

  pub product-node : (operator_of t ≡ Mult) ⊎ (operator_of t ≡ BvMul) → NodeIs (Ok node.Product) (node_of t coeff)
  unfolding operation_node arm_of when◌then◌else◌
  product-node h = node_is tt (sym (⊎_elim (at_operator 10) (at_operator 17) h))

  pub quotient-node :
      {n : Result Node} → operator_of t ≡ RealDiv → NodeIs n (quotient_of t coeff) → NodeIs n (node_of t coeff)
  unfolding operation_node arm_of when◌then◌else◌ quotient_of
  quotient-node e n = node_of_lem n (sym (at_operator 12 e))

  module _ {minus : Rational} (m : Makes minus (neg_q coeff)) where
    pub opposite-node : operator_of t ≡ BvNeg → NodeIs (Ok (node.Args minus minus)) (node_of t coeff)
    unfolding operation_node arm_of when◌then◌else◌
    opposite-node e = node_is (m.proper, m.proper) (sym (at_operator 16 e ∙ rw m.is))

    pub vector-difference-node :
        operator_of t ≡ BvSub → Proper coeff → NodeIs (Ok (node.Args coeff minus)) (node_of t coeff)
    unfolding operation_node arm_of when◌then◌else◌
    vector-difference-node e p = node_is (p, m.proper) (sym (at_operator 15 e ∙ rw m.is))

    pub negation-node :
        operator_of t ≡ Sub → size (arguments_of t) ≡ 1 → NodeIs (Ok (node.Args minus minus)) (node_of t coeff)
    unfolding operation_node arm_of when◌then◌else◌
    negation-node e n =
        node_is (m.proper, m.proper)
        (sym (at_operator 9 e ∙ rw (eq-eqb (size (arguments_of t)) 1 n, operation_node, m.is)))

    pub difference-node :
        operator_of t ≡ Sub → (size (arguments_of t) ≡ 1 → ⊥) → Proper coeff →
        NodeIs (Ok (node.Args coeff minus)) (node_of t coeff)
    unfolding operation_node arm_of when◌then◌else◌
    difference-node e n p =
        node_is (p, m.proper)
        (sym (at_operator 9 e ∙ rw (ne_eqb (size (arguments_of t)) 1 n, operation_node, m.is)))

leaf_arm : (o : ℕ) (ts : Terms) → OtherOperator o → OutOfSums o → arm_of o ts ≡ leaf
unfolding arm_of when◌then◌else◌
leaf_arm o ts h out =
    rw (
      arm_of,
      ne_eqb o Add h.not-add,
      ne_eqb o Sub h.not-sub,
      ne_eqb o BvSub h.not-bv_sub,
      ne_eqb o BvNeg h.not-bv_neg,
      ne_eqb o Mult h.not-mult,
      ne_eqb o BvMul h.not-bv_mul,
      ne_eqb o RealDiv h.not-real_div,
      ne_eqb o ToReal (λ e. ⊎_elim (λ l. omega arith) (λ l. omega arith) out),
      ne_eqb o BvAdd (λ e. ⊎_elim (λ l. omega arith) (λ l. omega arith) out),
    )

leaf_of_lem :
    (t : Term) (coeff : Rational) → OtherOperator (operator_of t) → OutOfSums (operator_of t) →
    node_of t coeff ≡ leaf_node t coeff
unfolding node_of as_op operation_node
leaf_of_lem (integer i v) coeff h out = refl
leaf_of_lem (rational i q) coeff h out = refl
leaf_of_lem (bitvector i v w) coeff h out = refl
leaf_of_lem (atom i s n) coeff h out = refl
leaf_of_lem (op i o ts) coeff h out = rw (leaf_arm o ts h out, operation_node)

pub leaf-node :
    (t : Term) (coeff : Rational) {o : ℕ} {n : Result Node} → o ≡ operator_of t → OtherOperator o → OutOfSums o →
    NodeIs n (leaf_node t coeff) → NodeIs n (node_of t coeff)
leaf-node t coeff e h out n = node_of_lem n (sym (leaf_of_lem t coeff (rw e at h) (rw e at out)))
