-- Every well-formed term can be written out as products (`expansion`): its operator says which rule of `Expands` it
-- is, and a term of no other rule is a number or indivisible.
use mathlib.Core.Path.{◌≡◌, refl, sym, ◌∙◌, ap, subst}
use mathlib.Core.Bool.{Bool, true, false}
use Prim.Native.Nat.{ℕ, suc, ◌≤◌}
use native.Mathlib.Omega.{arith}
use borrow.Author.Tests.{eqb-true}
use lib.ListN.{length}
use Rattle.numbers.specs.Rational.{Rational, is_zero}
use Rattle.terms.specs.Operator.{Sub, RealDiv, ToReal, BvSub, BvNeg}
use Rattle.terms.specs.Term.{Sort, Term, Terms, sorts}
use Rattle.numbers.specs.Choice.{when◌then◌else◌}
use Rattle.terms.specs.Term.Term.{integer, rational, bitvector, atom, op}
use Rattle.terms.specs.Term.Terms.{nil, ◌▹◌}
use Rattle.terms.specs.Readers.{unbounded, as_fraction}
use Rattle.terms.specs.Book.{count_ok}
use Rattle.numbers.proofs.Truths.{never}
use Rattle.terms.proofs.Readings.{not-number, out_of_range}
use Rattle.book.proofs.WellFormed.{WellFormed, AllWellFormed, Operation}
use Rattle.terms.proofs.Operators.{by_operator}
use Rattle.book.proofs.BookTerms.{Each}
use Rattle.alethe.specs.AletheTerms.{Is, is, Is2, Constant, Unsigned, Written, Products, IsSum, IsMinus, IsDifference}
use Rattle.alethe.specs.AletheTerms.{IsProduct, Indivisible, Expands, ExpandsAll, Factors}
use Rattle.rules_theory.proofs.WrittenNumbers.{written_read, read-written}
use Rattle.terms.specs.Readers.{Reading}
use Rattle.std.specs.Prelude.{Ok, Err}
use Rattle.terms.specs.declared.term.NotRead.TheVariants.{NotNumber, OutOfRange}

abbrev pub WrittenOut : Term → Type 0
WrittenOut t = (m : Products) × Expands t m

-- ---- indivisible terms

abbrev operator_at : Term → ℕ
operator_at (integer i z) = 0
operator_at (rational i q) = 0
operator_at (bitvector i v w) = 0
operator_at (atom i s n) = 0
operator_at (op i o ts) = o

operator_is : {o : ℕ} {ts : Terms} {t : Term} → Is o ts t → operator_at t ≡ o
operator_is (is i) = refl

second : Terms → Term → Term
second nil t = t
second (a ▹ nil) t = t
second (a ▹ b ▹ ts) t = b

second_at : Term → Term
second_at (integer i z) = integer i z
second_at (rational i q) = rational i q
second_at (bitvector i v w) = bitvector i v w
second_at (atom i s n) = atom i s n
second_at (op i o ts) = second ts (op i o ts)

second_is : {o : ℕ} {a b t : Term} → Is2 o a b t → second_at t ≡ b
unfolding second_at second
second_is (is i) = refl

-- o is no operator from + to bvmul but div or /
abbrev Kept : ℕ → Type 0
Kept o = (p : ℕ) → o ≡ p → 9 ≤ p → (12 ≤ p) × (p ≤ 13)

NoQuotient : Term → Type 0
NoQuotient t = (a b : Term) (q : Rational) → Is2 RealDiv a b t → Written b q → is_zero q ≡ false → ⊥

module _ (t : Term) (kept : Kept (operator_at t)) where
  other : {p : ℕ} {us : Terms} → 9 ≤ p → Is p us t → (12 ≤ p) × (p ≤ 13)
  other {p} l h = kept p (operator_is h) l

  undivided : ((q : Rational) → Written t q → ⊥) → ((i v w : ℕ) → t ≡ bitvector i v w → ⊥) → NoQuotient t →
      Indivisible t
  unfolding NoQuotient
  undivided n v q =
      record {
        no_number = n;
        not_vector = v;
        not_sum = λ o us s h. no_sum s h;
        not_real = λ us h. let k = other (omega arith) h in omega arith;
        not_minus = λ o us s h. no_minus s h;
        not_difference = λ o us s h. no_difference s h;
        not_product = λ o us s h. no_product s h;
        not_quotient = q;
      }
    where
      no_sum : {p : ℕ} {us : Terms} → IsSum p → Is p us t → ⊥
      no_sum IsSum.add h = let k = other (omega arith) h in omega arith
      no_sum IsSum.bvadd h = let k = other (omega arith) h in omega arith

      no_minus : {p : ℕ} {us : Terms} → IsMinus p → Is p us t → ⊥
      no_minus IsMinus.sub h = let k = other (omega arith) h in omega arith
      no_minus IsMinus.bvneg h = let k = other (omega arith) h in omega arith

      no_difference : {p : ℕ} {us : Terms} → IsDifference p → Is p us t → ⊥
      no_difference IsDifference.sub h = let k = other (omega arith) h in omega arith
      no_difference IsDifference.bvsub h = let k = other (omega arith) h in omega arith

      no_product : {p : ℕ} {us : Terms} → IsProduct p → Is p us t → ⊥
      no_product IsProduct.mult h = let k = other (omega arith) h in omega arith
      no_product IsProduct.bvmul h = let k = other (omega arith) h in omega arith

  -- a number, or indivisible
  leaf : ((i v w : ℕ) → t ≡ bitvector i v w → ⊥) → NoQuotient t → WrittenOut t
  leaf v q = go (as_fraction unbounded t) refl
    where
      none_read : {r : Reading} → as_fraction unbounded t ≡ r → ((q : Rational) → r ≡ Ok q → ⊥) →
          (q : Rational) → Written t q → ⊥
      none_read e n q w = n q (sym e ∙ written_read w)

      go : (r : Reading) → as_fraction unbounded t ≡ r → WrittenOut t
      go (Ok q) e = (_, Expands.number (read-written t q e))
      go (Err NotNumber) e = (_, Expands.atom (undivided (none_read e λ q. not-number) v q))
      go (Err OutOfRange) e = (_, Expands.atom (undivided (none_read e λ q. out_of_range) v q))

no_vector : (i o : ℕ) (ts : Terms) (j v w : ℕ) → op i o ts ≡ bitvector j v w → ⊥
no_vector i o ts j v w e = let z : ◌≡◌ {A = ℕ} 0 1 = cc in omega arith

plain : (i o : ℕ) (ts : Terms) → Kept o → (o ≡ 13 → ⊥) → WrittenOut (op i o ts)
unfolding NoQuotient
plain i o ts kept n = leaf (op i o ts) kept (no_vector i o ts) (λ a b q h w z. n (operator_is h))

-- ---- by recursion over the arguments

all_out : (ts : Terms) → Each WrittenOut ts → (m : Products) × ExpandsAll ts m
all_out nil h = (_, ExpandsAll.none)
all_out (t ▹ ts) h = (_, ExpandsAll.next h.0.1 (all_out ts h.1).1)

factors_out : (ts : Terms) → Each WrittenOut ts → (m : Products) × Factors ts m
factors_out nil h = (_, Factors.no_factor)
factors_out (t ▹ ts) h = (_, Factors.factor h.0.1 (factors_out ts h.1).1)

module _ (i : ℕ) (ts : Terms) (h : Each WrittenOut ts) where
  sum_out : {o : ℕ} → IsSum o → WrittenOut (op i o ts)
  sum_out s = (_, Expands.sum s (is i) (all_out ts h).1)

  product_out : {o : ℕ} → IsProduct o → WrittenOut (op i o ts)
  product_out s = (_, Expands.product s (is i) (factors_out ts h).1)

minus_out : (i : ℕ) (ts : Terms) → Each WrittenOut ts → count_ok Sub (length (sorts ts)) ≡ true →
    WrittenOut (op i Sub ts)
unfolding sorts count_ok when◌then◌else◌
minus_out i nil h c = never c
minus_out i (t ▹ nil) h c = (_, Expands.minus IsMinus.sub (is i) h.0.1)
minus_out i (t ▹ u ▹ ts) h c =
    (_, Expands.difference IsDifference.sub (is i) h.0.1 (all_out (u ▹ ts) h.1).1)

bvsub_out : (i : ℕ) (ts : Terms) → Each WrittenOut ts → count_ok BvSub (length (sorts ts)) ≡ true →
    WrittenOut (op i BvSub ts)
unfolding sorts count_ok when◌then◌else◌
bvsub_out i nil h c = never c
bvsub_out i (t ▹ nil) h c = never c
bvsub_out i (t ▹ u ▹ ts) h c =
    (_, Expands.difference IsDifference.bvsub (is i) h.0.1 (all_out (u ▹ ts) h.1).1)

bvneg_out : (i : ℕ) (ts : Terms) → Each WrittenOut ts → count_ok BvNeg (length (sorts ts)) ≡ true →
    WrittenOut (op i BvNeg ts)
unfolding sorts count_ok when◌then◌else◌
bvneg_out i nil h c = never c
bvneg_out i (t ▹ nil) h c = (_, Expands.minus IsMinus.bvneg (is i) h.0.1)
bvneg_out i (t ▹ u ▹ ts) h c = absurd (omega (arith, eqb-true (suc (suc (length (sorts ts)))) 1 c))

real_out : (i : ℕ) (ts : Terms) → Each WrittenOut ts → count_ok ToReal (length (sorts ts)) ≡ true →
    WrittenOut (op i ToReal ts)
unfolding sorts count_ok when◌then◌else◌
real_out i nil h c = never c
real_out i (t ▹ nil) h c = (_, Expands.real (is i) h.0.1)
real_out i (t ▹ u ▹ ts) h c = absurd (omega (arith, eqb-true (suc (suc (length (sorts ts)))) 1 c))

quotient_out : (i : ℕ) (a b : Term) → WrittenOut a → WrittenOut (op i RealDiv (a ▹ b ▹ nil))
unfolding NoQuotient second_at second
quotient_out i a b h = go (as_fraction unbounded b) refl
  where
    undivided_by : ((q : Rational) → Written b q → is_zero q ≡ false → ⊥) → WrittenOut (op i RealDiv (a ▹ b ▹ nil))
    undivided_by n =
        leaf (op i RealDiv (a ▹ b ▹ nil)) (λ p e l. (omega arith, omega arith)) (no_vector i RealDiv (a ▹ b ▹ nil))
        (λ x y q s w z. n q (subst (λ (t : Term). Written t q) (sym (second_is s)) w) z)

    at : (q : Rational) → as_fraction unbounded b ≡ Ok q → (z : Bool) → is_zero q ≡ z →
        WrittenOut (op i RealDiv (a ▹ b ▹ nil))
    at q e true z =
        undivided_by λ p w y.
        let k : p ≡ q = cc (written_read w) in never (sym (sym z ∙ ap is_zero (sym k) ∙ y))
    at q e false z = (_, Expands.quotient (is i) (read-written b q e) z h.1)

    go : (r : Reading) → as_fraction unbounded b ≡ r → WrittenOut (op i RealDiv (a ▹ b ▹ nil))
    go (Ok q) e = at q e (is_zero q) refl
    go (Err NotNumber) e = undivided_by λ p w y. let z : ◌≡◌ {A = ℕ} 0 1 = cc (written_read w) in omega arith
    go (Err OutOfRange) e = undivided_by λ p w y. let z : ◌≡◌ {A = ℕ} 0 1 = cc (written_read w) in omega arith

over_out : (i : ℕ) (ts : Terms) → Each WrittenOut ts → count_ok RealDiv (length (sorts ts)) ≡ true →
    WrittenOut (op i RealDiv ts)
unfolding sorts count_ok when◌then◌else◌
over_out i nil h c = never c
over_out i (a ▹ nil) h c = never c
over_out i (a ▹ b ▹ nil) h c = quotient_out i a b h.0
over_out i (a ▹ b ▹ e ▹ ts) h c = absurd (omega (arith, eqb-true (suc (suc (suc (length (sorts ts))))) 2 c))

operation_out : (i o : ℕ) (ts : Terms) → Operation o (sorts ts) → Each WrittenOut ts → WrittenOut (op i o ts)
operation_out i o ts w h =
    by_operator (λ o. count_ok o (length (sorts ts)) ≡ true → WrittenOut (op i o ts)) o w.least w.most
    (low 1 (omega arith)) (low 2 (omega arith)) (low 3 (omega arith)) (low 4 (omega arith)) (low 5 (omega arith))
    (low 6 (omega arith)) (low 7 (omega arith)) (low 8 (omega arith))
    (λ c. sum_out i ts h IsSum.add) (minus_out i ts h) (λ c. product_out i ts h IsProduct.mult)
    (λ c. plain i 12 ts (λ p e l. (omega arith, omega arith)) (λ e. omega arith)) (over_out i ts h) (real_out i ts h)
    (λ c. sum_out i ts h IsSum.bvadd) (bvsub_out i ts h) (bvneg_out i ts h) (λ c. product_out i ts h IsProduct.bvmul)
    w.counted
  where
    low : {A : Type 0} (o : ℕ) → o ≤ 8 → A → WrittenOut (op i o ts)
    low o l c = plain i o ts (λ p e k. absurd (omega arith)) (λ e. omega arith)

atom_out : (i : ℕ) (s : Sort) (n : ℕ) → WrittenOut (atom i s n)
unfolding NoQuotient
atom_out i s n =
    leaf (atom i s n) (λ p e l. absurd (omega arith)) (λ j v w e. let z : ◌≡◌ {A = ℕ} 0 1 = cc in omega arith)
    (λ a b q h w z. let k = operator_is h in omega arith)

mutual
  unfolding WellFormed

  pub expansion : (t : Term) → WellFormed t → WrittenOut t
  expansion (integer i z) w = (_, Expands.number (Written.plain (Unsigned.constant (Constant.whole i z))))
  expansion (rational i q) w = (_, Expands.number (Written.plain (Unsigned.constant (Constant.fraction i q))))
  expansion (bitvector i v n) w = (_, Expands.vector i v n)
  expansion (atom i s n) w = atom_out i s n
  expansion (op i o ts) w = operation_out i o ts w.0 (expansions ts w.1)

  expansions : (ts : Terms) → AllWellFormed ts → Each WrittenOut ts
  expansions nil w = tt
  expansions (t ▹ ts) w = (expansion t w.0, expansions ts w.1)
