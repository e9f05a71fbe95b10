-- What a linear walk of a term adds up to, whatever atoms stand for. A linear reading gives each term a rational
-- number: a written number itself, a sum, a difference and a product by a written number what they say, and an atom
-- what it stands for. What terms mean is one (proofs/LinearValues), and so is what they are under a weight for each
-- record number (proofs/LinearWeights).
--     Armed, armed       which arm of the walk an operation takes
--     Plain, plain-atom, product-atom       atoms by their arms
--     Reads, fraction-written, fraction-found, written?       whether a term is a written number
--     LinearReading, leaves       the laws, and what they make of the Rust's maps
use mathlib.Core.Path.{◌≡◌, refl, sym, ◌∙◌, ap, ap₂}
use mathlib.Core.Bool.{Bool, true, false, ◌&&◌}
use mathlib.Core.Logic.{◌⊎◌, inl, inr, ⊎_elim}
use Rattle.std.specs.Prelude.{None}
use Prim.Native.Nat.{ℕ}
use native.Mathlib.Omega.{arith}
use borrow.Author.Tests.{eqb-true}
use lib.Dec.{eqb}
use lib.IntN.{pos}
use Rattle.numbers.specs.Rational.{Rational, Lowest}
use Rattle.terms.specs.Operator.{Add, Sub, Mult}
use Rattle.terms.specs.Term.{Term, Terms, same, unary, binary}
use Rattle.numbers.specs.Choice.{when◌then◌else◌}
use Rattle.terms.specs.Term.Term.{op}
use Rattle.terms.specs.Term.Terms.{nil, ◌▹◌}
use Rattle.terms.specs.Readers.{unbounded, as_number, quotient_of, as_unsigned_fraction, as_fraction, as_op}
use Rattle.numbers.proofs.Truths.{never}
use Rattle.numbers.proofs.Quotient.{ℚ, ℚring}
use Rattle.book.proofs.Fractions.{fraction_means}
use Rattle.terms.proofs.Readings.{not-number, out_of_range}
use Rattle.book.proofs.BookTerms.{Closed}
use Rattle.linear_walk.specs.LinearTerms.{Arm, arm_of}
use Rattle.index_map.specs.Memory.Entries.{terms}
use Rattle.rules.specs.Shapes.{size}
use Rattle.alethe.specs.AletheTerms.{Is, Is2, is, Atom, Written}
use Rattle.rules.proofs.Valuations.{numberℚ, rationals}
use Rattle.rules_theory.proofs.IndexMaps.{Values}
use Rattle.rules_theory.proofs.Shapes.{nothing-found, operation_of_lem, is_itself}
use Rattle.rules_theory.proofs.WrittenNumbers.{written_read, read-written, Unwritten}
use Rattle.terms.specs.Readers.{Reading}
use Rattle.std.specs.Prelude.{Ok, Err}
use Rattle.terms.specs.declared.term.NotRead.TheVariants.{NotNumber, OutOfRange}
open ℚring use {add as ◌+◌, mul as ◌*◌, neg as -◌, ι}

infixl 6 ◌+◌
infixl 7 ◌*◌
infix 8 -◌
-- ---- which arm of the walk an operation takes

pub data Armed (o : ℕ) (ts : Terms) : Arm → Type 0 where
  a_sum : o ≡ Add → Armed o ts Arm.sum
  a_negation : o ≡ Sub → size ts ≡ 1 → Armed o ts Arm.negation
  a_difference : o ≡ Sub → eqb (size ts) 1 ≡ false → Armed o ts Arm.difference
  a_product : o ≡ Mult → size ts ≡ 2 → Armed o ts Arm.product
  a_leaf : eqb o Add ≡ false → eqb o Sub ≡ false → (eqb o Mult && eqb (size ts) 2) ≡ false → Armed o ts Arm.leaf

pub armed : (o : ℕ) (ts : Terms) → Armed o ts (arm_of o ts)
unfolding arm_of when◌then◌else◌
armed o ts =
    go (eqb o Add) (eqb o Sub) (eqb (size ts) 1) (eqb o Mult) (eqb (size ts) 2) refl refl refl refl refl
  where
    go :
        (a s n m p : Bool) → eqb o Add ≡ a → eqb o Sub ≡ s → eqb (size ts) 1 ≡ n → eqb o Mult ≡ m →
        eqb (size ts) 2 ≡ p →
        Armed o ts
        (when a then Arm.sum else when s then (when n then Arm.negation else Arm.difference) else
        when m && p then Arm.product else Arm.leaf)
    go true s n m p ea es en em ep = a_sum (eqb-true o Add ea)
    go false true true m p ea es en em ep = a_negation (eqb-true o Sub es) (eqb-true (size ts) 1 en)
    go false true false m p ea es en em ep = a_difference (eqb-true o Sub es) en
    go false false n true true ea es en em ep = a_product (eqb-true o Mult em) (eqb-true (size ts) 2 ep)
    go false false n true false ea es en em ep = a_leaf ea es (rw (em, ep))
    go false false n false p ea es en em ep = a_leaf ea es (rw em)

-- an operation of two terms
pub two-terms : (Q : Terms → Type 0) (ts : Terms) → size ts ≡ 2 → ((a b : Term) → Q (a ▹ b ▹ nil)) → Q ts
two-terms Q nil n h = absurd (omega arith)
two-terms Q (a ▹ nil) n h = absurd (omega arith)
two-terms Q (a ▹ b ▹ nil) n h = h a b
two-terms Q (a ▹ b ▹ c ▹ ts) n h = absurd (omega arith)

pub written? : (t : Term) → ((q : Rational) × Written t q) ⊎ Unwritten t
written? t = go (as_fraction unbounded t) refl
  where
    go : (r : Reading) → as_fraction unbounded t ≡ r → ((q : Rational) × Written t q) ⊎ Unwritten t
    go (Ok q) e = inl (q, read-written t q e)
    go (Err NotNumber) e = inr λ q w. not-number (sym e ∙ written_read w)
    go (Err OutOfRange) e = inr λ q w. out_of_range (sym e ∙ written_read w)

pub written-lowest : {P : Term → Type 0} → Closed P → (t : Term) → P t → {q : Rational} → Written t q → Lowest q
written-lowest closed t p {q} w = (fraction_means t (closed.formed t p) q (written_read w)).lowest

-- ---- atoms

-- a term that takes the last arm
pub record Plain (t : Term) : Type 0 where
  pub not_sum : (ts : Terms) → Is Add ts t → ⊥
  pub not_difference : (ts : Terms) → Is Sub ts t → ⊥
  pub not_product : (a b : Term) → Is2 Mult a b t → ⊥

pub plain-atom : (t : Term) → Plain t → Unwritten t → Atom t
plain-atom t h w =
    record {
      no_number = w;
      not_sum = h.not_sum;
      not_difference = h.not_difference;
      not_product = λ a b q s r. h.not_product a b s;
    }

pub no_operation : (t : Term) → as_op t ≡ None → Plain t
no_operation t e =
    record {
      not_sum = λ us h. nothing-found (sym e ∙ operation_of_lem h);
      not_difference = λ us h. nothing-found (sym e ∙ operation_of_lem h);
      not_product = λ x y h. nothing-found (sym e ∙ operation_of_lem h);
    }

pub leaf-plain :
    (i o : ℕ) (ts : Terms) → eqb o Add ≡ false → eqb o Sub ≡ false → (eqb o Mult && eqb (size ts) 2) ≡ false →
    Plain (op i o ts)
leaf-plain i o ts a s m =
    record {
      not_sum = λ us h. never (sym a ∙ ap (λ (o : ℕ). eqb o Add) (sym (is_itself h).0));
      not_difference = λ us h. never (sym s ∙ ap (λ (o : ℕ). eqb o Sub) (sym (is_itself h).0));
      not_product = λ x y h.
          never (sym m ∙ ap₂ (λ (o : ℕ) (ts : Terms). eqb o Mult && eqb (size ts) 2) (sym (is_itself h).0)
          (sym (is_itself h).1));
    }

unread : (i : ℕ) (ts : Terms) → Unwritten (op i Mult ts)
unfolding as_fraction as_unsigned_fraction quotient_of unary binary as_number
unread i ts q w = not-number (written_read w)

pub product-atom : (i : ℕ) (a b : Term) → Unwritten a → Unwritten b → Atom (op i Mult (a ▹ b ▹ nil))
product-atom i a b u v =
    record {
      no_number = unread i (a ▹ b ▹ nil);
      not_sum = λ us h. absurd (omega (arith, (is_itself h).0));
      not_difference = λ us h. absurd (omega (arith, (is_itself h).0));
      not_product = factors;
    }
  where
    factors : (x y : Term) (q : Rational) → Is2 Mult x y (op i Mult (a ▹ b ▹ nil)) → Written x q ⊎ Written y q → ⊥
    factors x y q (is j) = ⊎_elim (u q) (v q)

-- ---- the laws

unfoldable pub sum_at : (Term → ℚ) → Terms → ℚ
sum_at f nil = ι (pos 0)
sum_at f (t ▹ ts) = f t + sum_at f ts

-- the first less the others
abbrev pub difference_at : (Term → ℚ) → Terms → ℚ
difference_at f nil = ι (pos 0)
difference_at f (t ▹ ts) = f t + - sum_at f ts

pub record LinearReading (P : Term → Type 0) : Type 0 where
  pub at : Term → ℚ
  -- what an atom stands for
  pub leaf : Term → ℚ
  pub respects : (a b : Term) → P a → P b → same a b ≡ true → leaf a ≡ leaf b
  pub atom : (t : Term) → P t → Atom t → at t ≡ leaf t
  pub number : (t : Term) → P t → (q : Rational) → Written t q → numberℚ q ≡ at t
  pub sum : (i : ℕ) (ts : Terms) → at (op i Add ts) ≡ sum_at at ts
  pub negation : (i : ℕ) (ts : Terms) → size ts ≡ 1 → at (op i Sub ts) ≡ - sum_at at ts
  pub difference : (i : ℕ) (ts : Terms) → eqb (size ts) 1 ≡ false → at (op i Sub ts) ≡ difference_at at ts
  pub product :
      (i : ℕ) (a b : Term) (q : Rational) → Written a q ⊎ Written b q →
      at (op i Mult (a ▹ b ▹ nil)) ≡ at a * at b

-- atoms as keys of the Rust's maps
abbrev pub leaves : {P : Term → Type 0} → LinearReading P → Values terms
leaves {P} L = record { ring = ℚring; numbers = rationals; Known = P; at = L.leaf; respects = L.respects }
