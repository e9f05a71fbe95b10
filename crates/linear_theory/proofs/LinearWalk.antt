-- What `add_term` adds to a linear combination: the coefficient times the term's number under any linear reading,
-- under all limits, wherever it is not refused (`add_term-adds`). By recursion over the term and its arguments. The
-- terms are those of one book, since entries are found by record number.
use mathlib.Core.Path.{◌≡◌, refl, sym, ◌∙◌, ap}
use mathlib.Core.List.{[], ◌∷◌}
use mathlib.Core.Logic.{inl, inr}
use Rattle.std.specs.Prelude.{Option, Some, None}
use Prim.Native.Nat.{ℕ}
use lib.IntN.{pos}
use Rattle.numbers.specs.Rational.{Rational, Lowest, neg_q}
use Rattle.terms.specs.Operator.{Mult}
use Rattle.terms.specs.Term.{Term, Terms}
use Rattle.terms.specs.Term.Term.{integer, rational, bitvector, atom, op}
use Rattle.terms.specs.Term.Terms.{nil, ◌▹◌}
use Rattle.terms.specs.Readers.{as_op}
use Rattle.numbers.proofs.Ring.{◌⊕◌, ◌⊖◌, ◌⊗◌, neg, 𝟘, 𝟙, ◌≐◌, ◌·◌, ◌and◌, ◌from◌, solve, derive}
use Rattle.numbers.proofs.Quotient.{ℚ, ℚring}
use Rattle.book.proofs.BookTerms.{Each, Closed}
use Rattle.rules.specs.Refusal.{Result, ◌>>=◌}
use Rattle.rules.specs.declared.refusal.Refusal.{Refusal}
use Rattle.std.specs.Prelude.{Ok}
use Rattle.rules.specs.Limits.{Limits, times}
use Rattle.index_map.specs.IndexMap.{Walked, add_entry, add_constant}
use Rattle.linear_walk.specs.LinearTerms.{Arm, arm_of, add_leaf, Factors, chosen, factors_of, add_term, add_args}
use Rattle.linear_walk.specs.LinearTerms.{add_difference, add_first, add_second}
use Rattle.index_map.specs.Memory.Entries.{terms}
use Rattle.rules.specs.Shapes.{size}
use Rattle.linear_walk.specs.LinearTerms.Factors.{first_is, second_is, neither_is}
use Rattle.alethe.specs.AletheTerms.{Atom, Written}
use Rattle.rules.proofs.Yields.{Yields, gives, and_then}
use Rattle.rules.proofs.Valuations.{Stands, numberℚ, rationals, times-stands}
use Rattle.rules_theory.proofs.IndexMaps.{Values}
use Rattle.rules_theory.proofs.Walks.{Kept, Adds, adds_none, adds-as, in_turn, visited, add_entry-adds, add_constant-adds}
use Rattle.linear_theory.proofs.LinearReadings.{Armed, a_sum, a_negation, a_difference, a_product, a_leaf, armed}
use Rattle.linear_theory.proofs.LinearReadings.{two-terms, written-lowest, Plain, plain-atom, no_operation}
use Rattle.linear_theory.proofs.LinearReadings.{leaf-plain, product-atom, sum_at, difference_at, LinearReading}
use Rattle.linear_theory.proofs.LinearReadings.{leaves}
use Rattle.rules_theory.proofs.WrittenNumbers.{Unwritten, Reads, fraction-written}
pub use Rattle.linear_theory.proofs.LinearValues.{atoms}
open ℚring use {add as ◌+◌, mul as ◌*◌, neg as -◌, ι}

infixl 6 ◌+◌
infixl 7 ◌*◌
infix 8 -◌
module _ {P : Term → Type 0} (closed : Closed P) (L : LinearReading P) where
  abbrev S : Values terms
  S = leaves L

  abbrev at : Term → ℚ
  at = L.at

  -- a written number stands for itself
  written_stands : (t : Term) → P t → (q : Rational) → Written t q → Stands rationals q (at t)
  written_stands t p q w = record { good = written-lowest closed t p w; is = L.number t p q w }

  module _ (l : Limits) where
    -- a number q that means x takes the coefficient with it, and what is left of the value z is y
    scaled-adds :
        (q c : Rational) → Lowest c → (w : Walked Term) (x y z : ℚ) → Stands rationals q x → z ≡ x * y →
        {f : Rational → Result (Walked Term)} →
        ((d : Rational) → Lowest d → Yields (Adds S w (numberℚ d * y)) (f d)) →
        Yields (Adds S w (numberℚ c * z)) (times l q c >>= f)
    scaled-adds q c lc w x y z m e k =
        and_then (times-stands rationals l q c m.good lc)
        (λ d h.
        adds-as S
        (derive ℚring (numberℚ d ∷ numberℚ q ∷ numberℚ c ∷ x ∷ y ∷ z ∷ [])
        (λ d q c x y z. d ⊗ y ≐ c ⊗ z from y · d ≐ q ⊗ c and c ⊗ y · q ≐ x and neg c · z ≐ x ⊗ y) tt
        h.is m.is e)
        (k d h.good))

    atom-adds :
        (t : Term) → P t → Atom t → (c : Rational) → Lowest c → (w : Walked Term) → Kept S w →
        Yields (Adds S w (numberℚ c * at t)) (add_entry terms l t c w)
    atom-adds t p a c lc w g =
        adds-as S (ap (◌*◌ (numberℚ c)) (sym (L.atom t p a)))
        (add_entry-adds S l t c w (record { known = p; good = lc }) g)

    leaf-adds :
        (t : Term) → P t → Plain t → (c : Rational) → Lowest c → (w : Walked Term) → Kept S w →
        Yields (Adds S w (numberℚ c * at t)) (add_leaf l t c w)
    unfolding add_leaf
    leaf-adds t p plain c lc w g = and_then (fraction-written l t) go
      where
        go :
            (o : Option Rational) → Reads t o →
            Yields {E = Refusal} (Adds S w (numberℚ c * at t))
            (elim o [ Some q ↦ times l q c >>= λ r. add_constant l r w | None ↦ add_entry terms l t c w ])
        go None h = atom-adds t p (plain-atom t plain h) c lc w g
        go (Some q) h =
            scaled-adds q c lc w (at t) (ι (pos 1)) (at t) (written_stands t p q h)
            (solve ℚring (at t ∷ []) (λ t. t ≐ t ⊗ 𝟙) tt)
            (λ r lr.
            adds-as S (solve ℚring (numberℚ r ∷ []) (λ r. r ≐ r ⊗ 𝟙) tt) (add_constant-adds S l r w lr g))

    -- ---- a product of two

    abbrev first_meant : Terms → ℚ
    first_meant nil = ι (pos 0)
    first_meant (t ▹ ts) = at t

    abbrev second_meant : Terms → ℚ
    second_meant nil = ι (pos 0)
    second_meant (t ▹ ts) = first_meant ts

    -- what the walks of the arguments add, with any coefficient
    record Walks (ts : Terms) (w : Walked Term) : Type 0 where
      args :
          (c : Rational) → Lowest c →
          Yields (Adds S w (numberℚ c * sum_at at ts)) (add_args ts l c w)
      difference :
          (c : Rational) → Lowest c →
          Yields (Adds S w (numberℚ c * difference_at at ts)) (add_difference ts l c w)
      first : (c : Rational) → Lowest c → Yields (Adds S w (numberℚ c * first_meant ts)) (add_first ts l c w)
      second :
          (c : Rational) → Lowest c → Yields (Adds S w (numberℚ c * second_meant ts)) (add_second ts l c w)

    -- which factor is a written number
    abbrev Split : Term → Term → Factors → Type 0
    Split a b (first_is q) = Written a q
    Split a b (second_is q) = Written b q
    Split a b neither_is = Unwritten a × Unwritten b

    factors-split : (a b : Term) (ts : Terms) → Yields (Split a b) (factors_of l (a ▹ b ▹ ts))
    unfolding factors_of
    factors-split a b ts =
        and_then (fraction-written l a)
        (λ p hp. and_then (fraction-written l b) (λ q hq. gives (choice p q hp hq)))
      where
        choice : (p q : Option Rational) → Reads a p → Reads b q → Split a b (chosen p q)
        choice (Some p) q hp hq = hp
        choice None (Some q) hp hq = hq
        choice None None hp hq = (hp, hq)

    module _ (i o : ℕ) (c : Rational) (lc : Lowest c) (w : Walked Term) (g : Kept S w) where
      -- the walk by the factor that is a number, and by the arm
      abbrev by_factors : Terms → Factors → Result (Walked Term)
      by_factors ts k = elim k [
        | first_is q ↦ times l q c >>= λ d. add_second ts l d w
        | second_is q ↦ times l q c >>= λ d. add_first ts l d w
        | neither_is ↦ add_entry terms l (op i o ts) c w
      ]

      abbrev by_arm : Terms → Arm → Result (Walked Term)
      by_arm ts k = elim k [
        | Arm.sum ↦ add_args ts l c w
        | Arm.negation ↦ add_args ts l (neg_q c) w
        | Arm.difference ↦ add_difference ts l c w
        | Arm.product ↦ factors_of l ts >>= by_factors ts
        | Arm.leaf ↦ add_leaf l (op i o ts) c w
      ]

      product-adds :
          (a b : Term) → o ≡ Mult → P (op i o (a ▹ b ▹ nil)) → Walks (a ▹ b ▹ nil) w → (k : Factors) →
          Split a b k →
          Yields (Adds S w (numberℚ c * at (op i o (a ▹ b ▹ nil)))) (by_factors (a ▹ b ▹ nil) k)
      product-adds a b e p walks neither_is s =
          atom-adds (op i o (a ▹ b ▹ nil)) p (rw e (product-atom i a b s.0 s.1)) c lc w g
      product-adds a b e p walks (first_is q) s =
          scaled-adds q c lc w (at a) (at b) _
          (written_stands a (closed.below i o (a ▹ b ▹ nil) p).0 q s)
          (rw e (L.product i a b q (inl s))) walks.second
      product-adds a b e p walks (second_is q) s =
          scaled-adds q c lc w (at b) (at a) _
          (written_stands b (closed.below i o (a ▹ b ▹ nil) p).1.0 q s)
          (rw e (L.product i a b q (inr s)) ∙ solve ℚring (at a ∷ at b ∷ []) (λ a b. a ⊗ b ≐ b ⊗ a) tt)
          walks.first

      two-factors :
          (ts : Terms) → size ts ≡ 2 → o ≡ Mult → P (op i o ts) → Walks ts w →
          Yields (Adds S w (numberℚ c * at (op i o ts))) (factors_of l ts >>= by_factors ts)
      two-factors ts n e =
          two-terms
          (λ ts.
          P (op i o ts) → Walks ts w →
          Yields (Adds S w (numberℚ c * at (op i o ts))) (factors_of l ts >>= by_factors ts))
          ts n (λ a b p walks. and_then (factors-split a b nil) (product-adds a b e p walks))

      -- ---- every arm

      arm_adds :
          (ts : Terms) → P (op i o ts) → Walks ts w → (k : Arm) → Armed o ts k →
          Yields (Adds S w (numberℚ c * at (op i o ts))) (by_arm ts k)
      arm_adds ts p walks Arm.sum (a_sum e) =
          adds-as S (rw e (ap (◌*◌ (numberℚ c)) (sym (L.sum i ts)))) (walks.args c lc)
      arm_adds ts p walks Arm.negation (a_negation e n) =
          adds-as S
          (derive ℚring (numberℚ (neg_q c) ∷ numberℚ c ∷ sum_at at ts ∷ at (op i o ts) ∷ [])
          (λ d c s z. d ⊗ s ≐ c ⊗ z from s · d ≐ neg c and neg c · z ≐ neg s) tt (rationals.number-neg c lc)
          (rw e (L.negation i ts n)))
          (walks.args (neg_q c) (rationals.good-neg c lc))
      arm_adds ts p walks Arm.difference (a_difference e n) =
          adds-as S (rw e (ap (◌*◌ (numberℚ c)) (sym (L.difference i ts n))))
          (walks.difference c lc)
      arm_adds ts p walks Arm.product (a_product e n) = two-factors ts n e p walks
      arm_adds ts p walks Arm.leaf (a_leaf a s m) = leaf-adds (op i o ts) p (leaf-plain i o ts a s m) c lc w g

    -- ---- the walk itself

    zero-adds :
        (c : Rational) (w : Walked Term) → Kept S w →
        Yields {E = Refusal} (Adds S w (numberℚ c * ι (pos 0))) (Ok w)
    zero-adds c w g =
        adds-as S (solve ℚring (numberℚ c ∷ []) (λ c. 𝟘 ≐ c ⊗ 𝟘) tt) (gives (adds_none S w g))

    mutual
      unfolding add_term sum_at as_op

      pub add_term-adds :
          (t : Term) → P t → (c : Rational) → Lowest c → (w : Walked Term) → Kept S w →
          Yields (Adds S w (numberℚ c * at t)) (add_term t l c w)
      add_term-adds (integer i v) p c lc w g =
          visited S l w g (leaf-adds (integer i v) p (no_operation (integer i v) refl) c lc)
      add_term-adds (rational i q) p c lc w g =
          visited S l w g (leaf-adds (rational i q) p (no_operation (rational i q) refl) c lc)
      add_term-adds (bitvector i v n) p c lc w g =
          visited S l w g (leaf-adds (bitvector i v n) p (no_operation (bitvector i v n) refl) c lc)
      add_term-adds (atom i s n) p c lc w g =
          visited S l w g (leaf-adds (atom i s n) p (no_operation (atom i s n) refl) c lc)
      add_term-adds (op i o ts) p c lc w g =
          visited S l w g
          (λ v h.
          let ps = closed.below i o ts p in
          arm_adds i o c lc v h ts p
          (record {
            args = λ d ld. add_args-adds ts ps d ld v h;
            difference = λ d ld. add_difference-adds ts ps d ld v h;
            first = λ d ld. add_first-adds ts ps d ld v h;
            second = λ d ld. add_second-adds ts ps d ld v h;
          })
          (arm_of o ts) (armed o ts))

      add_args-adds :
          (ts : Terms) → Each P ts → (c : Rational) → Lowest c → (w : Walked Term) → Kept S w →
          Yields (Adds S w (numberℚ c * sum_at at ts)) (add_args ts l c w)
      add_args-adds nil ps c lc w g = zero-adds c w g
      add_args-adds (t ▹ ts) (p, ps) c lc w g =
          adds-as S
          (solve ℚring (numberℚ c ∷ at t ∷ sum_at at ts ∷ [])
          (λ c t s. c ⊗ t ⊕ c ⊗ s ≐ c ⊗ (t ⊕ s)) tt)
          (in_turn S (add_term-adds t p c lc w g) (λ v h. add_args-adds ts ps c lc v h))

      add_difference-adds :
          (ts : Terms) → Each P ts → (c : Rational) → Lowest c → (w : Walked Term) → Kept S w →
          Yields (Adds S w (numberℚ c * difference_at at ts)) (add_difference ts l c w)
      add_difference-adds nil ps c lc w g = zero-adds c w g
      add_difference-adds (t ▹ ts) (p, ps) c lc w g =
          adds-as S
          (derive ℚring (numberℚ c ∷ numberℚ (neg_q c) ∷ at t ∷ sum_at at ts ∷ [])
          (λ c d t s. c ⊗ t ⊕ d ⊗ s ≐ c ⊗ (t ⊖ s) from s · d ≐ neg c) tt (rationals.number-neg c lc))
          (in_turn S (add_term-adds t p c lc w g)
          (λ v h. add_args-adds ts ps (neg_q c) (rationals.good-neg c lc) v h))

      add_first-adds :
          (ts : Terms) → Each P ts → (c : Rational) → Lowest c → (w : Walked Term) → Kept S w →
          Yields (Adds S w (numberℚ c * first_meant ts)) (add_first ts l c w)
      add_first-adds nil ps c lc w g = zero-adds c w g
      add_first-adds (t ▹ ts) (p, ps) c lc w g = add_term-adds t p c lc w g

      add_second-adds :
          (ts : Terms) → Each P ts → (c : Rational) → Lowest c → (w : Walked Term) → Kept S w →
          Yields (Adds S w (numberℚ c * second_meant ts)) (add_second ts l c w)
      add_second-adds nil ps c lc w g = zero-adds c w g
      add_second-adds (t ▹ ts) (p, ps) c lc w g = add_first-adds ts ps c lc w g
