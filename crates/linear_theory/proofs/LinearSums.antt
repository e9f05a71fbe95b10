-- The Alethe side's linear sums, over the terms of one book. Their atoms are terms of the book and their numbers in
-- lowest terms (`sum_kept`); every term has one (`sum_of_lem`); and under any linear reading a term is what its sum adds
-- up to (`sum-at`).
use mathlib.Core.Path.{◌≡◌, refl, sym, ◌∙◌, subst}
use mathlib.Core.Bool.{false}
use mathlib.Core.List.{[], ◌∷◌, ◌++◌}
use mathlib.Core.Logic.{inl, inr, ⊎_elim}
use Prim.Native.Nat.{ℕ, suc}
use native.Mathlib.Omega.{arith}
use borrow.Author.Tests.{ne_eqb}
use lib.Dec.{eqb}
use lib.IntN.{pos, negsuc}
use Rattle.numbers.specs.Rational.{Rational, Lowest, add_q, mul_q}
use Rattle.terms.specs.Operator.{Add, Sub, Mult}
use Rattle.terms.specs.Term.{Term, Terms, sorts}
use Rattle.numbers.specs.Choice.{when◌then◌else◌}
use Rattle.terms.specs.Term.Term.{integer, rational, bitvector, atom, op}
use Rattle.terms.specs.Term.Terms.{nil, ◌▹◌}
use Rattle.terms.specs.Readers.{as_op}
use Rattle.terms.specs.Book.{count_ok}
use Rattle.numbers.proofs.Truths.{never}
use Rattle.numbers.proofs.Ring.{◌⊕◌, ◌⊗◌, neg, 𝟘, 𝟙, ◌≐◌, ◌·◌, ◌and◌, ◌from◌, lit, solve, derive}
use Rattle.numbers.proofs.Quotient.{ℚ, ℚring}
use Rattle.book.proofs.WellFormed.{WellFormed}
use Rattle.book.proofs.BookTerms.{Each, Closed}
use Rattle.linear_walk.specs.LinearTerms.{Arm, arm_of}
use Rattle.rules.specs.Shapes.{size}
use Rattle.alethe.specs.AletheTerms.{Is, is, Sum, sum_of, plus, times, times_each, nought, one, minus_one, Linear}
use Rattle.alethe.specs.AletheTerms.{LinearAll}
use Rattle.rules.proofs.Valuations.{numberℚ, rationals}
use Rattle.linear_theory.proofs.Weights.{weigh, EntriesFor, weigh_append, weigh-times, entries_append}
use Rattle.linear_theory.proofs.Weights.{entries-times}
use Rattle.alethe.proofs.TermInduction.{Below, by_terms}
use Rattle.linear_theory.proofs.LinearReadings.{Armed, a_sum, a_negation, a_difference, a_product, a_leaf, armed}
use Rattle.linear_theory.proofs.LinearReadings.{two-terms, written?, written-lowest, Plain, plain-atom}
use Rattle.linear_theory.proofs.LinearReadings.{no_operation, leaf-plain, product-atom, sum_at, LinearReading}
open ℚring use {add as ◌+◌, mul as ◌*◌, neg as -◌, ι}

infixl 6 ◌+◌
infixl 7 ◌*◌
infix 8 -◌
-- ---- what a sum adds up to

-- atoms of P, numbers in lowest terms
abbrev pub SumOf : (Term → Type 0) → Sum → Type 0
SumOf P s = EntriesFor P s.terms × Lowest s.constant

at_least-two : (n : ℕ) → eqb (suc (suc n)) 1 ≡ false
at_least-two n = ne_eqb (suc (suc n)) 1 (λ e. absurd (omega arith))

module _ {P : Term → Type 0} (closed : Closed P) (L : LinearReading P) where
  -- s is such a sum, and adds up to x
  pub record AddsUp (s : Sum) (x : ℚ) : Type 0 where
    pub kept : SumOf P s
    pub is : x ≡ weigh L.leaf s.terms + numberℚ s.constant

  adds-up-as : {s : Sum} {x y : ℚ} → y ≡ x → AddsUp s x → AddsUp s y
  adds-up-as e h = record { kept = h.kept; is = e ∙ h.is }

  number-adds-up : (q : Rational) → Lowest q → AddsUp (sum_of [] q) (numberℚ q)
  unfolding weigh
  number-adds-up q lq = record {
    kept = (EntriesFor.none, lq);
    is = solve ℚring (numberℚ q ∷ []) (λ q. q ≐ 𝟘 ⊕ q) tt;
  }

  nought-adds-up : AddsUp (sum_of [] nought) (ι (pos 0))
  nought-adds-up =
      adds-up-as (sym (rationals.number-whole (pos 0))) (number-adds-up nought (rationals.good-whole (pos 0)))

  atom-adds-up : (t : Term) → P t → AddsUp (sum_of ((one, t) ∷ []) nought) (L.leaf t)
  unfolding weigh
  atom-adds-up t p = record {
    kept = (EntriesFor.entry p (rationals.good-whole (pos 1)) EntriesFor.none, rationals.good-whole (pos 0));
    is =
        derive ℚring (L.leaf t ∷ numberℚ one ∷ numberℚ nought ∷ [])
        (λ t i z. t ≐ (i ⊗ t ⊕ 𝟘) ⊕ z from neg t · i ≐ 𝟙 and neg 𝟙 · z ≐ 𝟘) tt
        (rationals.number-whole (pos 1)) (rationals.number-whole (pos 0));
  }

  plus-adds-up : (s r : Sum) {x y : ℚ} → AddsUp s x → AddsUp r y → AddsUp (plus s r) (x + y)
  plus-adds-up s r {x} {y} h k = record {
    kept = (
      entries_append P s.terms r.terms h.kept.0 k.kept.0,
      rationals.good-add s.constant r.constant h.kept.1 k.kept.1,
    );
    is =
        derive ℚring
        (x ∷ y ∷ weigh L.leaf s.terms ∷ weigh L.leaf r.terms ∷ numberℚ s.constant ∷ numberℚ r.constant
        ∷ weigh L.leaf (s.terms ++ r.terms) ∷ numberℚ (add_q s.constant r.constant) ∷ [])
        (λ x y s r c d w q.
        x ⊕ y ≐ w ⊕ q from 𝟙 · x ≐ s ⊕ c and 𝟙 · y ≐ r ⊕ d and neg 𝟙 · w ≐ s ⊕ r and neg 𝟙 · q ≐ c ⊕ d) tt
        h.is k.is (weigh_append L.leaf s.terms r.terms)
        (rationals.number-add s.constant r.constant h.kept.1 k.kept.1);
  }

  times-adds-up : (q : Rational) → Lowest q → (s : Sum) {x : ℚ} → AddsUp s x → AddsUp (times q s) (numberℚ q * x)
  times-adds-up q lq s {x} h = record {
    kept = (entries-times q lq s.terms h.kept.0, rationals.good-mul q s.constant lq h.kept.1);
    is =
        derive ℚring
        (x ∷ numberℚ q ∷ weigh L.leaf s.terms ∷ numberℚ s.constant
        ∷ weigh L.leaf (times_each q s.terms) ∷ numberℚ (mul_q q s.constant) ∷ [])
        (λ x q s c w d. q ⊗ x ≐ w ⊕ d from q · x ≐ s ⊕ c and neg 𝟙 · w ≐ q ⊗ s and neg 𝟙 · d ≐ q ⊗ c) tt
        h.is (weigh-times L.leaf q lq s.terms h.kept.0)
        (rationals.number-mul q s.constant lq h.kept.1);
  }

  minus-adds-up : (s : Sum) {x : ℚ} → AddsUp s x → AddsUp (times minus_one s) (- x)
  minus-adds-up s {x} h =
      adds-up-as
      (derive ℚring (x ∷ numberℚ minus_one ∷ []) (λ x m. neg x ≐ m ⊗ x from neg x · m ≐ neg 𝟙) tt
      (rationals.number-whole (negsuc 0) ∙ solve ℚring [] (lit (negsuc 0) ≐ neg 𝟙) tt))
      (times-adds-up minus_one (rationals.good-whole (negsuc 0)) s h)

  -- ---- a term is what its sum adds up to

  abbrev Summed : Term → Type 0
  Summed t = (s : Sum) → Linear t s → P t → AddsUp s (L.at t)

  all_summed : (ts : Terms) → Each Summed ts → (s : Sum) → LinearAll ts s → Each P ts → AddsUp s (sum_at L.at ts)
  unfolding sum_at
  all_summed nil ks _ LinearAll.none ps = nought-adds-up
  all_summed (t ▹ ts) (k, ks) _ (LinearAll.next {s = s} {r} h hs) (p, ps) =
      plus-adds-up s r (k s h p) (all_summed ts ks r hs ps)

  summed-step : (t : Term) → Below Summed t → Summed t
  unfolding sum_at
  summed-step t ks _ (Linear.number {q = q} w) p =
      adds-up-as (sym (L.number t p q w)) (number-adds-up q (written-lowest closed t p w))
  summed-step t ks _ (Linear.atom a) p = adds-up-as (L.atom t p a) (atom-adds-up t p)
  summed-step _ ks s (Linear.sum {ts} (is i) h) p =
      adds-up-as (L.sum i ts) (all_summed ts ks s h (closed.below i Add ts p))
  summed-step _ ks _ (Linear.minus {t} {s = s} (is i) h) p =
      adds-up-as (L.negation i (t ▹ nil) refl ∙ solve ℚring (L.at t ∷ []) (λ t. neg (t ⊕ 𝟘) ≐ neg t) tt)
      (minus-adds-up s (ks.0 s h (closed.below i Sub (t ▹ nil) p).0))
  summed-step _ ks _ (Linear.difference {t} {u} {ts = ts} {s} {r} (is i) h k) p =
      let ps = closed.below i Sub (t ▹ u ▹ ts) p in
      adds-up-as (L.difference i (t ▹ u ▹ ts) (at_least-two (size ts)))
      (plus-adds-up s (times minus_one r) (ks.0 s h ps.0)
      (minus-adds-up r (all_summed (u ▹ ts) ks.1 r k ps.1)))
  summed-step _ ks _ (Linear.product_left {a} {b} {q = q} {s} (is i) w h) p =
      let ps = closed.below i Mult (a ▹ b ▹ nil) p in
      adds-up-as
      (L.product i a b q (inl w)
      ∙ derive ℚring (L.at a ∷ L.at b ∷ numberℚ q ∷ []) (λ a b q. a ⊗ b ≐ q ⊗ b from neg b · q ≐ a) tt
      (L.number a ps.0 q w))
      (times-adds-up q (written-lowest closed a ps.0 w) s (ks.1.0 s h ps.1.0))
  summed-step _ ks _ (Linear.product_right {a} {b} {q = q} {s} (is i) w h) p =
      let ps = closed.below i Mult (a ▹ b ▹ nil) p in
      adds-up-as
      (L.product i a b q (inr w)
      ∙ derive ℚring (L.at a ∷ L.at b ∷ numberℚ q ∷ []) (λ a b q. a ⊗ b ≐ q ⊗ a from neg a · q ≐ b) tt
      (L.number b ps.1.0 q w))
      (times-adds-up q (written-lowest closed b ps.1.0 w) s (ks.0 s h ps.0))

  pub adds-up : (t : Term) (s : Sum) → Linear t s → P t → AddsUp s (L.at t)
  adds-up = by_terms Summed summed-step

-- ---- every term has a sum

abbrev pub Formed : Term → Type 0
Formed t = (s : Sum) × Linear t s

all_formed : (ts : Terms) → Each Formed ts → (s : Sum) × LinearAll ts s
all_formed nil fs = (sum_of [] nought, LinearAll.none)
all_formed (t ▹ ts) (f, fs) =
    let h = all_formed ts fs in (plus f.0 h.0, LinearAll.next f.1 h.1)

leaf-formed : (t : Term) → Plain t → Formed t
leaf-formed t h =
    ⊎_elim (λ w. (sum_of [] w.0, Linear.number w.1))
    (λ u. (sum_of ((one, t) ∷ []) nought, Linear.atom (plain-atom t h u))) (written? t)

module _ (i : ℕ) where
  negation-formed : (ts : Terms) → size ts ≡ 1 → Each Formed ts → Formed (op i Sub ts)
  negation-formed nil n fs = absurd (omega arith)
  negation-formed (t ▹ nil) n (f, fs) = (times minus_one f.0, Linear.minus (is i) f.1)
  negation-formed (t ▹ u ▹ ts) n fs = absurd (omega arith)

  difference-formed :
      (ts : Terms) → eqb (size ts) 1 ≡ false → WellFormed (op i Sub ts) → Each Formed ts → Formed (op i Sub ts)
  unfolding WellFormed count_ok when◌then◌else◌ sorts
  difference-formed nil n w fs = never w.0.counted
  difference-formed (t ▹ nil) n w fs = never (sym n)
  difference-formed (t ▹ u ▹ ts) n w (f, fs) =
      let h = all_formed (u ▹ ts) fs in
      (plus f.0 (times minus_one h.0), Linear.difference (is i) f.1 h.1)

  product-formed : (a b : Term) → Formed a → Formed b → Formed (op i Mult (a ▹ b ▹ nil))
  product-formed a b f g =
      ⊎_elim (λ w. (times w.0 g.0, Linear.product_left (is i) w.1 g.1))
      (λ u.
      ⊎_elim (λ w. (times w.0 f.0, Linear.product_right (is i) w.1 f.1))
      (λ v. (sum_of ((one, op i Mult (a ▹ b ▹ nil)) ∷ []) nought, Linear.atom (product-atom i a b u v))) (written? b))
      (written? a)

  arm_formed :
      (o : ℕ) (ts : Terms) → WellFormed (op i o ts) → Each Formed ts → (k : Arm) → Armed o ts k →
      Formed (op i o ts)
  arm_formed o ts w fs Arm.sum (a_sum e) =
      let h = all_formed ts fs in
      let shape : Is Add ts (op i o ts) = rw e (is i) in
      (h.0, Linear.sum shape h.1)
  arm_formed o ts w fs Arm.negation (a_negation e n) = rw e (negation-formed ts n fs)
  arm_formed o ts w fs Arm.difference (a_difference e n) =
      rw e (difference-formed ts n (subst (λ (o : ℕ). WellFormed (op i o ts)) e w) fs)
  arm_formed o ts w fs Arm.product (a_product e n) =
      rw e
      (two-terms (λ ts. Each Formed ts → Formed (op i Mult ts)) ts n
      (λ a b fs. product-formed a b fs.0 fs.1.0) fs)
  arm_formed o ts w fs Arm.leaf (a_leaf a s m) = leaf-formed (op i o ts) (leaf-plain i o ts a s m)

module _ {P : Term → Type 0} (closed : Closed P) where
  mutual
    unfolding as_op

    pub sum_of_lem : (t : Term) → P t → Formed t
    sum_of_lem (integer i z) p = leaf-formed (integer i z) (no_operation (integer i z) refl)
    sum_of_lem (rational i q) p = leaf-formed (rational i q) (no_operation (rational i q) refl)
    sum_of_lem (bitvector i v w) p = leaf-formed (bitvector i v w) (no_operation (bitvector i v w) refl)
    sum_of_lem (atom i s n) p = leaf-formed (atom i s n) (no_operation (atom i s n) refl)
    sum_of_lem (op i o ts) p =
        arm_formed i o ts (closed.formed (op i o ts) p) (sums_of ts (closed.below i o ts p)) (arm_of o ts) (armed o ts)

    sums_of : (ts : Terms) → Each P ts → Each Formed ts
    sums_of nil ps = tt
    sums_of (t ▹ ts) (p, ps) = (sum_of_lem t p, sums_of ts ps)
