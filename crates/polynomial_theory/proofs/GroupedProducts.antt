-- Lists of products with equal coefficients amount to the same, in any ring where atoms of one record number have
-- one value (`amounts-equal`): the products with the atoms of the first one are taken together, in both lists, and
-- the others are shorter lists with equal coefficients.
use mathlib.Core.Path.{◌≡◌, refl, sym, ◌∙◌, ap}
use mathlib.Core.Bool.{Bool, true, false, ◌||◌}
use mathlib.Core.List.{List, [], ◌∷◌}
use Prim.Native.Nat.{ℕ, zero, suc, ◌+◌ as ◌+ℕ◌, ◌≤◌}
use native.Mathlib.Omega.{arith}
use lib.IntN.{pos}
use lib.ListN.{length}
use Rattle.numbers.specs.Rational.{Rational, add_q}
use Rattle.terms.specs.Term.{Term, same}
use Rattle.numbers.proofs.Ring.{Ring, ◌⊕◌, ◌⊗◌, neg, 𝟘, 𝟙, ◌≐◌, ◌·◌, ◌and◌, ◌from◌, derive}
use Rattle.numbers.proofs.Truths.{both, never}
use Rattle.alethe.specs.AletheTerms.{Products, nought, without, occurs, same_atoms, coefficient_in}
use Rattle.rules.proofs.Valuations.{Valuation, Respects}
use Rattle.alethe.proofs.Exponents.{same_atoms-refl, same_atoms-sym, same_atoms_like}
use Rattle.polynomial_theory.proofs.MonomialLaws.{AllKnown, monomial}
use Rattle.polynomial_theory.proofs.Expansions.{ProductsOf, amount}
use Rattle.polynomial_theory.proofs.Coefficients.{counted, coefficient-good}

-- ---- the products with other atoms

-- m with e before it, unless e has the atoms in question
abbrev unless_same : Rational × List Term → Products → Bool → Products
unless_same e m b = elim b as (λ z. Products) [ true ↦ m | false ↦ e ∷ m ]

unfoldable pub others : List Term → Products → Products
others ts [] = []
others ts (e ∷ m) = elim (same_atoms e.1 ts) [ true ↦ others ts m | false ↦ e ∷ others ts m ]

others-shorter : (ts : List Term) (m : Products) → length (others ts m) ≤ length m
unfolding others
others-shorter ts [] = omega arith
others-shorter ts (e ∷ m) = go (same_atoms e.1 ts) (others-shorter ts m)
  where
    go : (b : Bool) → length (others ts m) ≤ length m →
        length (unless_same e (others ts m) b) ≤ suc (length m)
    go true h = omega arith
    go false h = omega arith

others_first : (e : Rational × List Term) (m : Products) → others e.1 (e ∷ m) ≡ others e.1 m
unfolding others
others_first e m =
    ap (unless_same e (others e.1 m)) (same_atoms-refl e.1)

module _ (ts us : List Term) where
  others_none : same_atoms us ts ≡ true → (m : Products) → coefficient_in us (others ts m) ≡ nought
  unfolding others coefficient_in
  others_none s [] = refl
  others_none s (e ∷ m) = go (same_atoms e.1 ts) (same_atoms_like us ts e.1 s) (others_none s m)
    where
      go : (b : Bool) → same_atoms e.1 us ≡ b → coefficient_in us (others ts m) ≡ nought →
          coefficient_in us (unless_same e (others ts m) b) ≡ nought
      go true h k = k
      go false h k = ap (counted e (coefficient_in us (others ts m))) h ∙ k

  others-kept : same_atoms us ts ≡ false → (m : Products) → coefficient_in us (others ts m) ≡ coefficient_in us m
  unfolding others coefficient_in
  others-kept s [] = refl
  others-kept s (e ∷ m) = go (same_atoms e.1 ts) refl (others-kept s m)
    where
      apart : same_atoms e.1 ts ≡ true → (b : Bool) → same_atoms e.1 us ≡ b → b ≡ false
      apart h true k = sym (same_atoms-sym us e.1 ∙ k) ∙ same_atoms_like e.1 ts us h ∙ s
      apart h false k = refl

      go : (b : Bool) → same_atoms e.1 ts ≡ b → coefficient_in us (others ts m) ≡ coefficient_in us m →
          coefficient_in us (unless_same e (others ts m) b) ≡ counted e (coefficient_in us m) (same_atoms e.1 us)
      go true h k = k ∙ ap (counted e (coefficient_in us m)) (sym (apart h (same_atoms e.1 us) refl))
      go false h k = ap (λ (c : Rational). counted e c (same_atoms e.1 us)) k

-- ---- in a ring

module _ {R : Ring} (N : Valuation R) (P : Term → Type 0) (v : Term → R.carrier) (respects : Respects P v) where
  open R use {carrier, add as ◌+◌, mul as ◌*◌, ι}

  infixl 6 ◌+◌
  infixl 7 ◌*◌
  abbrev mono : List Term → carrier
  mono = monomial R v

  abbrev Good : Products → Type 0
  Good = ProductsOf P N.Good

  without-known : (t : Term) (us : List Term) → AllKnown P us → AllKnown P (without t us)
  unfolding without
  without-known t [] h = tt
  without-known t (u ∷ us) h = go (same t u) (without-known t us h.1)
    where
      go : (b : Bool) → AllKnown P (without t us) →
          AllKnown P (elim b as (λ z. List Term) [ true ↦ us | false ↦ u ∷ without t us ])
      go true k = h.1
      go false k = (h.0, k)

  without-value : (t : Term) → P t → (us : List Term) → AllKnown P us → occurs t us ≡ true →
      mono us ≡ v t * mono (without t us)
  unfolding without occurs monomial
  without-value t p [] h e = never e
  without-value t p (u ∷ us) h e = go (same t u) refl e (without-value t p us h.1)
    where
      go : (b : Bool) → same t u ≡ b → (b || occurs t us) ≡ true →
          (occurs t us ≡ true → mono us ≡ v t * mono (without t us)) →
          v u * mono us ≡ v t * mono (elim b as (λ z. List Term) [ true ↦ us | false ↦ u ∷ without t us ])
      go true s e k = ap (λ (x : carrier). x * mono us) (sym (respects t u p h.0 s))
      go false s e k =
          derive R (v u ∷ v t ∷ mono us ∷ mono (without t us) ∷ [])
          (λ u t m w. u ⊗ m ≐ t ⊗ (u ⊗ w) from u · m ≐ t ⊗ w) tt (k e)

  same-value : (ts us : List Term) → AllKnown P ts → AllKnown P us → same_atoms ts us ≡ true → mono ts ≡ mono us
  unfolding same_atoms monomial
  same-value [] [] h k e = refl
  same-value [] (u ∷ us) h k e = never e
  same-value (t ∷ ts) us h k e =
      let b = both (occurs t us) (same_atoms ts (without t us)) e in
      ap (◌*◌ (v t)) (same-value ts (without t us) h.1 (without-known t us k) b.1)
      ∙ sym (without-value t h.0 us k b.0)

  others-good : (ts : List Term) (m : Products) → Good m → Good (others ts m)
  unfolding others
  others-good ts [] g = tt
  others-good ts (e ∷ m) (ge, g) = go (same_atoms e.1 ts) (others-good ts m g)
    where
      go : (b : Bool) → Good (others ts m) → Good (unless_same e (others ts m) b)
      go true h = h
      go false h = (ge, h)

  -- what the products with the atoms ts amount to, and what the others do
  split : (ts : List Term) → AllKnown P ts → (m : Products) → Good m →
      amount N v m ≡ N.number (coefficient_in ts m) * mono ts + amount N v (others ts m)
  unfolding amount others coefficient_in
  split ts k [] g =
      derive R (N.number nought ∷ mono ts ∷ []) (λ n t. 𝟘 ≐ n ⊗ t ⊕ 𝟘 from neg t · n ≐ 𝟘) tt
      (N.number-whole (pos 0))
  split ts k (e ∷ m) (ge, g) = go (same_atoms e.1 ts) refl (split ts k m g)
    where
      go : (b : Bool) → same_atoms e.1 ts ≡ b →
          amount N v m ≡ N.number (coefficient_in ts m) * mono ts + amount N v (others ts m) →
          N.number e.0 * mono e.1 + amount N v m
          ≡ N.number (counted e (coefficient_in ts m) b) * mono ts
          + amount N v (unless_same e (others ts m) b)
      go true s h =
          derive R
          (N.number e.0 ∷ mono e.1 ∷ mono ts ∷ N.number (coefficient_in ts m)
          ∷ N.number (add_q e.0 (coefficient_in ts m)) ∷ amount N v m ∷ amount N v (others ts m) ∷ [])
          (λ q x t c s m o.
          q ⊗ x ⊕ m ≐ s ⊗ t ⊕ o from 𝟙 · m ≐ c ⊗ t ⊕ o and neg t · s ≐ q ⊕ c and q · x ≐ t) tt
          h (N.number-add e.0 (coefficient_in ts m) ge.good (coefficient-good N P ts m g))
          (same-value e.1 ts ge.known k s)
      go false s h =
          derive R
          ((N.number e.0 * mono e.1) ∷ (N.number (coefficient_in ts m) * mono ts)
          ∷ amount N v m ∷ amount N v (others ts m) ∷ [])
          (λ e c m o. e ⊕ m ≐ c ⊕ (e ⊕ o) from 𝟙 · m ≐ c ⊕ o) tt h

  -- ---- equal coefficients

  abbrev Alike : Products → Products → Type 0
  Alike m n = (us : List Term) → N.number (coefficient_in us m) ≡ N.number (coefficient_in us n)

  others-alike : (ts : List Term) (m n : Products) → Alike m n → Alike (others ts m) (others ts n)
  others-alike ts m n h us = go (same_atoms us ts) refl
    where
      go : (b : Bool) → same_atoms us ts ≡ b →
          N.number (coefficient_in us (others ts m)) ≡ N.number (coefficient_in us (others ts n))
      go true s = ap N.number (others_none ts us s m ∙ sym (others_none ts us s n))
      go false s = ap N.number (others-kept ts us s m) ∙ h us ∙ ap N.number (sym (others-kept ts us s n))

  by_split : (ts : List Term) → AllKnown P ts → (m n : Products) → Good m → Good n → Alike m n →
      amount N v (others ts m) ≡ amount N v (others ts n) → amount N v m ≡ amount N v n
  by_split ts k m n gm gn h e =
      derive R
      (amount N v m ∷ amount N v n ∷ amount N v (others ts m) ∷ amount N v (others ts n)
      ∷ N.number (coefficient_in ts m) ∷ N.number (coefficient_in ts n) ∷ mono ts ∷ [])
      (λ m n p q c d t.
      m ≐ n from 𝟙 · m ≐ c ⊗ t ⊕ p and neg 𝟙 · n ≐ d ⊗ t ⊕ q and t · c ≐ d and 𝟙 · p ≐ q) tt
      (split ts k m gm) (split ts k n gn) (h ts) e

  within : (k : ℕ) (m n : Products) → length m +ℕ length n ≤ k → Good m → Good n → Alike m n →
      amount N v m ≡ amount N v n
  within zero [] [] l gm gn h = refl
  within zero [] (f ∷ n) l gm gn h = absurd (omega arith)
  within zero (e ∷ m) n l gm gn h = absurd (omega arith)
  within (suc k) [] [] l gm gn h = refl
  within (suc k) [] (f ∷ n) l gm gn h =
      by_split f.1 gn.0.known [] (f ∷ n) gm gn h
      (within k (others f.1 []) (others f.1 (f ∷ n))
      (rw (others_first f n) (let a = others-shorter f.1 [] in let b = others-shorter f.1 n in omega arith))
      (others-good f.1 [] gm) (others-good f.1 (f ∷ n) gn) (others-alike f.1 [] (f ∷ n) h))
  within (suc k) (e ∷ m) n l gm gn h =
      by_split e.1 gm.0.known (e ∷ m) n gm gn h
      (within k (others e.1 (e ∷ m)) (others e.1 n)
      (rw (others_first e m) (let a = others-shorter e.1 m in let b = others-shorter e.1 n in omega arith))
      (others-good e.1 (e ∷ m) gm) (others-good e.1 n gn) (others-alike e.1 (e ∷ m) n h))

  pub amounts-equal : (m n : Products) → Good m → Good n → Alike m n → amount N v m ≡ amount N v n
  amounts-equal m n = within (length m +ℕ length n) m n (omega arith)
