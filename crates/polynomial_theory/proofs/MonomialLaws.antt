-- The value of a monomial in a ring, under values of its atoms: their product. Putting an atom at its place
-- multiplies by its value, and joining two monomials multiplies theirs (`place-value`, `joined-value`),
-- with no atoms but theirs (`place-known`, `joined-known`). Monomials that the definition takes for the
-- same have one value, where atoms of one record number have (`same_monomial-value`).
use mathlib.Core.Path.{◌≡◌, refl, sym, ◌∙◌, ap, ap₂}
use mathlib.Core.Bool.{Bool, true, false}
use mathlib.Core.List.{[], ◌∷◌}
use lib.Dec.{ltb}
use lib.IntN.{pos}
use Rattle.terms.specs.Term.{Term, same, record_number}
use Rattle.numbers.proofs.Ring.{Ring, solve, ◌⊗◌, ◌≐◌}
use Rattle.numbers.proofs.Truths.{both, never}
use Rattle.polynomial.specs.Polynomial.{Monomial, same_monomial, place, joined}
use Rattle.rules.proofs.Valuations.{Respects}

-- ---- which atoms there are

module _ (Known : Term → Type 0) where
  abbrev pub AllKnown : Monomial → Type 0
  AllKnown [] = Unit {0}
  AllKnown (a ∷ m) = Known a × AllKnown m

  pub place-known : (t : Term) (m : Monomial) → Known t → AllKnown m → AllKnown (place t m)
  unfolding place
  place-known t [] k h = (k, tt)
  place-known t (a ∷ m) k h = go (ltb (record_number t) (record_number a)) (place-known t m k h.1)
    where
      go : (b : Bool) → AllKnown (place t m) → AllKnown (elim b [ true ↦ t ∷ a ∷ m | false ↦ a ∷ place t m ])
      go true r = (k, h)
      go false r = (h.0, r)

  pub joined-known : (m n : Monomial) → AllKnown m → AllKnown n → AllKnown (joined m n)
  unfolding joined
  joined-known m [] h k = h
  joined-known m (a ∷ n) h k = joined-known (place a m) n (place-known a m k.0 h) k.1

-- ---- the value

module _ (R : Ring) (v : Term → R.carrier) where
  open R use {carrier, mul as ◌*◌, ι}

  infixl 7 ◌*◌
  unfoldable pub monomial : Monomial → carrier
  monomial [] = ι (pos 1)
  monomial (a ∷ m) = v a * monomial m

  pub atom-value : (t : Term) → monomial (t ∷ []) ≡ v t
  unfolding monomial
  atom-value t = R.mul-one (v t)

  pub place-value : (t : Term) (m : Monomial) → monomial (place t m) ≡ v t * monomial m
  unfolding monomial place
  place-value t [] = refl
  place-value t (a ∷ m) = go (ltb (record_number t) (record_number a)) (place-value t m)
    where
      go :
          (b : Bool) → monomial (place t m) ≡ v t * monomial m →
          monomial (elim b [ true ↦ t ∷ a ∷ m | false ↦ a ∷ place t m ]) ≡ v t * (v a * monomial m)
      go true h = refl
      go false h =
          ap (◌*◌ (v a)) h ∙ solve R (v a ∷ v t ∷ monomial m ∷ []) (λ a t m. a ⊗ (t ⊗ m) ≐ t ⊗ (a ⊗ m)) tt

  pub joined-value : (m n : Monomial) → monomial (joined m n) ≡ monomial m * monomial n
  unfolding monomial joined
  joined-value m [] = sym (R.mul-one (monomial m))
  joined-value m (a ∷ n) =
      joined-value (place a m) n
      ∙ ap (λ (x : carrier). x * monomial n) (place-value a m)
      ∙ solve R (v a ∷ monomial m ∷ monomial n ∷ []) (λ a m n. a ⊗ m ⊗ n ≐ m ⊗ (a ⊗ n)) tt

  module _ (Known : Term → Type 0) (respects : Respects Known v) where
    pub same_monomial-value :
        (m n : Monomial) → AllKnown Known m → AllKnown Known n → same_monomial m n ≡ true →
        monomial m ≡ monomial n
    unfolding monomial same_monomial
    same_monomial-value [] [] h k e = refl
    same_monomial-value [] (b ∷ n) h k e = never e
    same_monomial-value (a ∷ m) [] h k e = never e
    same_monomial-value (a ∷ m) (b ∷ n) h k e =
        let t = both (same a b) (same_monomial m n) e in
        ap₂ ◌*◌ (respects a b h.0 k.0 t.0) (same_monomial-value m n h.1 k.1 t.1)
