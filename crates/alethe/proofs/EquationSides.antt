-- The sorts of the two sides of a well-formed equation (`equation-sides`): both are bit-vectors of one width, or
-- neither is one; and with the left side the right is a number (`equation_numeric`).
use mathlib.Core.Path.{◌≡◌, refl, sym, subst}
use mathlib.Core.Bool.{Bool, true, false, ◌||◌}
use mathlib.Core.Logic.{◌⊎◌, inl, inr, ⊎_elim}
use mathlib.Core.List.{[], ◌∷◌}
use Prim.Native.Nat.{ℕ, ◌≤◌, ◌+◌}
use native.Mathlib.Omega.{arith}
use borrow.Author.Tests.{eqb-true}
use Rattle.terms.specs.Operator.{Equals}
use Rattle.terms.specs.Term.{Sort, Term, sort, sorts, same_sort, sort_code, is_numeric, is_bits, all, takes}
use Rattle.numbers.specs.Choice.{when◌then◌else◌}
use Rattle.terms.specs.Term.Sort.{bool, int, real, bits}
use Rattle.terms.specs.Term.Term.{op}
use Rattle.terms.specs.Term.Terms.{nil, ◌▹◌}
use Rattle.numbers.proofs.Truths.{both, never}
use Rattle.book.proofs.WellFormed.{WellFormed}
use Rattle.book.proofs.Vectors.{width_positive, argument-sort}

either : (x y : Bool) → (x || y) ≡ true → (x ≡ true) ⊎ (y ≡ true)
either true y e = inl refl
either false y e = inr e

pub data Sides : Sort → Sort → Type 0 where
  no_vectors : {a b : Sort} → is_bits a ≡ false → is_bits b ≡ false → Sides a b
  vectors : (w : ℕ) → 1 ≤ w → Sides (bits w) (bits w)

-- a sort is no vector, and its code is below those of vectors
no_vector-sides :
    (a b : Sort) → is_bits a ≡ false → sort_code a ≤ 3 → ((w : ℕ) → b ≡ bits w → 1 ≤ w) →
    (same_sort a b ≡ true) ⊎ (is_numeric b ≡ true) → Sides a b
no_vector-sides a bool p c q e = no_vectors p refl
no_vector-sides a int p c q e = no_vectors p refl
no_vector-sides a real p c q e = no_vectors p refl
no_vector-sides a (bits w) p c q (inl e) = absurd (omega (arith, eqb-true (sort_code a) (3 + w) e, q w refl))
no_vector-sides a (bits w) p c q (inr e) = never e

sides :
    (a b : Sort) → ((w : ℕ) → a ≡ bits w → 1 ≤ w) → ((w : ℕ) → b ≡ bits w → 1 ≤ w) →
    (same_sort a b ≡ true) ⊎ ((is_numeric a ≡ true) × (is_numeric b ≡ true)) → Sides a b
sides bool b p q e = no_vector-sides bool b refl (omega arith) q (⊎_elim inl (λ h. inr h.1) e)
sides int b p q e = no_vector-sides int b refl (omega arith) q (⊎_elim inl (λ h. inr h.1) e)
sides real b p q e = no_vector-sides real b refl (omega arith) q (⊎_elim inl (λ h. inr h.1) e)
sides (bits w) b p q (inl e) =
    subst (Sides (bits w)) (sym (argument-sort w (p w refl) b e)) (vectors w (p w refl))
sides (bits w) b p q (inr e) = never e.0

equation-takes :
    (i : ℕ) (t s : Term) → WellFormed (op i Equals (t ▹ s ▹ nil)) →
    (same_sort (sort t) (sort s) ≡ true) ⊎ ((is_numeric (sort t) ≡ true) × (is_numeric (sort s) ≡ true))
unfolding WellFormed takes when◌then◌else◌ sorts all
equation-takes i t s (h, (ht, (hs, u))) =
    ⊎_elim (λ e. inl (both _ true (both (same_sort (sort t) (sort t)) _ e).1).0)
    (λ e. let k = both (is_numeric (sort t)) _ e in inr (k.0, (both (is_numeric (sort s)) true k.1).0))
    (either (all (same_sort (sort t)) (sort t ∷ sort s ∷ [])) _ h.sorted)

pub equation-sides : (i : ℕ) (t s : Term) → WellFormed (op i Equals (t ▹ s ▹ nil)) → Sides (sort t) (sort s)
unfolding WellFormed
equation-sides i t s w =
    sides (sort t) (sort s) (width_positive t w.1.0) (width_positive s w.1.1.0) (equation-takes i t s w)

pub other-side : {a b : Sort} → Sides a b → is_bits a ≡ false → is_bits b ≡ false
other-side (no_vectors ea eb) e = eb
other-side (vectors w l) e = never (sym e)

numeric_side :
    (a b : Sort) → ((w : ℕ) → b ≡ bits w → 1 ≤ w) → (same_sort a b ≡ true) ⊎ (is_numeric b ≡ true) →
    is_numeric a ≡ true →
    is_numeric b ≡ true
numeric_side a b q (inr e) n = e
numeric_side bool b q (inl e) n = never n
numeric_side int bool q (inl e) n = never e
numeric_side int int q (inl e) n = refl
numeric_side int real q (inl e) n = refl
numeric_side int (bits w) q (inl e) n = absurd (omega (arith, eqb-true 2 (3 + w) e))
numeric_side real bool q (inl e) n = never e
numeric_side real int q (inl e) n = refl
numeric_side real real q (inl e) n = refl
numeric_side real (bits w) q (inl e) n = absurd (omega (arith, eqb-true 3 (3 + w) e, q w refl))
numeric_side (bits v) b q (inl e) n = never n

pub equation_numeric :
    (i : ℕ) (t s : Term) → WellFormed (op i Equals (t ▹ s ▹ nil)) → is_numeric (sort t) ≡ true →
    is_numeric (sort s) ≡ true
unfolding WellFormed
equation_numeric i t s w =
    numeric_side (sort t) (sort s) (width_positive s w.1.1.0)
    (⊎_elim inl (λ h. inr h.1) (equation-takes i t s w))
