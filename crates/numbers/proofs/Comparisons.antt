-- How the tests on pairs hang together, as equations of Bools: `=` is `<=` both ways, and `<` is the negation of `<=` the other
-- way. So what a comparison says and what its negation says are read off from one test.
--     less_eq_p-true, of_less_eq_p, less_p-true, of_less_p, eq_p-true, of_eq_p, eq_p-refl       a test and what it tests
--     eq_p-both, less_p-not, less_eq_p-not, less_eq_p-total       the tests among each other
use mathlib.Core.Path.{◌≡◌, refl, sym, ◌∙◌, ap}
use mathlib.Core.Bool.{Bool, true, false, not, ◌&&◌, ◌||◌, not-not}
use mathlib.Core.Logic.{inl, inr, ⊎_elim}
use lib.IntN.{pos, ◌*ℤ◌}
use lib.Signed.{le_z_yes, lt_z_yes, clash_ℤ}
use Rattle.numbers.specs.Pair.{Pair, eq_p, less_p, less_eq_p, ◌≈◌, ◌≤P◌, ◌<P◌}
use Rattle.numbers.proofs.Truths.{both, T_true, true-T, same_test, opposite-test}
use Rattle.numbers.proofs.Rationals.{eq_z-eq, eq_z-refl}
use Rattle.numbers.proofs.Pairs.{≤P_or_<P, ≤P_antisymm, ≤P_of_≈, ≤P_of_<P}

-- ---- a test and what it tests

module _ (a b : Pair) where
  pub less_eq_p-true : a ≤P b → less_eq_p a b ≡ true
  less_eq_p-true h = T_true (less_eq_p a b) h.le

  pub of_less_eq_p : less_eq_p a b ≡ true → a ≤P b
  of_less_eq_p e = le_z_yes (true-T e)

  pub less_p-true : a <P b → less_p a b ≡ true
  less_p-true h = T_true (less_p a b) h.lt

  pub of_less_p : less_p a b ≡ true → a <P b
  of_less_p e = lt_z_yes (true-T e)

  pub eq_p-true : a ≈ b → eq_p a b ≡ true
  eq_p-true h = rw h (eq_z-refl (b.num *ℤ pos a.den))

  pub of_eq_p : eq_p a b ≡ true → a ≈ b
  of_eq_p e = eq_z-eq (a.num *ℤ pos b.den) (b.num *ℤ pos a.den) e

pub eq_p-refl : (a : Pair) → eq_p a a ≡ true
eq_p-refl a = eq_p-true a a refl

-- ---- the tests among each other

module _ (a b : Pair) where
  pub eq_p-both : eq_p a b ≡ (less_eq_p a b && less_eq_p b a)
  eq_p-both =
      same_test (eq_p a b) (less_eq_p a b && less_eq_p b a)
      (λ e.
      let h = of_eq_p a b e in
      rw (less_eq_p-true a b (≤P_of_≈ a b h)) (less_eq_p-true b a (≤P_of_≈ b a (sym h))))
      (λ e.
      let h = both (less_eq_p a b) (less_eq_p b a) e in
      eq_p-true a b (≤P_antisymm a b (of_less_eq_p a b h.0) (of_less_eq_p b a h.1)))

  pub less_eq_p-not : less_eq_p a b ≡ not (less_p b a)
  less_eq_p-not =
      opposite-test (less_eq_p a b) (less_p b a) (λ e f. clash_ℤ (of_less_p b a f) (of_less_eq_p a b e))
      (⊎_elim (λ h. inl (less_eq_p-true a b h)) (λ h. inr (less_p-true b a h)) (≤P_or_<P a b))

  pub less_p-not : less_p b a ≡ not (less_eq_p a b)
  less_p-not = sym (not-not (less_p b a)) ∙ ap not (sym less_eq_p-not)

  pub less_eq_p-total : (less_eq_p a b || less_eq_p b a) ≡ true
  less_eq_p-total =
      ⊎_elim (λ h. rw (less_eq_p-true a b h)) (λ h. go (less_eq_p a b) (less_eq_p b a) (less_eq_p-true b a (≤P_of_<P b a h)))
      (≤P_or_<P a b)
    where
      go : (s t : Bool) → t ≡ true → (s || t) ≡ true
      go true t e = refl
      go false t e = e
