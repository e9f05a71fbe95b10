-- The numbers that a fold over literals infers up to its end or its refusal (`inferred_until`) are those of the progress
-- where it ends (`fold_end` of linear_arithmetic's FoldedSteps).
--     until_ended       from any progress
--     numbers_of, numbers-unread, numbers-ended       those of `bounded_farkas`
use mathlib.Core.Path.{◌≡◌, refl, sym, ap, ◌∙◌}
use mathlib.Core.List.{List, [], ◌∷◌}
use Rattle.std.specs.Prelude.{Option}
use Prim.Native.Nat.{ℕ}
use lib.ListN.{drop}
use Rattle.numbers.specs.Rational.{Rational}
use Rattle.terms.specs.Term.{Term}
use Rattle.rules.specs.Refusal.{Result}
use Rattle.rules.specs.declared.refusal.Refusal.{Refusal}
use Rattle.std.specs.Prelude.{Ok, Err}
use Rattle.rules.specs.Limits.{Limits}
use Rattle.index_map.specs.IndexMap.{new}
use Rattle.rules.specs.Memory.Parts.{terms_in}
use Rattle.rules.specs.Shapes.{Clause}
use Rattle.process_disequality.specs.ProcessDisequality.{Progress, progress, process_disequality}
use Rattle.linear_arithmetic.specs.LinearArithmetic.{read_args}
use Rattle.linear_arithmetic.specs.Memory.LinearSteps.{at}
use Rattle.rules.proofs.Results.{next, ends}
use Rattle.linear_arithmetic.proofs.FoldedSteps.{by_outcome, fold_end, end_by_lem}
use Rattle.linear_arithmetic.proofs.FoldedAreas.{Given, limits_of, clause_of}
use Rattle.linear_arithmetic.proofs.PartialEnd.{partial_end, Ended}
use Rattle.farkas.specs.Memory.FarkasSteps.{inferred_until, farkas_numbers}

module _ (l : Limits) where
  -- by what the first literal does
  abbrev until_by : Clause → List Rational → Progress → Result Progress → List Rational
  until_by clause args p z = elim z [ Ok q ↦ inferred_until l clause (drop 1 args) q | Err r ↦ p.trace ]

  until_by_lem :
      (phi : Term) (clause : Clause) (args : List Rational) (p : Progress) {z : Result Progress} →
      process_disequality l p phi (at args 0) ≡ z → inferred_until l (phi ∷ clause) args p ≡ until_by clause args p z
  unfolding inferred_until
  until_by_lem phi clause [] p e = ap (until_by clause [] p) e
  until_by_lem phi clause (a ∷ args) p e = ap (until_by clause (a ∷ args) p) e

  until_ended :
      (clause : Clause) (args : List Rational) (p : Progress) →
      inferred_until l clause args p ≡ (fold_end l clause args p).0.trace
  unfolding inferred_until fold_end
  until_ended [] args p = refl
  until_ended (phi ∷ clause) args p =
      by_outcome (process_disequality l p phi (at args 0))
      (λ q e.
      until_by_lem phi clause args p e ∙ until_ended clause (drop 1 args) q
      ∙ ap (λ x. x.0.trace) (sym (end_by_lem l phi clause args p e)))
      (λ c e. until_by_lem phi clause args p e ∙ ap (λ x. x.0.trace) (sym (end_by_lem l phi clause args p e)))

  abbrev numbers_by : Clause → ℕ → Result (List Rational) → List Rational
  numbers_by clause n z = elim z [ Ok qs ↦ inferred_until l clause qs (progress 4 new [] n) | Err r ↦ [] ]

  abbrev last_numbers : Result (Progress × Option Refusal) → List Rational
  last_numbers z = elim z [ Ok e ↦ e.0.trace | Err r ↦ [] ]

  numbers_by_lem :
      (clause : Clause) (args : List Term) (n : ℕ) →
      farkas_numbers l clause args n ≡ last_numbers (partial_end l clause args n)
  unfolding farkas_numbers
  numbers_by_lem clause args n =
      by_outcome (read_args l args)
      (λ qs e.
      ap (numbers_by clause n) e ∙ until_ended clause qs (progress 4 new [] n) ∙ ap last_numbers (sym (next _ e)))
      (λ c e. ap (numbers_by clause n) e ∙ ap last_numbers (sym (ends _ e)))

  pub numbers-unread :
      (clause : Clause) (args : List Term) (n : ℕ) (c : Refusal) → read_args l args ≡ Err c →
      farkas_numbers l clause args n ≡ []
  numbers-unread clause args n c e = numbers_by_lem clause args n ∙ ap last_numbers (ends _ e)

abbrev pub numbers_of : Given → ℕ → List Rational
numbers_of g v = farkas_numbers (limits_of g) (clause_of g) (terms_in g.book g.args) v

-- where the loop ends
pub numbers-ended : {g : Given} {v : ℕ} {t : List Rational} → Ended g v t → numbers_of g v ≡ t
numbers-ended {g} {v} e =
    numbers_by_lem (limits_of g) (clause_of g) (terms_in g.book g.args) v ∙ ap (last_numbers (limits_of g)) e.is
    ∙ e.trace
