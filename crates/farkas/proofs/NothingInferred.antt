-- A step of another rule than 6 infers nothing (`infers-nothing`): a number is inferred for a literal without argument
-- alone, and `la_generic` has an argument for each.
use Rattle.runs.specs.declared.rule.Rule.{Rule}
use Rattle.runs.specs.declared.rule.Rule.TheVariants.{PolySimpRel, PolySimp, BoundedFarkas, LaGeneric, LaTautology}
use Rattle.runs.specs.declared.rule.Rule.TheVariants.{LaTotality, LaDisequality, LaRwEq, Assume}
use mathlib.Core.Path.{◌≡◌, refl, sym, ap, ◌∙◌}
use mathlib.Core.Bool.{false}
use Rattle.std.specs.Prelude.{Some}
use mathlib.Core.List.{List, [], ◌∷◌}
use Prim.Native.Nat.{ℕ, suc, ◌≤◌}
use native.Mathlib.Omega.{arith}
use borrow.Author.Tests.{eqb-true}
use lib.Dec.{eqb}
use lib.ListN.{length}
use Rattle.numbers.specs.Rational.{Rational}
use Rattle.numbers.proofs.Truths.{never}
use Rattle.terms.specs.Term.{Term}
use Rattle.terms.specs.Operator.{Equals}
use Rattle.rules.specs.Limits.{Limits}
use Rattle.index_map.specs.IndexMap.{add, new}
use Rattle.index_map.specs.Memory.Entries.{terms}
use Rattle.rules.specs.Shapes.{Clause}
use Rattle.rules.proofs.Yields.{Yields, and_then, past, weaker, guarded}
use Rattle.rules.proofs.Yields.Yields.{gives}
use Rattle.linear_comb.specs.LinearComb.{LinearComb, mul}
use Rattle.disequality.specs.Disequality.{disequality_of}
use Rattle.process_disequality.specs.ProcessDisequality.{Progress, progress, argument_of, process_disequality}
use Rattle.process_disequality.specs.ProcessDisequality.{strengthened, scalar}
use Rattle.linear_arithmetic.specs.LinearArithmetic.{read_args, fold_literals, la_generic_partial, la_generic as generic}
use Rattle.runs.specs.Rule.{is_rule}
use Rattle.runs.specs.Run.{Step}
use Rattle.steps.specs.CheckStep.{check_rule, check_step}

module _ (l : Limits) where
  -- the argument is given
  argument-keeps :
      (p : Progress) (s : LinearComb) (a : Rational) →
      Yields (λ x. x.1 ≡ p.trace) (argument_of l p s (Some a))
  unfolding argument_of
  argument-keeps p s a = gives refl

  literal-keeps :
      (p : Progress) (phi : Term) (a : Rational) →
      Yields (λ q. q.trace ≡ p.trace) (process_disequality l p phi (Some a))
  unfolding process_disequality
  literal-keeps p phi a =
      past (disequality_of l phi p.visits) λ d.
      and_then (argument-keeps p d.sum a) λ (b, trace) same.
      past (strengthened l d.operator d.sum b) λ (o, s).
      past (mul l s (scalar o b)) λ scaled.
      past (add terms l p.acc scaled) λ acc.
      gives same

  fold-keeps :
      (c : Clause) (qs : List Rational) (p : Progress) → length c ≤ length qs →
      Yields (λ q. q.trace ≡ p.trace) (fold_literals l c qs p)
  unfolding fold_literals
  fold-keeps [] qs p h = gives refl
  fold-keeps (phi ∷ c) [] p h = absurd (omega (arith, h))
  fold-keeps (phi ∷ c) (a ∷ qs) p h =
      and_then (literal-keeps p phi a) λ q e. weaker (λ r f. f ∙ e) (fold-keeps c qs q (omega (arith, h)))

  read_length : (args : List Term) → Yields (λ qs. length qs ≡ length args) (read_args l args)
  unfolding read_args
  read_length [] = gives refl
  read_length (a ∷ args) = past _ λ q. and_then (read_length args) λ qs h. gives (ap suc h)

  generic_keeps : (c : Clause) (args : List Term) (n : ℕ) → Yields (λ p. p.trace ≡ []) (generic l c args n)
  unfolding la_generic_partial generic
  generic_keeps c args n =
      guarded (eqb (length args) (length c)) _ λ e u.
      and_then (read_length args) λ qs r.
      and_then (fold-keeps c qs (progress Equals new [] n) (omega (arith, r, eqb-true (length args) (length c) e)))
      λ p f. past _ λ v. gives f

  pub rule-infers-nothing :
      (r : Rule) (ps : List Clause) (c : Clause) (args : List Term) (n : ℕ) → is_rule BoundedFarkas r ≡ false →
      Yields (λ a. a.inferred ≡ []) (check_rule r l ps c args n)
  unfolding check_rule
  rule-infers-nothing Assume ps c args n e = gives refl
  rule-infers-nothing LaRwEq ps c args n e = past _ λ u. gives refl
  rule-infers-nothing LaDisequality ps c args n e = past _ λ u. gives refl
  rule-infers-nothing LaTotality ps c args n e = past _ λ u. gives refl
  rule-infers-nothing LaTautology ps c args n e = past _ λ m. gives refl
  rule-infers-nothing LaGeneric ps c args n e = and_then (generic_keeps c args n) λ p h. gives h
  rule-infers-nothing BoundedFarkas ps c args n e = never (sym e)
  rule-infers-nothing PolySimp ps c args n e = past _ λ m. gives refl
  rule-infers-nothing PolySimpRel ps c args n e = past _ λ u. gives refl

  pub infers-nothing :
      (run : List Step) (s : Step) (n : ℕ) → is_rule BoundedFarkas s.rule ≡ false →
      Yields (λ a. a.inferred ≡ []) (check_step l run s n)
  unfolding check_step
  infers-nothing run s n = rule-infers-nothing s.rule _ s.clause s.args n
