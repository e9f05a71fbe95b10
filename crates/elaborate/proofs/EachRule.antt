-- The laws of each rule. A rule that is added has its record here, and the theorems on runs stay as they are.
use Rattle.runs.specs.declared.rule.Rule.{Rule}
use Rattle.runs.specs.declared.rule.Rule.TheVariants.{PolySimpRel, PolySimp, BoundedFarkas, LaGeneric, LaTautology}
use Rattle.runs.specs.declared.rule.Rule.TheVariants.{LaTotality, LaDisequality, LaRwEq, Assume}
use mathlib.Core.List.{List}
use Rattle.terms.specs.Term.{Term}
use Rattle.rules.specs.Shapes.{Clause}
use Rattle.elaborate.proofs.RuleLaws.{RuleLaws}
use Rattle.elaborate.proofs.ShapeLaws.{assume-laws, rw_eq-laws, disequality-laws, totality-laws}
use Rattle.elaborate.proofs.LinearLaws.{tautology-laws, generic_laws, farkas_laws}
use Rattle.elaborate.proofs.PolynomialLaws.{poly-simp-laws, poly-simp_rel_laws}

pub laws : (r : Rule) (ps : List Clause) (c : Clause) (args : List Term) → RuleLaws r ps c args
laws Assume = assume-laws
laws LaRwEq = rw_eq-laws
laws LaDisequality = disequality-laws
laws LaTotality = totality-laws
laws LaTautology = tautology-laws
laws LaGeneric = generic_laws
laws BoundedFarkas = farkas_laws
laws PolySimp = poly-simp-laws
laws PolySimpRel = poly-simp_rel_laws
