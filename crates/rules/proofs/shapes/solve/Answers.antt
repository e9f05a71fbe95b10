-- The whole has a record, its operator is the equation's, and then its arguments get their names.
use borrow.Author.Rules.{rules}
use mathlib.Core.Path.{refl}
use Rattle.rules.proofs.FormSteps.{no_name, other-operator, by_parts}
use Rattle.rules.proofs.shapes.solve.Goals as goal
use Rattle.rules.proofs.shapes.solve.Goals.{then-n-w-via-then-n-w, then-n-w-via-else-n-w+then-operator-e}

pub returns-then-n-w : goal.returns-then-n-w
returns-then-n-w c = (
  tt,
  λ d.
      elim c.then-n-w.branch [
        | then-n-w-via-then-n-w w ↦
            no_name _ d _ c.args.names.now c.args.e.now c.wide-w.ensures.0 w.if-n-w.true
        | then-n-w-via-else-n-w+then-operator-e w ↦
            other-operator _ d _ c.args.names.now c.args.e.now c.wide-w.ensures.0 w.if-n-w.false (search rules) refl
            w.operator.ensures (search rules)
      ],
)

pub returns : goal.returns
returns c = (
  search rules,
  λ d.
      by_parts _ d _ c.args.names.now c.args.e.now c.wide-w.ensures.0 (search rules) (search rules) refl
      c.operator.ensures c.args-2.result.now (search rules) c.args-2.ensures.terms (c.bind_all.ensures.1 _ d),
)
