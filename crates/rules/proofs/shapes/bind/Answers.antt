-- The name has a record, or is the next, or neither.
use borrow.Author.Rules.{rules}
use native.Mathlib.Omega.{arith}
use Rattle.rules.proofs.FormSteps.{bound-again, bound-other, bound-next, not-bound}
use Rattle.rules.proofs.shapes.bind.Goals as goal

pub returns-then-names-k : goal.returns-then-names-k
returns-then-names-k c =
    (search rules, λ b d. bound-again b d _ _ _ c.args.names.now (search rules) (search rules) (search rules))

pub returns-else-names-k : goal.returns-else-names-k
returns-else-names-k c =
    (search rules, λ b d. bound-other b d _ _ _ c.args.names.now (search rules) (search rules) (search rules))

pub returns-then-k-lt-MAX_NAMES : goal.returns-then-k-lt-MAX_NAMES
returns-then-k-lt-MAX_NAMES c =
    (search rules, λ b d. bound-next b d _ _ _ c.args.names.now (search rules) (search rules) (search rules))

pub returns : goal.returns
returns c = (
  search rules,
  λ b d. not-bound b d _ _ _ c.args.names.now (search rules) (λ e h. omega (arith, c.else-k-n-2.either)),
)
