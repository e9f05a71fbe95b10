-- A term that is no operation is read as it stands.
use mathlib.Core.Path.{sym, ◌∙◌}
use Rattle.terms.specs.Readers.{ranged}
use Rattle.terms.proofs.Readings.{plain-fraction}
use Rattle.terms.proofs.term.as_fraction.Goals as goal

pub returns-then-operator-eq-NO_OPERATOR : goal.returns-then-operator-eq-NO_OPERATOR
returns-then-operator-eq-NO_OPERATOR c =
    let none = sym c.operator.ensures ∙ c.if-operator-eq-NO_OPERATOR.true in
    rw (plain-fraction ranged _ none) c.as_number.ensures

pub returns : goal.returns
returns c = c.as_operation.ensures
