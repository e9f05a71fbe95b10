-- The test of the atoms is the definition's; where it fails the disequality stays as it is.
use mathlib.Core.Path.{sym, ◌∙◌}
use Rattle.index_map.proofs.StoredEntries.{kept-entries}
use Rattle.process_disequality.specs.ProcessDisequality.{strengthened}
use Rattle.process_disequality.proofs.process_disequality.strengthened.Goals as goal

pub returns-then-all_int-clause-value : goal.returns-then-all_int-clause-value
returns-then-all_int-clause-value c b s k l =
    let stronger = rw c.area.ensures at c.strengthen.ensures.value in
    rw (sym (c.all_int.ensures b s k) ∙ c.if-all_int.true, strengthened) (stronger b k l)

pub returns-clause-value : goal.returns-clause-value
returns-clause-value c b s k l = (
  rw (sym (c.all_int.ensures b s k) ∙ c.if-all_int.false, strengthened, kept-entries k),
  record { size = k.size; proper = c.requires.1.1.0 },
)
