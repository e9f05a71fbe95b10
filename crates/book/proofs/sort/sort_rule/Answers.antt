-- `takes` decides between the two answers.
use Rattle.book.specs.Memory.Sorting.{sort_rule}
use Rattle.book.proofs.sort.sort_rule.Goals as goal

pub returns-then-takes : goal.returns-then-takes
unfolding sort_rule
returns-then-takes c = rw (← c.takes.ensures, c.if-takes.true, c.gives.ensures)

pub returns-else-takes : goal.returns-else-takes
unfolding sort_rule
returns-else-takes c = rw (← c.takes.ensures, c.if-takes.false)
