-- The arms of the `match` are the tests of the definition, made of the record's first byte.
use native.Mathlib.Omega.{arith}
use borrow.Author.Tests.{ne_eqb}
use Rattle.numbers.specs.Choice.{when◌then◌else◌}
use Rattle.book.specs.Memory.Sorting.{sorting}
use Rattle.book.proofs.SortCodes.{operation-sorted}
use Rattle.book.proofs.sort.sort_of.Goals as goal

pub returns-in-1 : goal.returns-in-1
unfolding sorting when◌then◌else◌
returns-in-1 c = rw (← c.byte.ensures, c.in-1.is)

pub returns-in-2 : goal.returns-in-2
unfolding sorting when◌then◌else◌
returns-in-2 c = rw (← c.byte.ensures, c.in-2.is)

pub returns-in-3 : goal.returns-in-3
unfolding sorting when◌then◌else◌
returns-in-3 c = rw (← c.byte.ensures, c.in-3.is, c.width_code.ensures)

pub returns-in-5 : goal.returns-in-5
returns-in-5 c =
    operation-sorted _ _ _ _ _ _ _ _ c.byte.ensures c.in-5.is
    c.byte-in-5.ensures c.arg_bytes.ensures c.common.ensures c.sort_rule.ensures

pub returns-in_default : goal.returns-in_default
unfolding sorting when◌then◌else◌
returns-in_default c =
    let k = c.byte.result in
    rw (← c.byte.ensures, ne_eqb k 1 (λ e. omega arith), ne_eqb k 2 (λ e. omega arith))
    (rw (ne_eqb k 3 (λ e. omega arith), ne_eqb k 5 (λ e. omega arith), c.atom_code.ensures))
