-- The arms of the `match` are the tests of the definition, made of the same byte.
use native.Mathlib.Omega.{arith}
use borrow.Author.Tests.{ne_eqb}
use Rattle.numbers.specs.Choice.{when◌then◌else◌}
use Rattle.book.proofs.sort.atom_code.Goals as goal

pub returns-in-2 : goal.returns-in-2
unfolding when◌then◌else◌
returns-in-2 c = rw (← c.byte.ensures, c.in-2.is)

pub returns-in-3 : goal.returns-in-3
unfolding when◌then◌else◌
returns-in-3 c = rw (← c.byte.ensures, c.in-3.is)

pub returns-in-4 : goal.returns-in-4
unfolding when◌then◌else◌
returns-in-4 c = rw (← c.byte.ensures, c.in-4.is) c.width_code.ensures

pub returns-in_default : goal.returns-in_default
unfolding when◌then◌else◌
returns-in_default c =
    let s = c.byte.result in
    rw (← c.byte.ensures, ne_eqb s 2 (λ e. omega arith), ne_eqb s 3 (λ e. omega arith), ne_eqb s 4 (λ e. omega arith))
