use mathlib.Core.Path.{◌∙◌}
use native.Mathlib.Omega.{arith}
use borrow.Author.Rules.{rules}
use Rattle.numbers.proofs.LittleEndian.{le_below}
use Rattle.polynomial.proofs.PlacedAtoms.{join_more, join-end}
use Rattle.polynomial.proofs.monomials.join.Goals as goal

pub put_atom-requires : goal.put_atom-requires
put_atom-requires c =
    let inv = c.loop-k.invariant in (
      inv.size ∙ c.requires.0.0,
      (
        omega (arith, inv.count),
        rw c.read_u16.ensures (le_below 2 _ _ (λ j. omega (arith, c.type_inv.other j))),
      ),
    )

pub loop-k-preserved : goal.loop-k-preserved
loop-k-preserved c =
    join_more c.loop-k.invariant c.loop-k-test.true (search rules) c.read_u16.ensures (search rules)
    c.put_atom.ensures.key_after c.put_atom.ensures.key

pub returns : goal.returns
returns c = join-end c.loop-k.invariant c.loop-k-test.false
