-- Each return is a case of MonomialEntry: nothing to enter, no room, a new entry, a sum.
use mathlib.Core.Path.{sym, ◌∙◌}
use native.Mathlib.Omega.{arith}
use Rattle.polynomial.proofs.MonomialEntry.{nothing-entered, no_room, new-entered, sum-entered}
use Rattle.polynomial.proofs.monomials.insert.Goals as goal

pub returns-then-is_zero-clause-inserts : goal.returns-then-is_zero-clause-inserts
returns-then-is_zero-clause-inserts c = nothing-entered _ _ _ _ (sym c.is_zero.ensures ∙ c.if-is_zero.true)

pub returns-then-n-ge-MAX_MONOMIALS-clause-inserts : goal.returns-then-n-ge-MAX_MONOMIALS-clause-inserts
returns-then-n-ge-MAX_MONOMIALS-clause-inserts c =
    rw c.copy_from_slice.ensures.after at
    (no_room _ _ _ _ (sym c.is_zero.ensures ∙ c.if-is_zero.false) _ c.in_default.ensures (omega arith)
    c.if-n-ge-MAX_MONOMIALS.true _ c.clear.ensures)

pub returns-in_default-clause-inserts : goal.returns-in_default-clause-inserts
returns-in_default-clause-inserts c =
    let at = rw c.copy_from_slice.ensures.after at c.in_default.ensures in
    new-entered _ _ _ _ (sym c.is_zero.ensures ∙ c.if-is_zero.false) _ at (omega arith) c.requires.1.1.1
    c.if-n-ge-MAX_MONOMIALS.false _ c.put_entry.ensures

pub returns-clause-inserts : goal.returns-clause-inserts
returns-clause-inserts c =
    rw c.copy_from_slice.ensures.after at
    (sum-entered _ _ _ _ (sym c.is_zero.ensures ∙ c.if-is_zero.false) _ c.in-Some.ensures.1 c.in-Some.ensures.0
    c.add.ensures.adds)
