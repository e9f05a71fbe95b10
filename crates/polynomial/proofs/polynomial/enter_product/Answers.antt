-- Each return is a lemma of EntryAnswers over what is read of the entry (`read_at`), the test or the product, and what
-- the last call ensures.
use mathlib.Core.Path.{sym, ap, ◌∙◌}
use native.Mathlib.Omega.{arith}
use lib.ListN.{length}
use Rattle.polynomial.proofs.ProductEntries.{part_length}
use Rattle.polynomial.proofs.EntryAnswers.{read_at, product_too_long, product-outside, product-entered}
use Rattle.polynomial.proofs.polynomial.enter_product.Goals as goal

pub key_at-other-requires : goal.key_at-other-requires
key_at-other-requires c =
    (ap length c.area_at.ensures ∙ part_length 1 c.args.stack.now (omega arith), c.requires.1.1.1.0)

pub returns-then-x-other-gt-MAX_ATOMS-clause-inserts_at : goal.returns-then-x-other-gt-MAX_ATOMS-clause-inserts_at
returns-then-x-other-gt-MAX_ATOMS-clause-inserts_at c =
    let read = read_at _ _ _ c.area_at.ensures c.key_at-other.ensures c.area_at-2.ensures c.value_at-d.ensures in
    product_too_long read _ _ c.if-x-other-gt-MAX_ATOMS.true c.clear_at.ensures

pub returns-in_default-clause-inserts_at : goal.returns-in_default-clause-inserts_at
returns-in_default-clause-inserts_at c =
    let read = read_at _ _ _ c.area_at.ensures c.key_at-other.ensures c.area_at-2.ensures c.value_at-d.ensures in
    product-outside read _ _ c.if-x-other-gt-MAX_ATOMS.false (sym c.mul.ensures.is ∙ c.in_default.is)
    c.clear_at-in_default.ensures

pub returns-clause-inserts_at : goal.returns-clause-inserts_at
returns-clause-inserts_at c =
    let read = read_at _ _ _ c.area_at.ensures c.key_at-other.ensures c.area_at-2.ensures c.value_at-d.ensures in
    product-entered read _ _ c.if-x-other-gt-MAX_ATOMS.false (sym c.mul.ensures.is ∙ c.in-Some.is)
    c.copy_from_slice.ensures.after c.join.ensures c.insert_at.ensures.inserts_at
