-- Each return is a lemma of EntryAnswers over what is read of the entry (`read_at`), what `mul_each` ensures and what
-- the last call ensures.
use mathlib.Core.Path.{sym, ap, ◌∙◌}
use native.Mathlib.Omega.{arith}
use lib.ListN.{length}
use Rattle.rules.proofs.Results.{handed_on}
use Rattle.polynomial.proofs.ProductEntries.{part_length}
use Rattle.polynomial.proofs.EntryAnswers.{read_at, entry-refused, entry-outside, entry-entered}
use Rattle.polynomial.proofs.polynomial.mul_entry.Goals as goal

pub key_at-key-requires : goal.key_at-key-requires
key_at-key-requires c =
    (ap length c.area_at.ensures ∙ part_length 0 c.args.stack.now (omega arith), c.requires.1.1.0)

pub returns-in_err-len-clause-inserts_at : goal.returns-in_err-len-clause-inserts_at
returns-in_err-len-clause-inserts_at c =
    let read = read_at _ _ _ c.area_at.ensures c.key_at-key.ensures c.area_at-2.ensures c.value_at-c.ensures in
    rw (handed_on c.from_residual.ensures.1) (entry-refused read _ c.in_err-len.ensures.inserts_at)

pub returns-in_default-clause-inserts_at : goal.returns-in_default-clause-inserts_at
returns-in_default-clause-inserts_at c =
    let read = read_at _ _ _ c.area_at.ensures c.key_at-key.ensures c.area_at-2.ensures c.value_at-c.ensures in
    entry-outside read _ c.in_ok-len.ensures.inserts_at (sym c.mul.ensures.is ∙ c.in_default.is) c.clear_at.ensures

pub returns-clause-inserts_at : goal.returns-clause-inserts_at
returns-clause-inserts_at c =
    let read = read_at _ _ _ c.area_at.ensures c.key_at-key.ensures c.area_at-2.ensures c.value_at-c.ensures in
    entry-entered read _ c.in_ok-len.ensures.inserts_at (sym c.mul.ensures.is ∙ c.in-Some.is)
    c.insert_at.ensures.inserts_at
