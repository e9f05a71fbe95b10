-- Each return is a lemma of EntryAnswers over what is read of the entry (`read_at`) and what the last call ensures.
use mathlib.Core.Path.{sym, ap, ◌∙◌}
use lib.ListN.{length}
use Rattle.polynomial.proofs.ProductEntries.{part_length}
use Rattle.polynomial.proofs.EntryAnswers.{read_at, enter-scaled_out, enter-scaled-value}
use Rattle.polynomial.proofs.polynomial.enter_scaled.Goals as goal

pub key_at-key-requires : goal.key_at-key-requires
key_at-key-requires c =
    (ap length c.area_at.ensures ∙ part_length c.args.j c.args.stack.now c.requires.0.0, c.requires.1.1.0)

pub returns-in_default-clause-inserts_at : goal.returns-in_default-clause-inserts_at
returns-in_default-clause-inserts_at c =
    let read = read_at _ _ _ c.area_at.ensures c.key_at-key.ensures c.area_at-2.ensures c.value_at-c.ensures in
    enter-scaled_out read _ (sym c.mul.ensures.is ∙ c.in_default.is) c.clear_at.ensures

pub returns-clause-inserts_at : goal.returns-clause-inserts_at
returns-clause-inserts_at c =
    let read = read_at _ _ _ c.area_at.ensures c.key_at-key.ensures c.area_at-2.ensures c.value_at-c.ensures in
    enter-scaled-value read _ (sym c.mul.ensures.is ∙ c.in-Some.is) c.insert_at.ensures.inserts_at
