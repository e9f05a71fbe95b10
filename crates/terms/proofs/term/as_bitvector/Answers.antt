-- The record is a bit-vector where its kind is 3 and its fields are a value and a width.
use mathlib.Core.Path.{◌≡◌, sym, ◌∙◌, ap, ap₂}
use borrow.Author.Rules.{rules}
use Rattle.terms.specs.Readers.{vector_refusal, FindsVector}
use Rattle.terms.proofs.RecordReadings.{vector-found, no_vector}
use Rattle.terms.proofs.term.as_bitvector.Goals as goal
use Rattle.terms.proofs.term.as_bitvector.Goals.{else-byte-eq-BIT_VECTOR-via-then-byte-eq-BIT_VECTOR+else-is_vector, else-byte-eq-BIT_VECTOR-via-else-byte-eq-BIT_VECTOR}
use Rattle.std.specs.Prelude.{Option, ℕ, Some}

finds : {r a : Option (ℕ × ℕ)} → r ≡ a → FindsVector r a
finds e = record { is = e; number = ap vector_refusal e }

pub returns-then-is_vector : goal.returns-then-is_vector
returns-then-is_vector c =
    finds
    (ap₂ (λ v w. Some (v, w)) c.read_u64.ensures c.read_u64-then-is_vector.ensures
    ∙ sym
    (vector-found _ _ c.record-r.ensures (search rules)
    (sym c.is_vector.ensures ∙ c.if-is_vector.true)))

pub returns-else-byte-eq-BIT_VECTOR : goal.returns-else-byte-eq-BIT_VECTOR
returns-else-byte-eq-BIT_VECTOR c =
    finds
    (sym
    (no_vector _ _ c.record-r.ensures
    (λ k. elim c.else-byte-eq-BIT_VECTOR.branch [
      | else-byte-eq-BIT_VECTOR-via-then-byte-eq-BIT_VECTOR+else-is_vector w ↦ sym w.is_vector.ensures ∙ w.if-is_vector.false
      | else-byte-eq-BIT_VECTOR-via-else-byte-eq-BIT_VECTOR w ↦ absurd (search rules)
    ])))
