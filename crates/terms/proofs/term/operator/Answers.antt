-- A record of kind 5 is an operation, and its operator is byte 1.
use borrow.Author.Rules.{rules}
use Rattle.terms.specs.Readers.{operator_of}
use Rattle.terms.proofs.RecordReadings.{as_op_record, as_op-other}
use Rattle.terms.proofs.term.operator.Goals as goal

pub returns-then-byte-eq-OPERATION : goal.returns-then-byte-eq-OPERATION
returns-then-byte-eq-OPERATION c =
    rw (as_op_record _ _ c.record-r.ensures (search rules), operator_of) c.byte-then-byte-eq-OPERATION.ensures

pub returns-else-byte-eq-OPERATION : goal.returns-else-byte-eq-OPERATION
returns-else-byte-eq-OPERATION c = rw (as_op-other _ _ c.record-r.ensures (λ k. search rules), operator_of)
