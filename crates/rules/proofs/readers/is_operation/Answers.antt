-- A record of kind 5 is an operation.
use Rattle.rules.proofs.ExpectedTerms.{operation_record_lem}
use Rattle.rules.proofs.readers.is_operation.Goals as goal

pub returns : goal.returns
returns c = operation_record_lem _ _ c.record.ensures c.byte.ensures
