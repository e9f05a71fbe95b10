-- What number a record's bytes are does not depend on its place or its arguments.
use Rattle.terms.proofs.RecordReadings.{as_number_record}
use Rattle.terms.proofs.term.as_number.Goals as goal

pub returns : goal.returns
returns c = rw (as_number_record _ _ c.record.ensures) c.constant.ensures
