-- The part of the record that holds the arguments is empty where the term is no operation.
use mathlib.Core.Path.{sym, ◌∙◌, ap}
use Rattle.terms.specs.Book.{arg_bytes}
use Rattle.terms.proofs.RecordReadings.{arguments_of_record}
use Rattle.terms.proofs.term.args.Goals as goal

pub returns : goal.returns
returns c =
    let record_is = c.record.ensures in
    record {
      is = c.arg_bytes.ensures ∙ ap arg_bytes record_is;
      terms = rw c.arg_bytes.ensures (sym (arguments_of_record _ _ record_is));
    }
