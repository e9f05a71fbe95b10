-- The two fields of the record, as the machine has them (RealBytes).
use mathlib.Core.Path.{ap, ◌∙◌}
use borrow.Author.Rules.{rules}
use Rattle.terms.specs.Book.{rational_of}
use Rattle.out_areas.proofs.RealBytes.{read_real}
use Rattle.out_areas.proofs.constants.real_at.Goals as goal

pub returns : goal.returns
returns c =
    read_real c.record-r.result.now (search rules) c.signed_u64.ensures c.read_u64.ensures
    (search rules) c.signed_u64-2.ensures c.read_u64-2.ensures
    ∙ ap rational_of c.record-r.ensures
