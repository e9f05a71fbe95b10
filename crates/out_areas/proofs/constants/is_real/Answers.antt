-- A record of kind 2 that is read as a number is that real constant; other records are none (RealBytes).
use mathlib.Core.Path.{◌∙◌}
use borrow.Author.Tests.{ne_eqb}
use Rattle.out_areas.proofs.FoundReals.{is_real_lem, other-kind, no_number}
use Rattle.out_areas.proofs.constants.is_real.Goals as goal

pub returns-in-Ok : goal.returns-in-Ok
returns-in-Ok c =
    is_real_lem _ _ _ c.record.ensures c.byte.ensures c.if-byte-eq-REAL.true
    c.as_number.ensures c.in-Ok.is c.eq.ensures

pub returns-in_default : goal.returns-in_default
returns-in_default c = no_number _ _ _ c.as_number.ensures c.in_default.not-Ok

pub returns-else-byte-eq-REAL : goal.returns-else-byte-eq-REAL
returns-else-byte-eq-REAL c =
    ne_eqb _ _ c.if-byte-eq-REAL.false
    ∙ other-kind _ _ _ c.record.ensures c.byte.ensures c.if-byte-eq-REAL.false
