-- The library's remainder is the definition's: it is not negative.
use mathlib.Core.Path.{◌∙◌, ap}
use lib.IntN.{ℤ, pos, nat_abs}
use mir.Facts.{to_z-of_z}
use Rattle.std.specs.Int.{int_rem_euclid}
use Rattle.numbers.proofs.Machine.{returned}
use Rattle.numbers.proofs.TwosComplement.{rem_euclid_is}
use Rattle.numbers.proofs.bytes.complement.Goals as goal

pub returns : goal.returns
returns c =
    ap nat_abs
    (returned c.rem_euclid.type_inv ∙ c.rem_euclid.ensures.value
    ∙ ap (λ (z : ℤ). int_rem_euclid z (pos 4294967296)) (to_z-of_z c.ranges.n))
    ∙ rem_euclid_is 4 _
