-- The library's cast takes the upper half of the numbers of four bytes as the negative ones, as the definition does.
use mathlib.Core.Path.{refl, ◌∙◌}
use mir.Facts.{to_z-of_z}
use mir.Syntax.{w32}
use Rattle.numbers.proofs.Machine.{returned}
use Rattle.numbers.proofs.TwosComplement.{cast_signed_is}
use Rattle.numbers.proofs.bytes.signed.Goals as goal

pub returns : goal.returns
returns c =
    returned c.from.type_inv ∙ c.from.ensures
    ∙ to_z-of_z {w = w32} (record { sfits = c.cast_signed.type_inv }) ∙ c.cast_signed.ensures
    ∙ cast_signed_is w32 4 _ refl refl
