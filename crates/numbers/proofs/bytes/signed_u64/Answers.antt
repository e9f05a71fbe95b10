-- The library's cast takes the upper half of the numbers of eight bytes as the negative ones, as the definition does.
use mathlib.Core.Path.{refl, ◌∙◌}
use mir.Syntax.{w64}
use Rattle.numbers.proofs.Machine.{returned}
use Rattle.numbers.proofs.TwosComplement.{cast_signed_is}
use Rattle.numbers.proofs.bytes.signed_u64.Goals as goal

pub returns : goal.returns
returns c =
    returned c.cast_signed.type_inv ∙ c.cast_signed.ensures ∙ cast_signed_is w64 8 _ refl refl
