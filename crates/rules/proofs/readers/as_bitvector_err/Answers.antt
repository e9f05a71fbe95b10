-- A bit-vector has a value and a width.
use mathlib.Core.Path.{◌≡◌, ◌∙◌, refl, ap}
use Rattle.std.specs.Prelude.{ℕ, Option, Some, None}
use Rattle.std.specs.Option.{ok_or}
use Rattle.rules.specs.declared.refusal.Refusal.TheVariants.{ExpectedBitvector}
use Rattle.rules.specs.Limits.{bits_err, bitvector_err}
use Rattle.rules.proofs.readers.as_bitvector_err.Goals as goal

bits_law : (o : Option (ℕ × ℕ)) → ok_or o ExpectedBitvector ≡ bits_err o
bits_law (Some p) = refl
bits_law None = refl

pub returns : goal.returns
unfolding bitvector_err
returns c = c.ok_or.ensures.value ∙ bits_law _ ∙ ap bits_err c.as_bitvector.ensures.is
