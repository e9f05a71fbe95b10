-- A record of a part is four bytes, and its number is in the last two.
use mathlib.Core.Path.{sym, ◌∙◌}
use native.Mathlib.Omega.{arith}
use Rattle.rules.proofs.RunParts.{length-numbers_in, number_at_lem}
use Rattle.rules.proofs.run_records.number_in.Goals as goal

pub overflow_mul-k : goal.overflow_mul-k
overflow_mul-k c = omega (arith, length-numbers_in c.args.part.now)

pub overflow_add-k : goal.overflow_add-k
overflow_add-k c = omega (arith, length-numbers_in c.args.part.now)

pub returns : goal.returns
returns c =
    c.read_u16.ensures ∙ sym (number_at_lem _ _ 0 (omega (arith, length-numbers_in c.args.part.now)))
