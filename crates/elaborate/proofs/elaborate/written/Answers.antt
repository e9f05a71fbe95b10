-- The written part, or the empty part, by the two tests.
use mathlib.Core.Path.{refl}
use Rattle.std.proofs.Common.{arith}
use Rattle.std.proofs.lemmas.Grind.{common_steps}
use Rattle.std.proofs.lemmas.Bool.Decides.{nat_tests}
use Rattle.elaborate.specs.Elaborate.{written_part}
use Rattle.elaborate.proofs.elaborate.written.Goals as goal

pub returns-then-bytes-eq0 : goal.returns-then-bytes-eq0
unfolding written_part
returns-then-bytes-eq0 c = record { answered = grind (arith, common_steps, nat_tests); same = refl }

pub returns-else-bytes-eq0 : goal.returns-else-bytes-eq0
unfolding written_part
returns-else-bytes-eq0 c = record { answered = grind (arith, nat_tests); same = refl }
