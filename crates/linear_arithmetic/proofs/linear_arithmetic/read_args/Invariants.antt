-- The invariant is `ReadSoFar` of ReadParts: the arguments before k are numbers, so that the whole is read as what is
-- left.
use Rattle.linear_arithmetic.proofs.ReadParts.{ReadSoFar}
use Rattle.linear_arithmetic.proofs.linear_arithmetic.read_args.Given as goal

abbrev pub invariant-loop-k : goal.invariant-loop-k
invariant-loop-k l = ReadSoFar l.book l.args l.k
