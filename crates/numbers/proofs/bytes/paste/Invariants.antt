-- The loop's invariant is `Copied` of CopiedBytes.
use lib.ListN.{length}
use Rattle.numbers.proofs.CopiedBytes.{Copied}
use Rattle.numbers.proofs.bytes.paste.Given as goal

abbrev pub invariant-loop-k : goal.invariant-loop-k
invariant-loop-k l = Copied (length l.part) l.initial.area l.at l.part l.area l.k
