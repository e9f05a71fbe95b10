-- The loop's invariant is `Turning` of TurnedEntries.
use Rattle.poly_simp.proofs.TurnedEntries.{Turning}
use Rattle.poly_simp.proofs.poly_simp.insert_turned.Given as goal

abbrev pub invariant-loop-k : goal.invariant-loop-k
invariant-loop-k l = Turning l.initial.stack l.n l.m l.stack l.len l.k
