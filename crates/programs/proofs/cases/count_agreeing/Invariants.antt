-- At most as many cases agree as are tried, and the next case may be tried.
use Rattle.std.proofs.Common.{◌≤◌}
use Rattle.programs.proofs.cases.count_agreeing.Given as goal

abbrev pub invariant-loop-k : goal.invariant-loop-k
invariant-loop-k g l = goal.F-IsAlwaysCallable g l.try_case × (l.agree ≤ l.k)
