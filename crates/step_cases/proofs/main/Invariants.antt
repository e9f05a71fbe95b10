-- Of each book fewer than 65,536 steps agree.
use Rattle.std.proofs.Common.{◌*◌, ◌≤◌}
use Rattle.step_cases.proofs.main.Given as goal

abbrev pub invariant-loop : goal.invariant-loop
invariant-loop l = l.agree ≤ 65536 * l.counter
