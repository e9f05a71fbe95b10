-- A step's answer, by value.
use Rattle.std.specs.Prelude.{Ok, ℕ}
use Rattle.rules.specs.Refusal.{Result, ◌>>=◌}
use Rattle.steps.specs.CheckStep.{Accepted}

-- the visits after a step
abbrev pub visits_after : Result Accepted → Result ℕ
visits_after r = r >>= λ a. Ok a.visits
