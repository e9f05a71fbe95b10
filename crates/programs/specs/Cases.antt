-- What a case comes to.
use Rattle.std.specs.Prelude.{Bool, cond}
use Rattle.programs.specs.declared.cases.Outcome.{Outcome}
use Rattle.programs.specs.declared.cases.Outcome.TheVariants.{Agrees, Differs}

abbrev pub judged : Bool → Outcome
judged agrees = cond agrees Agrees Differs
