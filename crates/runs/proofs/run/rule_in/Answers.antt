use mathlib.Core.Path.{◌≡◌, refl}
use Rattle.std.specs.Prelude.{Option, Some, None}
use Rattle.std.specs.Option.{unwrap_or}
use Rattle.runs.specs.declared.rule.Rule.{Rule}
use Rattle.runs.specs.declared.rule.Rule.TheVariants.{Assume}
use Rattle.runs.specs.Rule.{rule_of}
use Rattle.runs.specs.Memory.StepParts.{rule_in, head_in}
use Rattle.runs.proofs.run.rule_in.Goals as goal

unwrapped : (o : Option Rule) → unwrap_or o Assume ≡ elim o [ Some r ↦ r | None ↦ Assume ]
unwrapped (Some r) = refl
unwrapped None = refl

pub returns : goal.returns
unfolding rule_in head_in
returns c =
    rw (c.unwrap_or.ensures, c.rule_of.ensures, c.byte.ensures) (unwrapped (rule_of (head_in c.args.step.now).byte))
