-- The records of a run, one by one.
use Rattle.runs.specs.declared.rule.Rule.TheVariants.{Assume}
use Rattle.std.specs.Prelude.{Bool, ◌&&◌, eqb, get_or}
use Rattle.numbers.specs.Bytes.{Bytes}
use Rattle.runs.specs.Rule.{rule_number}
use Rattle.runs.specs.Run.{S}

-- whether a record opens a step
abbrev pub opens_of : Bytes → Bool
opens_of r = eqb (get_or r 0 0) S

-- whether a record opens an assume
abbrev pub assumes_of : Bytes → Bool
assumes_of r = opens_of r && eqb (get_or r 1 0) (rule_number Assume)
