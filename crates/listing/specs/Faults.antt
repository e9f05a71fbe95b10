-- How far a run is read.
use Rattle.std.specs.Prelude.{ℕ, ◌<◌, Option, Some, None}
use Rattle.listing.specs.declared.faults.Step.{Step}

-- how many steps there are with the one that is being read; 0 before the first
abbrev pub steps_of : Option Step → ℕ
steps_of None = 0
steps_of (Some s) = s.steps

-- the step that is being read begins before record i
abbrev pub Before : Option Step → ℕ → Type 0
Before None i = Unit {0}
Before (Some s) i = s.head < i
