-- What is answered by value, and the bytes of a lent area afterwards.
use Rattle.std.specs.Prelude.{◌++◌, ℕ, ◌-◌, length, replicate}
use Rattle.numbers.specs.Bytes.{Bytes}
use Rattle.marking.specs.Check.{Marking}
use Rattle.marking.specs.declared.check.Marked.{Marked}

-- an area that is cleared
abbrev pub zeros : Bytes → Bytes
zeros b = replicate (length b) 0

-- an area of n bytes: what is written, then zeros
unfoldable pub area : ℕ → Bytes → Bytes
area n b = b ++ replicate (n - length b) 0

abbrev pub marked_of : Marking → Marked
marked_of m = record { verdict = m.verdict; steps = length m.steps; visits = m.visits }
