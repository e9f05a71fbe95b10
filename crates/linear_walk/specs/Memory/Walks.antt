-- What a walk of a term answers, and leaves in its area.
use Rattle.numbers.specs.Bytes.{Bytes}
use Rattle.terms.specs.Term.{Term}
use Rattle.rules.specs.Refusal.{Result}
use Rattle.index_map.specs.IndexMap.{Map, Walked, walked}
use Rattle.index_map.specs.declared.combination.Walked as by_value
use Rattle.index_map.specs.Memory.Answers.{WalkIs}
use Rattle.index_map.specs.Memory.Entries.{Held}
use Rattle.linear_comb.specs.Memory.WorkArea.{comb_of}

-- a walk by value, with the bytes of its area
abbrev pub walk_of : Bytes → Bytes → by_value.Walked → Walked Term
walk_of b a w = walked (comb_of b a w.sum) w.visits

pub record Walks (b a : Bytes) (r : Result by_value.Walked) (d : Result (Walked Term)) : Type 0 where
  pub map : Map Term
  pub held : Held b a map
  pub is : WalkIs r map d
