-- What the functions on maps in lent bytes answer, whatever the keys. m are the entries that are left in the area, d is
-- what the definition says. A refusal leaves none.
use Rattle.std.specs.Prelude.{◌≡◌, [], ℕ, ◌≤◌, pos, length}
use Rattle.std.specs.Prelude.{Ok, Err}
use Rattle.numbers.specs.Rational.{Rational, Proper, whole}
use Rattle.rules.specs.Refusal.{Result, ◌>>=◌}
use Rattle.index_map.specs.IndexMap.{Map, Combination, combination, Walked, walked}
use Rattle.index_map.specs.declared.combination.Combination as by_value
use Rattle.index_map.specs.declared.combination.Walked as walked_by_value

-- no entries, and 0
abbrev pub nothing : by_value.Combination
nothing = record { len = 0; constant = whole (pos 0) }

-- another constant, where that is in range
abbrev pub with_constant : walked_by_value.Walked → Result Rational → Result walked_by_value.Walked
with_constant w c = c >>= λ q. Ok (record w { sum = record w.sum { constant = q } })

-- no more entries than n
abbrev pub AtMost : ℕ → Result ℕ → Type 0
AtMost n (Ok m) = m ≤ n
AtMost n (Err r) = Unit {0}

module _ {K : Type 0} where
  -- how many entries there are then
  abbrev pub InsertedIs : Result ℕ → Map K → Result (Map K) → Type 0
  InsertedIs (Ok n) m d = (d ≡ Ok m) × (n ≡ length m)
  InsertedIs (Err r) m d = (d ≡ Err r) × (m ≡ [])

  -- s is a combination by value whose entries are m
  pub record Has (s : by_value.Combination) (m : Map K) : Type 0 where
    pub size : s.len ≡ length m
    pub proper : Proper s.constant

  abbrev pub comb_with : by_value.Combination → Map K → Combination K
  comb_with s m = combination m s.constant

  abbrev pub CombinedIs : Result by_value.Combination → Map K → Result (Combination K) → Type 0
  CombinedIs (Ok s) m d = (d ≡ Ok (comb_with s m)) × Has s m
  CombinedIs (Err r) m d = (d ≡ Err r) × (m ≡ [])

  abbrev pub walked_with : walked_by_value.Walked → Map K → Walked K
  walked_with w m = walked (comb_with w.sum m) w.visits

  abbrev pub WalkIs : Result walked_by_value.Walked → Map K → Result (Walked K) → Type 0
  WalkIs (Ok w) m d = (d ≡ Ok (walked_with w m)) × Has w.sum m
  WalkIs (Err r) m d = (d ≡ Err r) × (m ≡ [])
