-- `IndexMap<K, Rational>` with a constant beside it, which is what both `LinearComb` and `Polynomial` are: entries in
-- the order of insertion, a removal moving the last entry into the gap (`swap_remove`). Also the walk that fills one,
-- with the visits that it makes.
use Rattle.std.specs.Prelude.{Bool, true, false, List, [], ◌∷◌, ℕ, suc, pos}
use Rattle.std.specs.Prelude.{Option, Some, None}
use Rattle.numbers.specs.Rational.{Rational, whole, neg_q, is_zero}
use Rattle.numbers.specs.Choice.{when◌then◌else◌}
use Rattle.terms.specs.Readers.{Bound, within}
use Rattle.rules.specs.Refusal.{Result, ◌>>=◌, assert}
use Rattle.std.specs.Prelude.{Ok}
use Rattle.rules.specs.declared.refusal.Refusal.TheVariants.{VisitLimit, PolynomialSize}
use Rattle.rules.specs.Limits.{Limits, times, plus}

abbrev pub Map : Type 0 → Type 0
Map K = List (K × Rational)

pub record Combination (K : Type 0) : Type 0 where
  pub entries : Map K
  pub constant : Rational

-- when two keys are equal, and how many entries there may be
pub record Keys (K : Type 0) : Type 0 where
  pub same : K → K → Bool
  pub most : Limits → Bound

abbrev pub combination : {K : Type 0} → Map K → Rational → Combination K
combination m c = record { entries = m; constant = c }

-- ---- the map

module _ {K : Type 0} where
  -- the last entry, then the others
  unfoldable pub last_first : K × Rational → Map K → Map K
  last_first e [] = e ∷ []
  last_first e (f ∷ m) = elim (last_first f m) [ [] ↦ e ∷ [] | g ∷ r ↦ g ∷ e ∷ r ]

  -- what stands behind a removed entry: the last comes first
  unfoldable pub swap_remove : Map K → Map K
  swap_remove [] = []
  swap_remove (e ∷ m) = last_first e m

  unfoldable pub neg_all : Map K → Map K
  neg_all [] = []
  neg_all (e ∷ m) = (e.0, neg_q e.1) ∷ neg_all m

  unfoldable pub scale_all : Limits → Rational → Map K → Result (Map K)
  scale_all l q [] = Ok []
  scale_all l q (e ∷ m) = do
    v ← times l e.1 q
    r ← scale_all l q m
    Ok ((e.0, v) ∷ r)

  abbrev pub is_empty : Map K → Bool
  is_empty [] = true
  is_empty (e ∷ m) = false

module _ {K : Type 0} (keys : Keys K) where
  unfoldable pub get : Map K → K → Option Rational
  get [] key = None
  get (e ∷ m) key = elim (keys.same e.0 key) [ true ↦ Some e.1 | false ↦ get m key ]

  -- n entries stand before these
  unfoldable pub enter : Limits → ℕ → Map K → K → Rational → Result (Map K)
  enter l n [] key value = do
    _ ← assert (within (keys.most l) (suc n)) PolynomialSize
    Ok ((key, value) ∷ [])
  enter l n (e ∷ m) key value = elim (keys.same e.0 key) [
    | true ↦ (do
      sum ← plus l e.1 value
      Ok (when is_zero sum then swap_remove m else (e.0, sum) ∷ m))
    | false ↦ (do
      r ← enter l (suc n) m key value
      Ok (e ∷ r))
  ]

  unfoldable pub insert : Limits → Map K → K → Rational → Result (Map K)
  insert l m key value = elim (is_zero value) [ true ↦ Ok m | false ↦ enter l 0 m key value ]

  unfoldable pub insert_all : Limits → Map K → Map K → Result (Map K)
  insert_all l m [] = Ok m
  insert_all l m (e ∷ r) = do
    m' ← insert l m e.0 e.1
    insert_all l m' r

  -- ---- with the constant

  unfoldable pub add : Limits → Combination K → Combination K → Result (Combination K)
  add l a b = do
    m ← insert_all l a.entries b.entries
    c ← plus l a.constant b.constant
    Ok (combination m c)

abbrev pub new : {K : Type 0} → Combination K
new = combination [] (whole (pos 0))

unfoldable pub neg : {K : Type 0} → Combination K → Combination K
neg a = combination (neg_all a.entries) (neg_q a.constant)

unfoldable pub sub : {K : Type 0} → Keys K → Limits → Combination K → Combination K → Result (Combination K)
sub keys l a b = add keys l a (neg b)

-- ---- a walk: what it has filled, and the visits made so far

pub record Walked (K : Type 0) : Type 0 where
  pub sum : Combination K
  pub visits : ℕ

abbrev pub walked : {K : Type 0} → Combination K → ℕ → Walked K
walked s n = record { sum = s; visits = n }

-- a visit is counted before it is made
unfoldable pub visit : {K : Type 0} → Limits → Walked K → Result (Walked K)
visit l w = do
  _ ← assert (within l.visits (suc w.visits)) VisitLimit
  Ok (walked w.sum (suc w.visits))

unfoldable pub add_entry : {K : Type 0} → Keys K → Limits → K → Rational → Walked K → Result (Walked K)
add_entry keys l key value w = do
  m ← insert keys l w.sum.entries key value
  Ok (walked (combination m w.sum.constant) w.visits)

unfoldable pub add_constant : {K : Type 0} → Limits → Rational → Walked K → Result (Walked K)
add_constant l q w = do
  c ← plus l w.sum.constant q
  Ok (walked (combination w.sum.entries c) w.visits)
