-- The first factor of a product, which is walked in the lowest area of an empty stack, and the answers of the product
-- of a record's arguments.
--     rest_of, rest-length, left-rest, rest_below       the arguments behind the first, as the part that is lent
--     from_none, none_held, none_has, none_pre, none_fills       a walk from nothing
--     no_factors, first_below, first_pre, first_refused, others_pre, first_made       the first factor
use Rattle.std.specs.Prelude.{Ok, Err}
use mathlib.Core.Path.{◌≡◌, refl, ◌∙◌, ap}
use mathlib.Core.Bool.{true}
use mathlib.Core.List.{List, [], ◌∷◌}
use Prim.Native.Nat.{ℕ, ◌-◌, ◌/◌, ◌≤◌, ◌<◌}
use native.Mathlib.Omega.{arith}
use lib.IntN.{pos}
use lib.ListN.{length, take, drop, length-drop}
use lib.Seq.{take_all}
use lib.Dec.{ltb}
use Rattle.numbers.specs.Rational.{Rational, whole}
use Rattle.numbers.specs.Bytes.{Bytes}
use Rattle.terms.specs.Term.{Term, Terms}
use Rattle.terms.specs.Term.Terms.{◌▹◌}
use Rattle.terms.specs.Book.{count, tree, numbers, argument_at, all_below}
use Rattle.rules.specs.Refusal.{Result}
use Rattle.rules.specs.declared.refusal.Refusal.{Refusal}
use Rattle.rules.specs.Limits.{Limits, limited}
use Rattle.index_map.specs.declared.combination.Walked as by_value
use Rattle.index_map.specs.IndexMap.{Map, Walked, walked, new}
use Rattle.index_map.specs.Memory.Answers.{Has, nothing, walked_with}
use Rattle.polynomial.specs.Polynomial.{Monomial}
use Rattle.polynomial_walk.specs.PolynomialTerms.{add_term, first_factor, other_factors}
use Rattle.polynomial.specs.Memory.PolynomialArea.{Stacked, Walks}
use Rattle.rules.specs.Memory.Parts.{Laid}
use Rattle.polynomial_walk.specs.Memory.PolynomialNodes.{Room, TermPre, FactorsPre, OthersPre, TermWalks}
use Rattle.numbers.proofs.Truths.{both}
use Rattle.index_map.proofs.CheckedNumbers.{whole-proper}
use Rattle.polynomial.proofs.StackAreas.{stack-more}
use Rattle.rules.proofs.ArgumentsLeft.{args_from, left_none, left-next, next-below}
use Rattle.rules.proofs.Results.{next, ends}
use Rattle.polynomial_walk.proofs.PolynomialSums.{refused}

-- ---- the rest of the arguments

abbrev pub rest_of : Bytes → Bytes
rest_of args = take (length args - 2) (drop 2 args)

rest-behind : (args : Bytes) → rest_of args ≡ drop 2 args
rest-behind args = take_all (length args - 2) (drop 2 args) (omega (arith, length-drop 2 args))

pub rest-length : (args : Bytes) → length (rest_of args) ≡ length args - 2
rest-length args = rw (rest-behind args) (length-drop 2 args)

numbers-behind : (args : Bytes) → numbers (drop 2 args) ≡ drop 1 (numbers args)
unfolding numbers
numbers-behind [] = refl
numbers-behind (x ∷ []) = refl
numbers-behind (x ∷ y ∷ l) = refl

rest-numbers : (args : Bytes) → numbers (rest_of args) ≡ drop 1 (numbers args)
rest-numbers args = ap numbers (rest-behind args) ∙ numbers-behind args

-- x is the first argument
pub left-rest :
    (args : Bytes) (id : ℕ) {x : ℕ} → 0 < length args / 2 → x ≡ argument_at args 0 id → (b : Bytes) →
    args_from b id args 0 ≡ (tree b x ▹ args_from b id (rest_of args) 0)
left-rest args id h is b = rw (rest-numbers args) (left-next args id h is b)

below-behind : (n : ℕ) (l : List ℕ) → all_below n l ≡ true → all_below n (drop 1 l) ≡ true
unfolding all_below
below-behind n [] h = h
below-behind n (i ∷ l) h = (both (ltb i n) (all_below n l) h).1

pub rest_below :
    (n : ℕ) (args : Bytes) → all_below n (numbers args) ≡ true → all_below n (numbers (rest_of args)) ≡ true
rest_below n args h = rw (rest-numbers args) (below-behind n (numbers args) h)

-- ---- nothing, and one

-- a walk that begins with nothing
abbrev pub from_none : ℕ → by_value.Walked
from_none v = record { sum = nothing; visits = v }

-- in an empty stack; what the code has for it
module _
    {b w : Bytes} (empty : Stacked b w []) (room : 1600 ≤ length w) {begun : by_value.Walked} {v : ℕ}
    (none : begun ≡ from_none v) where
  pub none_held : Stacked b w ([] ∷ [])
  none_held = stack-more empty room

  pub none_has : Has {K = Monomial} begun.sum []
  none_has = rw none (record { size = refl; proper = whole-proper (pos 0) (omega arith) })

  module _ {one : Rational} (unit : one ≡ whole (pos 1)) where
    pub none_pre : Laid b → {x d : ℕ} → x < count b → Room (length w) d → TermPre b w x one begun.sum d
    none_pre laid inside r =
        record {
          laid = laid;
          inside = inside;
          proper = rw unit (whole-proper (pos 1) (omega arith));
          room = r;
          filling = record { map = []; held = none_held; has = none_has };
        }

    pub none_fills :
        (x limit d : ℕ) {w' : Bytes} {answer : Result by_value.Walked} → TermWalks b w w' x one begun limit d answer →
        Walks b w' answer (add_term (tree b x) (limited limit) d (whole (pos 1)) (walked new v))
    none_fills x limit d fills = rw (unit, none) at (fills [] none_held none_has)

-- ---- the definition

module _ (t : Term) (ts : Terms) (l : Limits) (d n : ℕ) where
  first_stops :
      {r : Refusal} → add_term t l d (whole (pos 1)) (walked new n) ≡ Err r → first_factor (t ▹ ts) l d n ≡ Err r
  unfolding add_term
  first_stops e = ends _ e

  first_goes :
      {p : Walked Monomial} → add_term t l d (whole (pos 1)) (walked new n) ≡ Ok p →
      first_factor (t ▹ ts) l d n ≡ other_factors ts l d p
  unfolding add_term
  first_goes e = next _ e

-- ---- the first factor

-- the product of the arguments of record id
abbrev pub product_of : Bytes → Bytes → ℕ → ℕ → ℕ → ℕ → Result (Walked Monomial)
product_of b args id limit d v = first_factor (args_from b id args 0) (limited limit) d v

module _
    {b w args : Bytes} {id d : ℕ} (pre : FactorsPre b w args id d) (limit : ℕ) {begun : by_value.Walked} {v : ℕ}
    (none : begun ≡ from_none v) where
  room : 1600 ≤ length w
  room = omega (arith, pre.deep, pre.high)

  pub no_factors : length args / 2 ≤ 0 → Walks b w (Ok begun) (product_of b args id limit d v)
  unfolding add_term
  no_factors h =
      record {
        map = [];
        held = none_held pre.empty room none;
        is = (rw (left_none b id args 0 h, none), none_has pre.empty room none);
      }

  -- x is the first argument, and one the number that the code has for 1
  module _
      (h : 0 < length args / 2) {x : ℕ} (is : x ≡ argument_at args 0 id) {one : Rational} (unit : one ≡ whole (pos 1))
    where
      pub first_below : x < id
      first_below = next-below args id h is pre.below

      pub first_pre : TermPre b w x one begun.sum d
      first_pre =
          none_pre pre.empty room none unit pre.laid (omega (arith, pre.inside, first_below))
          (record { deep = pre.deep; high = omega (arith, pre.high) })

      first :
          {w' : Bytes} {answer : Result by_value.Walked} → TermWalks b w w' x one begun limit d answer →
          Walks b w' answer (add_term (tree b x) (limited limit) d (whole (pos 1)) (walked new v))
      first fills = none_fills pre.empty room none unit x limit d fills

      pub first_refused :
          {w' : Bytes} {r : Refusal} → TermWalks b w w' x one begun limit d (Err r) →
          Walks b w' (Err r) (product_of b args id limit d v)
      first_refused fills =
          let f = first fills in
          refused (rw (← f.is.1) f.held) (rw (left-next args id h is b) (first_stops _ _ _ _ _ f.is.0))

      module _ {w' : Bytes} {p : by_value.Walked} (fills : TermWalks b w w' x one begun limit d (Ok p)) where
        pub others_pre : length w' ≡ length w → OthersPre b w' (rest_of args) id p.sum d
        others_pre long =
            let f = first fills in
            record {
              laid = pre.laid;
              inside = pre.inside;
              below = rest_below id args pre.below;
              deep = pre.deep;
              high = omega (arith, pre.high, long);
              filling = record { map = f.map; held = f.held; has = f.is.1 };
            }

        -- the others are walked after it
        pub first_made :
            {w'' : Bytes} {answer : Result by_value.Walked} →
            ((m : Map Monomial) → Stacked b w' (m ∷ []) → Has p.sum m →
            Walks b w'' answer (other_factors (args_from b id (rest_of args) 0) (limited limit) d (walked_with p m))) →
            Walks b w'' answer (product_of b args id limit d v)
        first_made others =
            let f = first fills in
            let goes = first_goes (tree b x) (args_from b id (rest_of args) 0) (limited limit) d v f.is.0 in
            rw (left-rest args id h is b, goes) (others f.map f.held f.is.1)
