-- A number is added to the constant of what a walk has filled: the definition's walk is what `Walked::plus` answers,
-- with the entries as they were, or with none where that is a refusal.
use mathlib.Core.Path.{◌≡◌, refl}
use mathlib.Core.Bool.{Bool, cond}
use Prim.Native.Nat.{ℕ}
use Rattle.std.specs.Prelude.{[], Ok, Err, IfOk, is_err}
use Rattle.numbers.specs.Rational.{Rational, Proper}
use Rattle.rules.specs.Refusal.{Result, ◌>>=◌}
use Rattle.rules.specs.Limits.{limited, plus}
use Rattle.index_map.specs.IndexMap.{Map, add_constant, combination, walked}
use Rattle.index_map.specs.declared.combination.Walked as by_value
use Rattle.index_map.specs.Memory.Answers.{Has, WalkIs, walked_with, with_constant}

module _ {K : Type 0} (w : by_value.Walked) {m : Map K} (has : Has w.sum m) where
  -- c is the sum of the constants
  by_sum :
      (c : Result Rational) → IfOk (with_constant w c) (λ u. Proper u.sum.constant) →
      WalkIs (with_constant w c) (cond (is_err (with_constant w c)) [] m)
      (c >>= λ q. Ok (walked (combination m q) w.visits))
  unfolding ◌>>=◌
  by_sum (Ok q) proper = (refl, record { size = has.size; proper = proper })
  by_sum (Err r) proper = (refl, refl)

  -- and by whether it is a refusal
  pub plus-walk :
      (q : Rational) {r : Result by_value.Walked} →
      ((l : ℕ) → r ≡ with_constant w (plus (limited l) w.sum.constant q)) → IfOk r (λ u. Proper u.sum.constant) →
      {t : Bool} → t ≡ is_err r → (l : ℕ) →
      WalkIs r (cond t [] m) (add_constant (limited l) q (walked_with w m))
  unfolding add_constant
  plus-walk q value proper e l =
      rw (e, value l) (by_sum (plus (limited l) w.sum.constant q) (rw (value l) at proper))
