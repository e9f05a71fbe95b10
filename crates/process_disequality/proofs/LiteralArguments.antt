-- The argument of a literal, given or inferred: the definition at what the code reads, test by test.
--     no-number, not-alone, zero-own       the refusals of `inferred` before the sum is asked
--     alone, coefficient-asked, asked_sum       the only entry of a literal, and the sum's coefficient of its atom
--     argument_of_lem       the definition's argument is that of the two maps alone
use mathlib.Core.Path.{◌≡◌, refl}
use mathlib.Core.Bool.{true, false}
use mathlib.Core.List.{[], ◌∷◌}
use Rattle.std.specs.Prelude.{Option, Some, None, Err}
use Rattle.std.specs.Option.{ok_or}
use Prim.Native.Nat.{ℕ, zero, suc}
use Rattle.numbers.specs.Rational.{Rational, Proper, Makes, neg_q, is_zero}
use Rattle.numbers.specs.Bytes.{Bytes, le, number_at}
use Rattle.terms.specs.Term.{Term}
use Rattle.terms.specs.Book.{tree}
use Rattle.rules.specs.Refusal.{Result, ◌>>=◌, assert, or_else}
use Rattle.rules.specs.declared.refusal.Refusal.{Refusal}
use Rattle.rules.specs.declared.refusal.Refusal.TheVariants.{NotUnit, CoeffNotFound}
use Rattle.rules.specs.Limits.{Limits, over}
use Rattle.rules.specs.Memory.Parts.{Expects}
use Rattle.index_map.specs.IndexMap.{Map, get}
use Rattle.linear_comb.specs.LinearComb.{LinearComb}
use Rattle.index_map.specs.Memory.Entries.{terms, entries_of, CoefficientIs}
use Rattle.process_disequality.specs.ProcessDisequality.{progress, inferred, argument_of}
use Rattle.process_disequality.specs.Memory.ProcessSteps.{argument_from}

-- ---- inferred

pub no-number : {r : Refusal} {d : Result Rational} → Err r ≡ d → Expects (Err r) d
no-number e = record { is = e; proper = λ q f. cc }

-- the literal has no atom or several
pub not-alone :
    (l : Limits) (acc : Map Term) (b w : Bytes) (m : ℕ) → (m ≡ 1 → ⊥) → Err NotUnit ≡ inferred l acc (entries_of b w m)
unfolding inferred entries_of
not-alone l acc b w zero h = refl
not-alone l acc b w (suc zero) h = absurd (h refl)
not-alone l acc b w (suc (suc m)) h = refl

-- what is read of the only entry of w
pub record Alone (w : Bytes) (m var : ℕ) (own : Rational) : Type 0 where
  pub size : m ≡ 1
  pub key : var ≡ le 2 w 0
  pub value : own ≡ number_at w 2
  pub proper : Proper own

pub alone :
    {w x y : Bytes} {m var : ℕ} {own : Rational} → m ≡ 1 → x ≡ w → var ≡ le 2 x 0 → y ≡ w →
    Makes own (number_at y 2) → Alone w m var own
alone e p k q v = record { size = e; key = cc; value = cc; proper = v.proper }

pub coefficient-asked :
    (r d : Option Rational) (e : Refusal) → CoefficientIs r d → ok_or r e ≡ or_else d e
unfolding or_else
coefficient-asked (Some q) d e h = rw h.0
coefficient-asked None d e h = rw h

module _
    {w : Bytes} {m var : ℕ} {own : Rational} (a : Alone w m var own) (b : Bytes) (l : Limits) (acc : Map Term) where
  only-entry : entries_of b w m ≡ (tree b var, own) ∷ []
  unfolding entries_of
  only-entry = rw (a.size, a.key, a.value)

  pub zero-own : is_zero own ≡ true → Err NotUnit ≡ inferred l acc (entries_of b w m)
  unfolding inferred ◌>>=◌ assert
  zero-own e = rw only-entry (rw e)

  pub asked_sum :
      is_zero own ≡ false →
      (or_else (get terms acc (tree b var)) CoeffNotFound >>= λ q. over l (neg_q q) own)
      ≡ inferred l acc (entries_of b w m)
  unfolding inferred ◌>>=◌ assert
  asked_sum e = rw only-entry (rw e)

-- ---- given or inferred

-- the definition's argument is that of the two maps alone, where nothing was inferred before
pub argument_of_lem :
    (l : Limits) (o : ℕ) (acc own : LinearComb) (n : ℕ) (arg : Option Rational) →
    argument_of l (progress o acc [] n) own arg ≡ argument_from l acc.entries own.entries arg
unfolding argument_of argument_from
argument_of_lem l o acc own n (Some a) = refl
argument_of_lem l o acc own n None = refl
