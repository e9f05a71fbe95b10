-- Without limits no number is out of range, and no walk of a term is refused, nor a multiple of a linear combination.
--     fraction_of-free       a number is read, or none is there
--     mul-free, raised-free       multiples; a combination with a whole number more
--     from_term-free       the walk
use mathlib.Core.Path.{◌≡◌, refl}
use mathlib.Core.Bool.{Bool, true, false}
use Rattle.std.specs.Prelude.{Option, Some, None}
use Prim.Native.Nat.{ℕ}
use lib.IntN.{ℤ, pos}
use Rattle.numbers.specs.Rational.{Rational, whole, add_q, neg_q, is_zero, eq_q}
use Rattle.terms.specs.Operator.{Sub, GreaterEq}
use Rattle.terms.specs.Term.{Term, Terms, unary}
use Rattle.terms.specs.Term.Term.{integer, rational, bitvector, atom, op}
use Rattle.terms.specs.Term.Terms.{nil, ◌▹◌}
use Rattle.terms.specs.Readers as Readers
use Rattle.terms.specs.Readers.{unbounded, bounded, as_number, negated, as_signed_number, quotient_of, divided}
use Rattle.terms.specs.Readers.{as_unsigned_fraction, as_fraction}
use Rattle.rules.specs.Refusal.{◌>>=◌}
use Rattle.std.specs.Prelude.{Ok}
use Rattle.rules.specs.Limits.{the_rust, number_or, fraction_of}
use Rattle.index_map.specs.IndexMap.{Walked, walked, combination, new}
use Rattle.linear_walk.specs.LinearTerms.{arm_of, add_leaf, factors_of, add_term, add_args, add_difference}
use Rattle.linear_comb.specs.LinearComb.{LinearComb, mul}
use Rattle.linear_walk.specs.LinearTerms.{add_first, add_second, from_term}
use Rattle.index_map.specs.Memory.Entries.{terms}
use Rattle.disequality.specs.Disequality.{raised}
use Rattle.linear_theory.proofs.LinearCases.{by_arm, by_factors_lem}
use Rattle.rules_theory.proofs.Unlimited.{Free, answers, freely, free_of, either-free, option_free, times-free}
use Rattle.rules_theory.proofs.Unlimited.{plus-free, scale_all-free, visit-free, add_entry-free, add_constant-free}
use Rattle.terms.specs.Readers.{Reading}
use Rattle.std.specs.Prelude.{Err}
use Rattle.terms.specs.declared.term.NotRead.TheVariants.{NotNumber, OutOfRange}

-- ---- numbers that are read

data InRange : Reading → Type 0 where
  read : {q : Rational} → InRange (Ok q)
  unread : InRange (Err NotNumber)

module _ {A : Type 0} where
  option_in_range : (o : Option A) {f : A → Reading} {r : Reading} → ((a : A) → InRange (f a)) → InRange r →
      InRange (elim o as (λ z. Reading) [ Some a ↦ f a | None ↦ r ])
  option_in_range (Some a) h k = h a
  option_in_range None h k = k

negated_in_range : {r : Reading} → InRange r → InRange (negated r)
negated_in_range read = read
negated_in_range unread = unread

number_in_range : (t : Term) → InRange (as_number t)
unfolding as_number
number_in_range (integer i v) = read
number_in_range (rational i q) = read
number_in_range (bitvector i v w) = unread
number_in_range (atom i s n) = unread
number_in_range (op i o ts) = unread

over_in_range : (r : Reading) (d : Rational) → InRange (Readers.over unbounded r d)
unfolding bounded
over_in_range (Ok n) d = read
over_in_range (Err NotNumber) d = unread
over_in_range (Err OutOfRange) d = unread

divided_in_range : (a : Term) (r : Reading) → InRange (divided unbounded a r)
divided_in_range a (Ok d) = go (is_zero d)
  where
    go : (z : Bool) →
        InRange (elim z as (λ x. Reading) [ true ↦ Err NotNumber | false ↦ Readers.over unbounded (as_signed_number a) d ])
    go true = unread
    go false = over_in_range (as_signed_number a) d
divided_in_range a (Err NotNumber) = unread
divided_in_range a (Err OutOfRange) = unread

unsigned_in_range : (t : Term) → InRange (as_unsigned_fraction unbounded t)
unfolding as_unsigned_fraction
unsigned_in_range t =
    option_in_range (quotient_of t) (λ p. divided_in_range p.0 (as_signed_number p.1)) (number_in_range t)

fraction_in_range : (t : Term) → InRange (as_fraction unbounded t)
unfolding as_fraction
fraction_in_range t = option_in_range (unary Sub t) (λ x. negated_in_range (unsigned_in_range x)) (unsigned_in_range t)

pub fraction_of-free : (t : Term) → Free (fraction_of the_rust t)
unfolding fraction_of
fraction_of-free t = go (fraction_in_range t)
  where
    go : {r : Reading} → InRange r → Free (number_or r)
    go read = answers tt
    go unread = answers tt

-- ---- combinations

pub mul-free : (s : LinearComb) (q : Rational) → Free (mul the_rust s q)
unfolding mul
mul-free s q =
    either-free (is_zero q) (answers tt)
    (either-free (eq_q q (whole (pos 1))) (answers tt)
    (freely (scale_all-free q s.entries) λ m.
    freely (free_of (times-free s.constant q)) λ c. answers tt))

pub raised-free : (s : LinearComb) (z : ℤ) →
    raised the_rust s z ≡ Ok (GreaterEq, combination s.entries (add_q s.constant (whole z)))
unfolding raised ◌>>=◌
raised-free s z = rw (plus-free s.constant (whole z))

-- ---- the walk

add_leaf-free : (t : Term) (c : Rational) (w : Walked Term) → Free (add_leaf the_rust t c w)
unfolding add_leaf
add_leaf-free t c w =
    freely (fraction_of-free t) λ o.
    option_free o (λ q. freely (free_of (times-free q c)) λ r. add_constant-free r w)
    (add_entry-free terms (λ n. refl) t c w)

factors_of-free : (ts : Terms) → Free (factors_of the_rust ts)
unfolding factors_of
factors_of-free nil = answers tt
factors_of-free (a ▹ nil) = answers tt
factors_of-free (a ▹ b ▹ ts) = freely (fraction_of-free a) λ p. freely (fraction_of-free b) λ q. answers tt

mutual
  unfolding add_term

  add_term-free : (t : Term) (c : Rational) (w : Walked Term) → Free (add_term t the_rust c w)
  add_term-free (integer i v) c w = freely (visit-free w) (add_leaf-free (integer i v) c)
  add_term-free (rational i q) c w = freely (visit-free w) (add_leaf-free (rational i q) c)
  add_term-free (bitvector i v n) c w = freely (visit-free w) (add_leaf-free (bitvector i v n) c)
  add_term-free (atom i s n) c w = freely (visit-free w) (add_leaf-free (atom i s n) c)
  add_term-free (op i o ts) c w =
      freely (visit-free w) λ v.
      by_arm (Free {A = Walked Term}) (arm_of o ts)
      (add_args-free ts c v)
      (add_args-free ts (neg_q c) v)
      (add_difference-free ts c v)
      (freely (factors_of-free ts) λ k.
      by_factors_lem (Free {A = Walked Term}) k
      (λ q. freely (free_of (times-free q c)) λ r. add_second-free ts r v)
      (λ q. freely (free_of (times-free q c)) λ r. add_first-free ts r v)
      (add_entry-free terms (λ n. refl) (op i o ts) c v))
      (add_leaf-free (op i o ts) c v)

  add_args-free : (ts : Terms) (c : Rational) (w : Walked Term) → Free (add_args ts the_rust c w)
  add_args-free nil c w = answers tt
  add_args-free (t ▹ ts) c w = freely (add_term-free t c w) λ v. add_args-free ts c v

  add_difference-free : (ts : Terms) (c : Rational) (w : Walked Term) → Free (add_difference ts the_rust c w)
  add_difference-free nil c w = answers tt
  add_difference-free (t ▹ ts) c w = freely (add_term-free t c w) λ v. add_args-free ts (neg_q c) v

  add_first-free : (ts : Terms) (c : Rational) (w : Walked Term) → Free (add_first ts the_rust c w)
  add_first-free nil c w = answers tt
  add_first-free (t ▹ ts) c w = add_term-free t c w

  add_second-free : (ts : Terms) (c : Rational) (w : Walked Term) → Free (add_second ts the_rust c w)
  add_second-free nil c w = answers tt
  add_second-free (t ▹ ts) c w = add_first-free ts c w

pub from_term-free : (t : Term) (n : ℕ) → Free (from_term the_rust t n)
unfolding from_term
from_term-free t n = add_term-free t (whole (pos 1)) (walked new n)
