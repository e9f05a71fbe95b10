-- The arguments that a part names, read as numbers, and the functions `read_args` and `argument_at`: by place, and from
-- a place on.
--     all_read, read_first, read_args-drop       whether all are numbers, by the first; those behind a place
--     ArgumentAt, argument_at_lem, argument-past       the number at a place
--     ReadSoFar, read-begin, read_again, read-refused, read-end       the loop of `read_args`
--     argument_of_lem, argument-proper, argument-beyond       what `argument_at` answers
use mathlib.Core.Path.{◌≡◌, refl, sym, ap, ◌∙◌}
use mathlib.Core.List.{List, [], ◌∷◌}
use Rattle.std.specs.Prelude.{Option, Some, None}
use Prim.Native.Nat.{ℕ, zero, suc, ◌+◌, ◌/◌, ◌≤◌, ◌<◌}
use native.Mathlib.Numerals.{add-one}
use native.Mathlib.Omega.{arith}
use lib.ListN.{length, get_or, drop}
use Rattle.numbers.specs.Rational.{Rational}
use Rattle.numbers.specs.Bytes.{Bytes}
use Rattle.terms.specs.Term.{Term}
use Rattle.terms.specs.Book.{tree}
use Rattle.rules.proofs.Yields.{through}
use Rattle.rules.specs.Refusal.{Result, ◌>>=◌}
use Rattle.std.specs.Prelude.{Ok, Err}
use Rattle.std.specs.Result.{result_ok}
use Rattle.rules.specs.declared.refusal.Refusal.{Refusal}
use Rattle.rules.specs.Limits.{Limits, limited, fraction_err}
use Rattle.linear_arithmetic.specs.LinearArithmetic.{read_args}
use Rattle.index_map.specs.Memory.Entries.{CoefficientIs}
use Rattle.process_disequality.specs.Memory.ProcessSteps.{CoefficientProper}
use Rattle.linear_arithmetic.specs.Memory.LinearSteps.{at}
use Rattle.rules.specs.Memory.Parts.{Expects, numbers_in, named, terms_in}
use Rattle.rules.proofs.Results.{stops}
use Rattle.rules.proofs.RunParts.{length-numbers_in, named_cons, named_past}

module _ (l : Limits) where
  -- all are numbers, or the refusal of the first that is none
  abbrev pub all_read : List Term → Result (Unit {0})
  all_read ts = read_args l ts >>= λ qs. Ok tt

  -- the first is a number, and the others are left
  pub read_first :
      (t : Term) (ts : List Term) {q : Rational} → Ok q ≡ fraction_err l t → all_read (t ∷ ts) ≡ all_read ts
  unfolding read_args ◌>>=◌
  read_first t ts {q} h = rw (sym h, read_args) (go (read_args l ts))
    where
      go :
          (r : Result (List Rational)) →
          ◌≡◌ {A = Result (Unit {0})} ((r >>= λ qs. Ok (q ∷ qs)) >>= λ qs. Ok tt) (r >>= λ qs. Ok tt)
      go (Ok qs) = refl
      go (Err c) = refl

  -- all are numbers
  record Headed (t : Term) (ts : List Term) (qs : List Rational) : Type 0 where
    first : Rational
    others : List Rational
    is : qs ≡ first ∷ others
    reads : fraction_err l t ≡ Ok first
    then : read_args l ts ≡ Ok others

  read_headed : (t : Term) (ts : List Term) (qs : List Rational) → read_args l (t ∷ ts) ≡ Ok qs → Headed t ts qs
  unfolding read_args
  read_headed t ts qs h =
      let read = through (fraction_err l t) _ qs h in
      let others = through (read_args l ts) _ qs read.then in
      let whole : Ok (read.middle ∷ others.middle) ≡ Ok qs = others.then in
      record {
        first = read.middle;
        others = others.middle;
        is = cc;
        reads = read.first;
        then = others.first;
      }

  read_none : (qs : List Rational) → read_args l [] ≡ Ok qs → qs ≡ []
  unfolding read_args
  read_none qs h = let e : ◌≡◌ {A = Result (List Rational)} (Ok []) (Ok qs) = h in cc

  pub read_args-drop :
      (ts : List Term) (k : ℕ) (qs : List Rational) → read_args l ts ≡ Ok qs → read_args l (drop k ts) ≡ Ok (drop k qs)
  read_args-drop ts zero qs h = h
  read_args-drop [] (suc k) qs h = rw (read_none qs h) (rw (read_none qs h) at h)
  read_args-drop (t ∷ ts) (suc k) qs h =
      let head = read_headed t ts qs h in
      rw head.is (read_args-drop ts k head.others head.then)

  -- argument k of them
  pub record ArgumentAt (t : Term) (a : Option Rational) : Type 0 where
    pub number : Rational
    pub read : fraction_err l t ≡ Ok number
    pub is : a ≡ Some number

  module _ (b : Bytes) where
    pub argument_at_lem :
        (ns : List ℕ) (qs : List Rational) (k : ℕ) → read_args l (named b ns) ≡ Ok qs → k < length ns →
        ArgumentAt (tree b (get_or ns k 0)) (at qs k)
    unfolding named
    argument_at_lem [] qs k h inside = absurd (omega arith)
    argument_at_lem (i ∷ ns) qs zero h inside =
        let head = read_headed (tree b i) (named b ns) qs h in
        record { number = head.first; read = head.reads; is = ap (λ z. at z 0) head.is }
    argument_at_lem (i ∷ ns) qs (suc k) h inside =
        let head = read_headed (tree b i) (named b ns) qs h in
        rw head.is (argument_at_lem ns head.others k head.then (omega arith))

    pub argument-past :
        (ns : List ℕ) (qs : List Rational) (k : ℕ) → read_args l (named b ns) ≡ Ok qs → length ns ≤ k → at qs k ≡ None
    unfolding named read_args
    argument-past [] qs k h past = rw (read_none qs h)
    argument-past (i ∷ ns) qs zero h past = absurd (omega arith)
    argument-past (i ∷ ns) qs (suc k) h past =
        let head = read_headed (tree b i) (named b ns) qs h in
        rw head.is (argument-past ns head.others k head.then (omega arith))

-- ---- the functions `read_args` and `argument_at`, over the records that a part names

pub argument-proper : (x : Result Rational) {d : Result Rational} → Expects x d → CoefficientProper (result_ok x)
argument-proper (Ok q) e = e.proper q refl
argument-proper (Err r) e = tt

module _ (b p : Bytes) where
  -- the first k arguments are numbers
  pub record ReadSoFar (k : ℕ) : Type 0 where
    pub inside : k ≤ length p / 4
    pub left : (n : ℕ) → all_read (limited n) (terms_in b p) ≡ all_read (limited n) (drop k (terms_in b p))

  pub read-begin : ReadSoFar 0
  read-begin = record { inside = omega arith; left = λ n. refl }

  pub read-end : (k : ℕ) → ReadSoFar k → length p / 4 ≤ k → (n : ℕ) → Ok tt ≡ all_read (limited n) (terms_in b p)
  unfolding read_args ◌>>=◌
  read-end k far h n =
      sym
      (far.left n ∙ ap (all_read (limited n)) (named_past b (numbers_in p) k (rw (length-numbers_in p) h)))

  -- argument k is in record i
  module _ (k i : ℕ) (h : k < length p / 4) (i-is : i ≡ get_or (numbers_in p) k 0) where
    next : drop k (terms_in b p) ≡ tree b i ∷ drop (suc k) (terms_in b p)
    next = rw i-is (named_cons b (numbers_in p) k (rw (length-numbers_in p) h))

    module _ (far : ReadSoFar k) where
      left-next :
          (n : ℕ) →
          all_read (limited n) (terms_in b p) ≡ all_read (limited n) (tree b i ∷ drop (suc k) (terms_in b p))
      left-next n = far.left n ∙ ap (all_read (limited n)) next

      pub read_again :
          {q : Rational} → ((n : ℕ) → Expects (Ok q) (fraction_err (limited n) (tree b i))) → ReadSoFar (k + 1)
      read_again found =
          record {
            inside = omega arith;
            left = λ n. rw add-one (left-next n ∙ read_first (limited n) (tree b i) _ (found n).is);
          }

      pub read-refused :
          {r : Refusal} → ((n : ℕ) → Expects (Err r) (fraction_err (limited n) (tree b i))) → (n : ℕ) →
          Err r ≡ all_read (limited n) (terms_in b p)
      unfolding read_args
      read-refused found n = stops _ (stops _ (found n).is) ∙ sym (left-next n)

    -- among arguments that are all numbers
    pub argument_of_lem :
        (x : Result Rational) → ((n : ℕ) → Expects x (fraction_err (limited n) (tree b i))) → (n : ℕ)
        (qs : List Rational) → read_args (limited n) (terms_in b p) ≡ Ok qs → CoefficientIs (result_ok x) (at qs k)
    argument_of_lem x found n qs all = go x (found n)
      where
        here : ArgumentAt (limited n) (tree b i) (at qs k)
        here = rw i-is (argument_at_lem (limited n) b (numbers_in p) qs k all (rw (length-numbers_in p) h))

        go :
            (x : Result Rational) → Expects x (fraction_err (limited n) (tree b i)) →
            CoefficientIs (result_ok x) (at qs k)
        go (Ok q) e = (cc (e.is, here.read, here.is), e.proper q refl)
        go (Err r) e = cc (e.is, here.read)

  pub argument-beyond :
      (k : ℕ) → length p / 4 ≤ k → (n : ℕ) (qs : List Rational) → read_args (limited n) (terms_in b p) ≡ Ok qs →
      at qs k ≡ None
  argument-beyond k h n qs all = argument-past (limited n) b (numbers_in p) qs k all (rw (length-numbers_in p) h)
