-- Laws of what a record's bytes hold: numbers of two bytes, the arguments that they make, and the comparison of bytes with
-- those of earlier records. Each is an induction over a list or a number; the functions of `book.rt` meet their contracts
-- by them.
use mathlib.Core.Path.{◌≡◌, refl, sym, ap, ◌∙◌}
use mathlib.Core.Bool.{Bool, true, false, cond}
use mathlib.Core.Logic.{◌⊎◌, ⊎_elim, inl, inr}
use mathlib.Core.List.{List, [], ◌∷◌}
use Prim.Native.Nat.{ℕ, zero, suc, ◌*◌, ◌/◌, ◌≤◌, ◌<◌}
use native.Mathlib.Nat.{eq-or-lt_of_le, le_of_suc-le-suc}
use native.Mathlib.Omega.{arith}
use borrow.Author.Tests.{lt-ltb, le-ltb}
use lib.Dec.{ltb}
use lib.ListN.{length, get_or, get_or-eq_default}
use Rattle.numbers.specs.Bytes.{Bytes, le, same_bytes}
use Rattle.terms.specs.Term.{Term, Terms}
use Rattle.terms.specs.Term.Terms.{nil, ◌▹◌}
use Rattle.terms.specs.Book.{record_of, numbers, nothing, earlier, argument_at, arguments}
use Rattle.terms.specs.Book.{forest, stands}
use Rattle.numbers.proofs.LittleEndian.{le_cons, le_of_two}

-- ---- numbers of two bytes

pub length-numbers : (l : Bytes) → length (numbers l) ≡ length l / 2
unfolding numbers
length-numbers [] = refl
length-numbers (x ∷ []) = refl
length-numbers (x ∷ y ∷ l) = omega (arith, length-numbers l)

pub number_at_lem : (l : Bytes) (k d : ℕ) → k < length l / 2 → get_or (numbers l) k d ≡ le 2 l (2 * k)
unfolding numbers
number_at_lem [] k d h = absurd (omega arith)
number_at_lem (x ∷ []) k d h = absurd (omega arith)
number_at_lem (x ∷ y ∷ l) zero d h = le_of_two (x ∷ y ∷ l) 0 x y (omega arith) refl refl
number_at_lem (x ∷ y ∷ l) (suc k) d h =
    let place : 2 * suc k ≡ suc (suc (2 * k)) = omega arith in
    rw (place, le_cons, le_cons) (number_at_lem l k d (omega arith))

pub number_past : (l : Bytes) (k d : ℕ) → length l / 2 ≤ k → get_or (numbers l) k d ≡ d
number_past l k d h = get_or-eq_default (numbers l) d (omega (arith, length-numbers l))

-- ---- arguments

pub length-arguments : (i : ℕ) (l : List ℕ) → length (arguments i l) ≡ length l
unfolding arguments
length-arguments i [] = refl
length-arguments i (a ∷ l) = ap suc (length-arguments i l)

pub earlier-before : (i a : ℕ) → a < i → earlier i a ≡ a
earlier-before i a h = rw (lt-ltb a i h)

pub earlier-after : (i a : ℕ) → i ≤ a → earlier i a ≡ nothing
earlier-after i a h = rw (le-ltb a i h)

-- what is no record stays none
earlier-nothing : (i : ℕ) → earlier i nothing ≡ nothing
earlier-nothing i = go (ltb nothing i)
  where
    go : (t : Bool) → cond t nothing nothing ≡ nothing
    go true = refl
    go false = refl

get_or-arguments : (i : ℕ) (l : List ℕ) (k : ℕ) → get_or (arguments i l) k nothing ≡ earlier i (get_or l k nothing)
unfolding arguments
get_or-arguments i [] k = sym (earlier-nothing i)
get_or-arguments i (a ∷ l) zero = refl
get_or-arguments i (a ∷ l) (suc k) = get_or-arguments i l k

pub argument_of_arguments :
    (i : ℕ) (l : Bytes) (k : ℕ) → get_or (arguments i (numbers l)) k nothing ≡ argument_at l k i
unfolding argument_at
argument_of_arguments i l k = get_or-arguments i (numbers l) k

-- as the function `argument` finds it: the number a stands at k, or k lies past the end
module _ (l : Bytes) (k i : ℕ) where
  argument_at_lem : (a : ℕ) → k < length l / 2 → a ≡ le 2 l (2 * k) → argument_at l k i ≡ earlier i a
  unfolding argument_at
  argument_at_lem a h e = ap (earlier i) (number_at_lem l k nothing h ∙ sym e)

  pub argument-earlier : (a : ℕ) → k < length l / 2 → a ≡ le 2 l (2 * k) → a < i → a ≡ argument_at l k i
  argument-earlier a h e below = sym (argument_at_lem a h e ∙ earlier-before i a below)

  pub argument_late : (a : ℕ) → k < length l / 2 → a ≡ le 2 l (2 * k) → i ≤ a → nothing ≡ argument_at l k i
  argument_late a h e above = sym (argument_at_lem a h e ∙ earlier-after i a above)

  pub argument-past : length l / 2 ≤ k → nothing ≡ argument_at l k i
  unfolding argument_at
  argument-past h = sym (ap (earlier i) (number_past l k nothing h) ∙ earlier-nothing i)

-- ---- the terms of one argument, and of two

forest_one : (f : ℕ → Term) (l : List ℕ) → length l ≡ 1 → forest f l ≡ f (get_or l 0 nothing) ▹ nil
unfolding forest
forest_one f [] h = absurd (omega arith)
forest_one f (a ∷ []) h = refl
forest_one f (a ∷ b ∷ l) h = absurd (omega arith)

forest-two :
    (f : ℕ → Term) (l : List ℕ) → length l ≡ 2 →
    forest f l ≡ f (get_or l 0 nothing) ▹ f (get_or l 1 nothing) ▹ nil
unfolding forest
forest-two f [] h = absurd (omega arith)
forest-two f (a ∷ l) h = ap (λ (ts : Terms). f a ▹ ts) (forest_one f l (omega arith))

length_of : (i : ℕ) (l : Bytes) → length (arguments i (numbers l)) ≡ length l / 2
length_of i l = length-arguments i (numbers l) ∙ length-numbers l

pub forest_of_two :
    (f : ℕ → Term) (i : ℕ) (l : Bytes) → length l / 2 ≡ 2 →
    forest f (arguments i (numbers l)) ≡ f (argument_at l 0 i) ▹ f (argument_at l 1 i) ▹ nil
forest_of_two f i l h =
    rw (forest-two f (arguments i (numbers l)) (length_of i l ∙ h), argument_of_arguments i l 0, argument_of_arguments i l 1)

-- ---- one of the first n records

module _ (b r : Bytes) where
  stands-either :
      (n : ℕ) → (stands n b r ≡ true) ⊎ (same_bytes (record_of b n) r ≡ true) → stands (suc n) b r ≡ true
  unfolding stands
  stands-either n = go (stands n b r)
    where
      go :
          (t : Bool) → (t ≡ true) ⊎ (same_bytes (record_of b n) r ≡ true) →
          elim t [ true ↦ true | false ↦ same_bytes (record_of b n) r ] ≡ true
      go true o = refl
      go false o = ⊎_elim (λ e. cc) (λ e. e) o

  pub stands-found : (n j : ℕ) → j < n → same_bytes (record_of b j) r ≡ true → stands n b r ≡ true
  stands-found zero j h e = absurd (omega arith)
  stands-found (suc n) j h e =
      stands-either n (⊎_elim (λ p. inr (rw p at e)) (λ l. inl (stands-found n j l e)) (eq-or-lt_of_le (le_of_suc-le-suc h)))
