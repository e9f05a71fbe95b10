-- The sort rules of the code (specs/Sorting, over sorts as numbers) are those of specs/Term. The number 3 stands for Real, and
-- would stand for bit-vectors of no bits too: so the rules agree where each bit-vector has a bit (`Wide`). The tests for equal
-- sorts agree without that, since specs/Term makes them by the number too.
use mathlib.Core.Path.{◌≡◌, refl, sym, ◌∙◌, ap, ap₂, subst}
use mathlib.Core.Bool.{Bool, true, false, ◌&&◌, ◌||◌, cond}
use mathlib.Core.List.{List, [], ◌∷◌, map}
use Prim.Native.Nat.{ℕ, ◌+◌, ◌<◌}
use native.Mathlib.Omega.{arith}
use borrow.Author.Tests.{le-leb, eqb-true, eqb-false, ne_eqb}
use lib.Dec.{leb, eqb}
use Rattle.terms.specs.Operator.{GreaterEq, Mult, IntDiv, ToReal, Equals, Or}
use Rattle.terms.specs.Term.{Sort, sort_code, same_sort, is_numeric, is_bits, all, first, takes, gives}
use Rattle.numbers.specs.Choice.{when◌then◌else◌}
use Rattle.terms.specs.Term.Sort.{bool, int, real, bits}
use Rattle.book.specs.Memory.Sorting.{all_codes, first_code, numeric_code, common, takes_by, gives_by, sort_rule}
use Rattle.std.specs.Prelude.{Some, None}

-- a bit-vector has at least one bit
abbrev pub Wide : Sort → Type 0
Wide bool = Unit {0}
Wide int = Unit {0}
Wide real = Unit {0}
Wide (bits w) = 0 < w

abbrev pub AllWide : List Sort → Type 0
AllWide [] = Unit {0}
AllWide (s ∷ ss) = Wide s × AllWide ss

abbrev pub codes : List Sort → List ℕ
codes ss = map sort_code ss

-- ---- the tests

all_codes_lem :
    (p : Sort → Bool) (q : ℕ → Bool) → ((s : Sort) → Wide s → p s ≡ q (sort_code s)) → (ss : List Sort) →
    AllWide ss → all p ss ≡ all_codes q (codes ss)
unfolding all all_codes
all_codes_lem p q e [] wide = refl
all_codes_lem p q e (s ∷ ss) wide = ap₂ ◌&&◌ (e s wide.0) (all_codes_lem p q e ss wide.1)

-- equality of sorts is that of their numbers, at every width
all_same : (s : Sort) (ss : List Sort) → all (same_sort s) ss ≡ all_codes (eqb (sort_code s)) (codes ss)
unfolding all all_codes
all_same s [] = refl
all_same s (t ∷ ss) = ap (λ x. same_sort s t && x) (all_same s ss)

numeric_code_lem : (s : Sort) → Wide s → is_numeric s ≡ numeric_code (sort_code s)
numeric_code_lem bool wide = refl
numeric_code_lem int wide = refl
numeric_code_lem real wide = refl
numeric_code_lem (bits w) wide = rw (ne_eqb (3 + w) 2 (λ e. omega arith), ne_eqb (3 + w) 3 (λ e. omega arith))

bits-code : (s : Sort) → Wide s → is_bits s ≡ leb 4 (sort_code s)
bits-code bool wide = refl
bits-code int wide = refl
bits-code real wide = refl
bits-code (bits w) wide = rw (le-leb 4 (3 + w) (omega arith))

first_code_lem : (ss : List Sort) → first_code (codes ss) ≡ sort_code (first ss)
first_code_lem [] = refl
first_code_lem (s ∷ ss) = refl

wide_first : (ss : List Sort) → AllWide ss → Wide (first ss)
wide_first [] wide = tt
wide_first (s ∷ ss) wide = wide.0

-- all are Bool where the first is and the others are the same
all_bool-codes : (l : List ℕ) → all_codes (eqb 1) l ≡ (eqb (first_code l) 1 && all_codes (eqb (first_code l)) l)
unfolding all_codes
all_bool-codes [] = refl
all_bool-codes (c ∷ l) = go (eqb c 1) refl
  where
    go : (t : Bool) → eqb c 1 ≡ t → all_codes (eqb 1) (c ∷ l) ≡ (eqb c 1 && all_codes (eqb c) (c ∷ l))
    go true e =
        subst (λ (x : ℕ). all_codes (eqb 1) (x ∷ l) ≡ (eqb x 1 && all_codes (eqb x) (x ∷ l))) (sym (eqb-true c 1 e)) refl
    go false e = rw (e, ne_eqb 1 c (λ s. eqb-false c 1 e (sym s)))

-- ---- the rules

-- two chains of tests agree where their arms do
pub both :
    {A B : Type 0} (R : A → B → Type 0) (t : Bool) {a a' : A} {b b' : B} → R a b → R a' b' →
    R (when t then a else a') (when t then b else b')
unfolding when◌then◌else◌
both R true p q = p
both R false p q = q

pub either : {A : Type 0} (P : A → Type 0) (t : Bool) {a b : A} → P a → P b → P (when t then a else b)
unfolding when◌then◌else◌
either P true p q = p
either P false p q = q

abbrev Same : Bool → Bool → Type 0
Same x y = x ≡ y

abbrev pub Coded : ℕ → Sort → Type 0
Coded n s = n ≡ sort_code s

all_first : (ss : List Sort) → all_codes (eqb (first_code (codes ss))) (codes ss) ≡ all (same_sort (first ss)) ss
all_first ss = rw (first_code_lem ss) (sym (all_same (first ss) ss))

first_bits : (ss : List Sort) → AllWide ss → leb 4 (first_code (codes ss)) ≡ is_bits (first ss)
first_bits ss wide = rw (first_code_lem ss) (sym (bits-code (first ss) (wide_first ss wide)))

module _ (o : ℕ) (ss : List Sort) where
  pub takes-rule : AllWide ss → takes_by o (common (codes ss)) ≡ takes o ss
  unfolding takes_by takes common
  takes-rule wide =
      let numbers : all_codes numeric_code (codes ss) ≡ all is_numeric ss =
      sym (all_codes_lem is_numeric numeric_code numeric_code_lem ss wide) in
      both Same (leb o Or) (sym (all_same bool ss ∙ all_bool-codes (codes ss)))
      (both Same (eqb o Equals) (ap₂ ◌||◌ (all_first ss) numbers)
      (both Same (leb o Mult) numbers
      (both Same (eqb o IntDiv) (sym (all_same int ss))
      (both Same (leb o ToReal) numbers (ap₂ ◌&&◌ (first_bits ss wide) (all_first ss))))))

  pub gives-rule : gives_by o (common (codes ss)) ≡ sort_code (gives o ss)
  unfolding gives_by gives common
  gives-rule =
      both Coded (leb o GreaterEq) refl
      (both Coded (leb o Mult) (rw (← all_same int ss) (both Coded (all (same_sort int) ss) refl refl))
      (both Coded (eqb o IntDiv) refl
      (both Coded (leb o ToReal) refl (first_code_lem ss))))

  pub wide_gives : AllWide ss → Wide (gives o ss)
  unfolding gives
  wide_gives wide =
      either Wide (leb o GreaterEq) tt
      (either Wide (leb o Mult) (either Wide (all (same_sort int) ss) tt tt)
      (either Wide (eqb o IntDiv) tt
      (either Wide (leb o ToReal) tt (wide_first ss wide))))

  pub rule-agrees :
      AllWide ss → sort_rule o (common (codes ss)) ≡ cond (takes o ss) (Some (sort_code (gives o ss))) None
  unfolding sort_rule
  rule-agrees wide = rw (takes-rule wide, gives-rule)
