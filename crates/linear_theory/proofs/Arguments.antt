-- The arguments of a la_generic or bounded_farkas step: what `read_args` reads are the numbers that they write, in
-- lowest terms (`arguments-found`, `arguments-accepted`, `arguments-lowest`), and demand 3's premise on whole numbers
-- speaks of these numbers (`whole_numbers_lem`).
use mathlib.Core.Path.{◌≡◌, refl, sym, ◌∙◌, ap, ap₂}
use mathlib.Core.Bool.{Bool, true, false, ◌&&◌, ◌||◌}
use mathlib.Core.List.{List, [], ◌∷◌}
use lib.ListN.{length}
use Rattle.numbers.specs.Rational.{Rational, Lowest}
use Rattle.terms.specs.Term.{Term}
use Rattle.terms.specs.Smtlib.{divs_even}
use Rattle.numbers.proofs.Truths.{both, never}
use Rattle.book.proofs.BookTerms.{Closed}
use Rattle.rules.specs.Refusal.{assert}
use Rattle.rules.specs.declared.refusal.Refusal.{Refusal}
use Rattle.std.specs.Prelude.{Ok}
use Rattle.rules.specs.Limits.{Limits, the_rust}
use Rattle.linear_arithmetic.specs.LinearArithmetic.{read_args}
use Rattle.rules.specs.Shapes.{Clause}
use Rattle.linear_theory.specs.Premises.{all_even, whole_literal, whole_given, whole_literals}
use Rattle.alethe.specs.Alethe.{Arguments}
use Rattle.rules.proofs.Results.{next}
use Rattle.rules.proofs.Yields.{Yields, gives, and_then}
use Rattle.rules_theory.proofs.WrittenNumbers.{written_read, written-accepted, fraction-found}
use Rattle.linear_theory.proofs.LinearReadings.{written-lowest}

-- ---- clauses

abbrev pub EachOf : (Term → Type 0) → List Term → Type 0
EachOf P [] = Unit {0}
EachOf P (t ∷ ts) = P t × EachOf P ts

pub either-false : (s t : Bool) → (s || t) ≡ false → (s ≡ false) × (t ≡ false)
either-false true t e = never (sym e)
either-false false t e = (refl, e)

-- ---- the arguments as numbers

abbrev pub EachLowest : List Rational → Type 0
EachLowest [] = Unit {0}
EachLowest (q ∷ qs) = Lowest q × EachLowest qs

-- `whole_literals` on the numbers
unfoldable pub whole_numbers : Clause → List Rational → List Rational → Bool
whole_numbers [] qs rest = true
whole_numbers (phi ∷ c) (q ∷ qs) rest = whole_literal phi q && whole_numbers c qs rest
whole_numbers (phi ∷ c) [] [] = true
whole_numbers (phi ∷ c) [] (q ∷ rest) = whole_literal phi q && whole_numbers c [] rest

pub whole_numbers_lem : (c : Clause) {args : List Term} {qs : List Rational} (rest : List Rational) → Arguments args qs →
    whole_literals c args rest ≡ whole_numbers c qs rest
unfolding whole_literals whole_numbers whole_given
whole_numbers_lem [] rest h = refl
whole_numbers_lem (phi ∷ c) [] Arguments.end = refl
whole_numbers_lem (phi ∷ c) (q ∷ rest) Arguments.end = ap (◌&&◌ (whole_literal phi q)) (whole_numbers_lem c rest Arguments.end)
whole_numbers_lem (phi ∷ c) rest (Arguments.argument w h) =
    ap₂ ◌&&◌ (ap (whole_given phi) (written_read w)) (whole_numbers_lem c rest h)

pub arguments-lowest : {P : Term → Type 0} → Closed P → (args : List Term) → EachOf P args → (qs : List Rational) →
    Arguments args qs → EachLowest qs
arguments-lowest closed [] ps [] Arguments.end = tt
arguments-lowest closed (a ∷ args) (p, ps) (q ∷ qs) (Arguments.argument w h) =
    (written-lowest closed a p w, arguments-lowest closed args ps qs h)
arguments-lowest {P = P} closed [] ps (q ∷ qs) x3 = elim x3 [ ]
arguments-lowest {P = P} closed (a ∷ args) (p, ps) [] x5 = elim x5 [ ]

pub arguments-length : {args : List Term} {qs : List Rational} → Arguments args qs → length qs ≡ length args
arguments-length Arguments.end = refl
arguments-length (Arguments.argument w h) = rw (arguments-length h)

pub arguments-accepted : {args : List Term} {qs : List Rational} → Arguments args qs → read_args the_rust args ≡ Ok qs
unfolding read_args
arguments-accepted Arguments.end = refl
arguments-accepted (Arguments.argument w h) = next _ (written-accepted w) ∙ next _ (arguments-accepted h)

pub asserted-true : (t : Bool) (r : Refusal) (u : Unit {0}) → assert t r ≡ Ok u → t ≡ true
unfolding assert
asserted-true true r u e = refl
asserted-true false r u e = cc

pub arguments-found : (l : Limits) (args : List Term) → Yields (Arguments args) (read_args l args)
unfolding read_args
arguments-found l [] = gives Arguments.end
arguments-found l (a ∷ args) =
    and_then (fraction-found l a) λ q w. and_then (arguments-found l args) λ qs h. gives (Arguments.argument w h)

-- ---- terms of P

pub each-even : (P : Term → Type 0) (c : Clause) → EachOf P c → all_even c ≡ true →
    EachOf (λ t. P t × (divs_even t ≡ true)) c
unfolding all_even
each-even P [] ps e = tt
each-even P (t ∷ c) (p, ps) e =
    let b = both (divs_even t) (all_even c) e in ((p, b.0), each-even P c ps b.1)
