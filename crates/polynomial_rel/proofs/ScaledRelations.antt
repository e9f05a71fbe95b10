-- The steps of `poly_simp_rel`.
--     numbers_in_turn       what is left of `number_case` after the coefficients is a step of its own
--     positive_like       a sign is like a positive one where it is positive
--     premise_law       the premise is asked for as the conclusion is
--     one_premise       from the only premise on
use mathlib.Core.Path.{◌≡◌, refl, sym}
use mathlib.Core.Bool.{Bool, true, false, beq}
use mathlib.Core.List.{List, [], ◌∷◌}
use Rattle.std.specs.Prelude.{Option, Some, None, Ok}
use Prim.Native.Nat.{ℕ}
use Rattle.numbers.specs.Bytes.{Bytes}
use Rattle.terms.specs.Term.{Term}
use Rattle.rules.specs.Refusal.{Result, ◌>>=◌, or_else}
use Rattle.rules.specs.declared.refusal.Refusal.TheVariants.{WrongLengthOfClause, WrongLengthOfPremiseClause}
use Rattle.rules.specs.Limits.{Limits}
use Rattle.rules.specs.Shapes.{Clause, only_literal}
use Rattle.rules.specs.Memory.Parts.{terms_in}
use Rattle.rules.proofs.Results.{bind_assoc}
use Rattle.polynomial_rel.specs.PolySimpRel.{premise_term, Scaled, number_case, poly_simp_rel}
use Rattle.polynomial_rel.specs.Memory.PolynomialRel.{PremisesAre, one_sign, signs_of, sides_case, relation_case}
use Rattle.polynomial_rel.specs.Memory.PolynomialRel.{scaled_case}

ok_then : {A B : Type 0} (a : A) (f : A → Result B) → (Ok a >>= f) ≡ f a
unfolding ◌>>=◌
ok_then a f = refl

pub numbers_in_turn :
    (l : Limits) (p : Scaled) (phi : Term) →
    (signs_of l p.0 p.2 >>= λ same. relation_case same p phi) ≡ number_case l p phi
unfolding signs_of one_sign number_case relation_case sides_case
numbers_in_turn l p phi = simp (bind_assoc, ok_then)

pub positive_like : (t : Bool) → beq true t ≡ t
positive_like true = refl
positive_like false = refl

pub premise_law :
    (c : Clause) (o : Option Term) → or_else o WrongLengthOfClause ≡ only_literal c →
    or_else o WrongLengthOfPremiseClause ≡ premise_term c
unfolding only_literal or_else
premise_law [] (Some t) e = cc
premise_law [] None e = refl
premise_law (t ∷ []) (Some u) e = e
premise_law (t ∷ []) None e = cc
premise_law (t ∷ u ∷ c) (Some v) e = cc
premise_law (t ∷ u ∷ c) None e = refl

pub one_premise :
    (b given : Bytes) {n : ℕ} {ps : List Clause} (l : Limits) (c : Clause) → n ≡ 1 → PremisesAre b n given ps →
    (only_literal c >>= λ phi. premise_term (terms_in b given) >>= λ t. scaled_case l t phi) ≡ poly_simp_rel l c ps
unfolding poly_simp_rel scaled_case ◌>>=◌
one_premise b given l c one are = sym (rw (are.1 one))
