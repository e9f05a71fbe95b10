-- The derived `==` compares the parts, as `eq_q` does.
use mathlib.Core.Path.{◌≡◌, ◌∙◌, ap₂, subst}
use mathlib.Core.Bool.{true, ◌&&◌}
use lib.IntN.{ℤ}
use Rattle.std.proofs.Common.{int_eq}
use Rattle.std.proofs.lemmas.Bool.Decides.{Decides-int_eq, same_from_decides}
use Rattle.numbers.specs.Pair.{eq_z}
use Rattle.numbers.specs.Rational.{eq_q}
use Rattle.numbers.proofs.Rationals.{eq_z-eq, eq_z-refl}
use Rattle.numbers.proofs.number.Number.eq.Goals as goal

int_eq-eq_z : (x y : ℤ) → int_eq x y ≡ eq_z x y
int_eq-eq_z x y =
    same_from_decides (int_eq x y) (eq_z x y) (Decides-int_eq x y)
    (eq_z-eq x y, λ e. subst (λ (z : ℤ). eq_z x z ≡ true) e (eq_z-refl x))

pub returns : goal.returns
unfolding eq_q
returns c =
    let a = c.args.self in
    let b = c.args.other in
    c.eq.ensures ∙ ap₂ ◌&&◌ (int_eq-eq_z a.num b.num) (int_eq-eq_z a.den b.den)
