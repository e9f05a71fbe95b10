-- The table of rules: a rule by its number, and its number back.
use Rattle.runs.specs.declared.rule.Rule.{Rule}
use Rattle.runs.specs.declared.rule.Rule.TheVariants.{Assume}
use mathlib.Core.Path.{◌≡◌, refl, sym, ◌∙◌, ap}
use mathlib.Core.Bool.{Bool, true, false}
use mathlib.Core.List.{List, [], ◌∷◌}
use Rattle.std.specs.Prelude.{Option, Some}
use Prim.Native.Nat.{ℕ}
use native.Mathlib.Omega.{arith}
use borrow.Author.Tests.{eqb-true}
use lib.Dec.{eqb}
use Rattle.runs.specs.Rule.{rule_number, rules, with_number, rule_of, is_rule}

pub rule-back : (r : Rule) → rule_of (rule_number r) ≡ Some r
unfolding rule_of with_number
rule-back Assume = refl
rule-back r = refl

number_of : (rs : List Rule) (n : ℕ) (r : Rule) → with_number rs n ≡ Some r → rule_number r ≡ n
unfolding with_number
number_of [] n r e = let z : ◌≡◌ {A = ℕ} 0 1 = cc in absurd (omega arith)
number_of (x ∷ rs) n r e = go (eqb (rule_number x) n) refl e (number_of rs n r)
  where
    go :
        (t : Bool) → eqb (rule_number x) n ≡ t →
        ◌≡◌ {A = Option Rule} (elim t [ true ↦ Some x | false ↦ with_number rs n ]) (Some r) →
        (with_number rs n ≡ Some r → rule_number r ≡ n) → rule_number r ≡ n
    go true f e rest = let h : r ≡ x = cc in rw h (eqb-true (rule_number x) n f)
    go false f e rest = rest e

pub rule-number : (n : ℕ) (r : Rule) → rule_of n ≡ Some r → rule_number r ≡ n
unfolding rule_of
rule-number n r e = number_of rules n r e

pub same-rule : (r s : Rule) → is_rule r s ≡ true → r ≡ s
same-rule r s e =
    let f : rule_number r ≡ rule_number s = eqb-true (rule_number r) (rule_number s) e in
    let h : ◌≡◌ {A = Option Rule} (Some r) (Some s) = sym (rule-back r) ∙ ap rule_of f ∙ rule-back s in
    cc
