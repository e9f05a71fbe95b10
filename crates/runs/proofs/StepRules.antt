-- The rule of a step, by the byte of its S record.
--     some-rule       the bytes that are rules
--     head-tests, head-rule       the tests of an S record, and its rule
--     rule_is       the rule of a part that starts with it
use Rattle.runs.specs.declared.rule.Rule.{Rule}
use Rattle.runs.specs.declared.rule.Rule.TheVariants.{Assume}
use mathlib.Core.Path.{◌≡◌, refl, sym, ap, ◌∙◌}
use mathlib.Core.Bool.{Bool, true, false, ◌&&◌}
use mathlib.Core.List.{List, [], ◌∷◌}
use Rattle.std.specs.Prelude.{Option, Some, None}
use Prim.Native.Nat.{ℕ, zero, suc, ◌≤◌, ◌<◌}
use native.Mathlib.Omega.{arith}
use borrow.Author.Tests.{ne_eqb, lt-leb}
use lib.Dec.{eqb, leb}
use lib.ListN.{get_or}
use Rattle.numbers.specs.Bytes.{Bytes}
use Rattle.numbers.proofs.Truths.{never}
use Rattle.runs.specs.Rule.{rule_number, rules, with_number, rule_of}
use Rattle.runs.specs.Run.{Rec, S, head_rule}
use Rattle.runs.specs.Memory.StepParts.{head_in, rule_in}
use Rattle.std.specs.Prelude.{is_some}

last-number : (r : Rule) → rule_number r ≤ 8
last-number Assume = omega arith
last-number r = omega arith

no_rule : (rs : List Rule) (n : ℕ) → 8 < n → with_number rs n ≡ None
unfolding with_number
no_rule [] n h = refl
no_rule (r ∷ rs) n h =
    rw (ne_eqb (rule_number r) n (λ e. omega (arith, e, h, last-number r)), with_number) (no_rule rs n h)

above : (n : ℕ) → 8 < n → is_some (rule_of n) ≡ leb n 8
unfolding rule_of
above n h = ap is_some (no_rule rules n h) ∙ sym (lt-leb n 8 h)

-- the rules are numbered from 0 to 8
pub some-rule : (n : ℕ) → is_some (rule_of n) ≡ leb n 8
unfolding rule_of with_number
some-rule zero = refl
some-rule (suc zero) = refl
some-rule (suc (suc zero)) = refl
some-rule (suc (suc (suc zero))) = refl
some-rule (suc (suc (suc (suc zero)))) = refl
some-rule (suc (suc (suc (suc (suc zero))))) = refl
some-rule (suc (suc (suc (suc (suc (suc zero)))))) = refl
some-rule (suc (suc (suc (suc (suc (suc (suc zero))))))) = refl
some-rule (suc (suc (suc (suc (suc (suc (suc (suc zero)))))))) = refl
some-rule (suc (suc (suc (suc (suc (suc (suc (suc (suc n))))))))) =
    let past : 8 < suc (suc (suc (suc (suc (suc (suc (suc (suc n)))))))) = omega arith in above _ past

-- the tests of an S record, one after the other
pub head-tests :
    (s : Rec) {x : Bool} → x ≡ (eqb s.mark S && (is_some (rule_of s.byte) && eqb s.number 0)) →
    x ≡ is_some (head_rule s)
unfolding head_rule
head-tests s e = e ∙ go (eqb s.mark S) (eqb s.number 0) (rule_of s.byte)
  where
    go :
        (m n : Bool) (r : Option Rule) →
        (m && (is_some r && n)) ≡ is_some {T = Rule} (elim (m && n) [ true ↦ r | false ↦ None ])
    go true true (Some r) = refl
    go true true None = refl
    go true false (Some r) = refl
    go true false None = refl
    go false n r = refl

pub head-rule : (s : Rec) {r : Rule} → head_rule s ≡ Some r → rule_of s.byte ≡ Some r
unfolding head_rule
head-rule s {r} e = go (eqb s.mark S && eqb s.number 0) e
  where
    go : (t : Bool) → elim t [ true ↦ rule_of s.byte | false ↦ None ] ≡ Some r → rule_of s.byte ≡ Some r
    go true e = e
    go false e = never (ap is_some e)

pub rule_is : (part : Bytes) {r : Rule} → rule_of (get_or part 1 0) ≡ Some r → rule_in part ≡ r
unfolding rule_in head_in
rule_is part e = rw (e, rule_in)
