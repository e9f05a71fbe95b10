-- The tests in turn. Those of the verdicts are made of what the variants are.
use mathlib.Core.Path.{◌≡◌, sym, ◌∙◌}
use mathlib.Core.Bool.{◌&&◌, not}
use lib.Dec.{eqb}
use Rattle.std.proofs.Common.{arith}
use Rattle.std.proofs.lemmas.Bool.Decides.{nat_tests}
use Rattle.runs.specs.Verdict.{verdict_number, is_lent}
use Rattle.again.specs.Again.{agree}
use Rattle.again.proofs.SecondAnswers.{not_lent, accepts_by}
use Rattle.again.proofs.again.agree.Goals as goal
use Rattle.again.proofs.again.agree.Goals.{Joined-not-matches, in-Lent, in_default, then-not-matches, else-not-matches}

verdicts :
    (c : Joined-not-matches) →
    c.if-not-matches.value ≡ (not (is_lent c.args.first.verdict) && eqb (verdict_number c.args.second.verdict) 0)
verdicts c =
    let lent : c.match-matches.matches ≡ is_lent c.args.first.verdict =
    elim c.match-matches.branch [
      | in-Lent w ↦ w.matches-is ∙ rw w.in-Lent.is
      | in_default w ↦ w.matches-is ∙ sym (not_lent _ w.in_default.not-Lent)
    ]
    in
    elim c.if-not-matches.branch [
      | then-not-matches w ↦ w.value-is ∙ w.eq.ensures ∙ accepts_by _ ∙ rw (← lent, w.if-not-matches.true)
      | else-not-matches w ↦ w.value-is ∙ rw (← lent, w.if-not-matches.false)
    ]

pub returns-then-second-eq0 : goal.returns-then-second-eq0
unfolding agree
returns-then-second-eq0 c x y f g h k =
    let v = verdicts (goal.at.returns-then-second-eq0 c).Joined-not-matches in
    grind (arith, nat_tests, v)

pub returns-else-second-eq0 : goal.returns-else-second-eq0
unfolding agree
returns-else-second-eq0 c x y f g h k =
    let v = verdicts (goal.at.returns-else-second-eq0 c).Joined-not-matches in
    grind (arith, nat_tests, v)
