-- By what `open` answers the marking is a refusal, or that of the steps.
use mathlib.Core.Path.{refl, sym, ap, ◌∙◌}
use Rattle.marking.specs.Answers.{marked_of}
use Rattle.marking.proofs.EntryPoints.{refused_is, opened-read, opened-marked}
use Rattle.marking.proofs.check.check_run.Goals as goal

pub returns-in-Err-clause-value : goal.returns-in-Err-clause-value
returns-in-Err-clause-value c = ap marked_of (sym (refused_is _ _ _ _ c.in-Err.ensures.answered))

pub check_steps-requires : goal.check_steps-requires
check_steps-requires c =
    let opens = c.in-Ok.ensures in
    (opens.ready refl, opened-read _ _ _ _ opens.answered)

pub returns-in-Ok-clause-value : goal.returns-in-Ok-clause-value
returns-in-Ok-clause-value c =
    c.check_steps.ensures.value ∙ ap marked_of (sym (opened-marked _ _ _ _ c.in-Ok.ensures.answered))
