-- Each return is a law of EntryPoints: refusal 1 by the tests, the book's refusal, or what reading the run answers.
use Rattle.std.proofs.Common.{arith}
use Rattle.std.proofs.lemmas.Bool.Decides.{nat_tests}
use Rattle.rules.proofs.Results.{handed_on}
use Rattle.marking.proofs.EntryPoints.{opens-unfit, opens-ready, opens-refused, opens-read}
use Rattle.marking.proofs.check.open.Goals as goal

pub returns-then-work-ne-WORK_BYTES : goal.returns-then-work-ne-WORK_BYTES
returns-then-work-ne-WORK_BYTES c = opens-unfit _ _ _ _ (grind (arith, nat_tests, c.then-work-ne-WORK_BYTES.either))

pub returns-in_err-prepare : goal.returns-in_err-prepare
returns-in_err-prepare c =
    opens-refused _ _ _ _ (grind (arith, nat_tests)) c.prepare.ensures c.in_err-prepare.was
    (handed_on c.from_residual.ensures.1)

pub read_run-requires : goal.read_run-requires
read_run-requires c = (opens-ready c.if-work-ne-WORK_BYTES.false c.prepare.ensures c.in_ok-prepare.was).sorts

pub returns : goal.returns
returns c =
    opens-read _ _ _ _ (grind (arith, nat_tests)) c.prepare.ensures c.if-work-ne-WORK_BYTES.false
    c.in_ok-prepare.was c.read_run.ensures
