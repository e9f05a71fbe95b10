use borrow.Author.Rules.{rules}
use Rattle.runs.proofs.StepAreas.{args_end}
use Rattle.runs.proofs.StepReading.{read-begin, read_on, read-end, read-wrong, read-less}
use Rattle.runs.proofs.StepReading.{not-whole, too_long}
use Rattle.runs.proofs.run.read_run.Goals.{then-run-ne0-via-then-run-ne0, then-run-ne0-via-else-run-ne0+then-run-gt-MAX_RUN_BYTES}
use Rattle.runs.proofs.run.read_run.Goals as goal

pub returns-then-run-ne0 : goal.returns-then-run-ne0
returns-then-run-ne0 c =
    elim c.then-run-ne0.branch [
      | then-run-ne0-via-then-run-ne0 w ↦ not-whole _ _ w.if-run-ne0.true
      | then-run-ne0-via-else-run-ne0+then-run-gt-MAX_RUN_BYTES w ↦
          too_long _ _ w.if-run-ne0.false w.if-run-gt-MAX_RUN_BYTES.true
    ]

pub loop-left-init : goal.loop-left-init
loop-left-init c = read-begin _ _ c.if-run-ne0.false c.if-run-gt-MAX_RUN_BYTES.false

pub slice_bounds-left-count : goal.slice_bounds-left-count
slice_bounds-left-count c = args_end _ c.parts-p.ensures

pub slice_bounds-left-start : goal.slice_bounds-left-start
slice_bounds-left-start c = args_end _ c.parts-p.ensures

pub loop-left-smaller : goal.loop-left-smaller
loop-left-smaller c =
    read-less _ _ _ _ c.loop-left.invariant (search rules) c.step_ok.ensures c.parts-p.ensures

pub loop-left-preserved : goal.loop-left-preserved
loop-left-preserved c =
    read_on _ _ _ _ c.loop-left.invariant (search rules) c.step_ok.ensures c.parts-p.ensures
    c.if-not-step_ok.false

pub returns-then-not-step_ok : goal.returns-then-not-step_ok
returns-then-not-step_ok c =
    read-wrong _ _ _ _ c.loop-left.invariant (search rules) c.step_ok.ensures c.if-not-step_ok.true

pub returns : goal.returns
returns c = read-end _ _ _ _ c.loop-left.invariant (search rules)
