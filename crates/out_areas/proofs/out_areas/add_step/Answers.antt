-- The step's bytes go behind what is written, or the areas are full (CopiedSteps).
use mathlib.Core.Path.{◌≡◌, sym, ap}
use Prim.Native.Nat.{ℕ, ◌+◌}
use mir.Val.{Fits}
use mir.Syntax.{w8}
use native.Mathlib.Omega.{arith}
use lib.ListN.{length, get_or, take}
use lib.Seq.{length-take-le}
use Rattle.numbers.specs.Bytes.{Bytes}
use Rattle.terms.specs.Format.{max_run_bytes}
use Rattle.runs.specs.Memory.StepParts.{bytes_in}
use Rattle.runs.proofs.RunRecords.{bytes-within, bytes-least}
use Rattle.out_areas.proofs.OutAreas.{both-le}
use Rattle.out_areas.proofs.CopiedSteps.{Octets, add_nothing, add-copied, add-full}
use Rattle.out_areas.proofs.out_areas.add_step.Goals as goal

pub returns-then-out : goal.returns-then-out
returns-then-out c b t run stands = add_nothing b _ t _ _ c.if-out.true

-- how many bytes the step has
size : {n : ℕ} (step : Bytes) → n ≡ bytes_in step → n ≡ length (take n step)
size step is = rw is (sym (length-take-le (bytes_in step) step (bytes-within step)))

pub slice_bounds-paste-end : goal.slice_bounds-paste-end
slice_bounds-paste-end c = size c.args.step.now (ap (λ p. p.args) c.requires.1)

pub bounds-outrun-out : goal.bounds-outrun-out
bounds-outrun-out c =
    let a = c.args in
    let size = a.out.run + a.p.args in
    let inside = both-le size (length a.outrun.now) max_run_bytes c.goes_in.ensures c.if-not-goes_in.false in
    omega (arith, inside, ap (λ p. p.args) c.requires.1, bytes-least a.step.now)

octets : (step : Bytes) → ((i : ℕ) → Fits w8 (get_or step i 0)) → Octets step
octets step fit i = omega (arith, fit i)

pub returns : goal.returns
returns c b t run stands =
    add-copied stands (octets c.args.step.now c.type_inv.step) c.args.outrun.now t c.args.out c.if-out.false
    (ap (λ p. p.args) c.requires.1) c.goes_in.ensures c.if-not-goes_in.false
    c.paste.ensures (rw (c.rule_number.ensures, c.elaborated_rule.ensures, c.rule_in.ensures))

pub returns-then-not-goes_in : goal.returns-then-not-goes_in
returns-then-not-goes_in c b t run stands =
    add-full stands (octets c.args.step.now c.type_inv.step) _ t _ c.if-out.false (ap (λ p. p.args) c.requires.1)
    c.goes_in.ensures c.if-not-goes_in.true
