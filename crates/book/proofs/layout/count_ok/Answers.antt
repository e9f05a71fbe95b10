-- The arms of the match are the cases of `count_ok`, with 12 and 13 as a range of numbers.
use Prim.Native.Nat.{◌≤◌, ◌<◌}
use native.Mathlib.Omega.{arith}
use mathlib.Core.Path.{◌≡◌, refl}
use mathlib.Core.Bool.{◌&&◌}
use mathlib.Core.Logic.{◌⊎◌, inl, inr}
use lib.Dec.{leb}
use Rattle.std.proofs.lemmas.Grind.{common_steps}
use Rattle.terms.specs.Book.{count_ok}
use Rattle.terms.proofs.Layouts.{count_one, count-two, count-minus, count-other}
use Rattle.book.proofs.layout.count_ok.Goals.{In_default, in_default-via-then-o-lt12, in_default-via-else-o-lt12+else-o-lt14}
use Rattle.book.proofs.layout.count_ok.Goals as goal

pub returns-in-1 : goal.returns-in-1
returns-in-1 c = count_one _ _ c.in-1.is

pub returns-in-12 : goal.returns-in-12
returns-in-12 c = grind (arith, count-two)

pub returns-then-n-ge1 : goal.returns-then-n-ge1
returns-then-n-ge1 c = grind (arith, common_steps, count-minus c.args.n c.args.o 1 c.in-10.is refl)

pub returns-else-n-ge1 : goal.returns-else-n-ge1
returns-else-n-ge1 c = grind (arith, common_steps, count-minus c.args.n c.args.o 1 c.in-10.is refl)

-- of an operator that is none of those named
other : (c : In_default) → (leb c.args.n 14 && leb 2 c.args.n) ≡ count_ok c.args.o c.args.n
other c =
    let o = c.args.o in
    let side : (o < 12) ⊎ (14 ≤ o) = elim c.in_default.branch [
      | in_default-via-then-o-lt12 w ↦ inl (omega arith)
      | in_default-via-else-o-lt12+else-o-lt14 w ↦ inr (omega arith)
    ] in
    count-other _ o 2 (((tt, λ h. omega arith), λ e. omega arith), λ e. omega arith) side refl

pub returns-then-n-ge2 : goal.returns-then-n-ge2
returns-then-n-ge2 c = grind (arith, common_steps, other (goal.at.returns-then-n-ge2 c).In_default)

pub returns-else-n-ge2 : goal.returns-else-n-ge2
returns-else-n-ge2 c = grind (arith, common_steps, other (goal.at.returns-else-n-ge2 c).In_default)
