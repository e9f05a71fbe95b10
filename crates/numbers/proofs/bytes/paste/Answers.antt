use mathlib.Core.Path.{refl}
use borrow.Author.Rules.{rules}
use native.Mathlib.Omega.{arith}
use Rattle.numbers.proofs.CopiedBytes.{copied_none, copied_more, copied_all}
use Rattle.numbers.proofs.bytes.paste.Goals as goal

pub loop-k-preserved : goal.loop-k-preserved
loop-k-preserved c =
    copied_more c.loop-k.invariant (search rules) (omega arith) c.loop-k-test.true refl

pub loop-k-init : goal.loop-k-init
loop-k-init c = copied_none

pub shape_of-area : goal.shape_of-area
shape_of-area c = c.loop-k.invariant.size

pub returns : goal.returns
returns c = copied_all c.loop-k.invariant c.loop-k-test.false
