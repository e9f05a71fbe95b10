-- The bytes of the slice are below 256, so two of them make a number below 65536.
use native.Mathlib.Omega.{arith}
use Rattle.numbers.proofs.LittleEndian.{le_below}
use Rattle.index_map.proofs.index_map.key_at.Goals as goal

pub returns : goal.returns
returns c =
    let is = c.read_u16.ensures in
    (is, rw is (le_below 2 c.args.entries.now _ (λ j. omega (arith, c.type_inv.entries j))))
