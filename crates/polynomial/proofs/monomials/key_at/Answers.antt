-- The bytes between the two ends of the monomial of entry k are copied over all of the key.
use mathlib.Core.Path.{◌≡◌}
use Prim.Native.Nat.{◌+◌, ◌*◌, ◌-◌}
use native.Mathlib.Omega.{arith}
use Rattle.polynomial.specs.Memory.PolynomialArea.{key_at}
use Rattle.polynomial.proofs.monomials.key_at.Goals as goal

pub returns : goal.returns
unfolding key_at
returns c =
    let width : 25 * c.args.k + 17 - 25 * c.args.k ≡ 17 = omega arith in
    rw width at c.copy_from_slice.ensures.after
