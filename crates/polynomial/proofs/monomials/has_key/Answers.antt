-- The 17 bytes from the place of entry k are compared.
use native.Mathlib.Omega.{arith}
use Prim.Native.Nat.{◌+◌, ◌*◌, ◌-◌}
use mathlib.Core.Path.{◌≡◌}
use Rattle.polynomial.specs.Memory.PolynomialArea.{key_at}
use Rattle.polynomial.proofs.monomials.has_key.Goals as goal

pub returns : goal.returns
unfolding key_at
returns c =
    let k = c.args.k in
    let size : 25 * k + 17 - 25 * k ≡ 17 = omega arith in
    rw size at c.same_bytes.ensures
