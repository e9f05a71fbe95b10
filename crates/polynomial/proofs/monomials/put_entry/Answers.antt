-- The monomial is copied to its place; then the coefficient is written behind it.
use mathlib.Core.Path.{◌≡◌, refl}
use Prim.Native.Nat.{◌+◌, ◌*◌, ◌-◌}
use native.Mathlib.Omega.{arith}
use lib.ListN.{length}
use lib.Seq.{take_all, drop-drop}
use Rattle.index_map.specs.Memory.StoredMaps as maps
use Rattle.polynomial.specs.Memory.PolynomialArea.{pasted}
use Rattle.polynomial.proofs.monomials.put_entry.Goals as goal

pub returns : goal.returns
unfolding maps.put_entry pasted
returns c =
    let width : 25 * c.args.k + 17 - 25 * c.args.k ≡ length c.args.key.now = omega arith in
    let all = take_all 17 c.args.key.now (omega arith) in
    rw (c.write.ensures, c.copy_from_slice.ensures.after, all, drop-drop, width) refl
