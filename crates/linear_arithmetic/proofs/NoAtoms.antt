-- A disequality without atoms is one without entries.
use mathlib.Core.Path.{◌≡◌, refl, sym}
use Prim.Native.Nat.{ℕ, zero, suc}
use native.Mathlib.Omega.{arith}
use borrow.Author.Tests.{eq-eqb, ne_eqb}
use lib.Dec.{eqb}
use Rattle.numbers.specs.Bytes.{Bytes}
use Rattle.index_map.specs.IndexMap.{is_empty}
use Rattle.index_map.specs.Memory.Entries.{entries_of}

pub empty_entries : (b w : Bytes) (n : ℕ) → is_empty (entries_of b w n) ≡ eqb n 0
unfolding entries_of
empty_entries b w zero = sym (eq-eqb 0 0 refl)
empty_entries b w (suc n) = sym (ne_eqb (suc n) 0 (λ h. omega arith))
