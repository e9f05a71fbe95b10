-- A record that is there lies wholly in the book; one that is not has no bytes.
use mathlib.Core.Path.{◌≡◌, sym}
use Prim.Native.Nat.{ℕ, ◌+◌, ◌*◌, ◌-◌, ◌<◌}
use native.Mathlib.Omega.{arith}
use borrow.Author.Rules.{rules}
use lib.ListN.{take, drop}
use Rattle.numbers.specs.Bytes.{Bytes}
use Rattle.terms.specs.Book.{count, record_of}
use Rattle.terms.proofs.Trees.{record_of-inside, record_of-outside}
use Rattle.terms.proofs.records.record.Goals as goal

part : (b : Bytes) (i : ℕ) → i < count b → take (32 * i + 32 - 32 * i) (drop (32 * i) b) ≡ record_of b i
part b i h = let size : 32 * i + 32 - 32 * i ≡ 32 = omega arith in rw size (sym (record_of-inside b i h))

pub returns-then-id-count : goal.returns-then-id-count
returns-then-id-count c = part _ _ (search rules)

pub returns-else-id-count : goal.returns-else-id-count
returns-else-id-count c = sym (record_of-outside _ _ (search rules))
