-- The bytes are hashed one by one, as in the definition.
use mathlib.Core.Path.{◌≡◌, refl, ap, ◌∙◌}
use mathlib.Core.List.{[], ◌∷◌}
use Prim.Native.Nat.{ℕ, ◌+◌, ◌*◌, ◌/◌, ◌%◌}
use native.Mathlib.Omega.{arith}
use borrow.Author.Rules.{rules}
use borrow.Author.Tests.{tests}
use Rattle.std.specs.List.{fold}
use Rattle.std.proofs.lemmas.Iterator.{YieldsList-from_slice}
use Rattle.std.proofs.lemmas.Iterator.Consumers.{fold_from_yields_List}
use Rattle.numbers.specs.Bytes.{Bytes}
use Rattle.book.specs.Memory.RecordIndex.{hash_from, chain}
use Rattle.book.proofs.RecordChains.{chain-below}
use Rattle.book.proofs.index.chain.Goals as goal

-- as the code computes it, in 16 bits
mixed : ℕ → ℕ → ℕ
mixed h x = (h * 40503 % 65536 + x) % 65536

each_mixed : (h : ℕ) (r : Bytes) → fold mixed h r ≡ hash_from h r
unfolding mixed hash_from
each_mixed h [] = refl
each_mixed h (x ∷ r) =
    let step : (h * 40503 % 65536 + x) % 65536 ≡ (40503 * h + x) % 65536 = omega arith in
    rw step (each_mixed ((40503 * h + x) % 65536) r)

pub returns : goal.returns
unfolding mixed chain
returns c =
    let hash = fold_from_yields_List _ mixed 0 c.fold-h.result c.fold-h.ensures.ran
    (YieldsList-from_slice c.args.r.now cc) (λ a x b q k. search (rules, tests)) ∙ each_mixed 0 c.args.r.now in
    let is : c.from.result ≡ chain c.args.r.now = c.from.ensures ∙ ap (λ (x : ℕ). x / 64) hash in
    (is, omega (arith, is, chain-below c.args.r.now))
