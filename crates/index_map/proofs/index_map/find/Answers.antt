-- No entry before those that are searched one by one has the key.
use mathlib.Core.Path.{◌≡◌}
use Prim.Native.Nat.{◌*◌}
use Rattle.std.proofs.Common.{rules, tests}
use Rattle.std.proofs.lemmas.Iterator.{first_from_Range}
use Rattle.numbers.specs.Bytes.{le}
use Rattle.index_map.proofs.KeyScan.{found_from}
use Rattle.index_map.proofs.index_map.find.Goals as goal

pub returns : goal.returns
returns c =
    let a = c.args in
    let w = a.entries.now in
    found_from a.key w a.n c.skipped-start.ensures c.find.result
    (first_from_Range _ _ _ _ (λ i. le 2 w (10 * i) ≡ a.key) (λ i. le 2 w (10 * i) ≡ a.key → ⊥) c.find.ensures.ran
    (λ x q k. search (rules, tests)) (λ x q k. search (rules, tests)))
