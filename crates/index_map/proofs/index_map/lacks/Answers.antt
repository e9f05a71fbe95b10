-- The chunks' keys are those of the entries.
use Rattle.std.proofs.Common.{rules, tests}
use Rattle.numbers.specs.Bytes.{le}
use Rattle.rules.proofs.Chunks.{all_chunks}
use Rattle.index_map.proofs.KeyScan.{other, all_keys, less_keys, more_keys}
use Rattle.index_map.proofs.index_map.lacks.Goals as goal

pub returns : goal.returns
returns c =
    all_chunks 10 (λ x. le 2 x 0) all_keys less_keys more_keys c.args.entries.now (search rules) (search rules)
    (other c.args.key) c.all.ensures.ran (λ x b q k. search (rules, tests))
