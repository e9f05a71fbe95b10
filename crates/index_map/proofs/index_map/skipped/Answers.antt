-- The eights that are counted lack the key.
use Rattle.std.proofs.Common.{rules, tests}
use Rattle.rules.proofs.Chunks.{count_chunks}
use Rattle.index_map.proofs.KeyScan.{lacking, all_pieces, less_pieces, more_pieces, skipped_eights}
use Rattle.index_map.proofs.index_map.skipped.Goals as goal

pub returns : goal.returns
returns c =
    let w = c.take_while.ensures in
    skipped_eights c.args.key c.args.entries.now c.args.n {u = c.in-Some.used.now} (search rules) (search rules)
    (count_chunks 80 (λ x. x) all_pieces less_pieces more_pieces c.in-Some.used.now (search rules) (search rules)
    (lacking c.args.key) w.source w.closure w.done c.count.ensures.ran (λ x b q k. search (rules, tests)))
