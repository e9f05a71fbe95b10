-- The first record whose number is q, as the search along the range finds it (FoundReals).
use mathlib.Core.Path.{◌≡◌}
use mathlib.Core.Bool.{true, false}
use Rattle.std.proofs.Common.{rules, tests}
use Rattle.std.proofs.lemmas.Iterator.{first_from_Range}
use Rattle.numbers.specs.Rational.{eq_q}
use Rattle.terms.specs.Book.{record_of, rational_of}
use Rattle.out_areas.proofs.FoundReals.{FoundAt, first_in_tail, tail_bound}
use Rattle.out_areas.proofs.constants.place_in.Goals as goal

found : (c : goal.After-find) → FoundAt c.args.tail.now c.args.q c.find.result
found c =
    let t = c.args.tail.now in
    let q = c.args.q in
    rw c.count.ensures
    at (first_from_Range _ _ _ _ (λ i. eq_q (rational_of (record_of t i)) q ≡ true)
    (λ i. eq_q (rational_of (record_of t i)) q ≡ false) c.find.ensures.ran (λ x r k. search (rules, tests))
    (λ x r k. search (rules, tests)))

pub returns-clause-value : goal.returns-clause-value
returns-clause-value c = first_in_tail c.args.tail.now c.args.q c.find.result (found c)

pub returns-clause-upper_bound : goal.returns-clause-upper_bound
returns-clause-upper_bound c = tail_bound c.args.tail.now c.args.q c.find.result (found c)
