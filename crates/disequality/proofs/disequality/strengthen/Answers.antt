-- By the operator, and by whether the constant times the argument is whole: the entries are read from their bytes.
use mathlib.Core.Path.{◌≡◌, sym, ◌∙◌}
use native.Mathlib.Omega.{arith}
use mir.Syntax.{w64}
use mir.Val.{to_z, of_z}
use mir.Facts.{to_z-of_z}
use lib.IntN.{pos}
use borrow.Author.Rules.{rules}
use Rattle.std.proofs.lemmas.Grind.{common_steps}
use Rattle.rules.specs.Limits.{limited}
use Rattle.index_map.specs.IndexMap.{combination}
use Rattle.linear_comb.specs.LinearComb.{coefficients_gcd}
use Rattle.linear_comb.specs.Memory.WorkArea.{comb_of}
use Rattle.disequality.specs.Disequality.{raised, strengthen}
use Rattle.index_map.proofs.StoredEntries.{kept-entries}
use Rattle.disequality.proofs.disequality.strengthen.Goals as goal

pub returns-then-whole-clause-value : goal.returns-then-whole-clause-value
unfolding strengthen
returns-then-whole-clause-value c b k l =
    let is :
    strengthen (limited l) c.args.o (comb_of b c.args.entries.now c.args.s) c.args.a
    ≡ raised (limited l) (combination k.map c.floor-floor.result)
    (coefficients_gcd (combination k.map c.floor-floor.result)) =
    grind (arith, common_steps, kept-entries k, c.floor-floor.ensures.is) in
    let step :
    to_z w64 (of_z w64 c.coefficients_gcd.result) ≡ coefficients_gcd (combination k.map c.floor-floor.result) =
    to_z-of_z {w = w64} (search rules) ∙ c.coefficients_gcd.ensures.value b k ∙ rw (kept-entries k) in
    rw (is, sym step) (c.raised.ensures.value k.map k.size l)

pub returns-else-whole-clause-value : goal.returns-else-whole-clause-value
unfolding strengthen
returns-else-whole-clause-value c b k l =
    let is :
    strengthen (limited l) c.args.o (comb_of b c.args.entries.now c.args.s) c.args.a
    ≡ raised (limited l) (combination k.map c.floor-floor.result) (pos 1) =
    grind (arith, common_steps, kept-entries k, c.floor-floor.ensures.is) in
    rw is (c.raised-else-whole.ensures.value k.map k.size l)

pub returns-then-whole-2-clause-value : goal.returns-then-whole-2-clause-value
unfolding strengthen
returns-then-whole-2-clause-value c b k l =
    (grind (arith, common_steps, kept-entries k), record { size = k.size; proper = c.requires.1.0 })

pub returns-else-whole-2-clause-value : goal.returns-else-whole-2-clause-value
unfolding strengthen
returns-else-whole-2-clause-value c b k l =
    let is :
    strengthen (limited l) c.args.o (comb_of b c.args.entries.now c.args.s) c.args.a
    ≡ raised (limited l) (combination k.map c.floor-floor.result) (pos 1) =
    grind (arith, common_steps, kept-entries k, c.floor-floor.ensures.is) in
    rw is (c.raised-else-whole-2.ensures.value k.map k.size l)

pub returns-in_default-clause-value : goal.returns-in_default-clause-value
unfolding strengthen
returns-in_default-clause-value c b k l =
    (grind (arith, common_steps, kept-entries k), record { size = k.size; proper = c.requires.1.0 })
