-- Area j is lent to `modulo_all`; what comes back stands in its place (`reduced-made` of Moduli).
use mathlib.Core.Path.{refl, ap, ◌∙◌}
use lib.ListN.{length}
use borrow.Author.Rules.{rules}
use Rattle.poly_simp.proofs.Moduli.{shifted_is, shifted-range, reduced-same, reduced-made}
use Rattle.polynomial.proofs.StackAreas.{lent-part}
use Rattle.polynomial.proofs.ProductEntries.{part_length}
use Rattle.poly_simp.proofs.poly_simp.reduced.Goals as goal

pub modulo_all-requires : goal.modulo_all-requires
modulo_all-requires c =
    let j = c.args.j in
    let w = c.args.stack.now in
    let pre = c.requires in (
      (ap length (lent-part j w) ∙ part_length j w pre.0, pre.1.0),
      shifted-range c.args.sort pre.1.1.1 refl,
    )

pub modulo-requires : goal.modulo-requires
modulo-requires c =
    let pre = c.requires in
    (pre.1.1.0, shifted-range c.args.sort pre.1.1.1 refl)

pub returns : goal.returns
returns c =
    let pre = c.requires in
    let sort = c.args.sort in
    reduced-made (search rules) (shifted_is sort pre.1.1.1 refl) (shifted-range sort pre.1.1.1 refl)
    c.modulo_all.ensures c.modulo.ensures

pub returns-then-sort-lt-BITS_SORT : goal.returns-then-sort-lt-BITS_SORT
returns-then-sort-lt-BITS_SORT c = reduced-same (search rules)
