-- The conclusion is read by laws of ShapeSteps; its two sides are compared in what stands behind the sorts: the laws
-- are in SimpSteps.
use mathlib.Core.Path.{refl, ◌∙◌}
use Rattle.terms.specs.Readers.{found, found_two}
use Rattle.rules.proofs.Results.{handed_on, stops, goes_on, none-refused, some-found}
use Rattle.rules.proofs.ShapeSteps.{literal_is, pair_is}
use Rattle.poly_simp.specs.PolySimp.{poly_simp}
use Rattle.poly_simp.proofs.SimpSteps.{literal-inside, sides-inside, lent-zeros, lent-sort, lent_same, sides-verdict}
use Rattle.poly_simp.proofs.poly_simp.poly_simp.Goals as goal

pub returns-in_err-phi-clause-value : goal.returns-in_err-phi-clause-value
unfolding poly_simp
returns-in_err-phi-clause-value c =
    handed_on c.from_residual.ensures.1
    ∙ stops _ (none-refused (found _) _ _ refl refl c.in_err-phi.ensures.value ∙ c.only_literal.ensures _)

pub returns-in_err-t-clause-value : goal.returns-in_err-t-clause-value
unfolding poly_simp
returns-in_err-t-clause-value c =
    handed_on c.from_residual-in_err-t.ensures.1
    ∙ goes_on _ (some-found (found _) _ _ refl refl c.in_ok-phi.ensures.value ∙ c.only_literal.ensures _)
    (stops _ (none-refused (found_two _) _ _ c.binary.ensures.is refl c.in_err-t.ensures.value))

pub equal-requires : goal.equal-requires
equal-requires c =
    let ready = c.requires.0 in
    let phi = c.in_ok-phi.ensures.ok_part in
    let sides =
    sides-inside _ _ _ c.binary.ensures c.in_ok-t.ensures.ok_part ready.sorts.laid
    (literal-inside _ _ c.only_literal.ensures phi c.requires.1) in
    ((ready.sorts.laid, sides), (lent-zeros ready, lent-sort ready sides.0 c.byte-sort.ensures))

pub returns : goal.returns
returns c =
    let ready = c.requires.0 in
    let phi = c.in_ok-phi.ensures.ok_part in
    let pair = c.in_ok-t.ensures.ok_part in
    let sides =
    sides-inside _ _ _ c.binary.ensures pair ready.sorts.laid
    (literal-inside _ _ c.only_literal.ensures phi c.requires.1) in
    record {
      value =
          sides-verdict _ _ _ (literal_is _ _ c.only_literal.ensures phi) _ _ _ (pair_is _ _ _ c.binary.ensures pair)
          ready sides.0 c.byte-sort.ensures c.equal.ensures.value;
      work_unchanged = lent_same c.args.work.now c.equal.ensures.stack_unchanged;
    }
