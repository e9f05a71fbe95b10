-- Each function's answers by the lemmas of its own file: the loop over the arguments by PolynomialArgWalks, a term by
-- its node and a product by PolynomialTermWalks, the first factor by PolynomialFactorWalks, the others by
-- PolynomialProducts.
use Rattle.std.proofs.Common.{◌≡◌, ℕ, ◌<◌, length, arith, rules, Fits, w64}
use Rattle.rules.proofs.Results.{handed_on}
use Rattle.polynomial_walk.proofs.PolynomialTermWalks.{clear_pre, atom_pre, constant_pre, args_pre}
use Rattle.polynomial_walk.proofs.PolynomialTermWalks.{quotient-lower, quotient_pre, factors_pre, back_clear_pre}
use Rattle.polynomial_walk.proofs.PolynomialTermWalks.{scaled_pre, unvisited, at_refusal, at_node, at_args}
use Rattle.polynomial_walk.proofs.PolynomialTermWalks.{too_deep, factors-refused, factors-made}
use Rattle.polynomial_walk.proofs.PolynomialArgWalks.{walking_more, walking_refused}
use Rattle.polynomial_walk.proofs.PolynomialArgWalks.{walking_done, argument-below, argument_pre}
use Rattle.polynomial_walk.proofs.PolynomialFactorWalks.{rest-length, no_factors, first_below, first_pre}
use Rattle.polynomial_walk.proofs.PolynomialFactorWalks.{first_refused, others_pre, first_made}
use Rattle.polynomial_walk.proofs.PolynomialProducts.{factors-done, factor-below, factor_pre, factor_clear}
use Rattle.polynomial_walk.proofs.PolynomialProducts.{factor-refused, mul_pre, product-refused, left_pre}
use Rattle.polynomial_walk.proofs.PolynomialProducts.{multiplied}
use Rattle.polynomial_walk.proofs.polynomial_walk.+add_args_add_dividend_add_product_add_term_first_factor_other_factors.Goals as goal

-- ---- the arguments

pub add_args-add_term-requires : goal.add_args-add_term-requires
add_args-add_term-requires t c =
    let loop = c.loop-k.invariant in
    let next = c.loop-k-test.true in
    let x = c.argument-x.ensures in
    (omega (arith, c.decreases, argument-below c.requires loop next x), argument_pre c.requires loop next x)

pub add_args-returns-in_err-done : goal.add_args-returns-in_err-done
add_args-returns-in_err-done t c =
    rw (handed_on c.from_residual.ensures.1)
    (walking_refused c.requires c.loop-k.invariant c.loop-k-test.true c.argument-x.ensures c.in_err-done.ensures)

pub add_args-loop-k-preserved : goal.add_args-loop-k-preserved
add_args-loop-k-preserved t c =
    walking_more c.requires c.loop-k.invariant c.loop-k-test.true c.argument-x.ensures c.in_ok-done.ensures
    c.add_term.auto.stack

pub add_args-returns : goal.add_args-returns
add_args-returns t c = walking_done c.requires c.loop-k.invariant c.loop-k-test.false

-- ---- a product

pub add_product-clear_at-requires : goal.add_product-clear_at-requires
add_product-clear_at-requires t c = clear_pre c.requires

pub add_product-returns-then-depth-ge-MAX_DEPTH : goal.add_product-returns-then-depth-ge-MAX_DEPTH
add_product-returns-then-depth-ge-MAX_DEPTH t c =
    too_deep c.args.w c.requires _ c.if-depth-ge-MAX_DEPTH.true c.clear_at.ensures

pub add_product-first_factor-requires : goal.add_product-first_factor-requires
add_product-first_factor-requires t c = (
  omega (arith, c.decreases),
  factors_pre c.requires c.if-depth-ge-MAX_DEPTH.false _ c.args-sides.ensures.terms,
)

pub add_product-clear_at-requires-in-Err : goal.add_product-clear_at-requires-in-Err
add_product-clear_at-requires-in-Err t c =
    back_clear_pre c.requires c.if-depth-ge-MAX_DEPTH.false _ c.first_factor.auto.stack

pub add_product-returns-in-Err : goal.add_product-returns-in-Err
add_product-returns-in-Err t c =
    factors-refused c.args.w c.requires _ c.if-depth-ge-MAX_DEPTH.false _ c.first_factor.auto.stack _
    c.args-sides.ensures.terms c.in-Err.ensures c.clear_at-in-Err.ensures

pub add_product-add_scaled-requires : goal.add_product-add_scaled-requires
add_product-add_scaled-requires t c =
    scaled_pre c.requires c.if-depth-ge-MAX_DEPTH.false _ c.first_factor.auto.stack c.in-Ok.ensures

pub add_product-returns-in-Ok : goal.add_product-returns-in-Ok
add_product-returns-in-Ok t c =
    factors-made c.args.w c.requires _ c.if-depth-ge-MAX_DEPTH.false _ c.first_factor.auto.stack _
    c.args-sides.ensures.terms c.in-Ok.ensures c.add_scaled.ensures

-- ---- a term

pub add_term-clear_at-requires : goal.add_term-clear_at-requires
add_term-clear_at-requires t c = clear_pre c.requires

pub add_term-returns-then-limit-w : goal.add_term-returns-then-limit-w
add_term-returns-then-limit-w t c = unvisited c.args.w c.requires _ c.if-limit-w.true c.clear_at.ensures

pub add_term-add_args-requires : goal.add_term-add_args-requires
add_term-add_args-requires t c =
    let arm = c.in-Ok-Args in
    let look = rw arm.field-0-is at arm.ensures in (
      omega (arith, c.decreases),
      rw (arm.first-is, arm.others-is) (args_pre c.requires look _ c.args-part.ensures.terms),
    )

pub add_term-add_dividend-requires : goal.add_term-add_dividend-requires
add_term-add_dividend-requires t c =
    let arm = c.in-Ok-Quotient in
    let look = rw arm.field-0-is at arm.ensures in (
      omega (arith, c.decreases, arm.x-is, quotient-lower c.requires look),
      rw (arm.x-is, arm.c-is) (quotient_pre c.requires look),
    )

pub add_term-add_constant-requires : goal.add_term-add_constant-requires
add_term-add_constant-requires t c =
    let arm = c.in-Ok-Constant in
    rw arm.q-is (constant_pre c.requires (rw arm.field-0-is at arm.ensures))

pub add_term-add_atom-requires : goal.add_term-add_atom-requires
add_term-add_atom-requires t c = atom_pre c.requires

pub add_term-clear_at-requires-in-Err : goal.add_term-clear_at-requires-in-Err
add_term-clear_at-requires-in-Err t c = clear_pre c.requires

pub add_term-returns-in-Ok-Args : goal.add_term-returns-in-Ok-Args
add_term-returns-in-Ok-Args t c =
    let arm = c.in-Ok-Args in
    at_args c.args.w c.requires _ c.if-limit-w.false (rw arm.field-0-is at arm.ensures) _ c.args-part.ensures.terms
    (rw (arm.first-is, arm.others-is) at c.add_args.ensures)

pub add_term-returns-in-Ok-Product : goal.add_term-returns-in-Ok-Product
add_term-returns-in-Ok-Product t c =
    at_node c.args.w c.requires _ c.if-limit-w.false (rw c.in-Ok-Product.field-0-is at c.in-Ok-Product.ensures)
    c.add_product.ensures

pub add_term-returns-in-Ok-Quotient : goal.add_term-returns-in-Ok-Quotient
add_term-returns-in-Ok-Quotient t c =
    let arm = c.in-Ok-Quotient in
    at_node c.args.w c.requires _ c.if-limit-w.false (rw arm.field-0-is at arm.ensures)
    (rw (arm.x-is, arm.c-is) at c.add_dividend.ensures)

pub add_term-returns-in-Ok-Constant : goal.add_term-returns-in-Ok-Constant
add_term-returns-in-Ok-Constant t c =
    let arm = c.in-Ok-Constant in
    at_node c.args.w c.requires _ c.if-limit-w.false (rw arm.field-0-is at arm.ensures)
    (λ m held has. rw arm.q-is at (c.add_constant.ensures c.args.book.now m held has c.args.limit))

pub add_term-returns-in-Ok-Atom : goal.add_term-returns-in-Ok-Atom
add_term-returns-in-Ok-Atom t c =
    at_node c.args.w c.requires _ c.if-limit-w.false (rw c.in-Ok-Atom.field-0-is at c.in-Ok-Atom.ensures)
    (λ m held has. c.add_atom.ensures _ m held has c.requires.inside _)

pub add_term-returns-in-Err : goal.add_term-returns-in-Err
add_term-returns-in-Err t c =
    at_refusal c.args.w c.requires _ c.if-limit-w.false c.in-Err.ensures c.clear_at-in-Err.ensures

-- ---- the first factor

-- a count that is not 0
is_some : {n : ℕ} → (n ≡ 0 → ⊥) → 0 < n
is_some h = omega arith

pub first_factor-returns-then-args-eq0 : goal.first_factor-returns-then-args-eq0
first_factor-returns-then-args-eq0 t c = no_factors c.requires _ c.new-begun.ensures (omega (arith, c.if-args-eq0.true))

pub first_factor-add_term-requires : goal.first_factor-add_term-requires
first_factor-add_term-requires t c =
    let begun = c.new-begun.ensures in
    let some = is_some c.if-args-eq0.false in
    let x = c.argument-x.ensures in
    let one = c.whole.ensures in
    (omega (arith, c.decreases, first_below c.requires 0 begun some x one), first_pre c.requires 0 begun some x one)

pub first_factor-returns-in_err-product : goal.first_factor-returns-in_err-product
first_factor-returns-in_err-product t c =
    rw (handed_on c.from_residual.ensures.1)
    (first_refused c.requires _ c.new-begun.ensures (is_some c.if-args-eq0.false) c.argument-x.ensures c.whole.ensures
    c.in_err-product.ensures)

pub first_factor-other_factors-requires : goal.first_factor-other_factors-requires
first_factor-other_factors-requires t c =
    let fits : Fits w64 (length c.args.args.now) = search rules in (
      omega (arith, c.decreases, fits, rest-length c.args.args.now),
      others_pre c.requires _ c.new-begun.ensures (is_some c.if-args-eq0.false) c.argument-x.ensures c.whole.ensures
          c.in_ok-product.ensures c.add_term.auto.stack,
    )

pub first_factor-returns : goal.first_factor-returns
first_factor-returns t c =
    first_made c.requires _ c.new-begun.ensures (is_some c.if-args-eq0.false) c.argument-x.ensures c.whole.ensures
    c.in_ok-product.ensures c.other_factors.ensures

-- ---- the others

pub other_factors-returns-then-rest-eq0 : goal.other_factors-returns-then-rest-eq0
other_factors-returns-then-rest-eq0 t c = factors-done c.args.p _ _ _ _ (omega (arith, c.if-rest-eq0.true))

pub other_factors-add_term-requires : goal.other_factors-add_term-requires
other_factors-add_term-requires t c =
    let p = c.args.p in
    let begun = c.new-begun.ensures in
    let some = is_some c.if-rest-eq0.false in
    let x = c.argument-x.ensures in
    let one = c.whole-one.ensures in (
      omega (arith, c.decreases, factor-below p c.requires 0 begun some x one),
      factor_pre p c.requires 0 begun some x one,
    )

pub other_factors-clear_at-requires : goal.other_factors-clear_at-requires
other_factors-clear_at-requires t c =
    factor_clear c.args.p c.requires 0 c.new-begun.ensures (is_some c.if-rest-eq0.false) c.argument-x.ensures
    c.whole-one.ensures _ c.add_term.auto.stack

pub other_factors-returns-in-Err : goal.other_factors-returns-in-Err
other_factors-returns-in-Err t c =
    factor-refused c.args.p c.requires _ c.new-begun.ensures (is_some c.if-rest-eq0.false) c.argument-x.ensures
    c.whole-one.ensures _ c.add_term.auto.stack c.in-Err.ensures c.clear_at.ensures

pub other_factors-mul-requires : goal.other_factors-mul-requires
other_factors-mul-requires t c =
    mul_pre c.args.p c.requires _ c.new-begun.ensures (is_some c.if-rest-eq0.false) c.argument-x.ensures
    c.whole-one.ensures _ c.add_term.auto.stack c.in-Ok.ensures

pub other_factors-returns-in_err-mul : goal.other_factors-returns-in_err-mul
other_factors-returns-in_err-mul t c =
    rw (handed_on c.from_residual.ensures.1)
    (product-refused c.args.p c.requires _ c.new-begun.ensures (is_some c.if-rest-eq0.false) c.argument-x.ensures
    c.whole-one.ensures _ c.add_term.auto.stack c.in-Ok.ensures c.in_err-mul.ensures)

pub other_factors-other_factors-requires : goal.other_factors-other_factors-requires
other_factors-other_factors-requires t c =
    let some = is_some c.if-rest-eq0.false in (
      omega (arith, c.decreases, some, rest-length c.args.rest.now),
      left_pre c.args.p c.requires _ c.new-begun.ensures some c.argument-x.ensures c.whole-one.ensures _
          c.add_term.auto.stack c.in-Ok.ensures c.in_ok-mul.ensures c.mul.auto.stack,
    )

pub other_factors-returns : goal.other_factors-returns
other_factors-returns t c =
    multiplied c.args.p c.requires _ c.new-begun.ensures (is_some c.if-rest-eq0.false) c.argument-x.ensures
    c.whole-one.ensures _ c.add_term.auto.stack c.in-Ok.ensures c.in_ok-mul.ensures c.other_factors.ensures
