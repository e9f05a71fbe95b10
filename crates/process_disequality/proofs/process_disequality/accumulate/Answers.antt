-- What is left after each way out (`LiteralSums`). What each call requires follows from what the one before it left, at
-- the book of the function's own `requires`.
use native.Mathlib.Omega.{arith}
use borrow.Author.Rules.{rules}
use Rattle.index_map.proofs.StoredEntries.{kept_small}
use Rattle.linear_comb.proofs.AreaSteps.{kept-sum, same-apart}
use Rattle.process_disequality.proofs.LiteralSums.{unargued-left, unscaled-left, unadded_left, sum_left}
use Rattle.process_disequality.proofs.process_disequality.accumulate.Goals as goal

pub refuse-requires : goal.refuse-requires
refuse-requires c =
    let kept = c.requires.1.0.1.1 in
    (c.requires.0, (kept_small kept.0.kept, kept_small kept.1.kept))

pub returns-in-Err : goal.returns-in-Err
returns-in-Err c b sorts k₀ k₁ l =
    rw c.refuse.ensures.value
    (unargued-left b _ l _ _ _ c.requires.0 k₀ k₁ (c.in-Err.ensures b k₀.kept k₁.kept l) c.refuse.ensures.work_after)

pub scaled-requires : goal.scaled-requires
scaled-requires c =
    let pre = c.requires in
    let kept = pre.1.0.1.1 in (
      pre.0.second,
      ((pre.1.0.0, (pre.1.0.1.0, kept.1)), (c.in-Ok.ensures pre.1.0.0 kept.0.kept kept.1.kept 0).1.0),
    )

pub refuse-requires-in-Err-scaled : goal.refuse-requires-in-Err-scaled
refuse-requires-in-Err-scaled c =
    (same-apart c.requires.0 c.scaled.auto.work, (kept_small c.requires.1.0.1.1.0.kept, search rules))

pub returns-in-Err-scaled : goal.returns-in-Err-scaled
returns-in-Err-scaled c b sorts k₀ k₁ l =
    rw c.refuse-in-Err-scaled.ensures.value
    (unscaled-left b _ l _ _ _ c.requires.0 k₀ k₁ c.in-Ok.argued.1 (c.in-Ok.ensures b k₀.kept k₁.kept l)
    (c.in-Err-scaled.ensures b sorts k₁ l) c.refuse-in-Err-scaled.ensures.work_after)

pub add-requires : goal.add-requires
add-requires c =
    let pre = c.requires.1.0 in
    let kept = pre.1.1 in
    let left = c.in-Ok-scaled.ensures pre.0 pre.1.0 kept.1 0 in
    let literal = kept-sum left.held left.is.1 in (
      same-apart c.requires.0 c.scaled.auto.work,
      ((kept_small kept.0.kept, kept_small literal.kept), (kept.0.proper, literal.proper)),
    )

pub refuse-requires-in-Err-add : goal.refuse-requires-in-Err-add
refuse-requires-in-Err-add c =
    let pre = c.requires.1.0 in
    let left = c.in-Ok-scaled.ensures pre.0 pre.1.0 pre.1.1.1 0 in (
      same-apart (same-apart c.requires.0 c.scaled.auto.work) c.add.auto.work,
      (search rules, kept_small (kept-sum left.held left.is.1).kept),
    )

pub returns-in-Err-add : goal.returns-in-Err-add
returns-in-Err-add c b sorts k₀ k₁ l =
    rw c.refuse-in-Err-add.ensures.value
    (unadded_left b _ l _ _ _ c.requires.0 k₀ k₁ c.in-Ok.argued.1 (c.in-Ok.ensures b k₀.kept k₁.kept l)
    (c.in-Ok-scaled.ensures b sorts k₁ l) c.add.ensures.only_area (λ s t. c.in-Err-add.ensures.combines b s t l)
    c.refuse-in-Err-add.ensures.work_after)

pub clear_in-requires : goal.clear_in-requires
clear_in-requires c =
    let pre = c.requires.1.0 in
    let left = c.in-Ok-scaled.ensures pre.0 pre.1.0 pre.1.1.1 0 in (
      (same-apart (same-apart c.requires.0 c.scaled.auto.work) c.add.auto.work).second,
      omega (arith, kept_small (kept-sum left.held left.is.1).kept),
    )

pub returns : goal.returns
returns c b sorts k₀ k₁ l =
    sum_left b _ l _ _ _ c.requires.0 k₀ k₁ _ (c.in-Ok.ensures b k₀.kept k₁.kept l)
    (c.in-Ok-scaled.ensures b sorts k₁ l) c.add.ensures.only_area (λ s t. c.in-Ok-add.ensures.combines b s t l)
    c.clear_in.ensures c.join_operators.ensures
