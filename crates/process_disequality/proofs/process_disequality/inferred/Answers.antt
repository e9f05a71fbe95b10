-- The definition's steps are the code's, one by one (`LiteralArguments`), at what is read of area 1's only entry.
use mathlib.Core.Path.{sym, ◌∙◌}
use native.Mathlib.Omega.{arith}
use Rattle.rules.proofs.Results.{handed_on, stops, goes_on}
use Rattle.index_map.proofs.StoredEntries.{kept_small}
use Rattle.index_map.proofs.CheckedNumbers.{quotient-asked}
use Rattle.process_disequality.proofs.LiteralArguments.{no-number, not-alone, alone, zero-own, coefficient-asked}
use Rattle.process_disequality.proofs.LiteralArguments.{asked_sum}
use Rattle.process_disequality.proofs.process_disequality.inferred.Goals as goal

pub returns-then-m-ne1 : goal.returns-then-m-ne1
returns-then-m-ne1 c b p q l = no-number (not-alone _ _ b _ _ c.if-m-ne1.true)

pub returns-then-is_zero : goal.returns-then-is_zero
returns-then-is_zero c b p q l =
    let own = alone c.if-m-ne1.false c.area.ensures c.key_at-var.ensures.0 c.area-2.ensures c.value_at-own.ensures in
    no-number (zero-own own b _ _ (sym c.is_zero.ensures ∙ c.if-is_zero.true))

pub get-requires : goal.get-requires
get-requires c = omega (arith, kept_small c.requires.1.1.0)

pub returns-in_err-coeff : goal.returns-in_err-coeff
returns-in_err-coeff c b p q l =
    let own = alone c.if-m-ne1.false c.area.ensures c.key_at-var.ensures.0 c.area-2.ensures c.value_at-own.ensures in
    let got = rw c.area-3.ensures at c.get.ensures in
    rw (handed_on c.from_residual.ensures.1)
    (no-number
    (stops _ (c.in_err-coeff.ensures.value ∙ coefficient-asked _ _ _ (got b p))
    ∙ asked_sum own b _ _ (sym c.is_zero.ensures ∙ c.if-is_zero.false)))

pub neg-requires : goal.neg-requires
neg-requires c =
    let got = rw (c.area-3.ensures, c.in_ok-coeff.ensures.ok_part) at c.get.ensures in
    (got _ c.requires.1.1.0).1

pub returns : goal.returns
returns c b p q l =
    let own = alone c.if-m-ne1.false c.area.ensures c.key_at-var.ensures.0 c.area-2.ensures c.value_at-own.ensures in
    let got = rw c.area-3.ensures at c.get.ensures in
    record {
      is =
          goes_on _ (c.in_ok-coeff.ensures.value ∙ coefficient-asked _ _ _ (got b p))
          (c.ok_or-2.ensures.value ∙ quotient-asked l _ _ (rw c.neg.ensures.is at c.div.ensures.is))
          ∙ asked_sum own b _ _ (sym c.is_zero.ensures ∙ c.if-is_zero.false);
      proper = λ q e. c.div.ensures.proper q (rw e at c.ok_or-2.ensures.ok_part);
    }
