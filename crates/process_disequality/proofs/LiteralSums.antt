-- `accumulate` along its own steps, argument, scaled literal, sum, and what each way out leaves of the areas; and that
-- `process_disequality` is the literal's disequality with these steps behind it.
use Rattle.std.specs.Prelude.{Err}
use Rattle.index_map.specs.Memory.Answers.{comb_with}
use mathlib.Core.Path.{◌≡◌, refl, sym, subst, ap, ap₂, ◌∙◌}
use mathlib.Core.List.{List, []}
use Rattle.std.specs.Prelude.{Option}
use Prim.Native.Nat.{ℕ}
use Rattle.numbers.specs.Rational.{Rational}
use Rattle.numbers.specs.Bytes.{Bytes}
use Rattle.terms.specs.Term.{Term}
use Rattle.index_map.specs.Memory.StoredMaps as maps
use Rattle.rules.specs.Refusal.{Result, ◌>>=◌}
use Rattle.std.specs.Prelude.{Ok}
use Rattle.rules.specs.declared.refusal.Refusal.{Refusal}
use Rattle.rules.specs.Limits.{Limits, limited}
use Rattle.index_map.specs.IndexMap.{add}
use Rattle.linear_comb.specs.LinearComb.{LinearComb, mul}
use Rattle.index_map.specs.Memory.Entries.{terms, slots, stored, entries_of, blanked, Held}
use Rattle.disequality.specs.Disequality.{Disequality, disequality, disequality_of}
use Rattle.process_disequality.specs.ProcessDisequality.{Progress, progress, argument_of, strengthened, scalar}
use Rattle.process_disequality.specs.ProcessDisequality.{weakened, join_operators, process_disequality}
use Rattle.linear_comb.specs.Memory.WorkArea.{Sum, comb_of, area_of, with_area, OnlyArea, Apart, KeptSum}
use Rattle.linear_comb.specs.Memory.WorkArea.{Combines}
use Rattle.process_disequality.specs.Memory.ProcessSteps.{argument_from, ArguedIs, trace_of, progress_of}
use Rattle.process_disequality.specs.Memory.ProcessSteps.{scaled_of, ScaledLeft, accumulated_of}
use Rattle.process_disequality.specs.Memory.ProcessSteps.{AccumulatedLeft}
use Rattle.disequality.specs.declared.disequality.Disequality as literal-value
use Rattle.process_disequality.specs.declared.process_disequality.Progress as by_value
use Rattle.linear_comb.proofs.Areas.{empty-length, empty-held, only_none}
use Rattle.rules.proofs.Results.{next, ends, bind-same, bind_assoc}
use Rattle.process_disequality.proofs.LiteralArguments.{argument_of_lem}
use Rattle.linear_comb.proofs.AreaSteps.{blanked-empty, kept-sum, sum_comb, Both, both-apart, then_first}
use Rattle.linear_comb.proofs.AreaSteps.{second_emptied, in_second, both_read, both-written}
use Rattle.process_disequality.proofs.LiteralAreas.{emptied-after}

-- ---- the definition

-- strengthening and scaling are steps 4 and 5
module _ (l : Limits) (p : Progress) (d : Disequality) (a : Rational) (trace : List Rational) where
  abbrev sum_of_lem : ℕ × LinearComb → Result Progress
  sum_of_lem x =
      add terms l p.acc x.1 >>= λ acc. Ok (progress (join_operators p.operator x.0) acc trace d.visits)

  scaled_in_one :
      (strengthened l d.operator d.sum a >>= λ x.
      mul l x.1 (scalar x.0 a) >>= λ s. sum_of_lem (weakened x.0 a, s))
      ≡ (scaled_of l d.operator d.sum a >>= sum_of_lem)
  unfolding scaled_of ◌>>=◌
  scaled_in_one =
      bind-same (strengthened l d.operator d.sum a)
      (λ x. sym (bind_assoc (mul l x.1 (scalar x.0 a)) (λ s. Ok (weakened x.0 a, s)) sum_of_lem))
      ∙ sym (bind_assoc (strengthened l d.operator d.sum a)
      (λ x. mul l x.1 (scalar x.0 a) >>= λ s. Ok (weakened x.0 a, s)) sum_of_lem)

-- the disequality of a literal, and the rest
pub processed_in_two :
    (l : Limits) (p : Progress) (phi : Term) (arg : Option Rational) →
    process_disequality l p phi arg ≡ (disequality_of l phi p.visits >>= λ d. accumulated_of l p d arg)
unfolding process_disequality accumulated_of
processed_in_two l p phi arg =
    bind-same (disequality_of l phi p.visits)
    (λ d. bind-same (argument_of l p d.sum arg) (λ x. scaled_in_one l p d x.0 x.1))

-- ---- accumulate

module _
    (b w : Bytes) (l : ℕ) (p : by_value.Progress) (d : literal-value.Disequality) (arg : Option Rational)
    (apart : Apart 0 1 w) (k₀ : KeptSum b (area_of 0 w) p.acc) (k₁ : KeptSum b (area_of 1 w) d.sum) where
  abbrev SoFar : Progress
  SoFar = progress_of b w p

  abbrev TheLiteral : Disequality
  TheLiteral = disequality d.operator (comb_of b (area_of 1 w) d.sum) d.visits

  abbrev Argument : Result (Rational × List Rational)
  Argument =
      argument_from (limited l) (entries_of b (area_of 0 w) p.acc.len) (entries_of b (area_of 1 w) d.sum.len) arg

  abbrev SumNow : Result Progress
  SumNow = accumulated_of (limited l) SoFar TheLiteral arg

  same-argument : argument_of (limited l) SoFar TheLiteral.sum arg ≡ Argument
  same-argument = argument_of_lem (limited l) p.operator SoFar.acc TheLiteral.sum p.visits arg

  -- both areas are empty
  refused-left :
      {w' : Bytes} {r : Refusal} → Both 0 1 w (stored slots []) (stored slots []) w' → SumNow ≡ Err r →
      AccumulatedLeft b w w' (Err r) SumNow
  refused-left p h =
      record { map = []; held = empty-held p.first; only = both-written apart p; is = (h, refl) }

  pub unargued-left :
      {w' : Bytes} {r : Refusal} → Argument ≡ Err r →
      w' ≡ with_area 1 (blanked d.sum.len (area_of 1 w)) (with_area 0 (blanked p.acc.len (area_of 0 w)) w) →
      AccumulatedLeft b w w' (Err r) SumNow
  unfolding accumulated_of
  unargued-left h f =
      let none = empty-length in
      refused-left
      (both_read apart none none
      (f ∙ ap₂ (λ y x. with_area 1 y (with_area 0 x w)) (blanked-empty k₁.kept) (blanked-empty k₀.kept)))
      (ends _ (same-argument ∙ h))

  abbrev Scaled : Rational → Result (ℕ × LinearComb)
  Scaled a = scaled_of (limited l) d.operator TheLiteral.sum a

  module _ {a : Rational} (found : Option Rational) (argument : ArguedIs (Ok (a, found)) Argument) where
    argued-as : SumNow ≡ (Scaled a >>= sum_of_lem (limited l) SoFar TheLiteral a (trace_of found))
    unfolding accumulated_of
    argued-as = next _ (same-argument ∙ argument.0)

    pub unscaled-left :
        {w₁ w' : Bytes} {r : Refusal} → ScaledLeft b w w₁ (Err r) (Scaled a) →
        w' ≡ with_area 1 (blanked 0 (area_of 1 w₁)) (with_area 0 (blanked p.acc.len (area_of 0 w₁)) w₁) →
        AccumulatedLeft b w w' (Err r) SumNow
    unscaled-left {w₁} left f =
        let empty = subst (Held b (area_of 1 w₁)) left.is.1 left.held in
        refused-left (emptied-after apart left.only empty k₀.kept f) (argued-as ∙ ends _ left.is.0)

    module _
        {w₁ w₂ : Bytes} {q : ℕ} {t : Sum} (left : ScaledLeft b w w₁ (Ok (q, t)) (Scaled a))
        (only : OnlyArea 0 w₁ w₂) where
      abbrev Sums : Result Sum → Type 0
      Sums r =
          KeptSum b (area_of 0 w₁) p.acc → KeptSum b (area_of 1 w₁) t →
          Combines b (area_of 0 w₂) r
          (add terms (limited l) (comb_of b (area_of 0 w₁) p.acc) (comb_of b (area_of 1 w₁) t))

      kept : KeptSum b (area_of 1 w₁) t
      kept = kept-sum left.held left.is.1

      scaled_now : Both 0 1 w (area_of 0 w) (area_of 1 w₁) w₁
      scaled_now = in_second apart left.only

      total :
          {r : Result Sum} → Sums r →
          Combines b (area_of 0 w₂) r (add terms (limited l) SoFar.acc (comb_with t left.map))
      total sums =
          rw (← scaled_now.first, ← sum_comb left.held left.is.1) (sums (rw scaled_now.first k₀) kept)

      summed_now : Both 0 1 w (area_of 0 w₂) (area_of 1 w₁) w₂
      summed_now = then_first apart scaled_now only

      -- area 1 emptied at last
      both_left :
          {w' : Bytes} → w' ≡ with_area 1 (blanked t.len (area_of 1 w₂)) w₂ →
          Both 0 1 w (area_of 0 w₂) (stored slots []) w'
      both_left e = second_emptied apart summed_now kept.kept e

      pub unadded_left :
          {w' : Bytes} {r : Refusal} → Sums (Err r) →
          w' ≡ with_area 1 (blanked t.len (area_of 1 w₂)) (with_area 0 (blanked 0 (area_of 0 w₂)) w₂) →
          AccumulatedLeft b w w' (Err r) SumNow
      unfolding maps.blanked
      unadded_left {w'} sums f =
          let out = total sums in
          let same = sym (only_none (both-apart apart summed_now).first) in
          refused-left
          (subst (λ x. Both 0 1 w x (stored slots []) w') (out.held.bytes ∙ ap (stored slots) out.is.1)
          (both_left (f ∙ ap (with_area 1 (blanked t.len (area_of 1 w₂))) same)))
          (argued-as ∙ next _ left.is.0 ∙ ends _ out.is.0)

      pub sum_left :
          {w' : Bytes} {u : Sum} {o : ℕ} → Sums (Ok u) → w' ≡ with_area 1 (blanked t.len (area_of 1 w₂)) w₂ →
          o ≡ join_operators p.operator q →
          AccumulatedLeft b w w' (Ok (record { operator = o; acc = u; visits = d.visits }, found)) SumNow
      sum_left {u = u} sums f g =
          let sum = total sums in
          let there = both_left f in
          record {
            map = sum.map;
            held = rw there.first sum.held;
            only = both-written apart there;
            is = (
              argued-as ∙ next _ left.is.0 ∙ next _ sum.is.0
                  ∙ ap (λ z. Ok (progress z (comb_with u sum.map) (trace_of found) d.visits)) (sym g),
              (sum.is.1, argument.1.1),
            );
          }
