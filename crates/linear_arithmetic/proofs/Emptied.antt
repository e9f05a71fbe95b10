-- At the end of a rule the work area is what it was: the area that was used was empty (`Ready`), and is emptied.
--     ready-between, ready-folding       what a rule finds
--     emptied, cleared       what it leaves
use mathlib.Core.Path.{◌≡◌, sym, ap, ◌∙◌}
use mathlib.Core.List.{[]}
use Prim.Native.Nat.{ℕ, ◌<◌}
use native.Mathlib.Omega.{arith}
use lib.ListN.{length}
use Rattle.numbers.specs.Rational.{Proper}
use Rattle.numbers.specs.Bytes.{Bytes}
use Rattle.terms.specs.Term.{Term}
use Rattle.index_map.proofs.StoredEntries.{held-length}
use Rattle.index_map.specs.IndexMap.{Map}
use Rattle.linear_comb.specs.Memory.WorkArea.{area_of, with_area, OnlyArea, Area}
use Rattle.index_map.specs.Memory.Entries.{slots, stored, Held, Kept, blanked}
use Rattle.rules.specs.Memory.Parts.{Ready}
use Rattle.process_disequality.specs.Memory.ProcessSteps.{Folding}
use Rattle.disequality.specs.Memory.DisequalitySteps.{Between}
use Rattle.process_disequality.specs.declared.process_disequality.Progress as by_value
use Rattle.linear_comb.proofs.Areas.{only_none, only_then, empty-held, ready-area}
use Rattle.linear_comb.proofs.AreaSteps.{only-area, emptied-held, emptied-only}

module _ {b w₀ : Bytes} (ready : Ready b w₀) where
  pub ready-between : Between b w₀
  ready-between =
      record {
        laid = ready.sorts.laid;
        sorts = ready.sorts;
        size = ready.size;
        left = ready-area ready 1 (omega arith);
        right = ready-area ready 2 (omega arith);
      }

  -- with the empty sum
  pub ready-folding : (p : by_value.Progress) → p.acc.len ≡ 0 → Proper p.acc.constant → Folding b w₀ p
  ready-folding p none proper =
      record {
        between = ready-between;
        acc =
            record {
              kept = record { map = []; held = empty-held (ready-area ready 0 (omega arith)); size = none };
              proper = proper;
            };
      }

  module _ {j : ℕ} (among : j < 3) where
    area : Area j w₀
    area = record { size = ready.size; among = among }

    -- no byte outside the area has changed, and nothing is left in it
    pub emptied : {w : Bytes} → OnlyArea j w₀ w → area_of j w ≡ stored slots [] → w ≡ w₀
    emptied {w} only empty =
        only
        ∙ ap (λ x. with_area j x w₀) (empty ∙ sym (ready-area ready j among))
        ∙ sym (only_none area)

    -- what is left in it is cleared
    pub cleared :
        {w w' : Bytes} {m : Map Term} → OnlyArea j w₀ w → Held b (area_of j w) m → (n : ℕ) → n ≡ length m →
        w' ≡ with_area j (blanked n (area_of j w)) w → w' ≡ w₀
    cleared {w} {m = m} only held n size e =
        let now = only-area area (held-length held) only in
        let kept : Kept b (area_of j w) n = record { map = m; held = held; size = size } in
        emptied (only_then area only (emptied-only now kept e)) (emptied-held now kept e).bytes
