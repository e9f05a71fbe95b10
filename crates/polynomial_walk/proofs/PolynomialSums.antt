-- What is added to a polynomial in the lowest area of a stack: a number to its constant, an atom to its entries, a
-- product from the area above times a number. A refusal has emptied the area before.
--     refused                                    the area is empty and the answer is a refusal
--     atom-key, atom_out, atom-added             the monomial of one atom is entered
--     scaled_out, scaled-outside, scaled-added   the product's entries are entered, then its constant is added
use Rattle.std.specs.Prelude.{Some, None, Ok, Err}
use mathlib.Core.Path.{◌≡◌, refl, sym, ◌∙◌, ap}
use mathlib.Core.List.{[], ◌∷◌}
use Prim.Native.Nat.{ℕ, ◌<◌}
use native.Mathlib.Omega.{arith}
use lib.ListN.{length, replicate}
use Rattle.numbers.specs.Rational.{Rational, Gives, mul_q, checked, Checked}
use Rattle.numbers.specs.Bytes.{Bytes}
use Rattle.terms.specs.Term.{Term, record_number}
use Rattle.terms.specs.Book.{count, tree}
use Rattle.terms.proofs.NumberedNodes.{record_number-tree}
use Rattle.rules.specs.Refusal.{Result, ◌>>=◌}
use Rattle.rules.specs.declared.refusal.Refusal.{Refusal}
use Rattle.rules.specs.declared.refusal.Refusal.TheVariants.{NumberRange}
use Rattle.rules.specs.Limits.{limited, times}
use Rattle.index_map.specs.declared.combination.Walked as by_value
use Rattle.index_map.specs.IndexMap.{Map, Walked, insert, add_entry, add_constant}
use Rattle.index_map.specs.Memory.Answers.{Has, comb_with, walked_with}
use Rattle.polynomial.specs.Polynomial.{Monomial, monomials, insert_scaled, place}
use Rattle.polynomial.specs.Memory.PolynomialArea.{atom_bytes, monomial_bytes, Atom, Atoms, Key, Stacked, Poly}
use Rattle.polynomial.specs.Memory.PolynomialArea.{InsertsAt, Walks, add_scaled}
use Rattle.index_map.proofs.CheckedNumbers.{times-value, times_out}
use Rattle.polynomial.proofs.StackAreas.{stack-less}
use Rattle.rules.proofs.Results.{next, ends}
use Rattle.polynomial.proofs.ProductEntries.{ClearSays, AllScaledSays}

-- ---- the answers

pub refused :
    {b w : Bytes} {r : Refusal} {d : Result (Walked Monomial)} → Stacked b w ([] ∷ []) → d ≡ Err r → Walks b w (Err r) d
refused t e = record { map = []; held = t; is = (e, refl) }

-- s with other entries or another constant
abbrev with_sum : by_value.Walked → ℕ → Rational → by_value.Walked
with_sum s n c = record { sum = record { len = n; constant = c }; visits = s.visits }

-- ---- an atom

module _ (s : by_value.Walked) {m : Map Monomial} (has : Has s.sum m) (l : ℕ) where
  module _ (x : Monomial) (value : Rational) {b w : Bytes} where
    pub atom_out :
        {r : Refusal} → InsertsAt b w (m ∷ []) 0 (Err r) (insert monomials (limited l) m x value) →
        Walks b w (Err r) (add_entry monomials (limited l) x value (walked_with s m))
    unfolding add_entry
    atom_out enters = record { map = enters.map; held = enters.held; is = (ends _ enters.is.0, enters.is.1) }

    pub atom-added :
        {n : ℕ} → InsertsAt b w (m ∷ []) 0 (Ok n) (insert monomials (limited l) m x value) →
        Walks b w (Ok (with_sum s n s.sum.constant)) (add_entry monomials (limited l) x value (walked_with s m))
    unfolding add_entry
    atom-added enters =
        record {
          map = enters.map;
          held = enters.held;
          is = (next _ enters.is.0, record { size = enters.is.1; proper = has.proper });
        }

-- the monomial of one atom: the atom is put into that of none
pub atom-key :
    (b : Bytes) (id : ℕ) → id < count b → {key : Bytes} →
    ((b : Bytes) (m : Monomial) (t : Term) → Key b (replicate 17 0) m → length m < 8 → Atom b t → id ≡ record_number t →
    Key b key (place t m)) →
    Key b key (tree b id ∷ [])
unfolding place monomial_bytes atom_bytes Atoms
atom-key b id inside put =
    let own = record_number-tree b id in
    put b [] (tree b id) (record { bytes = refl; atoms = tt; few = omega arith }) (omega arith)
    (record { term = ap (tree b) (sym own); inside = rw own inside }) (sym own)

-- ---- a product times a number: its entries are inserted, and area 1 is emptied then

module _
    (s : by_value.Walked) {b w : Bytes} {p : Poly} {m n : Map Monomial} (stack : Stacked b w (m ∷ n ∷ []))
    (has : Has s.sum m) (has_p : Has p n) (coeff : Rational) (l : ℕ) {w' : Bytes} where
  module _ {r : Result ℕ} (inserts : AllScaledSays w 1 p.len coeff 0 s.sum.len w' r) where
    enters : InsertsAt b w' (m ∷ n ∷ []) 0 r (insert_scaled (limited l) n coeff m)
    enters =
        inserts b (m ∷ n ∷ []) stack (omega arith) (omega arith) (λ e. omega arith) has_p.size has.size l

    lowest : {w'' : Bytes} → ClearSays w' 1 p.len w'' → Stacked b w'' (enters.map ∷ [])
    lowest clears =
        stack-less (enters.map ∷ []) (clears b (enters.map ∷ n ∷ []) enters.held (omega arith) has_p.size)

  pub scaled_out :
      {w'' : Bytes} {r : Refusal} → AllScaledSays w 1 p.len coeff 0 s.sum.len w' (Err r) → ClearSays w' 1 p.len w'' →
      Walks b w'' (Err r) (add_scaled (limited l) coeff (comb_with p n) (walked_with s m))
  unfolding add_scaled
  scaled_out inserts clears =
      let is = (enters inserts).is in
      record { map = (enters inserts).map; held = lowest inserts clears; is = (ends _ is.0, is.1) }

  -- a is what the code finds for the product of the constant
  module _
      {w'' : Bytes} {k : ℕ} (inserts : AllScaledSays w 1 p.len coeff 0 s.sum.len w' (Ok k))
      (clears : ClearSays w' 1 p.len w'') {a : Checked} (gives : Gives a (checked (mul_q coeff p.constant)))
      {w''' : Bytes} where
    pub scaled-outside :
        a ≡ None → ClearSays w'' 0 k w''' →
        Walks b w''' (Err NumberRange) (add_scaled (limited l) coeff (comb_with p n) (walked_with s m))
    unfolding add_scaled ◌>>=◌
    scaled-outside out clears' =
        let no : times (limited l) coeff p.constant ≡ Err NumberRange = times_out l _ _ (sym gives.is ∙ out) in
        let is = (enters inserts).is in
        refused (clears' b _ (lowest inserts clears) (omega arith) is.1) (rw (is.0, no))

    -- what is left is to add it to the constant of the sum
    pub scaled-added :
        {c : Rational} → a ≡ Some c → {f : Result by_value.Walked} →
        ((b : Bytes) (m : Map Monomial) → Stacked b w'' (m ∷ []) → Has (with_sum s k s.sum.constant).sum m → (l : ℕ) →
        Walks b w''' f (add_constant (limited l) c (walked_with (with_sum s k s.sum.constant) m))) →
        Walks b w''' f (add_scaled (limited l) coeff (comb_with p n) (walked_with s m))
    unfolding add_scaled ◌>>=◌
    scaled-added {c} value adds =
        let product : times (limited l) coeff p.constant ≡ Ok c = times-value l _ _ c (sym gives.is ∙ value) in
        rw ((enters inserts).is.0, product)
        (adds b _ (lowest inserts clears) (record { size = (enters inserts).is.1; proper = has.proper }) l)
