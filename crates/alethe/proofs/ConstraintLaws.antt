-- Laws of the Alethe side's constraints by themselves: relations are joined in any order, the join of the words is the
-- Rust's or >= where that is > (`Fits`); a line's factor is in lowest terms, and strengthening keeps the atoms.
--     stronger_assoc, stronger-equals       relations are joined
--     Fits, fits-joined, joins-fit       the relation that the words give, and the Rust's
--     lines-length       as many lines as literals and arguments
--     factor-lowest, raised-lowest       numbers in lowest terms
--     strengthens-terms, strengthens-lowest, strengthens-greater       strengthening
use mathlib.Core.Path.{◌≡◌, refl, ◌∙◌}
use mathlib.Core.List.{List, [], ◌∷◌}
use Prim.Native.Nat.{ℕ}
use lib.IntN.{pos}
use lib.ListN.{length}
use Rattle.numbers.specs.Rational.{Rational, whole, Lowest, add_q}
use Rattle.numbers.proofs.Floor.{floor-lowest}
use Rattle.numbers.proofs.LowestTerms.{whole_is_lowest}
use Rattle.numbers.proofs.Rationals.{abs_lowest, add-lowest}
use Rattle.alethe.specs.AletheTerms.{Departures}
use Rattle.alethe.specs.Alethe.{Clause, Constraint, Relation, Lines, Strengthens, factor, weaker, stronger}
use Rattle.alethe.specs.Alethe.{joined, Joins}
use Rattle.alethe.specs.Alethe.Joins.{as_worded, join}
use Rattle.alethe.specs.Alethe.Relation.{eq, ge, gt}
use Rattle.alethe.specs.Alethe.Strengthens.{not_all_int, equality, greater_whole, greater_fraction, at_least_whole}
use Rattle.alethe.specs.Alethe.Strengthens.{at_least_fraction, divisor, whole_product, fractional_product}

-- ---- relations

pub stronger_assoc : (r s t : Relation) → stronger (stronger r s) t ≡ stronger r (stronger s t)
stronger_assoc eq s t = refl
stronger_assoc ge eq t = refl
stronger_assoc ge ge eq = refl
stronger_assoc ge ge ge = refl
stronger_assoc ge ge gt = refl
stronger_assoc ge gt t = refl
stronger_assoc gt s t = refl

pub stronger-equals : (r : Relation) → stronger r eq ≡ r
stronger-equals eq = refl
stronger-equals ge = refl
stronger-equals gt = refl

-- the relation that the words give, and the Rust's, from which it follows
pub data Fits : Relation → Relation → Type 0 where
  same : (r : Relation) → Fits r r
  raised : Fits ge gt

fits_next : (r : Relation) {s t : Relation} → Fits s t → Fits (weaker r s) (stronger r t)
fits_next eq h = h
fits_next ge (same eq) = same ge
fits_next ge (same ge) = same ge
fits_next ge (same gt) = raised
fits_next ge raised = raised
fits_next gt (same eq) = same gt
fits_next gt (same ge) = raised
fits_next gt (same gt) = same gt
fits_next gt raised = raised

pub fits-joined : (ks : List Constraint) → Fits (joined weaker ks) (joined stronger ks)
unfolding joined
fits-joined [] = same eq
fits-joined (k ∷ ks) = fits_next k.relation (fits-joined ks)

pub joins-fit : {by : Departures} {ks : List Constraint} {r : Relation} → Joins by ks r → Fits r (joined stronger ks)
joins-fit {ks = ks} as_worded = fits-joined ks
joins-fit {ks = ks} (join b) = same (joined stronger ks)

-- ---- lines

pub lines-length : {by : Departures} {c : Clause} {qs : List Rational} {ks : List Constraint} → Lines by c qs ks →
    length qs ≡ length c
lines-length Lines.end = refl
lines-length (Lines.line h hs) = rw (lines-length hs)

-- ---- numbers in lowest terms

pub factor-lowest : (a : Rational) → Lowest a → (r : Relation) → Lowest (factor r a)
factor-lowest a l eq = l
factor-lowest a l ge = abs_lowest a l
factor-lowest a l gt = abs_lowest a l

pub raised-lowest : (q : Rational) → Lowest q → (n : ℕ) → Lowest (add_q q (whole (pos n)))
raised-lowest q l n = add-lowest q (whole (pos n)) l (whole_is_lowest (pos n))

-- ---- strengthening

-- the atoms stay
pub strengthens-terms : {by : Departures} {a : Rational} {k strong : Constraint} → Strengthens by a k strong →
    strong.terms ≡ k.terms
strengthens-terms (not_all_int e) = refl
strengthens-terms (equality e) = refl
strengthens-terms (greater_whole e r w) = refl
strengthens-terms (greater_fraction e r w) = refl
strengthens-terms (at_least_whole e r w) = refl
strengthens-terms (at_least_fraction e r w h) = refl
strengthens-terms (divisor b e r w z g p c h) = refl
strengthens-terms (whole_product b e r w) = refl
strengthens-terms (fractional_product b e r w) = refl

-- the bound is in lowest terms where it was
pub strengthens-lowest : {by : Departures} {a : Rational} {k strong : Constraint} → Lowest k.bound →
    Strengthens by a k strong → Lowest strong.bound
strengthens-lowest l (not_all_int e) = l
strengthens-lowest l (equality e) = l
strengthens-lowest l (greater_whole e r w) = raised-lowest _ l 1
strengthens-lowest l (greater_fraction e r w) = raised-lowest _ (floor-lowest _) 1
strengthens-lowest l (at_least_whole e r w) = l
strengthens-lowest l (at_least_fraction e r w h) = raised-lowest _ (floor-lowest _) 1
strengthens-lowest l (divisor b e r w z g p c h) = raised-lowest _ (floor-lowest _) g
strengthens-lowest l (whole_product b e r w) = l
strengthens-lowest l (fractional_product b e r w) = raised-lowest _ (floor-lowest _) 1

-- > is left only where it was
pub strengthens-greater : {by : Departures} {a : Rational} {k strong : Constraint} → Strengthens by a k strong →
    strong.relation ≡ gt → k.relation ≡ gt
strengthens-greater (not_all_int e) h = h
strengthens-greater (equality e) h = h
strengthens-greater (greater_whole e r w) h = r
strengthens-greater (greater_fraction e r w) h = r
strengthens-greater (at_least_whole e r w) h = h
strengthens-greater (at_least_fraction e r w n) h = r ∙ h
strengthens-greater (divisor b e r w z g p c n) h = r
strengthens-greater (whole_product b e r w) h = h
strengthens-greater (fractional_product b e r w) h = r ∙ h
