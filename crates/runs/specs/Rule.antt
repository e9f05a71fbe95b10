-- The rules of a run's steps. One table gives each its number, which is the byte of an S record, and its name in the
-- Alethe specification.
use Rattle.std.specs.Prelude.{Bool, true, false, List, [], ◌∷◌, ℕ, eqb}
use Rattle.std.specs.Prelude.{Option, Some, None}
use Prim.Native.String.{String}
use Rattle.runs.specs.declared.rule.Rule.{Rule}
use Rattle.runs.specs.declared.rule.Rule.TheVariants.{Assume, LaRwEq, LaDisequality, LaTotality, LaTautology}
use Rattle.runs.specs.declared.rule.Rule.TheVariants.{LaGeneric, BoundedFarkas, PolySimp, PolySimpRel}

abbrev pub row : Rule → ℕ × String
row Assume = (0, "assume")
row LaRwEq = (1, "la_rw_eq")
row LaDisequality = (2, "la_disequality")
row LaTotality = (3, "la_totality")
row LaTautology = (4, "la_tautology")
row LaGeneric = (5, "la_generic")
row BoundedFarkas = (6, "bounded_farkas")
row PolySimp = (7, "poly_simp")
row PolySimpRel = (8, "poly_simp_rel")

abbrev pub rule_number : Rule → ℕ
rule_number r = (row r).0

abbrev pub rule_name : Rule → String
rule_name r = (row r).1

abbrev pub rules : List Rule
rules =
    Assume ∷ LaRwEq ∷ LaDisequality ∷ LaTotality ∷ LaTautology ∷ LaGeneric ∷ BoundedFarkas ∷ PolySimp
    ∷ PolySimpRel ∷ []

-- the rule of a list that has a number
unfoldable pub with_number : List Rule → ℕ → Option Rule
with_number [] n = None
with_number (r ∷ rs) n = elim (eqb (rule_number r) n) [ true ↦ Some r | false ↦ with_number rs n ]

unfoldable pub rule_of : ℕ → Option Rule
rule_of n = with_number rules n

abbrev pub is_rule : Rule → Rule → Bool
is_rule r s = eqb (rule_number r) (rule_number s)
