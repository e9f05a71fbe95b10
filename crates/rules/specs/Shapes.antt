-- Shapes of clauses and terms that more than one rule asks for, src/checker/rules/mod.rs: `match_term_err!`, operator
-- and count exact, and the assertions. A conclusion is the list of a step's literals.
use Rattle.std.specs.Prelude.{Bool, true, false, ◌&&◌, List, [], ◌∷◌, ℕ, suc, ◌%◌, leb, ltb, eqb, get_or, take, drop}
use Rattle.std.specs.Prelude.{Option, Some, None}
use Rattle.numbers.specs.Bytes.{Bytes}
use Rattle.numbers.specs.Choice.{when◌then◌else◌}
use Rattle.terms.specs.Operator.{Equals, GreaterEq}
use Rattle.terms.specs.Term.{Term, same, unary, binary, Terms}
use Rattle.terms.specs.Readers.{remove_negation, operator_of, arguments_of}
use Rattle.rules.specs.Refusal.{Result, assert, or_else, ◌>>=◌}
use Rattle.std.specs.Prelude.{Ok, Err}
use Rattle.rules.specs.declared.refusal.Refusal.TheVariants.{WrongLengthOfClause, TermOfWrongForm, ExpectedEqual}
use Rattle.terms.specs.Term.Terms.{nil, ◌▹◌}

abbrev pub Clause : Type 0
Clause = List Term

-- assert_clause_len(conclusion, 1), and conclusion[0]
unfoldable pub only_literal : Clause → Result Term
only_literal [] = Err WrongLengthOfClause
only_literal (t ∷ []) = Ok t
only_literal (t ∷ u ∷ ts) = Err WrongLengthOfClause

abbrev pub unary_err : ℕ → Term → Result Term
unary_err o t = or_else (unary o t) TermOfWrongForm

abbrev pub binary_err : ℕ → Term → Result (Term × Term)
binary_err o t = or_else (binary o t) TermOfWrongForm

abbrev pub is_relation : ℕ → Bool
is_relation o = leb Equals o && leb o GreaterEq

unfoldable pub assert_eq : Term → Term → Result (Unit {0})
assert_eq a b = assert (same a b) ExpectedEqual

-- (not (o s d))
unfoldable pub negated_binary : ℕ → Term → Option (Term × Term)
negated_binary o t = elim (remove_negation t) [ Some u ↦ binary o u | None ↦ None ]

abbrev pub both : Option (Term × Term) → Option (Term × Term) → Option ((Term × Term) × (Term × Term))
both (Some p) (Some q) = Some (p, q)
both (Some p) None = None
both None q = None

-- the five forms (or phi1 phi2): what is asked of s1, s2 is equality, of the bounds d1, d2 the test given
unfoldable pub bounds_case :
    (Term → Term → Result (Unit {0})) → (Term × Term) × (Term × Term) → Result (Unit {0})
bounds_case test p = do
  _ ← assert_eq p.0.0 p.1.0
  test p.0.1 p.1.1

abbrev pub size : Terms → ℕ
size nil = 0
size (t ▹ ts) = suc (size ts)

-- ---- forms

-- the term with the name `whole` is this operation of the terms with the names `parts`
pub record Equation : Type 0 where
  pub whole : ℕ
  pub operator : ℕ
  pub parts : List ℕ

infix 30 ◌≔◌of◌
abbrev pub ◌≔◌of◌ : ℕ → ℕ → List ℕ → Equation
w ≔ o of ks = record { whole = w; operator = o; parts = ks }

-- A pattern of `match_term!`, where each operation has a name too. 0 is the whole term, and the others are numbered as
-- they first come: (= (not t) u) is 0 = (= 1 2) and 1 = (not 3).
abbrev pub Form : Type 0
Form = List Equation

-- what the first names stand for
pub record Names : Type 0 where
  pub count : ℕ
  pub at : ℕ → Term

abbrev pub only_name : Term → Names
only_name t = record { count = 1; at = λ k. t }

abbrev pub max_names : ℕ
max_names = 16

-- a name that comes again stands for the same term
unfoldable pub bind : ℕ → Term → Names → Option Names
bind k t σ =
    when ltb k σ.count then (when same (σ.at k) t then Some σ else None) else
    when eqb k σ.count && ltb k max_names then
    Some (record { count = suc k; at = λ j. when eqb j k then t else σ.at j }) else
    None

unfoldable pub bind_all : List ℕ → Terms → Names → Option Names
bind_all [] nil σ = Some σ
bind_all [] (t ▹ ts) σ = None
bind_all (k ∷ ks) nil σ = None
bind_all (k ∷ ks) (t ▹ ts) σ = elim (bind k t σ) [ Some τ ↦ bind_all ks ts τ | None ↦ None ]

-- operator and count are exact
unfoldable pub solve : Equation → Names → Option Names
solve e σ =
    elim (ltb e.whole σ.count && eqb (operator_of (σ.at e.whole)) e.operator) [
      | true ↦ bind_all e.parts (arguments_of (σ.at e.whole)) σ
      | false ↦ None
    ]

unfoldable pub solve_all : Form → Names → Option Names
solve_all [] σ = Some σ
solve_all (e ∷ es) σ = elim (solve e σ) [ Some τ ↦ solve_all es τ | None ↦ None ]

abbrev pub matches : Form → Term → Option Names
matches f t = solve_all f (only_name t)

-- a rule that asks for a form of the only literal
unfoldable pub has_form : Form → Clause → Result (Unit {0})
has_form f conclusion = do
  phi ← only_literal conclusion
  _ ← or_else (matches f phi) TermOfWrongForm
  Ok tt

-- ---- forms in bytes: six for an equation, which are a name, an operator, how many parts, and up to three parts

abbrev pub equation_of : Bytes → Equation
equation_of e = get_or e 0 0 ≔ get_or e 1 0 of take (get_or e 2 0 % 4) (drop 3 e)

unfoldable pub form_of : Bytes → Form
form_of [] = []
form_of (w ∷ []) = []
form_of (w ∷ o ∷ []) = []
form_of (w ∷ o ∷ n ∷ []) = []
form_of (w ∷ o ∷ n ∷ x ∷ []) = []
form_of (w ∷ o ∷ n ∷ x ∷ y ∷ []) = []
form_of (w ∷ o ∷ n ∷ x ∷ y ∷ z ∷ l) = equation_of (w ∷ o ∷ n ∷ x ∷ y ∷ z ∷ []) ∷ form_of l
