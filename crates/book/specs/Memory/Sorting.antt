-- The sort rules as the code makes them: over sorts as numbers, and over what the sorts of an operation's arguments
-- have in common. `proofs/SortRules` and `proofs/RecordSorts` show that they are the rules of specs/Term.
use Rattle.std.specs.Prelude.{Bool, true, ◌&&◌, ◌||◌, cond, List, [], ◌∷◌, ℕ, ◌+◌, leb, ltb, eqb, get_or}
use Rattle.numbers.specs.Bytes.{Bytes}
use Rattle.terms.specs.Format.{max_width, bool_sort, int_sort, real_sort, bits_sort, bits_code}
use Rattle.terms.specs.Format.{integer_kind, real_kind, vector_kind, operation_kind}
use Rattle.terms.specs.Operator.{Or, Equals, GreaterEq, Mult, IntDiv, ToReal}
use Rattle.numbers.specs.Choice.{when◌then◌else◌}
use Rattle.terms.specs.Book.{kind, operator, sort_byte, field2, arg_bytes, numbers}
use Rattle.book.specs.declared.sort.ArgSorts.{ArgSorts}
use Rattle.std.specs.Prelude.{Option, Some, None}

-- the sort of an argument of record i; what is no earlier record counts as a Bool atom
abbrev pub sort_at : ℕ → Bytes → ℕ → ℕ
sort_at i w a = cond (ltb a i) (get_or w a 0) bool_sort

unfoldable pub arg_sorts : ℕ → Bytes → List ℕ → List ℕ
arg_sorts i w [] = []
arg_sorts i w (a ∷ l) = sort_at i w a ∷ arg_sorts i w l

unfoldable pub all_codes : (ℕ → Bool) → List ℕ → Bool
all_codes p [] = true
all_codes p (c ∷ l) = p c && all_codes p l

abbrev pub first_code : List ℕ → ℕ
first_code [] = bool_sort
first_code (c ∷ l) = c

abbrev pub numeric_code : ℕ → Bool
numeric_code c = eqb c int_sort || eqb c real_sort

unfoldable pub common : List ℕ → ArgSorts
common l =
    record {
      first = first_code l;
      same = all_codes (eqb (first_code l)) l;
      numeric = all_codes numeric_code l;
      int = all_codes (eqb int_sort) l;
    }

unfoldable pub takes_by : ℕ → ArgSorts → Bool
takes_by o c =
    when leb o Or then eqb c.first bool_sort && c.same else
    when eqb o Equals then c.same || c.numeric else
    when leb o Mult then c.numeric else
    when eqb o IntDiv then c.int else
    when leb o ToReal then c.numeric else
    leb bits_sort c.first && c.same

unfoldable pub gives_by : ℕ → ArgSorts → ℕ
gives_by o c =
    when leb o GreaterEq then bool_sort else
    when leb o Mult then (when c.int then int_sort else real_sort) else
    when eqb o IntDiv then int_sort else
    when leb o ToReal then real_sort else
    c.first

unfoldable pub sort_rule : ℕ → ArgSorts → Option ℕ
sort_rule o c = cond (takes_by o c) (Some (gives_by o c)) None

-- above `bits_code` by the width; a width that is none stands as 0
abbrev pub width_code : Bytes → ℕ
width_code r = cond (leb (field2 r) max_width) (bits_code + field2 r) bits_code

abbrev pub atom_code : Bytes → ℕ
atom_code r =
    when eqb (sort_byte r) int_sort then int_sort else
    when eqb (sort_byte r) real_sort then real_sort else
    when eqb (sort_byte r) bits_sort then width_code r else
    bool_sort

-- record i with bytes r, where w has the sorts of the records before it
unfoldable pub sorting : ℕ → Bytes → Bytes → Option ℕ
sorting i w r =
    when eqb (kind r) integer_kind then Some int_sort else
    when eqb (kind r) real_kind then Some real_sort else
    when eqb (kind r) vector_kind then Some (width_code r) else
    when eqb (kind r) operation_kind then sort_rule (operator r) (common (arg_sorts i w (numbers (arg_bytes r)))) else
    Some (atom_code r)
