-- What the functions of `shapes` find, as terms: the records in an answer stand for the terms below them.
use Rattle.std.specs.Prelude.{List, ℕ, get_or}
use Rattle.std.specs.Prelude.{Option, Some, None}
use Rattle.numbers.specs.Bytes.{Bytes}
use Rattle.terms.specs.Term.{Term}
use Rattle.terms.specs.Book.{tree}
use Rattle.rules.specs.Shapes.{Names}

abbrev pub pair_of : Bytes → ℕ → ℕ → Term × Term
pair_of b x y = (tree b x, tree b y)

abbrev pub found_bounds : Bytes → Option ((ℕ × ℕ) × (ℕ × ℕ)) → Option ((Term × Term) × (Term × Term))
found_bounds b (Some (p, q)) = Some (pair_of b p.0 p.1, pair_of b q.0 q.1)
found_bounds b None = None

-- a table of records, of which the first n are those of names; behind its end is record d
abbrev pub names_in : Bytes → ℕ → ℕ → List ℕ → Names
names_in b d n l = record { count = n; at = λ k. tree b (get_or l k d) }

-- so many names, or none that fit
abbrev pub found_names : Bytes → ℕ → Option ℕ → List ℕ → Option Names
found_names b d (Some n) l = Some (names_in b d n l)
found_names b d None l = None
