-- The fold over the literals in the work area. The sum so far is in area 0, and the areas of a literal's two sides are
-- empty between the literals (`Between`); that only area 0 changes keeps them so.
--     progress-left, between-only       what a function leaves in area 0
--     Given, Reached, reached-begin, reached-length, reached-only, reached-again       a loop over the literals
--     FoldedSoFar, so_far-begin, so_far-end       that of `fold_literals`
--     phi-below, step-refused, step-inferred, step-again       one turn of it
use Rattle.std.specs.Prelude.{Option}
use Rattle.std.specs.Prelude.{Err}
use Rattle.std.specs.Prelude.{None}
use Rattle.std.specs.Prelude.{Some}
use Rattle.index_map.specs.Memory.Answers.{Has}
use mathlib.Core.Path.{◌≡◌, refl, sym, ap, ◌∙◌}
use mathlib.Core.List.{List, [], ◌∷◌}
use Prim.Native.Nat.{ℕ, suc, ◌+◌, ◌/◌, ◌≤◌, ◌<◌}
use native.Mathlib.Numerals.{add-one}
use native.Mathlib.Omega.{arith}
use lib.ListN.{length, get_or, drop}
use Rattle.numbers.specs.Rational.{Rational}
use Rattle.numbers.specs.Bytes.{Bytes}
use Rattle.terms.specs.Term.{Term}
use Rattle.terms.specs.Book.{count, tree}
use Rattle.rules.specs.Refusal.{Result}
use Rattle.rules.specs.declared.refusal.Refusal.{Refusal}
use Rattle.std.specs.Prelude.{Ok}
use Rattle.rules.specs.Limits.{Limits, limited}
use Rattle.index_map.specs.IndexMap.{Map}
use Rattle.process_disequality.specs.ProcessDisequality.{Progress, process_disequality}
use Rattle.linear_arithmetic.specs.LinearArithmetic.{read_args}
use Rattle.rules.specs.Shapes.{Clause}
use Rattle.linear_comb.specs.Memory.WorkArea.{area_of, OnlyArea, Area}
use Rattle.index_map.specs.Memory.Entries.{Held, CoefficientIs}
use Rattle.process_disequality.specs.Memory.ProcessSteps.{progress_of, progress_with, ProcessedLeft, Folding}
use Rattle.linear_arithmetic.specs.Memory.LinearSteps.{at, fold_some, AllNumbers, fold_read, FoldedLeft}
use Rattle.rules.specs.Memory.Parts.{numbers_in, terms_in, Inside}
use Rattle.disequality.specs.Memory.DisequalitySteps.{Between}
use Rattle.linear_arithmetic.specs.declared.linear_arithmetic.Folded.{Folded}
use Rattle.linear_arithmetic.specs.declared.linear_arithmetic.Folded.TheVariants as folded
use Rattle.process_disequality.specs.declared.process_disequality.Progress as by_value
use Rattle.linear_comb.proofs.Areas.{Within, within-sorts, within-only, only-other, only_then, only_none}
use Rattle.linear_comb.proofs.AreaSteps.{kept-sum, sum-entries}
use Rattle.rules.proofs.Results.{next, ends}
use Rattle.rules.proofs.Yields.{through}
use Rattle.rules.proofs.RunParts.{length-numbers_in, named_cons, named_past, below_at}
use Rattle.linear_arithmetic.proofs.FoldedSteps.{some_first, some-inferred, some-again}

-- ---- what a function leaves in area 0

-- the progress by value, with the bytes that are left, is the progress with the entries
pub progress-left :
    {b : Bytes} (w : Bytes) {m : Map Term} (p : by_value.Progress) → Held b (area_of 0 w) m → Has p.acc m →
    progress_with p m [] ≡ progress_of b w p
progress-left w p h has = ap (λ z. progress_with p z []) (sym (sum-entries h has))

pub between-only : {b w w' : Bytes} → Between b w → OnlyArea 0 w w' → Between b w'
between-only {w = w} {w'} between only =
    let area : Area 0 w = record { size = between.size; among = omega arith } in
    let outside : Within 0 0 w w' = within-only area only in
    record {
      laid = between.laid;
      sorts = within-sorts outside between.sorts;
      size = outside.size;
      left = only-other area only {i = 1} (omega arith) (λ e. omega arith) ∙ between.left;
      right = only-other area only {i = 2} (omega arith) (λ e. omega arith) ∙ between.right;
    }

-- ---- a loop over the literals

-- what a rule is given: the book, the parts of the run with its literals and its arguments, the limit, the work area
pub record Given : Type 0 where
  pub book : Bytes
  pub literals : Bytes
  pub args : Bytes
  pub limit : ℕ
  pub work : Bytes

abbrev pub limits_of : Given → Limits
limits_of g = limited g.limit

abbrev pub clause_of : Given → Clause
clause_of g = terms_in g.book g.literals

-- the arguments as numbers
abbrev pub ArgsAre : Given → List Rational → Type 0
ArgsAre g qs = read_args (limits_of g) (terms_in g.book g.args) ≡ Ok qs

-- k literals are done, to the progress p with the bytes w; what is asked for is what the rest makes from there on
pub record Reached
    {A : Type 0} (g : Given) (whole : A) (onward : Clause → List Rational → Progress → ℕ → A) (w : Bytes)
    (p : by_value.Progress) (k : ℕ) : Type 0 where
  pub inside : k ≤ length g.literals / 4
  pub named : Inside g.book g.literals
  pub start : Area 0 g.work
  pub folding : Folding g.book w p
  pub only : OnlyArea 0 g.work w
  pub numbers : List Rational
  pub all : ArgsAre g numbers
  pub left : whole ≡ onward (drop k (clause_of g)) (drop k numbers) (progress_of g.book w p) k

module _ {A : Type 0} {g : Given} {whole : A} {onward : Clause → List Rational → Progress → ℕ → A} where
  pub reached-begin :
      {p : by_value.Progress} → Folding g.book g.work p → Inside g.book g.literals →
      AllNumbers g.limit g.book g.args →
      ((qs : List Rational) → ArgsAre g qs → whole ≡ onward (clause_of g) qs (progress_of g.book g.work p) 0) →
      Reached g whole onward g.work p 0
  reached-begin folding named numbers left =
      let area : Area 0 g.work = record { size = folding.between.size; among = omega arith } in
      let read = through (read_args (limits_of g) (terms_in g.book g.args)) (λ qs. Ok tt) tt numbers in
      record {
        inside = omega arith;
        named = named;
        start = area;
        folding = folding;
        only = only_none area;
        numbers = read.middle;
        all = read.first;
        left = left read.middle read.first;
      }

  module _ {w : Bytes} {p : by_value.Progress} {k : ℕ} (far : Reached g whole onward w p k) where
    pub reached-length : length w ≡ length g.work
    reached-length = far.folding.between.size ∙ sym far.start.size

    pub reached-only : {w' : Bytes} → OnlyArea 0 w w' → OnlyArea 0 g.work w'
    reached-only only = only_then far.start far.only only

    -- some literals more: the sum q has the entries m
    pub reached-again :
        {onward' : Clause → List Rational → Progress → ℕ → A} {w' : Bytes} {m : Map Term} {q : by_value.Progress}
        {n : ℕ} → Held g.book (area_of 0 w') m → OnlyArea 0 w w' → Has q.acc m →
        n ≤ length g.literals / 4 →
        onward (drop k (clause_of g)) (drop k far.numbers) (progress_of g.book w p) k ≡
        onward' (drop n (clause_of g)) (drop n far.numbers) (progress_with q m []) n →
        Reached g whole onward' w' q n
    reached-again {onward'} {w'} {q = q} {n} held only has inside further =
        record {
          inside = inside;
          named = far.named;
          start = far.start;
          folding = record { between = between-only far.folding.between only; acc = kept-sum held has };
          only = reached-only only;
          numbers = far.numbers;
          all = far.all;
          left =
              far.left ∙ further
              ∙ ap (λ z. onward' (drop n (clause_of g)) (drop n far.numbers) z n) (progress-left w' q held has);
        }

-- ---- the loop of `fold_literals`

-- the fold from p on
abbrev pub whole_fold : Given → by_value.Progress → Result (Progress × ℕ)
whole_fold g p =
    fold_read (limits_of g) (clause_of g) (terms_in g.book g.args) (progress_of g.book g.work p)

-- nothing was inferred
abbrev pub FoldedSoFar : Given → Result (Progress × ℕ) → Bytes → by_value.Progress → ℕ → Type 0
FoldedSoFar g whole w q k = Reached g whole (fold_some (limits_of g)) w q k

pub so_far-begin :
    (g : Given) (p : by_value.Progress) → Folding g.book g.work p → Inside g.book g.literals →
    AllNumbers g.limit g.book g.args → FoldedSoFar g (whole_fold g p) g.work p 0
unfolding fold_read
so_far-begin g p folding named numbers = reached-begin folding named numbers (λ qs all. next _ all)

-- what is promised of the answer r, with the bytes w'
abbrev Promised : Given → Result (Progress × ℕ) → Bytes → Result Folded → Type 0
Promised g whole w' r = FoldedLeft g.book g.work w' (length (numbers_in g.literals)) r whole

-- the literal in record phi
abbrev literal_from : Given → Bytes → by_value.Progress → ℕ → Option Rational → Result Progress
literal_from g w q phi arg = process_disequality (limits_of g) (progress_of g.book w q) (tree g.book phi) arg

module _ {g : Given} {whole : Result (Progress × ℕ)} {w : Bytes} {q : by_value.Progress} {k : ℕ} where
  pub so_far-end : FoldedSoFar g whole w q k → length g.literals / 4 ≤ k → Promised g whole w (Ok (folded.Done q))
  unfolding fold_some
  so_far-end far h =
      let kept = far.folding.acc.kept in
      let has : Has q.acc kept.map = record { size = kept.size; proper = far.folding.acc.proper } in
      let all_done : k ≡ length (numbers_in g.literals) =
      omega (arith, far.inside, length-numbers_in g.literals)
      in
      let none : drop k (clause_of g) ≡ [] = named_past g.book (numbers_in g.literals) k (omega arith) in
      record {
        map = kept.map;
        held = kept.held;
        only = far.only;
        is = (
          far.left
              ∙ ap (λ z. fold_some (limits_of g) z (drop k far.numbers) (progress_of g.book w q) k) none
              ∙ ap (λ z. Ok (z, k)) (sym (progress-left w q kept.held has))
              ∙ ap (λ z. Ok (progress_with q kept.map [], z)) all_done,
          has,
        );
      }

  pub phi-below :
      FoldedSoFar g whole w q k → k < length g.literals / 4 → {phi : ℕ} → phi ≡ get_or (numbers_in g.literals) k 0 →
      phi < count g.book
  phi-below far h phi_is =
      rw phi_is (below_at _ (numbers_in g.literals) k 0 far.named (rw (length-numbers_in g.literals) h))

  -- literal k was processed, with the argument that stands there, and w' is left
  module _
      (far : FoldedSoFar g whole w q k) (inside : k < length g.literals / 4)
      {phi : ℕ} (phi_is : phi ≡ get_or (numbers_in g.literals) k 0) (arg : Option Rational)
      (arg_is :
      (n : ℕ) (qs : List Rational) → read_args (limited n) (terms_in g.book g.args) ≡ Ok qs →
      CoefficientIs arg (at qs k)) where
    abbrev here : Clause → Result (Progress × ℕ)
    here clause = fold_some (limits_of g) clause (drop k far.numbers) (progress_of g.book w q) k

    literal-next : here (drop k (clause_of g)) ≡ here (tree g.book phi ∷ drop (suc k) (clause_of g))
    literal-next =
        ap here
        (rw phi_is
        (named_cons g.book (numbers_in g.literals) k (rw (length-numbers_in g.literals) inside)))

    argued : CoefficientIs arg (at far.numbers k)
    argued = arg_is _ far.numbers far.all

    pub step-refused :
        {w' : Bytes} {r : Refusal} → ProcessedLeft g.book w w' (Err r) (literal_from g w q phi arg) →
        Promised g whole w' (Err r)
    step-refused left =
        let first = some_first (limits_of g) _ refl _ _ far.numbers k arg argued in
        record {
          map = left.map;
          held = left.held;
          only = reached-only far left.only;
          is = (far.left ∙ literal-next ∙ first ∙ ends _ left.is.0, left.is.1);
        }

    module _ {w' : Bytes} {next : by_value.Progress} where
      pub step-inferred :
          {a : Rational} → ProcessedLeft g.book w w' (Ok (next, Some a)) (literal_from g w q phi arg) →
          Promised g whole w' (Ok (folded.Inferred next a (k + 1)))
      step-inferred {a} left =
          let stops = some-inferred (limits_of g) _ refl _ _ far.numbers k arg argued _ left.is.0 a refl in
          record {
            map = left.map;
            held = left.held;
            only = reached-only far left.only;
            is = (rw add-one (far.left ∙ literal-next ∙ stops), left.is.1);
          }

      pub step-again :
          ProcessedLeft g.book w w' (Ok (next, None)) (literal_from g w q phi arg) →
          FoldedSoFar g whole w' next (k + 1)
      step-again left =
          let goes = some-again (limits_of g) _ refl _ _ far.numbers k arg argued _ left.is.0 refl in
          reached-again far left.held left.only left.is.1.0 (omega arith) (rw add-one (literal-next ∙ goes))
