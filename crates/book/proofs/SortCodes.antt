-- Why the functions of `sort.rt` meet their contracts: which case of a rule an operator's number picks, and what the flags
-- over an operation's arguments say after each of them.
use mathlib.Core.Path.{◌≡◌, refl, sym, ◌∙◌, ap, ap₂}
use mathlib.Core.Bool.{Bool, true, false, ◌&&◌, ◌||◌, and_assoc, and-true}
use mathlib.Core.List.{List, [], ◌∷◌, ◌++◌}
use Prim.Native.Nat.{ℕ, zero, suc, ◌+◌, ◌*◌, ◌/◌, ◌≤◌, ◌<◌}
use native.Mathlib.Numerals.{add-one}
use native.Mathlib.Omega.{arith}
use borrow.Author.Tests.{le-leb, lt-leb, ne_eqb}
use lib.Dec.{leb, eqb}
use lib.ListN.{length, get_or, take}
use lib.Seq.{take-suc, take_all}
use Rattle.numbers.specs.Bytes.{Bytes, le}
use Rattle.numbers.specs.Choice.{when◌then◌else◌}
use Rattle.terms.specs.Book.{kind, operator, arg_bytes, numbers}
use Rattle.book.specs.Memory.Sorting.{sort_at, arg_sorts, all_codes, first_code, numeric_code, common, takes_by, gives_by}
use Rattle.book.specs.Memory.Sorting.{sort_rule, sorting}
use Rattle.book.specs.declared.sort.ArgSorts.{ArgSorts}
use Rattle.terms.proofs.RecordBytes.{length-numbers, number_at_lem}
use Rattle.book.proofs.SortRules.{either}
use Rattle.std.specs.Prelude.{Option}

-- ---- the case of an operator

module _ (o : ℕ) (c : ArgSorts) where
  pub takes_logic : o < 4 → takes_by o c ≡ (eqb c.first 1 && c.same)
  unfolding takes_by when◌then◌else◌
  takes_logic h = rw (le-leb o 3 (omega arith))

  pub takes-equals : o ≡ 4 → takes_by o c ≡ (c.same || c.numeric)
  unfolding takes_by when◌then◌else◌
  takes-equals h = rw h

  pub takes-numbers : 4 ≤ o → (o ≡ 4 → ⊥) → o < 15 → (o ≡ 12 → ⊥) → takes_by o c ≡ c.numeric
  unfolding takes_by when◌then◌else◌
  takes-numbers low other₄ high other₁₂ =
      rw (lt-leb o 3 (omega arith), ne_eqb o 4 other₄, ne_eqb o 12 other₁₂, le-leb o 14 (omega arith))
      (either (λ t. t ≡ c.numeric) (leb o 11) refl refl)

  pub takes-integers : o ≡ 12 → takes_by o c ≡ c.int
  unfolding takes_by when◌then◌else◌
  takes-integers h = rw h

  pub takes-vectors : 15 ≤ o → takes_by o c ≡ (leb 4 c.first && c.same)
  unfolding takes_by when◌then◌else◌
  takes-vectors h =
      rw (lt-leb o 3 (omega arith), ne_eqb o 4 (λ e. omega arith), lt-leb o 11 (omega arith))
      (rw (ne_eqb o 12 (λ e. omega arith), lt-leb o 14 (omega arith)))

  pub gives-truth : o < 9 → gives_by o c ≡ 1
  unfolding gives_by when◌then◌else◌
  gives-truth h = rw (le-leb o 8 (omega arith))

  pub gives_whole : 9 ≤ o → o < 12 → c.int ≡ true → gives_by o c ≡ 2
  unfolding gives_by when◌then◌else◌
  gives_whole low high int = rw (lt-leb o 8 (omega arith), le-leb o 11 (omega arith), int)

  pub gives-fraction : 9 ≤ o → o < 12 → c.int ≡ false → gives_by o c ≡ 3
  unfolding gives_by when◌then◌else◌
  gives-fraction low high int = rw (lt-leb o 8 (omega arith), le-leb o 11 (omega arith), int)

  pub gives-integer : o ≡ 12 → gives_by o c ≡ 2
  unfolding gives_by when◌then◌else◌
  gives-integer h = rw h

  pub gives-real : 12 ≤ o → (o ≡ 12 → ⊥) → o < 15 → gives_by o c ≡ 3
  unfolding gives_by when◌then◌else◌
  gives-real low other high =
      rw (lt-leb o 8 (omega arith), lt-leb o 11 (omega arith), ne_eqb o 12 other, le-leb o 14 (omega arith))

  pub gives_first : 15 ≤ o → gives_by o c ≡ c.first
  unfolding gives_by when◌then◌else◌
  gives_first h =
      rw (lt-leb o 8 (omega arith), lt-leb o 11 (omega arith))
      (rw (ne_eqb o 12 (λ e. omega arith), lt-leb o 14 (omega arith)))

pub ruleset takes_cases = (takes_logic, takes-equals, takes-numbers, takes-integers, takes-vectors)

pub ruleset gives_cases = (gives-truth, gives_whole, gives-fraction, gives-integer, gives-real, gives_first)

-- ---- the sort of a record that is an operation

pub sorting-operation :
    (i : ℕ) (w r : Bytes) → kind r ≡ 5 →
    sorting i w r ≡ sort_rule (operator r) (common (arg_sorts i w (numbers (arg_bytes r))))
unfolding sorting when◌then◌else◌
sorting-operation i w r e = rw e

pub operation-sorted :
    (i : ℕ) (w r : Bytes) (k o : ℕ) (args : Bytes) (c : ArgSorts) (s : Option ℕ) → k ≡ kind r → k ≡ 5 →
    o ≡ operator r → args ≡ arg_bytes r → c ≡ common (arg_sorts i w (numbers args)) → s ≡ sort_rule o c →
    s ≡ sorting i w r
operation-sorted i w r k o args c s kind-is five operator_is args_are common-is sorted =
    cc (sorting-operation i w r (sym kind-is ∙ five))

-- ---- the sorts of the arguments, read one after the other

length-arg_sorts : (i : ℕ) (w : Bytes) (l : List ℕ) → length (arg_sorts i w l) ≡ length l
unfolding arg_sorts
length-arg_sorts i w [] = refl
length-arg_sorts i w (a ∷ l) = ap suc (length-arg_sorts i w l)

get_d_arg_sorts :
    (i : ℕ) (w : Bytes) (l : List ℕ) (k : ℕ) → k < length l →
    get_or (arg_sorts i w l) k 1 ≡ sort_at i w (get_or l k 0)
unfolding arg_sorts
get_d_arg_sorts i w [] k h = absurd (omega arith)
get_d_arg_sorts i w (a ∷ l) zero h = refl
get_d_arg_sorts i w (a ∷ l) (suc k) h = get_d_arg_sorts i w l k (omega arith)

-- the sorts of the arguments in the bytes `args`
abbrev pub sorts_of : ℕ → Bytes → Bytes → List ℕ
sorts_of i w args = arg_sorts i w (numbers args)

pub length-sorts_of : (i : ℕ) (w args : Bytes) → length (sorts_of i w args) ≡ length args / 2
length-sorts_of i w args = length-arg_sorts i w (numbers args) ∙ length-numbers args

pub sort-read :
    (i : ℕ) (w args : Bytes) (k a s : ℕ) → k < length args / 2 → a ≡ le 2 args (2 * k) → s ≡ sort_at i w a →
    s ≡ get_or (sorts_of i w args) k 1
sort-read i w args k a s h read sorted =
    sorted ∙ ap (sort_at i w) (read ∙ sym (number_at_lem args k 0 h))
    ∙ sym (get_d_arg_sorts i w (numbers args) k (rw (length-numbers args) h))

first_of : (l : List ℕ) → get_or l 0 1 ≡ first_code l
first_of [] = refl
first_of (c ∷ l) = refl

pub first_read :
    (i : ℕ) (w args : Bytes) (a s : ℕ) → 0 < length args / 2 → a ≡ le 2 args 0 → s ≡ sort_at i w a →
    s ≡ first_code (sorts_of i w args)
first_read i w args a s h read sorted = sort-read i w args 0 a s h read sorted ∙ first_of (sorts_of i w args)

pub first_missing : (i : ℕ) (w args : Bytes) → length args / 2 ≤ 0 → 1 ≡ first_code (sorts_of i w args)
first_missing i w args h = go (sorts_of i w args) (length-sorts_of i w args)
  where
    go : (l : List ℕ) → length l ≡ length args / 2 → 1 ≡ first_code l
    go [] e = refl
    go (c ∷ l) e = absurd (omega arith)

-- ---- a flag: whether each argument so far passes a test

all_codes_append : (p : ℕ → Bool) (l m : List ℕ) → all_codes p (l ++ m) ≡ (all_codes p l && all_codes p m)
unfolding all_codes
all_codes_append p [] m = refl
all_codes_append p (c ∷ l) m =
    ap (λ t. p c && t) (all_codes_append p l m) ∙ sym (and_assoc (p c) (all_codes p l) (all_codes p m))

-- with the answer t of one more test
flag_next :
    (p : ℕ → Bool) (l : List ℕ) (k : ℕ) (f t : Bool) → k < length l → f ≡ all_codes p (take k l) →
    t ≡ p (get_or l k 1) → (f && t) ≡ all_codes p (take (k + 1) l)
unfolding all_codes
flag_next p l k f t h before next =
    ap₂ ◌&&◌ before (next ∙ sym (and-true (p (get_or l k 1))))
    ∙ sym (rw (add-one, take-suc l k 1 h) (all_codes_append p (take k l) (get_or l k 1 ∷ [])))

flipped : (a b : ℕ) → eqb a b ≡ eqb b a
flipped a b = grind arith

-- ---- the loop over the arguments: its flags after k of the sorts l

pub record Passed (l : List ℕ) (first : ℕ) (same numeric int : Bool) (k : ℕ) : Type 0 where
  pub inside : k ≤ length l
  pub first_is_lem : first ≡ first_code l
  pub same_is : same ≡ all_codes (eqb first) (take k l)
  pub numeric_is : numeric ≡ all_codes numeric_code (take k l)
  pub int_is : int ≡ all_codes (eqb 2) (take k l)

pub passed_none : (l : List ℕ) (first : ℕ) → first ≡ first_code l → Passed l first true true true 0
unfolding all_codes
passed_none l first e =
    record { inside = omega arith; first_is_lem = e; same_is = refl; numeric_is = refl; int_is = refl }

-- s is the sort at k, and n whether it is a number's
pub passed-more :
    (l : List ℕ) (first : ℕ) (same numeric int n : Bool) (k s : ℕ) → Passed l first same numeric int k →
    k < length l → s ≡ get_or l k 1 → n ≡ numeric_code s →
    Passed l first (same && eqb s first) (numeric && n) (int && eqb s 2) (k + 1)
passed-more l first same numeric int n k s p h e number =
    record {
      inside = omega arith;
      first_is_lem = p.first_is_lem;
      same_is = flag_next (eqb first) l k same _ h p.same_is (flipped s first ∙ ap (eqb first) e);
      numeric_is = flag_next numeric_code l k numeric n h p.numeric_is (number ∙ ap numeric_code e);
      int_is = flag_next (eqb 2) l k int _ h p.int_is (flipped s 2 ∙ ap (eqb 2) e);
    }

pub passed_all :
    (l : List ℕ) (first : ℕ) (same numeric int : Bool) (k : ℕ) → Passed l first same numeric int k →
    length l ≤ k →
    ◌≡◌ {A = ArgSorts} (record { first = first; same = same; numeric = numeric; int = int }) (common l)
unfolding common
passed_all l first same numeric int k p h =
    let all : take k l ≡ l = take_all k l h in
    let same_of : same ≡ all_codes (eqb (first_code l)) l = rw (all, p.first_is_lem) at p.same_is in
    let numeric-of : numeric ≡ all_codes numeric_code l = rw all at p.numeric_is in
    let int_of : int ≡ all_codes (eqb 2) l = rw all at p.int_is in
    rw (p.first_is_lem, same_of, numeric-of, int_of)
