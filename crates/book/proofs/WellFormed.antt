-- A term is well formed where the book's rules hold at each of its nodes: of constants, of atoms' sorts, of operators, their
-- number of arguments and the sorts of these. Every term of a book that is read without a refusal is (`well_formed`), by
-- induction on its record number: the layout says what kind of node it is, and that its arguments are earlier records.
use mathlib.Core.Path.{◌≡◌, refl, sym, ◌∙◌, ap, subst}
use mathlib.Core.Bool.{Bool, true, false, ◌&&◌, ◌||◌, cond}
use mathlib.Core.List.{List, [], ◌∷◌}
use Prim.Native.Nat.{ℕ, zero, suc, ◌+◌, ◌*◌, ◌-◌, ◌/◌, ◌^◌, ◌≤◌, ◌<◌}
use native.Mathlib.Omega.{arith}
use borrow.Author.Tests.{leb-true, ltb-true, eqb-true, lt-ltb}
use lib.Dec.{T, leb, ltb, eqb}
use lib.IntN.{pos}
use lib.ListN.{length, length-take, length-drop}
use lib.Signed.{lt_z, lt_z_yes}
use Rattle.numbers.specs.Bytes.{Bytes}
use Rattle.numbers.specs.Rational.{Lowest, in_range}
use Rattle.terms.specs.Operator.{Not, Sub, IntDiv, RealDiv, ToReal, BvSub, BvNeg, BvMul}
use Rattle.terms.specs.Term.{Sort, Term, Terms, sorts, takes}
use Rattle.numbers.specs.Choice.{when◌then◌else◌}
use Rattle.terms.specs.Term.Sort.{bool, int, real, bits}
use Rattle.terms.specs.Term.Term.{integer, rational, bitvector, atom, op}
use Rattle.terms.specs.Term.Terms.{nil, ◌▹◌}
use Rattle.terms.specs.Book.{count, record_of, kind, operator, arg_count, sort_byte, field1, field2, rational_of, is_width}
use Rattle.terms.specs.Book.{is_vector, numbers, arg_bytes, arguments, node, forest, tree, unused, count_ok}
use Rattle.terms.specs.Book.{all_below, operation_ok, sort_ok, read_book}
use Rattle.terms.proofs.Trees.{tree-node}
use Rattle.numbers.proofs.Truths.{both}
use Rattle.terms.proofs.RecordBytes.{length-numbers}
use Rattle.terms.proofs.Nodes.{Laid, an_integer, a_rational, a_vector, an_atom, an_operation, laid, node-integer}
use Rattle.terms.proofs.Nodes.{node-rational, node-vector, node-atom, node-operation, integer-number}
use Rattle.terms.proofs.Nodes.{real-number, vector_fields}
use Rattle.book.proofs.Accepted.{accepted-count, accepted-layout, accepted-sort}
use Rattle.std.specs.Prelude.{Ok}

-- ---- the rules at a node

pub record Width (w : ℕ) : Type 0 where
  pub least : 1 ≤ w
  pub most : w ≤ 30

pub record Vector (v w : ℕ) : Type 0 where
  pub width : Width w
  pub below : v < 2 ^ w

abbrev pub AtomSort : Sort → Type 0
AtomSort bool = Unit {0}
AtomSort int = Unit {0}
AtomSort real = Unit {0}
AtomSort (bits w) = Width w

-- an operator over arguments of these sorts
pub record Operation (o : ℕ) (ss : List Sort) : Type 0 where
  pub least : 1 ≤ o
  pub most : o ≤ BvMul
  pub counted : count_ok o (length ss) ≡ true
  pub sorted : takes o ss ≡ true

unfoldable mutual
  pub WellFormed : Term → Type 0
  WellFormed (integer i v) = Unit {0}
  WellFormed (rational i q) = Lowest q
  WellFormed (bitvector i v w) = Vector v w
  WellFormed (atom i s n) = AtomSort s
  WellFormed (op i o ts) = Operation o (sorts ts) × AllWellFormed ts

  pub AllWellFormed : Terms → Type 0
  AllWellFormed nil = Unit {0}
  AllWellFormed (t ▹ ts) = WellFormed t × AllWellFormed ts

-- ---- the node of a record that is laid out so

is_width_lem : (w : ℕ) → is_width w ≡ true → Width w
is_width_lem w e =
    let h = both (leb 1 w) (leb w 30) e in record { least = leb-true 1 w h.0; most = leb-true w 30 h.1 }

is_vector_lem : (r : Bytes) → is_vector r ≡ true → Vector (field1 r) (field2 r)
is_vector_lem r e =
    let h = both (is_width (field2 r)) (ltb (field1 r) (2 ^ field2 r)) e in
    record { width = is_width_lem (field2 r) h.0; below = ltb-true (field1 r) (2 ^ field2 r) h.1 }

-- `i`, `r` and `v` say that the sort is 2, 3 or 4
atom-sort :
    (i r v : Bool) (w : ℕ) (x : Bool) → cond v (is_width w) x ≡ true →
    AtomSort (when i then int else when r then real else when v then bits w else bool)
unfolding when◌then◌else◌
atom-sort true r v w x e = tt
atom-sort false true v w x e = tt
atom-sort false false true w x e = is_width_lem w e
atom-sort false false false w x e = tt

-- what an operation's record says of itself
pub record Operates (i : ℕ) (r : Bytes) : Type 0 where
  pub least : 1 ≤ operator r
  pub most : operator r ≤ BvMul
  pub counted : count_ok (operator r) (arg_count r) ≡ true
  pub below : all_below i (numbers (arg_bytes r)) ≡ true

pub operates : (i : ℕ) (r : Bytes) → operation_ok i r ≡ true → Operates i r
operates i r e =
    let h = both (leb 1 (operator r)) _ e in
    let k = both (leb (operator r) BvMul) _ h.1 in
    let l = both (count_ok (operator r) (arg_count r)) _ k.1 in
    let m = both (eqb (sort_byte r) 0) _ l.1 in
    record {
      least = leb-true 1 (operator r) h.0;
      most = leb-true (operator r) BvMul k.0;
      counted = l.0;
      below = (both (unused (28 - 2 * arg_count r) r (4 + 2 * arg_count r)) _ m.1).1;
    }

module _ (i : ℕ) (r : Bytes) (ts : Terms) where
  -- an operation's arguments are given as well formed, and as many as its record says
  node_well_formed :
      Laid i r → sort_ok (node i r ts) ≡ true →
      (kind r ≡ 5 → Operates i r → (length (sorts ts) ≡ arg_count r) × AllWellFormed ts) →
      WellFormed (node i r ts)
  unfolding WellFormed
  node_well_formed (an_integer k e) s f =
      rw (node-integer i r ts k (integer-number r e)) tt
  node_well_formed (a_rational k e) s f =
      let q = rational_of r in
      let h = real-number r e in
      rw (node-rational i r ts k h.0)
      (record {
        positive = lt_z_yes (subst T (sym (both (in_range q) (lt_z (pos 0) q.den) h.0).1) tt);
        coprime = eqb-true _ 1 h.1;
      })
  node_well_formed (a_vector k e) s f =
      let h = vector_fields r e in
      rw (node-vector i r ts k h) (is_vector_lem r h)
  node_well_formed (an_atom k e) s f =
      let h = (both (unused 12 r 20) _ (both (unused 2 r 1) _ e).1).1 in
      rw (node-atom i r ts k)
      (atom-sort (eqb (sort_byte r) 2) (eqb (sort_byte r) 3) (eqb (sort_byte r) 4) (field2 r) _ h)
  node_well_formed (an_operation k e) s f =
      let h = operates i r e in
      let a = f k h in
      rw (node-operation i r ts k) (
        record {
          least = h.least;
          most = h.most;
          counted = rw a.0 h.counted;
          sorted = rw (node-operation i r ts k) at s;
        },
        a.1,
      )

-- ---- an operation's arguments

pub count_ok-most : (o n : ℕ) → count_ok o n ≡ true → n ≤ 14
unfolding count_ok when◌then◌else◌
count_ok-most o n =
    go (eqb o Not || (eqb o ToReal || eqb o BvNeg)) (eqb o IntDiv || (eqb o RealDiv || eqb o BvSub)) (when eqb o Sub then 1 else 2)
  where
    go :
        (s t : Bool) (m : ℕ) → (when s then eqb n 1 else when t then eqb n 2 else leb n 14 && leb m n) ≡ true →
        n ≤ 14
    go true t m e = omega (arith, eqb-true n 1 e)
    go false true m e = omega (arith, eqb-true n 2 e)
    go false false m e = leb-true n 14 (both (leb n 14) (leb m n) e).0

pub length-record_of : (b : Bytes) (i : ℕ) → i < count b → length (record_of b i) ≡ 32
unfolding record_of
length-record_of b i h = rw (lt-ltb i (count b) h) (simp (length-take, length-drop) (omega arith))

pub length-arg_bytes :
    (r : Bytes) → kind r ≡ 5 → length r ≡ 32 → arg_count r ≤ 14 → length (arg_bytes r) ≡ 2 * arg_count r
length-arg_bytes r k l h = rw k (simp (length-take, length-drop) (omega arith))

pub length-sorts : (f : ℕ → Term) (i : ℕ) (l : List ℕ) → length (sorts (forest f (arguments i l))) ≡ length l
unfolding sorts forest arguments
length-sorts f i [] = refl
length-sorts f i (a ∷ l) = ap suc (length-sorts f i l)

all_well_formed :
    (f : ℕ → Term) (i : ℕ) → ((a : ℕ) → a < i → WellFormed (f a)) → (l : List ℕ) → all_below i l ≡ true →
    AllWellFormed (forest f (arguments i l))
unfolding forest arguments all_below WellFormed
all_well_formed f i w [] e = tt
all_well_formed f i w (a ∷ l) e =
    let h = both (ltb a i) (all_below i l) e in
    (rw h.0 (w a (ltb-true a i h.0)), all_well_formed f i w l h.1)

-- ---- a book's terms

module _ (b : Bytes) (n : ℕ) (e : read_book b ≡ Ok n) where
  -- as many arguments as the record says
  arguments-counted :
      (i : ℕ) → i < n → kind (record_of b i) ≡ 5 →
      count_ok (operator (record_of b i)) (arg_count (record_of b i)) ≡ true →
      length (arg_bytes (record_of b i)) / 2 ≡ arg_count (record_of b i)
  arguments-counted i h k o =
      let r = record_of b i in
      let all : length r ≡ 32 = length-record_of b i (omega (arith, accepted-count b n e)) in
      omega (arith, length-arg_bytes r k all (count_ok-most (operator r) (arg_count r) o))

  one_more : (i : ℕ) → i < n → ((a : ℕ) → a < i → WellFormed (tree b a)) → WellFormed (tree b i)
  one_more i h w =
      let r = record_of b i in
      let l = numbers (arg_bytes r) in
      rw (tree-node b i)
      (node_well_formed i r (forest (tree b) (arguments i l)) (laid i r (accepted-layout b n e i h))
      (rw (tree-node b i) at (accepted-sort b n e i h))
      (λ k o.
      (length-sorts (tree b) i l ∙ length-numbers (arg_bytes r) ∙ arguments-counted i h k o.counted, all_well_formed (tree b) i w l o.below)))

  -- the first m records
  well_formed-below : (m i : ℕ) → i < m → i < n → WellFormed (tree b i)
  well_formed-below zero i l h = absurd (omega arith)
  well_formed-below (suc m) i l h = one_more i h (λ a k. well_formed-below m a (omega arith) (omega arith))

  pub well_formed : (i : ℕ) → i < n → WellFormed (tree b i)
  well_formed i h = well_formed-below (suc i) i (omega arith) h
