-- Terms are compared by their record numbers, and equal numbers mean equal terms only among the terms of one
-- book. A predicate is `Closed` where it holds of such terms: with a term it holds of the term's arguments,
-- and each term is well formed and known by its number. The terms of a book that is read without a refusal
-- are closed (`book-closed`).
use mathlib.Core.Path.{◌≡◌, refl, sym, ◌∙◌, ap, subst}
use mathlib.Core.Bool.{true}
use mathlib.Core.List.{List, [], ◌∷◌}
use Prim.Native.Nat.{ℕ, ◌<◌}
use native.Mathlib.Omega.{arith}
use borrow.Author.Tests.{ltb-true, eqb-true}
use lib.Dec.{ltb}
use Rattle.numbers.specs.Bytes.{Bytes}
use Rattle.terms.specs.Term.{Term, Terms, record_number, same}
use Rattle.terms.specs.Term.Term.{op}
use Rattle.terms.specs.Term.Terms.{nil, ◌▹◌}
use Rattle.terms.specs.Book.{record_of, kind}
use Rattle.terms.specs.Book.{numbers, arg_bytes, arguments, forest, tree, all_below, read_book}
use Rattle.terms.specs.Smtlib.{even_div, divs_even, all_divs_even}
use Rattle.terms.proofs.NumberedNodes.{node_is, record_number-tree}
use Rattle.terms.proofs.Trees.{tree-node}
use Rattle.numbers.proofs.Truths.{both}
use Rattle.book.proofs.Accepted.{accepted-layout}
use Rattle.terms.proofs.Nodes.{Laid, an_integer, a_rational, a_vector, an_atom, an_operation, laid}
use Rattle.book.proofs.WellFormed.{WellFormed, operates, well_formed}
use Rattle.std.specs.Prelude.{Ok}

abbrev pub Each : (Term → Type 0) → Terms → Type 0
Each P nil = Unit {0}
Each P (t ▹ ts) = P t × Each P ts

pub record Closed (P : Term → Type 0) : Type 0 where
  pub formed : (t : Term) → P t → WellFormed t
  pub below : (i o : ℕ) (ts : Terms) → P (op i o ts) → Each P ts
  pub known : (s t : Term) → P s → P t → same s t ≡ true → s ≡ t

-- ---- one more condition that goes down to the arguments

each_both : (P Q : Term → Type 0) (ts : Terms) → Each P ts → Each Q ts → Each (λ t. P t × Q t) ts
each_both P Q nil p q = tt
each_both P Q (t ▹ ts) (p, ps) (q, qs) = ((p, q), each_both P Q ts ps qs)

pub closed_and :
    {P Q : Term → Type 0} → Closed P → ((i o : ℕ) (ts : Terms) → Q (op i o ts) → Each Q ts) →
    Closed (λ t. P t × Q t)
closed_and {P} {Q} c q =
    record {
      formed = λ t h. c.formed t h.0;
      below = λ i o ts h. each_both P Q ts (c.below i o ts h.0) (q i o ts h.1);
      known = λ s t g h. c.known s t g.0 h.0;
    }

-- the premise on div is such a condition
pub even-below : (i o : ℕ) (ts : Terms) → divs_even (op i o ts) ≡ true → Each (λ t. divs_even t ≡ true) ts
unfolding divs_even
even-below i o ts e = all ts (both (even_div o ts) (all_divs_even ts) e).1
  where
    all : (ts : Terms) → all_divs_even ts ≡ true → Each (λ t. divs_even t ≡ true) ts
    all nil e = tt
    all (t ▹ ts) e = let h = both (divs_even t) (all_divs_even ts) e in (h.0, all ts h.1)

-- ---- the terms of a book

-- t is the term of one of the first n records
pub record OfBook (b : Bytes) (n : ℕ) (t : Term) : Type 0 where
  pub number : ℕ
  pub inside : number < n
  pub is : t ≡ tree b number

-- what holds of the terms of earlier records holds of the arguments
each-argument :
    (P : Term → Type 0) (f : ℕ → Term) (i : ℕ) → ((a : ℕ) → a < i → P (f a)) → (l : List ℕ) →
    all_below i l ≡ true → Each P (forest f (arguments i l))
unfolding forest arguments all_below
each-argument P f i p [] e = tt
each-argument P f i p (a ∷ l) e =
    let h = both (ltb a i) (all_below i l) e in
    (rw h.0 (p a (ltb-true a i h.0)), each-argument P f i p l h.1)

-- an operation's arguments are earlier records
laid-below : (i : ℕ) (r : Bytes) → Laid i r → kind r ≡ 5 → all_below i (numbers (arg_bytes r)) ≡ true
laid-below i r (an_integer k e) h = absurd (omega arith)
laid-below i r (a_rational k e) h = absurd (omega arith)
laid-below i r (a_vector k e) h = absurd (omega arith)
laid-below i r (an_atom k e) h = absurd (omega arith)
laid-below i r (an_operation k e) h = (operates i r e).below

module _ (b : Bytes) (n : ℕ) (e : read_book b ≡ Ok n) where
  book-below : (i o : ℕ) (ts : Terms) → OfBook b n (op i o ts) → Each (OfBook b n) ts
  book-below i o ts h =
      let j = h.number in
      let r = record_of b j in
      let p = (node_is j r _).operation i o ts (sym (tree-node b j) ∙ sym h.is) in
      subst (Each (OfBook b n)) p.1
      (each-argument (OfBook b n) (tree b) j
      (λ a l. record { number = a; inside = omega (arith, h.inside); is = refl })
      (numbers (arg_bytes r)) (laid-below j r (laid j r (accepted-layout b n e j h.inside)) p.0))

  number_of : (t : Term) (h : OfBook b n t) → record_number t ≡ h.number
  number_of t h = ap record_number h.is ∙ record_number-tree b h.number

  pub book-closed : Closed (OfBook b n)
  book-closed =
      record {
        formed = λ t h. subst WellFormed (sym h.is) (well_formed b n e h.number h.inside);
        below = book-below;
        known = λ s t g h q.
            let m = sym (number_of s g) ∙ eqb-true (record_number s) (record_number t) q ∙ number_of t h in
            g.is ∙ ap (tree b) m ∙ sym h.is;
      }
