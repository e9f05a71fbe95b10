-- Where a term leads: from record to record, each a product of a number and the next. `Reaches` is the invariant of
-- `descend`'s loop: whatever the sum is, the walk of the first record is the walk of the record that is reached.
--     unvisited, visited       the walk of a term is refused, or a visit and then what its node says
--     stopped, to_refusal, to_args, to_constant, to_atom       the place where it ends
--     reaches_next       along the loop
use mathlib.Core.Path.{◌≡◌, sym, ◌∙◌}
use Prim.Native.Nat.{ℕ, suc, ◌+◌, ◌≤◌, ◌<◌}
use native.Mathlib.Numerals.{add-one}
use native.Mathlib.Omega.{arith}
use borrow.Author.Tests.{le-leb, lt-leb}
use Rattle.numbers.specs.Rational.{Rational, Proper}
use Rattle.numbers.specs.Bytes.{Bytes}
use Rattle.terms.specs.Book.{count, tree}
use Rattle.rules.specs.Refusal.{Result, ◌>>=◌, assert}
use Rattle.std.specs.Prelude.{Ok, Err}
use Rattle.rules.specs.declared.refusal.Refusal.{Refusal}
use Rattle.rules.specs.declared.refusal.Refusal.TheVariants.{VisitLimit}
use Rattle.rules.specs.Limits.{limited}
use Rattle.index_map.specs.IndexMap.{walked, visit}
use Rattle.linear_walk.specs.LinearTerms.{add_term}
use Rattle.linear_comb.specs.LinearComb.{LinearComb}
use Rattle.rules.specs.Memory.Parts.{Laid}
use Rattle.linear_walk.specs.Memory.LinearNodes.{NodeIs, PlaceIs, node_of}
use Rattle.linear_walk.specs.declared.nodes.Node.{Node}
use Rattle.linear_walk.specs.declared.nodes.Node.TheVariants as node
use Rattle.linear_walk.specs.declared.nodes.Place.TheVariants.{Args, Constant, Atom}
use Rattle.linear_walk.proofs.NodeWalks.{act, walk-node, factor-below}

-- ---- a visit

module _ (b : Bytes) (limit x : ℕ) (c : Rational) (seen : ℕ) (s : LinearComb) where
  unvisited : limit ≤ seen → add_term (tree b x) (limited limit) c (walked s seen) ≡ Err VisitLimit
  unfolding visit assert ◌>>=◌
  unvisited h = let no = lt-leb (suc seen) limit (omega arith) in walk-node b x limit c _ ∙ rw no

  visited :
      seen < limit → {r : Result Node} → r ≡ node_of (tree b x) c →
      add_term (tree b x) (limited limit) c (walked s seen)
      ≡ act b (limited limit) (tree b x) c r (walked s (seen + 1))
  unfolding visit assert ◌>>=◌
  visited h e =
      let yes = le-leb (suc seen) limit (omega arith) in
      walk-node b x limit c _ ∙ rw (yes, ← e, add-one)

-- ---- the loop

-- the walk of record id has come to record x, with the coefficient c and as many visits as are seen
pub record Reaches
    (b : Bytes) (limit id : ℕ) (coeff : Rational) (visits x : ℕ) (c : Rational) (seen : ℕ) : Type 0 where
  pub lower : x ≤ id
  pub inside : x < count b
  pub proper : Proper c
  pub same :
      (s : LinearComb) →
      add_term (tree b id) (limited limit) coeff (walked s visits)
      ≡ add_term (tree b x) (limited limit) c (walked s seen)

module _
    {b : Bytes} {limit id : ℕ} {coeff : Rational} {visits x : ℕ} {c : Rational} {seen : ℕ}
    (at : Reaches b limit id coeff visits x c seen) where
  pub stopped : limit ≤ seen → PlaceIs b limit id coeff visits (Err VisitLimit)
  stopped h = record { is = λ s. at.same s ∙ unvisited b limit x c seen s h; proper = tt }

  -- r is the node of record x, or its refusal
  acts :
      {r : Result Node} → NodeIs r (node_of (tree b x) c) → seen < limit → (s : LinearComb) →
      add_term (tree b id) (limited limit) coeff (walked s visits)
      ≡ act b (limited limit) (tree b x) c r (walked s (seen + 1))
  acts look h s = at.same s ∙ visited b limit x c seen s h look.is

  pub to_refusal :
      {e : Refusal} → NodeIs (Err e) (node_of (tree b x) c) → seen < limit → PlaceIs b limit id coeff visits (Err e)
  to_refusal look h = record { is = acts look h; proper = tt }

  module _ {n : Node} (look : NodeIs (Ok n) (node_of (tree b x) c)) (h : seen < limit) where
    pub reaches_next :
        Laid b → {y : ℕ} {d : Rational} → n ≡ node.Factor y d → Reaches b limit id coeff visits y d (seen + 1)
    reaches_next laid {y} {d} e =
        let next = rw e at look in
        let lower : y < x = factor-below b x c d y (laid x at.inside) (sym next.is) in
        record {
          lower = omega (arith, lower, at.lower);
          inside = omega (arith, lower, at.inside);
          proper = next.proper;
          same = acts next h;
        }

    pub to_args :
        {p q : Rational} → n ≡ node.Args p q → PlaceIs b limit id coeff visits (Ok (Args x p q, seen + 1))
    to_args e = let l = rw e at look in record { is = acts l h; proper = (at.lower, l.proper) }

    pub to_constant :
        {q : Rational} → n ≡ node.Constant q → PlaceIs b limit id coeff visits (Ok (Constant q, seen + 1))
    to_constant e = let l = rw e at look in record { is = acts l h; proper = l.proper }

    pub to_atom : n ≡ node.Atom → PlaceIs b limit id coeff visits (Ok (Atom x c, seen + 1))
    to_atom e = record { is = acts (rw e at look) h; proper = (at.lower, at.proper) }
