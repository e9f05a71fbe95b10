-- The walk of a term into the polynomial in the lowest area of a stack. A term is visited, and then walked by its
-- node; a product's factors are walked in the bytes above it.
--     lent_above, back_above       those bytes as they are lent, and the stack when they are back
--     lowest-small, clear_pre, constant_pre, atom_pre, args_pre, quotient-lower, quotient_pre, factors_pre, scaled_pre
--         what the steps at a node ask
--     unvisited, at_node, at_args, at_refusal
--         the walk of a term is what is done at its node
--     too_deep, factors-refused, factors-made
--         the answers of a product
use Rattle.std.specs.Prelude.{Ok, Err}
use mathlib.Core.Path.{◌≡◌, sym, ◌∙◌, ap, subst}
use mathlib.Core.List.{List, [], ◌∷◌, ◌++◌, append-nil}
use Prim.Native.Nat.{ℕ, suc, ◌+◌, ◌-◌, ◌≤◌, ◌<◌}
use native.Mathlib.Numerals.{add-one}
use native.Mathlib.Omega.{arith}
use borrow.Author.Tests.{le-leb, lt-leb}
use lib.ListN.{length, take, drop, length-append, length-drop, drop_of_length-le}
use lib.Seq.{take_all, length-take-le}
use Rattle.numbers.specs.Rational.{Rational, Proper}
use Rattle.numbers.specs.Bytes.{Bytes}
use Rattle.terms.specs.Term.{Terms}
use Rattle.terms.specs.Book.{tree, forest, numbers, arguments}
use Rattle.terms.specs.Readers.{arguments_of}
use Rattle.rules.specs.Refusal.{Result, ◌>>=◌, assert}
use Rattle.rules.specs.declared.refusal.Refusal.{Refusal}
use Rattle.rules.specs.declared.refusal.Refusal.TheVariants.{VisitLimit, PolynomialSize}
use Rattle.rules.specs.Limits.{limited}
use Rattle.index_map.specs.declared.combination.Walked as by_value
use Rattle.index_map.specs.IndexMap.{Map, Walked, walked, visit}
use Rattle.index_map.specs.Memory.Answers.{Has, comb_with, walked_with}
use Rattle.polynomial.specs.Polynomial.{Monomial, Polynomial}
use Rattle.polynomial_walk.specs.PolynomialTerms.{add_term, first_factor}
use Rattle.polynomial.specs.Memory.PolynomialArea.{StackHas, AllGood, Stacked, Poly, Walks, add_scaled}
use Rattle.polynomial_walk.specs.Memory.PolynomialNodes.{NodeIs, TermPre, ArgsPre, FactorsPre, TermWalks, node_of}
use Rattle.polynomial_walk.specs.Memory.PolynomialNodes.{add_each, add_product}
use Rattle.polynomial_walk.specs.declared.polynomial_walk.Node.{Node}
use Rattle.polynomial_walk.specs.declared.polynomial_walk.Node.TheVariants.{Args, Quotient, Constant}
use Rattle.polynomial.proofs.StackAreas.{stack-less, stack_above, stack_on}
use Rattle.book.proofs.ArgumentsBelow.{args-below}
use Rattle.polynomial.proofs.ProductEntries.{ClearSays}
use Rattle.polynomial_walk.proofs.PolynomialSums.{refused}
use Rattle.rules.proofs.Results.{next, ends}
use Rattle.polynomial_walk.proofs.PolynomialSteps.{act, walk-node, quotient-below}

-- ---- the bytes above the lowest area

abbrev pub lent_above : Bytes → Bytes
lent_above w = take (length w - 1600) (drop 1600 w)

abbrev pub back_above : Bytes → Bytes → Bytes
back_above w y = take 1600 w ++ (y ++ drop (length w - 1600) (drop 1600 w))

pub lent-above : (w : Bytes) → lent_above w ≡ drop 1600 w
lent-above w = take_all (length w - 1600) (drop 1600 w) (omega (arith, length-drop 1600 w))

pub lent_length : (w : Bytes) → length (lent_above w) ≡ length w - 1600
lent_length w = rw (lent-above w) (length-drop 1600 w)

back_above_lem : (w y : Bytes) → back_above w y ≡ (take 1600 w ++ y)
back_above_lem w y =
    let past : length (drop 1600 w) ≤ length w - 1600 = omega (arith, length-drop 1600 w) in
    rw (drop_of_length-le (drop 1600 w) past, append-nil y)

pub back-length :
    (w y : Bytes) → 1600 ≤ length w → length y ≡ length (lent_above w) → length (back_above w y) ≡ length w
back-length w y h long =
    let low : length (take 1600 w) ≡ 1600 = length-take-le 1600 w h in
    let both : length (take 1600 w ++ y) ≡ length (take 1600 w) + length y = length-append (take 1600 w) y in
    ap length (back_above_lem w y) ∙ omega (arith, low, both, long, lent_length w)

module _ {b w : Bytes} {m : Map Monomial} (held : Stacked b w (m ∷ [])) where
  pub lent-empty : Stacked b (lent_above w) []
  lent-empty = rw (lent-above w) (stack_above held)

  pub back-held :
      {y : Bytes} {ns : List (Map Monomial)} → length y ≡ length (lent_above w) → Stacked b y ns →
      Stacked b (back_above w y) (m ∷ ns)
  back-held {y} {ns} long u =
      subst (λ (z : Bytes). Stacked b z (m ∷ ns)) (sym (back_above_lem w y))
      (stack_on held (long ∙ ap length (lent-above w)) u)

pub small : {b w : Bytes} {s : Poly} {m : Map Monomial} → Stacked b w (m ∷ []) → Has s m → s.len ≤ 64
unfolding AllGood
small t h = omega (arith, h.size, t.good.0.few)

-- ---- a term

module _ {b w : Bytes} {id : ℕ} {coeff : Rational} {s : Poly} {d : ℕ} (pre : TermPre b w id coeff s d) where
  pub lowest-small : s.len ≤ 64
  lowest-small = small pre.filling.held pre.filling.has

  pub clear_pre : StackHas 0 w × (s.len ≤ 64)
  clear_pre = (omega (arith, pre.room.deep, pre.room.high), lowest-small)

  pub atom_pre : StackHas 0 w × ((s.len ≤ 64) × (Proper s.constant × ((id < 65536) × Proper coeff)))
  atom_pre = (clear_pre.0, (lowest-small, (pre.filling.has.proper, (omega (arith, pre.inside), pre.proper))))

  pub constant_pre :
      {q : Rational} → NodeIs (Ok (Constant q)) (node_of (tree b id) coeff) →
      StackHas 0 w × ((s.len ≤ 64) × (Proper s.constant × Proper q))
  constant_pre look = (clear_pre.0, (lowest-small, (pre.filling.has.proper, look.proper)))

  pub args_pre :
      {p q : Rational} → NodeIs (Ok (Args p q)) (node_of (tree b id) coeff) → (args : Bytes) →
      forest (tree b) (arguments id (numbers args)) ≡ arguments_of (tree b id) → ArgsPre b w args id p q s d
  args_pre look args is =
      record {
        laid = pre.laid;
        inside = pre.inside;
        below = args-below b id pre.inside (pre.laid id pre.inside) args is;
        proper = look.proper;
        room = pre.room;
        filling = pre.filling;
      }

  module _ {x : ℕ} {c : Rational} (look : NodeIs (Ok (Quotient x c)) (node_of (tree b id) coeff)) where
    pub quotient-lower : x < id
    quotient-lower = quotient-below b id coeff c x (pre.laid id pre.inside) (sym look.is)

    pub quotient_pre : TermPre b w x c s d
    quotient_pre =
        record {
          laid = pre.laid;
          inside = omega (arith, quotient-lower, pre.inside);
          proper = look.proper;
          room = pre.room;
          filling = pre.filling;
        }

  cleared :
      {w' : Bytes} → ClearSays w 0 s.len w' → (m : Map Monomial) → Stacked b w (m ∷ []) → Has s m →
      Stacked b w' ([] ∷ [])
  cleared clear m t h = clear b (m ∷ []) t (omega arith) h.size

  -- a product that is not too deep
  module _ (d8 : d < 8) where
    pub factors_pre :
        (args : Bytes) → forest (tree b) (arguments id (numbers args)) ≡ arguments_of (tree b id) →
        FactorsPre b (lent_above w) args id (d + 1)
    factors_pre args is =
        record {
          laid = pre.laid;
          inside = pre.inside;
          below = args-below b id pre.inside (pre.laid id pre.inside) args is;
          deep = omega arith;
          high = omega (arith, pre.room.high, lent_length w);
          empty = lent-empty pre.filling.held;
        }

    -- the stack above came back as y
    module _ (y : Bytes) (long : length y ≡ length (lent_above w)) where
      back_long : length (back_above w y) ≡ length w
      back_long = back-length w y (omega (arith, pre.room.high)) long

      pub back_clear_pre : StackHas 0 (back_above w y) × (s.len ≤ 64)
      back_clear_pre = (omega (arith, back_long, pre.room.high), lowest-small)

      pub scaled_pre :
          {p : by_value.Walked} {e : Result (Walked Monomial)} → Walks b y (Ok p) e →
          StackHas 1 (back_above w y)
          × (((s.len ≤ 64) × (p.sum.len ≤ 64)) × ((Proper s.constant × Proper p.sum.constant) × Proper coeff))
      scaled_pre f = (
        omega (arith, back_long, pre.room.high),
        ((lowest-small, small f.held f.is.1), ((pre.filling.has.proper, f.is.1.proper), pre.proper)),
      )

-- ---- the walk of a term from s, by its visit and its node

module _
    {b w : Bytes} {id : ℕ} {coeff : Rational} (s : by_value.Walked) {d : ℕ} (pre : TermPre b w id coeff s.sum d)
    (limit : ℕ) where
  pub unvisited :
      {w' : Bytes} → limit ≤ s.visits → ClearSays w 0 s.sum.len w' →
      TermWalks b w w' id coeff s limit d (Err VisitLimit)
  unfolding visit assert ◌>>=◌
  unvisited h clear m t has =
      let no = lt-leb (suc s.visits) limit (omega arith) in
      refused (cleared pre clear m t has) (walk-node b id limit d coeff _ ∙ rw no)

  module _ (h : s.visits < limit) where
    visited :
        {r : Result Node} → NodeIs r (node_of (tree b id) coeff) → (q : Polynomial) →
        add_term (tree b id) (limited limit) d coeff (walked q s.visits)
        ≡ act b (limited limit) d (tree b id) coeff r (walked q (s.visits + 1))
    unfolding visit assert ◌>>=◌
    visited look q =
        let yes = le-leb (suc s.visits) limit (omega arith) in
        walk-node b id limit d coeff _ ∙ rw (yes, ← look.is, add-one)

    pub at_refusal :
        {w' : Bytes} {r : Refusal} → NodeIs (Err r) (node_of (tree b id) coeff) → ClearSays w 0 s.sum.len w' →
        TermWalks b w w' id coeff s limit d (Err r)
    at_refusal look clear m t has = refused (cleared pre clear m t has) (visited look (comb_with s.sum m))

    pub at_node :
        {w' : Bytes} {r : Result Node} → NodeIs r (node_of (tree b id) coeff) → {answer : Result by_value.Walked} →
        ((m : Map Monomial) → Stacked b w (m ∷ []) → Has s.sum m →
        Walks b w' answer
        (act b (limited limit) d (tree b id) coeff r (walked (comb_with s.sum m) (s.visits + 1)))) →
        TermWalks b w w' id coeff s limit d answer
    at_node look fills m t has = rw (visited look (comb_with s.sum m)) (fills m t has)

    pub at_args :
        {p q : Rational} → NodeIs (Ok (Args p q)) (node_of (tree b id) coeff) → (ts : Terms) →
        ts ≡ arguments_of (tree b id) → {w' : Bytes} {answer : Result by_value.Walked} →
        ((m : Map Monomial) → Stacked b w (m ∷ []) → Has s.sum m →
        Walks b w' answer (add_each ts (limited limit) d p q (walked (comb_with s.sum m) (s.visits + 1)))) →
        TermWalks b w w' id coeff s limit d answer
    at_args look ts is fills = at_node look (λ m t has. rw is at (fills m t has))

  -- ---- a product, after the visit

  -- the answer r, and the bytes w' that are left
  abbrev ProductIs : Bytes → Result by_value.Walked → Type 0
  ProductIs w' r =
      (m : Map Monomial) → Stacked b w (m ∷ []) → Has s.sum m →
      Walks b w' r (add_product (arguments_of (tree b id)) (limited limit) d coeff (walked_with s m))

  pub too_deep : {w' : Bytes} → 8 ≤ d → ClearSays w 0 s.sum.len w' → ProductIs w' (Err PolynomialSize)
  unfolding add_product assert ◌>>=◌
  too_deep deep clear m t has =
      let no = lt-leb (suc d) 8 (omega arith) in
      refused (cleared pre clear m t has) (rw no)

  -- the factors were walked above, in y
  module _
      (d8 : d < 8) (y : Bytes) (long : length y ≡ length (lent_above w)) (ts : Terms)
      (is : ts ≡ arguments_of (tree b id)) where
    entered :
        (q : Polynomial) →
        add_product (arguments_of (tree b id)) (limited limit) d coeff (walked q s.visits)
        ≡ (first_factor ts (limited limit) (d + 1) s.visits >>=
        λ f. add_scaled (limited limit) coeff f.sum (walked q f.visits))
    unfolding add_product assert ◌>>=◌
    entered q =
        let yes = le-leb (suc d) 8 (omega arith) in
        rw (yes, is, add-one d)

    pub factors-refused :
        {r : Refusal} → Walks b y (Err r) (first_factor ts (limited limit) (d + 1) s.visits) → {w' : Bytes} →
        ClearSays (back_above w y) 0 s.sum.len w' → ProductIs w' (Err r)
    factors-refused fills clear m t has =
        let up : Stacked b y ([] ∷ []) = rw (← fills.is.1) fills.held in
        let down = clear b (m ∷ [] ∷ []) (back-held t long up) (omega arith) has.size in
        refused (stack-less ([] ∷ []) down) (entered (comb_with s.sum m) ∙ ends _ fills.is.0)

    pub factors-made :
        {p : by_value.Walked} → Walks b y (Ok p) (first_factor ts (limited limit) (d + 1) s.visits) →
        {w' : Bytes} {answer : Result by_value.Walked} →
        ((b : Bytes) (m n : Map Monomial) → Stacked b (back_above w y) (m ∷ n ∷ []) → Has s.sum m → Has p.sum n →
        (l : ℕ) →
        Walks b w' answer (add_scaled (limited l) coeff (comb_with p.sum n) (walked (comb_with s.sum m) p.visits))) →
        ProductIs w' answer
    factors-made fills scaled m t has =
        rw (entered (comb_with s.sum m) ∙ next _ fills.is.0)
        (scaled b m fills.map (back-held t long fills.held) has fills.is.1 limit)
