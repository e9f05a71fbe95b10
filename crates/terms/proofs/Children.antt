-- The record numbers that `unary`, `binary` and `quotient_of` find stand for the arguments of the operation
-- that is asked for, which are those of the part that `operands` finds (`unary_is`, `binary_is`), and those lie deeper:
-- a record with arguments is there, so its number is below 2048.
use mathlib.Core.Path.{◌≡◌, refl, sym, ◌∙◌, ap, subst}
use mathlib.Core.Bool.{Bool, true, false, cond, ◌&&◌}
use mathlib.Core.List.{List, [], ◌∷◌}
use Rattle.std.specs.Prelude.{Option, Some, None, option_map}
use Prim.Native.Nat.{ℕ, ◌<◌}
use native.Mathlib.Omega.{arith}
use borrow.Author.Tests.{ltb-true, ltb-false, ne_eqb}
use lib.Dec.{eqb, ltb}
use lib.ListN.{length, get_or}
use Rattle.numbers.specs.Bytes.{Bytes}
use Rattle.terms.specs.Operator.{IntDiv, RealDiv}
use Rattle.terms.specs.Term.{Term, Terms, args_of, one?, two?, unary, binary}
use Rattle.terms.specs.Book.{count, record_of, kind, operator, arg_bytes, numbers, nothing, arguments}
use Rattle.terms.specs.Format.{max_records}
use Rattle.terms.specs.Book.{earlier, argument_at, forest, tree, height}
use Rattle.terms.specs.Readers.{operands, Child, Children, found_two, quotient_of}
use Rattle.terms.proofs.Trees.{earlier-lower, record_of-outside}
use Rattle.terms.proofs.RecordBytes.{length-numbers}
use Rattle.terms.proofs.RecordReadings.{args_of_of, record_node}

-- ---- answers

lower-same : (i : ℕ) {x y : ℕ} → x ≡ y → height x < height i → height y < height i
lower-same i = subst (λ (z : ℕ). height z < height i)

pub child :
    {b : Bytes} {i x : ℕ} {t : Option Term} → Some (tree b x) ≡ t → height x < height i → Child b i (Some x) t
child {i = i} {x = x} e h =
    record { is = e; deeper = λ y p. let same : x ≡ y = cc in lower-same i same h }

pub no_child : {b : Bytes} {i : ℕ} {t : Option Term} → t ≡ None → Child b i None t
no_child e = record { is = sym e; deeper = λ y p. cc }

pub children :
    {b : Bytes} {i x y : ℕ} {t : Option (Term × Term)} → Some (tree b x, tree b y) ≡ t → height x < height i →
    height y < height i → Children b i (Some (x, y)) t
children {i = i} {x = x} {y = y} e h k =
    record {
      is = e;
      deeper =
          λ v w p.
          let both : ◌≡◌ {A = ℕ × ℕ} (x, y) (v, w) = cc in
          let first : x ≡ v = ap (λ (z : ℕ × ℕ). z.0) both in
          let second : y ≡ w = ap (λ (z : ℕ × ℕ). z.1) both in
          (lower-same i first h, lower-same i second k);
    }

pub no_children : {b : Bytes} {i : ℕ} {t : Option (Term × Term)} → t ≡ None → Children b i None t
no_children e = record { is = sym e; deeper = λ y w p. cc }

-- ---- the arguments of an operation

module _ (f : ℕ → Term) (i : ℕ) where
  only_one :
      (l : List ℕ) →
      one? (forest f (arguments i l)) ≡ cond (eqb (length l) 1) (Some (f (earlier i (get_or l 0 nothing)))) None
  unfolding forest arguments
  only_one [] = refl
  only_one (a ∷ []) = refl
  only_one (a ∷ c ∷ l) = rw (ne_eqb (length (a ∷ c ∷ l)) 1 (λ h. omega arith))

  only-two :
      (l : List ℕ) →
      two? (forest f (arguments i l))
      ≡ cond (eqb (length l) 2) (Some (f (earlier i (get_or l 0 nothing)), f (earlier i (get_or l 1 nothing)))) None
  unfolding forest arguments
  only-two [] = refl
  only-two (a ∷ []) = refl
  only-two (a ∷ c ∷ []) = refl
  only-two (a ∷ c ∷ d ∷ l) = rw (ne_eqb (length (a ∷ c ∷ d ∷ l)) 2 (λ h. omega arith))

-- what `unary` and `binary` ask of a term: g of its arguments, where its operator is o
abbrev ask : {A : Type 0} → (Terms → Option A) → ℕ → Term → Option A
ask g o t = elim (args_of o t) [ Some ts ↦ g ts | None ↦ None ]

module _ (b : Bytes) (i o : ℕ) where
  -- g of n arguments is h of the part that `operands` finds
  asked :
      {A : Type 0} (n : ℕ) (g : Terms → Option A) (h : List ℕ → A) →
      ((l : List ℕ) → g (forest (tree b) (arguments i l)) ≡ cond (eqb (length l) n) (Some (h l)) None) →
      ask g o (tree b i) ≡ option_map (λ l. h (numbers l)) (operands (record_of b i) o n)
  asked {A} n g h e =
      let l : Bytes = arg_bytes (record_of b i) in
      rw (args_of_of (record_of b i) o (record_node b i refl), ask)
      (go _ l (eqb (kind (record_of b i)) 5) (eqb o (operator (record_of b i))) _
      (rw (length-numbers l) at (e (numbers l))))
    where
      go :
          (ts : Terms) (l : Bytes) (k s t : Bool) → g ts ≡ cond t (Some (h (numbers l))) None →
          elim (cond (k && s) (Some ts) None) as (λ _. Option A) [ Some us ↦ g us | None ↦ None ]
          ≡ option_map (λ m. h (numbers m)) (cond (k && (s && t)) (Some l) None)
      go ts l true true true p = p
      go ts l true true false p = p
      go ts l true false t p = refl
      go ts l false s t p = refl

  unary_is : unary o (tree b i) ≡ option_map (λ l. tree b (argument_at l 0 i)) (operands (record_of b i) o 1)
  unfolding unary argument_at
  unary_is = asked 1 one? _ (only_one (tree b) i)

  binary_is :
      binary o (tree b i)
      ≡ option_map (λ l. (tree b (argument_at l 0 i), tree b (argument_at l 1 i))) (operands (record_of b i) o 2)
  unfolding binary argument_at
  binary_is = asked 2 two? _ (only-two (tree b) i)

  -- arguments lie deeper, since a record with arguments is there
  argument-deeper :
      (n k : ℕ) {x : ℕ} {l : Bytes} → Some l ≡ operands (record_of b i) o n → x ≡ argument_at l k i →
      height x < height i
  unfolding argument_at
  argument-deeper n k {x} {l} e x-is =
      rw x-is (earlier-lower i (get_or (numbers l) k nothing) (go (ltb i (count b)) refl))
    where
      go : (t : Bool) → ltb i (count b) ≡ t → i < max_records
      go true p = let h : i < count b = ltb-true i (count b) p in omega arith
      go false p = let none : Some l ≡ operands [] o n = rw (record_of-outside b i (ltb-false i (count b) p)) at e in cc

  pub child-found :
      {x : ℕ} {l : Bytes} → Some l ≡ operands (record_of b i) o 1 → x ≡ argument_at l 0 i →
      Child b i (Some x) (unary o (tree b i))
  child-found e x-is = child (sym (rw (unary_is, ← e, x-is))) (argument-deeper 1 0 e x-is)

  pub child_none : None ≡ operands (record_of b i) o 1 → Child b i None (unary o (tree b i))
  child_none e = no_child (rw (unary_is, ← e))

  pub children-found :
      {x y : ℕ} {l : Bytes} → Some l ≡ operands (record_of b i) o 2 → x ≡ argument_at l 0 i → y ≡ argument_at l 1 i →
      Children b i (Some (x, y)) (binary o (tree b i))
  children-found e x-is y-is =
      children (sym (rw (binary_is, ← e, x-is, y-is))) (argument-deeper 2 0 e x-is) (argument-deeper 2 1 e y-is)

  pub children_none : None ≡ operands (record_of b i) o 2 → Children b i None (binary o (tree b i))
  children_none e = no_children (rw (binary_is, ← e))

-- ---- quotients

module _ {b : Bytes} {i : ℕ} {first : Option (ℕ × ℕ)} (whole : Children b i first (binary IntDiv (tree b i))) where
  pub whole-quotient : (first ≡ None → ⊥) → Children b i first (quotient_of (tree b i))
  unfolding quotient_of
  whole-quotient other = go first refl
    where
      go : (f : Option (ℕ × ℕ)) → first ≡ f → Children b i first (quotient_of (tree b i))
      go (Some (x, y)) e =
          let there-are : binary IntDiv (tree b i) ≡ Some (tree b x, tree b y) = sym whole.is ∙ ap (found_two b) e in
          let h = whole.deeper x y e in
          subst (λ (f : Option (ℕ × ℕ)). Children b i f (quotient_of (tree b i))) (sym e)
          (children (rw (there-are, quotient_of)) h.0 h.1)
      go None e = absurd (other e)

  pub real-quotient :
      {second : Option (ℕ × ℕ)} → first ≡ None → Children b i second (binary RealDiv (tree b i)) →
      Children b i second (quotient_of (tree b i))
  unfolding quotient_of
  real-quotient e h =
      let there-are : binary IntDiv (tree b i) ≡ None = sym whole.is ∙ ap (found_two b) e in
      rw (there-are, quotient_of) h
