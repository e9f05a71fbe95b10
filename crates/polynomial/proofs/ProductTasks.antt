-- The tasks of the loops of `mul_each`, `mul_left` and `insert_scaled`, for the loop of EntryTurns: for which stacks
-- each of them promises something, and that a turn is what the called function promises.
use Rattle.std.specs.Prelude.{Ok, Err}
use mathlib.Core.Path.{◌≡◌, refl, sym, ◌∙◌, subst}
use mathlib.Core.Logic.{◌≢◌}
use mathlib.Core.List.{List, [], ◌∷◌}
use Prim.Native.Nat.{ℕ, ◌+◌, ◌≤◌, ◌<◌}
use native.Mathlib.Omega.{arith}
use lib.ListN.{length, get_or, set, length-set}
use lib.Seq.{get_or-set_same, get_or-set_other, set-get_or}
use Rattle.numbers.specs.Rational.{Rational}
use Rattle.numbers.specs.Bytes.{Bytes}
use Rattle.terms.specs.Readers.{within}
use Rattle.rules.specs.Refusal.{Result, assert}
use Rattle.rules.specs.declared.refusal.Refusal.{Refusal}
use Rattle.rules.specs.declared.refusal.Refusal.TheVariants.{PolynomialSize}
use Rattle.rules.specs.Limits.{Limits, limited, times}
use Rattle.index_map.specs.IndexMap.{Map, combination, insert}
use Rattle.polynomial.specs.Polynomial.{Monomial, Polynomial, monomials, joined, mul_each, mul_left, insert_scaled}
use Rattle.polynomial.specs.Memory.PolynomialArea.{places, Key, Stacked, enter_product, mul_entry, enter_scaled}
use Rattle.rules.proofs.Results.{bind_assoc, bind-same}
use Rattle.polynomial.proofs.EntryTurns.{turns, Task, Does, Turned, Looping, loop_begin, loop_more, loop_refused}
use Rattle.polynomial.proofs.EntryTurns.{loop_done}
use Rattle.polynomial.proofs.ProductEntries.{ProductSays, EachSays, EntrySays, LeftSays, ScaledSays}
use Rattle.polynomial.proofs.ProductEntries.{AllScaledSays}

-- ---- mul_each

each-turns :
    (l : Limits) (x : Monomial) (c : Rational) (q m : Map Monomial) →
    turns (enter_product l x c) q m ≡ mul_each l x c q m
unfolding turns mul_each enter_product
each-turns l x c [] m = refl
each-turns l x c (e ∷ r) m =
    let K : Map Monomial → Result (Map Monomial) = turns (enter_product l x c) r in
    let short : Result (Unit {0}) = assert (within l.atoms (length x + length e.0)) PolynomialSize in
    bind_assoc short _ K ∙ bind-same short λ z.
    bind_assoc (times l c e.1) _ K ∙ bind-same (times l c e.1) λ v.
    bind-same (insert monomials l m (joined x e.0) v) (each-turns l x c r)

pub record EachCase (w₀ x : Bytes) (c : Rational) (n m : ℕ) : Type 0 where
  pub book : Bytes
  pub left : Map Monomial
  pub right : Map Monomial
  pub map : Map Monomial
  pub monomial : Monomial
  pub stack : Stacked book w₀ (left ∷ right ∷ map ∷ [])
  pub many : n ≡ length right
  pub size : m ≡ length map
  pub key : Key book x monomial
  pub limit : ℕ

abbrev pub each_task : {w₀ x : Bytes} {c : Rational} {n m : ℕ} → EachCase w₀ x c n m → Task
each_task {c = c} i =
    record {
      book = i.book;
      areas = i.left ∷ i.right ∷ i.map ∷ [];
      into = 2;
      turn = enter_product (limited i.limit) i.monomial c;
      all = i.right;
      whole = mul_each (limited i.limit) i.monomial c i.right i.map;
    }

-- with entry k of the right, and len entries in area 2
abbrev pub Multiplying : Bytes → Bytes → Rational → ℕ → ℕ → Bytes → ℕ → ℕ → Type 0
Multiplying w₀ x c n m w len k = Looping {I = EachCase w₀ x c n m} each_task w₀ n w len k

module _ {w₀ x : Bytes} {c : Rational} {n m : ℕ} where
  pub each-begin : m ≤ places → Multiplying w₀ x c n m w₀ m 0
  each-begin few =
      loop_begin few λ i.
      record {
        map = i.map;
        held = i.stack;
        size = i.size;
        is = each-turns (limited i.limit) i.monomial c i.right i.map;
      }

  told :
      {w : Bytes} {r : Result ℕ} → ((i : EachCase w₀ x c n m) → Does (each_task i) w r) → EachSays w₀ x c n m w r
  told does b p q s y stack many size key l =
      does (record {
        book = b;
        left = p;
        right = q;
        map = s;
        monomial = y;
        stack = stack;
        many = many;
        size = size;
        key = key;
        limit = l;
      })

  module _ {w : Bytes} {len k : ℕ} (loop : Multiplying w₀ x c n m w len k) where
    module _ (h : k < n) {w' : Bytes} where
      turned :
          {r : Result ℕ} → ProductSays w x c k len w' r → (i : EachCase w₀ x c n m) → Turned (loop.left i) w' r
      turned says i =
          let left = loop.left i in
          says i.book i.left i.right left.map i.monomial left.held
          (subst (λ z. k < z) i.many h) left.size i.key i.limit

      pub each_more :
          {longer : ℕ} → length w' ≡ length w → longer ≤ places → ProductSays w x c k len w' (Ok longer) →
          Multiplying w₀ x c n m w' longer (k + 1)
      each_more size few says = loop_more (λ i. i.many) loop h size few (turned says)

      pub each-refused : {r : Refusal} → ProductSays w x c k len w' (Err r) → EachSays w₀ x c n m w' (Err r)
      each-refused says = told (loop_refused (λ i. i.many) loop h (turned says))

    pub each-done : n ≤ k → EachSays w₀ x c n m w (Ok len)
    each-done h = told (loop_done (λ i. i.many) loop h)

-- ---- mul_left

left-turns :
    (l : Limits) (u : Map Monomial) (q : Polynomial) (m : Map Monomial) →
    turns (λ e. mul_entry l e q) u m ≡ mul_left l u q m
unfolding turns mul_left mul_entry
left-turns l [] q m = refl
left-turns l (e ∷ r) q m =
    let K : Map Monomial → Result (Map Monomial) = turns (λ f. mul_entry l f q) r in
    let each : Result (Map Monomial) = mul_each l e.0 e.1 q.entries m in
    bind_assoc each _ K ∙ bind-same each λ m1.
    bind_assoc (times l e.1 q.constant) _ K ∙ bind-same (times l e.1 q.constant) λ v.
    bind-same (insert monomials l m1 e.0 v) (left-turns l r q)

pub record LeftCase (w₀ : Bytes) (p n : ℕ) (constant : Rational) : Type 0 where
  pub book : Bytes
  pub left : Map Monomial
  pub right : Map Monomial
  pub stack : Stacked book w₀ (left ∷ right ∷ [] ∷ [])
  pub many : p ≡ length left
  pub size : n ≡ length right
  pub limit : ℕ

abbrev pub left_task : {w₀ : Bytes} {p n : ℕ} {constant : Rational} → LeftCase w₀ p n constant → Task
left_task {constant = constant} i =
    record {
      book = i.book;
      areas = i.left ∷ i.right ∷ [] ∷ [];
      into = 2;
      turn = λ e. mul_entry (limited i.limit) e (combination i.right constant);
      all = i.left;
      whole = mul_left (limited i.limit) i.left (combination i.right constant) [];
    }

-- with entry k of the left, and len entries in area 2
abbrev pub MultiplyingLeft : Bytes → ℕ → ℕ → Rational → Bytes → ℕ → ℕ → Type 0
MultiplyingLeft w₀ p n constant w len k = Looping {I = LeftCase w₀ p n constant} left_task w₀ p w len k

module _ {w₀ : Bytes} {p n : ℕ} {constant : Rational} where
  pub left-begin : MultiplyingLeft w₀ p n constant w₀ 0 0
  left-begin =
      loop_begin (omega arith) λ i.
      record {
        map = [];
        held = i.stack;
        size = refl;
        is = left-turns (limited i.limit) i.left (combination i.right constant) [];
      }

  told-left :
      {w : Bytes} {r : Result ℕ} → ((i : LeftCase w₀ p n constant) → Does (left_task i) w r) →
      LeftSays w₀ p n constant w r
  told-left does b u q stack many size l =
      does (record { book = b; left = u; right = q; stack = stack; many = many; size = size; limit = l })

  module _ {w : Bytes} {len k : ℕ} (loop : MultiplyingLeft w₀ p n constant w len k) where
    module _ (h : k < p) {w' : Bytes} where
      turned_left :
          {r : Result ℕ} → EntrySays w k n constant len w' r → (i : LeftCase w₀ p n constant) →
          Turned (loop.left i) w' r
      turned_left says i =
          let left = loop.left i in
          says i.book i.left i.right left.map left.held
          (subst (λ z. k < z) i.many h) i.size left.size i.limit

      pub left-more :
          {longer : ℕ} → length w' ≡ length w → longer ≤ places → EntrySays w k n constant len w' (Ok longer) →
          MultiplyingLeft w₀ p n constant w' longer (k + 1)
      left-more size few says = loop_more (λ i. i.many) loop h size few (turned_left says)

      pub left-refused : {r : Refusal} → EntrySays w k n constant len w' (Err r) → LeftSays w₀ p n constant w' (Err r)
      left-refused says = told-left (loop_refused (λ i. i.many) loop h (turned_left says))

    pub left-done : p ≤ k → LeftSays w₀ p n constant w (Ok len)
    left-done h = told-left (loop_done (λ i. i.many) loop h)

-- ---- insert_scaled

scaled-turns :
    (l : Limits) (u : Map Monomial) (q : Rational) (m : Map Monomial) →
    turns (λ e. enter_scaled l e q) u m ≡ insert_scaled l u q m
unfolding turns insert_scaled enter_scaled
scaled-turns l [] q m = refl
scaled-turns l (e ∷ r) q m =
    bind_assoc (times l e.1 q) _ (turns (λ f. enter_scaled l f q) r) ∙ bind-same (times l e.1 q) λ v.
    bind-same (insert monomials l m e.0 v) (scaled-turns l r q)

pub record ScaledCase (w₀ : Bytes) (j n : ℕ) (q : Rational) (t m : ℕ) : Type 0 where
  pub book : Bytes
  pub areas : List (Map Monomial)
  pub stack : Stacked book w₀ areas
  pub from : j < length areas
  pub into : t < length areas
  pub apart : j ≢ t
  pub many : n ≡ length (get_or areas j [])
  pub size : m ≡ length (get_or areas t [])
  pub limit : ℕ

abbrev pub scaled_task : {w₀ : Bytes} {j n : ℕ} {q : Rational} {t m : ℕ} → ScaledCase w₀ j n q t m → Task
scaled_task {j = j} {q = q} {t = t} i =
    record {
      book = i.book;
      areas = i.areas;
      into = t;
      turn = λ e. enter_scaled (limited i.limit) e q;
      all = get_or i.areas j [];
      whole = insert_scaled (limited i.limit) (get_or i.areas j []) q (get_or i.areas t []);
    }

-- with entry k of area j, and len entries in area t
abbrev pub Scaling : Bytes → ℕ → ℕ → Rational → ℕ → ℕ → Bytes → ℕ → ℕ → Type 0
Scaling w₀ j n q t m w len k = Looping {I = ScaledCase w₀ j n q t m} scaled_task w₀ n w len k

module _ {w₀ : Bytes} {j n : ℕ} {q : Rational} {t m : ℕ} where
  pub scaling_begin : m ≤ places → Scaling w₀ j n q t m w₀ m 0
  scaling_begin few =
      loop_begin few λ i.
      record {
        map = get_or i.areas t [];
        held = subst (Stacked i.book w₀) (sym (set-get_or i.areas t [])) i.stack;
        size = i.size;
        is = scaled-turns (limited i.limit) (get_or i.areas j []) q (get_or i.areas t []);
      }

  told-scaled :
      {w : Bytes} {r : Result ℕ} → ((i : ScaledCase w₀ j n q t m) → Does (scaled_task i) w r) →
      AllScaledSays w₀ j n q t m w r
  told-scaled does b ms stack from into apart many size l =
      does (record {
        book = b;
        areas = ms;
        stack = stack;
        from = from;
        into = into;
        apart = apart;
        many = many;
        size = size;
        limit = l;
      })

  module _ {w : Bytes} {len k : ℕ} (loop : Scaling w₀ j n q t m w len k) where
    module _ (h : k < n) {w' : Bytes} where
      turned-scaled :
          {r : Result ℕ} → ScaledSays w j k q t len w' r → (i : ScaledCase w₀ j n q t m) → Turned (loop.left i) w' r
      turned-scaled says i =
          let left = loop.left i in
          let ms : List (Map Monomial) = set i.areas t left.map in
          let other : get_or ms j [] ≡ get_or i.areas j [] = get_or-set_other i.areas t j left.map [] i.apart in
          let same : get_or ms t [] ≡ left.map = get_or-set_same i.areas t left.map [] i.into in
          let long : length ms ≡ length i.areas = length-set i.areas t left.map in
          let here : k < length (get_or i.areas j []) = subst (λ z. k < z) i.many h in
          rw (other, same) at
          (says i.book ms left.held (rw long i.from) (rw long i.into) i.apart
          (rw other here) (rw same left.size) i.limit)

      pub scaling_more :
          {longer : ℕ} → length w' ≡ length w → longer ≤ places → ScaledSays w j k q t len w' (Ok longer) →
          Scaling w₀ j n q t m w' longer (k + 1)
      scaling_more size few says = loop_more (λ i. i.many) loop h size few (turned-scaled says)

      pub scaling_refused : {r : Refusal} → ScaledSays w j k q t len w' (Err r) → AllScaledSays w₀ j n q t m w' (Err r)
      scaling_refused says = told-scaled (loop_refused (λ i. i.many) loop h (turned-scaled says))

    pub scaling_done : n ≤ k → AllScaledSays w₀ j n q t m w (Ok len)
    scaling_done h = told-scaled (loop_done (λ i. i.many) loop h)
