-- `sub` of polynomials: the entries of area 1 go with their sign turned into area 0, one by one, which is a loop of
-- EntryTurns (`Turning`); area 1 stays as it was, since only area 0 is made anew.
use Rattle.std.specs.Prelude.{Some, None, Ok, Err}
use mathlib.Core.Path.{◌≡◌, refl, sym, ap, subst, ◌∙◌}
use mathlib.Core.List.{List, [], ◌∷◌}
use Prim.Native.Nat.{ℕ, ◌+◌, ◌*◌, ◌≤◌, ◌<◌}
use native.Mathlib.Omega.{arith}
use lib.ListN.{length, get_or}
use Rattle.numbers.specs.Rational.{Rational, Gives, neg_q, add_q, checked, Checked}
use Rattle.numbers.specs.Bytes.{Bytes, number_at}
use Rattle.rules.specs.Refusal.{Result, ◌>>=◌}
use Rattle.rules.specs.declared.refusal.Refusal.{Refusal}
use Rattle.rules.specs.declared.refusal.Refusal.TheVariants.{NumberRange}
use Rattle.rules.specs.Limits.{Limits, limited, plus}
use Rattle.index_map.specs.IndexMap.{Map, insert, insert_all, neg_all, add, neg, sub}
use Rattle.index_map.specs.Memory.Answers.{Has, comb_with}
use Rattle.polynomial.specs.Polynomial.{Monomial, monomials}
use Rattle.polynomial.specs.Memory.PolynomialArea as area
use Rattle.polynomial.specs.Memory.PolynomialArea.{no_entry, key_at, part_at, Key, Held, Stacked, InsertsAt, Poly}
use Rattle.polynomial.specs.Memory.PolynomialArea.{enter_turned}
use Rattle.index_map.proofs.CheckedNumbers.{plus-value, plus_out}
use Rattle.polynomial.proofs.EntryTurns.{turns, Task, Does, Turned, Looping, loop_begin, loop_more, loop_refused}
use Rattle.polynomial.proofs.EntryTurns.{loop_done}
use Rattle.polynomial.proofs.ProductEntries.{ClearSays, key-there, value_there}
use Rattle.polynomial.proofs.StackAreas.{stack-part, stack-less}
use Rattle.rules.proofs.Results.{bind-same, ends}

-- ---- one entry

-- w has the areas p and q; entering an entry of q into p leaves w'
abbrev pub EntersTurned : Bytes → Bytes → Result ℕ → ℕ → ℕ → Type 0
EntersTurned w w' r k m =
    (b : Bytes) (p q : Map Monomial) → Stacked b w (p ∷ q ∷ []) → k < length q → m ≡ length p → (l : ℕ) →
    InsertsAt b w' (p ∷ q ∷ []) 0 r (enter_turned (limited l) (get_or q k no_entry) p)

pub enters-turned :
    {w x y key w' : Bytes} {k m : ℕ} {v u : Rational} {r : Result ℕ} → x ≡ part_at 1 w → key ≡ key_at x k →
    y ≡ part_at 1 w → v ≡ number_at y (25 * k + 17) → u ≡ neg_q v →
    ((b : Bytes) (ms : List (Map Monomial)) (n : Monomial) → Stacked b w ms → 0 < length ms →
    m ≡ length (get_or ms 0 []) → Key b key n → (l : ℕ) →
    InsertsAt b w' ms 0 r (insert monomials (limited l) (get_or ms 0 []) n u)) →
    EntersTurned w w' r k m
unfolding enter_turned
enters-turned {w} {key = key} {k = k} {u = u} is_x is_key is_y is-v is-u made b p q t among size l =
    let held : Held b (part_at 1 w) q = stack-part t 1 (omega arith) in
    let named : Key b key (get_or q k no_entry).0 = rw (is_key, is_x) (key-there q held k among) in
    let value : u ≡ neg_q (get_or q k no_entry).1 = is-u ∙ ap neg_q (is-v ∙ rw is_y (value_there q held k among)) in
    rw value at (made b (p ∷ q ∷ []) (get_or q k no_entry).0 t (omega arith) size named l)

-- ---- all entries

turns_all :
    (l : Limits) (q m : Map Monomial) → turns (enter_turned l) q m ≡ insert_all monomials l m (neg_all q)
unfolding turns enter_turned insert_all neg_all
turns_all l [] m = refl
turns_all l (e ∷ q) m = bind-same (insert monomials l m e.0 (neg_q e.1)) (turns_all l q)

-- all n entries of area 1 are entered into the m of area 0
abbrev pub TurnsAll : Bytes → Bytes → Result ℕ → ℕ → ℕ → Type 0
TurnsAll w w' r n m =
    (b : Bytes) (p q : Map Monomial) → Stacked b w (p ∷ q ∷ []) → n ≡ length q → m ≡ length p → (l : ℕ) →
    InsertsAt b w' (p ∷ q ∷ []) 0 r (insert_all monomials (limited l) p (neg_all q))

pub record TurnCase (w₀ : Bytes) (n m : ℕ) : Type 0 where
  pub book : Bytes
  pub left : Map Monomial
  pub right : Map Monomial
  pub stack : Stacked book w₀ (left ∷ right ∷ [])
  pub many : n ≡ length right
  pub size : m ≡ length left
  pub limit : ℕ

abbrev pub turn_task : {w₀ : Bytes} {n m : ℕ} → TurnCase w₀ n m → Task
turn_task i =
    record {
      book = i.book;
      areas = i.left ∷ i.right ∷ [];
      into = 0;
      turn = enter_turned (limited i.limit);
      all = i.right;
      whole = insert_all monomials (limited i.limit) i.left (neg_all i.right);
    }

-- with entry k of area 1, and len entries in area 0
abbrev pub Turning : Bytes → ℕ → ℕ → Bytes → ℕ → ℕ → Type 0
Turning w₀ n m w len k = Looping {I = TurnCase w₀ n m} turn_task w₀ n w len k

module _ {w₀ : Bytes} {n m : ℕ} where
  pub turning_none : m ≤ 64 → Turning w₀ n m w₀ m 0
  turning_none few =
      loop_begin few λ i.
      record { map = i.left; held = i.stack; size = i.size; is = turns_all (limited i.limit) i.right i.left }

  told : {w : Bytes} {r : Result ℕ} → ((i : TurnCase w₀ n m) → Does (turn_task i) w r) → TurnsAll w₀ w r n m
  told does b p q stack many size l =
      does (record { book = b; left = p; right = q; stack = stack; many = many; size = size; limit = l })

  module _ {w : Bytes} {len k : ℕ} (loop : Turning w₀ n m w len k) where
    module _ (h : k < n) {w' : Bytes} where
      turned : {r : Result ℕ} → EntersTurned w w' r k len → (i : TurnCase w₀ n m) → Turned (loop.left i) w' r
      turned made i =
          let left = loop.left i in
          made i.book left.map i.right left.held (subst (λ z. k < z) i.many h) left.size i.limit

      pub turning_more :
          {longer : ℕ} → length w' ≡ length w → longer ≤ 64 → EntersTurned w w' (Ok longer) k len →
          Turning w₀ n m w' longer (k + 1)
      turning_more same few made = loop_more (λ i. i.many) loop h same few (turned made)

      pub turning_refused : {r : Refusal} → EntersTurned w w' (Err r) k len → TurnsAll w₀ w' (Err r) n m
      turning_refused made = told (loop_refused (λ i. i.many) loop h (turned made))

    pub turning_done : n ≤ k → TurnsAll w₀ w (Ok len) n m
    turning_done h = told (loop_done (λ i. i.many) loop h)

-- ---- `sub`

abbrev pub Subtracts : Bytes → Bytes → Poly → Poly → Result Poly → Type 0
Subtracts w w' p q r =
    (b : Bytes) (u v : Map Monomial) → Stacked b w (u ∷ v ∷ []) → Has p u → Has q v → (l : ℕ) →
    area.Combines b w' r (sub monomials (limited l) (comb_with p u) (comb_with q v))

-- the entries of area 1 are entered, and then it is emptied
module _ {w₀ w w' : Bytes} (p q : Poly) (cleared : ClearSays w 1 q.len w') where
  pub sub-refused : {r : Refusal} → TurnsAll w₀ w (Err r) q.len p.len → Subtracts w₀ w' p q (Err r)
  unfolding sub add neg
  sub-refused turned b u v t has has' l =
      let left = turned b u v t has'.size has.size l in
      record {
        map = left.map;
        held = stack-less (left.map ∷ []) (cleared b _ left.held (omega arith) has'.size);
        is = (ends _ left.is.0, left.is.1);
      }

  module _
      {len : ℕ} (turned : TurnsAll w₀ w (Ok len) q.len p.len) {a : Checked} {d : Rational}
      (opposite : d ≡ neg_q q.constant) (gives : Gives a (checked (add_q p.constant d))) where
    pub sub-made :
        {c : Rational} → a ≡ Some c → Subtracts w₀ w' p q (Ok (record { len = len; constant = c }))
    unfolding sub add neg ◌>>=◌
    sub-made {c} e b u v t has has' l =
        let left = turned b u v t has'.size has.size l in
        let sum : plus (limited l) p.constant (neg_q q.constant) ≡ Ok c =
        rw (sym opposite) (plus-value l p.constant d c (sym gives.is ∙ e)) in
        record {
          map = left.map;
          held = stack-less (left.map ∷ []) (cleared b _ left.held (omega arith) has'.size);
          is = (rw (left.is.0, sum), record { size = left.is.1; proper = gives.proper c e });
        }

    pub sub_out : a ≡ None → {w'' : Bytes} → ClearSays w' 0 len w'' → Subtracts w₀ w'' p q (Err NumberRange)
    unfolding sub add neg ◌>>=◌
    sub_out e empty b u v t has has' l =
        let left = turned b u v t has'.size has.size l in
        let sum : plus (limited l) p.constant (neg_q q.constant) ≡ Err NumberRange =
        rw (sym opposite) (plus_out l p.constant d (sym gives.is ∙ e)) in
        let one = stack-less (left.map ∷ []) (cleared b _ left.held (omega arith) has'.size) in
        record {
          map = [];
          held = empty b _ one (omega arith) left.is.1;
          is = (rw (left.is.0, sum), refl);
        }
