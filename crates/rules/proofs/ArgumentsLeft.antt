-- The arguments of a record: how many, and those that are left from the k-th on, the next one with those behind it, or
-- none.
use mathlib.Core.Path.{◌≡◌, ◌∙◌, refl, sym, ap}
use mathlib.Core.Bool.{true}
use Prim.Native.Nat.{ℕ, ◌+◌, ◌/◌, ◌≤◌, ◌<◌, suc}
use native.Mathlib.Numerals.{add-one}
use native.Mathlib.Omega.{arith}
use borrow.Author.Tests.{lt-ltb}
use lib.ListN.{length, get_or, drop, drop_of_length-le}
use lib.Seq.{drop-cons}
use Rattle.numbers.specs.Bytes.{Bytes}
use Rattle.terms.specs.Term.{Terms, Term}
use Rattle.terms.specs.Term.Terms.{nil, ◌▹◌}
use Rattle.terms.specs.Book.{tree, forest, numbers, arguments, argument_at, nothing, all_below}
use Rattle.terms.proofs.RecordBytes.{length-numbers, length-arguments}
use Rattle.rules.proofs.RunParts.{below_at}
use mathlib.Core.List.{List, [], ◌∷◌}
use Rattle.std.specs.Prelude.{Option, Some, None}
use Rattle.terms.specs.Readers.{arguments_of}
use Rattle.rules.specs.Shapes.{size}

pub arguments-count : (i : ℕ) (args : Bytes) → length (arguments i (numbers args)) ≡ length args / 2
arguments-count i args = length-arguments i (numbers args) ∙ length-numbers args

-- the terms of the arguments from the k-th on
abbrev pub args_from : Bytes → ℕ → Bytes → ℕ → Terms
args_from b id args k = forest (tree b) (arguments id (drop k (numbers args)))

pub left_none : (b : Bytes) (id : ℕ) (args : Bytes) (k : ℕ) → length args / 2 ≤ k → args_from b id args k ≡ nil
unfolding forest arguments
left_none b id args k h =
    let past : length (numbers args) ≤ k = omega (arith, length-numbers args) in
    rw (drop_of_length-le (numbers args) past)

-- x is argument k
module _ (args : Bytes) (id : ℕ) {k x : ℕ} (h : k < length args / 2) (is : x ≡ argument_at args k id) where
  short : k < length (numbers args)
  short = omega (arith, length-numbers args)

  pub left-next : (b : Bytes) → args_from b id args k ≡ (tree b x ▹ args_from b id args (k + 1))
  unfolding forest arguments argument_at
  left-next b = rw (drop-cons (numbers args) k nothing short, add-one, is)

  pub next-below : all_below id (numbers args) ≡ true → x < id
  unfolding argument_at
  next-below below =
      let a = get_or (numbers args) k nothing in
      let low : a < id = below_at id (numbers args) k nothing below short in
      let same : x ≡ a = rw (lt-ltb a id low) at is in
      omega arith

-- ---- look

pub size-forest : (f : ℕ → Term) (l : List ℕ) → size (forest f l) ≡ length l
unfolding forest
size-forest f [] = refl
size-forest f (a ∷ l) = ap suc (size-forest f l)

-- the number of a term's arguments, from the bytes that hold them
pub counted :
    (t : Term) (b : Bytes) (i : ℕ) (args : Bytes) →
    forest (tree b) (arguments i (numbers args)) ≡ arguments_of t → length args / 2 ≡ size (arguments_of t)
counted t b i args e =
    sym (arguments-count i args) ∙ sym (size-forest (tree b) (arguments i (numbers args))) ∙ ap size e

-- what f makes of an operation, by its operator
pub by_operator :
    {A : Type 0} (f : ℕ → Terms → A) (other : A) (o : ℕ) (m : Option (ℕ × Terms)) →
    elim m [ Some p ↦ p.0 | None ↦ 0 ] ≡ suc o →
    elim m [ Some p ↦ f p.0 p.1 | None ↦ other ] ≡ f (suc o) (elim m [ Some p ↦ p.1 | None ↦ nil ])
by_operator f other o (Some p) e = ap (λ (k : ℕ). f k p.1) e
by_operator f other o None e = absurd (omega arith)
