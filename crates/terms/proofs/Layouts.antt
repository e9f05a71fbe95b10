-- Facts by which the functions of `fields.rt` and of the crate book's `layout.rt` meet their contracts: tests that are
-- made one after the other, lists that are walked to the first number that fails, unused bytes, the size of a number,
-- the width of a bit-vector, how many arguments an operator takes, and the kinds of a record.
use mathlib.Core.Path.{◌≡◌, refl, sym, ap, ◌∙◌, subst}
use mathlib.Core.Bool.{Bool, true, false, ◌&&◌}
use mathlib.Core.List.{List, [], ◌∷◌}
use mathlib.Core.Logic.{◌⊎◌, ⊎_elim, inl, inr}
use Prim.Native.Nat.{ℕ, suc, ◌+◌, ◌≤◌, ◌<◌}
use native.Mathlib.Numerals.{add-one}
use native.Mathlib.Omega.{arith}
use borrow.Author.Tests.{eqb-true, eqb-false, ne_eqb}
use lib.Dec.{T, leb, leb→le, eqb, ltb, lit≤}
use lib.IntN.{ℤ, nat_abs}
use lib.ListN.{length, get_or, drop, drop_of_length-le}
use lib.Seq.{drop-cons, take-nil}
use mir.Facts.{to_z-of_z, and_yes}
use mir.Syntax.{w64}
use mir.Val.{SFits}
use Rattle.numbers.specs.Bytes.{Bytes}
use Rattle.numbers.specs.Choice.{when◌then◌else◌}
use Rattle.terms.specs.Book.{kind}
use Rattle.terms.specs.Book.{is_width, all_zero, unused, all_below, count_ok, integer_ok, real_ok, vector_ok, atom_ok}
use Rattle.terms.specs.Book.{operation_ok, layout_ok}
use Rattle.numbers.proofs.Truths.{if_either}
use Rattle.numbers.proofs.Machine.{R}

-- ---- one test after the other: s is what the code found for the test a

pub passed : {s a x t : Bool} → s ≡ a → s ≡ true → x ≡ t → x ≡ (a && t)
passed {s} {a} {x} {t} e h k = k ∙ ap (λ (b : Bool). b && t) (sym h ∙ e)

pub stopped : {s a : Bool} (t : Bool) → s ≡ a → s ≡ false → false ≡ (a && t)
stopped t e h = ap (λ (b : Bool). b && t) (sym h ∙ e)

-- `search tests` closes the answer of a function that makes tests one after the other.
pub ruleset tests = (passed, stopped)

-- ---- a list that is walked from its start to the first element that fails

module _ {A : Type 0} (p : A → Bool) where
  abbrev pub all : List A → Bool
  all [] = true
  all (x ∷ l) = p x && all l

-- the walk over the m elements of l is at k, and the answer for the whole list is the one for what is left
pub record Walk {A : Type 0} (p : A → Bool) (l : List A) (m k : ℕ) (answer : Bool) : Type 0 where
  pub long : length l ≡ m
  pub inside : k ≤ m
  pub left : all p (drop k l) ≡ answer

module _ {A : Type 0} {p : A → Bool} {l : List A} {m k : ℕ} {answer : Bool} (w : Walk p l m k answer) where
  here : (x d : A) → k < m → x ≡ get_or l k d → (p x && all p (drop (suc k) l)) ≡ answer
  here x d h e =
      let short : k < length l = omega (arith, w.long) in
      rw e (rw (drop-cons l k d short) at w.left)

  -- x is what the code finds at k
  pub walk_on : (x d : A) → k < m → x ≡ get_or l k d → p x ≡ true → Walk p l m (k + 1) answer
  walk_on x d h e t =
      record { long = w.long; inside = omega arith; left = rw add-one (rw t at (here x d h e)) }

  pub walk_fails : (x d : A) → k < m → x ≡ get_or l k d → p x ≡ false → false ≡ answer
  walk_fails x d h e t = rw t at (here x d h e)

pub all_below_all : (i : ℕ) (l : List ℕ) → all (λ a. ltb a i) l ≡ all_below i l
unfolding all_below
all_below_all i [] = refl
all_below_all i (a ∷ l) = ap (λ (b : Bool). ltb a i && b) (all_below_all i l)

-- ---- unused bytes

pub unused-past : (n : ℕ) (r : Bytes) (k : ℕ) → length r < k → true ≡ unused n r k
unfolding all_zero
unused-past n r k h =
    let past : length r ≤ k = omega arith in
    rw (drop_of_length-le r past, take-nil n)

-- ---- numbers

-- m is the size of z as the machine reads it back
pub size_is : {m : ℕ} {z : ℤ} → m ≡ nat_abs (R z) → SFits w64 z → m ≡ nat_abs z
size_is e f = e ∙ ap nat_abs (to_z-of_z f)

-- ---- bit-vectors

pub width-bounded : (w : ℕ) → is_width w ≡ true → w ≤ 30
width-bounded w e = leb→le w 30 (and_yes (leb 1 w) (leb w 30) (subst T (sym e) tt)).1

-- ---- how many arguments an operator takes

-- what the last arm of the match in `count_ok` knows of the operator
abbrev pub OtherOperator : ℕ → Type 0
OtherOperator o = ((Unit {0} × ((o ≡ 1) ⊎ ((o ≡ 14) ⊎ (o ≡ 17)) → ⊥)) × (o ≡ 16 → ⊥)) × (o ≡ 10 → ⊥)

module _ (n : ℕ) where
  pub count_one : (o : ℕ) → (o ≡ 1) ⊎ ((o ≡ 14) ⊎ (o ≡ 17)) → eqb n 1 ≡ count_ok o n
  unfolding count_ok when◌then◌else◌
  count_one o (inl e) = ap (λ (k : ℕ). count_ok k n) (sym e)
  count_one o (inr (inl e)) = ap (λ (k : ℕ). count_ok k n) (sym e)
  count_one o (inr (inr e)) = ap (λ (k : ℕ). count_ok k n) (sym e)

  pub count-two : (o : ℕ) → (o ≡ 16) ⊎ ((12 ≤ o) × (o < 14)) → eqb n 2 ≡ count_ok o n
  unfolding count_ok when◌then◌else◌
  count-two o (inl e) = ap (λ (k : ℕ). count_ok k n) (sym e)
  count-two o (inr h) = go (eqb o 12) refl
    where
      go : (t : Bool) → eqb o 12 ≡ t → eqb n 2 ≡ count_ok o n
      go true e = ap (λ (k : ℕ). count_ok k n) (sym (eqb-true o 12 e))
      go false e =
          let f = eqb-false o 12 e in
          let last : 13 ≡ o = omega arith in
          ap (λ (k : ℕ). count_ok k n) last

  pub count-minus : (o m : ℕ) → o ≡ 10 → m ≡ 1 → (leb n 14 && leb m n) ≡ count_ok o n
  unfolding count_ok when◌then◌else◌
  count-minus o m e h = rw (e, h)

  pub count-other :
      (o m : ℕ) → OtherOperator o → (o < 12) ⊎ (14 ≤ o) → m ≡ 2 → (leb n 14 && leb m n) ≡ count_ok o n
  unfolding count_ok when◌then◌else◌
  count-other o m p s e =
      rw (e, ne_eqb o 1 (λ h. p.0.0.1 (inl h)))
      (rw (ne_eqb o 14 (λ h. p.0.0.1 (inr (inl h))), ne_eqb o 17 (λ h. p.0.0.1 (inr (inr h))))
      (rw (ne_eqb o 12 (outside 12 (lit≤ tt) (lit≤ tt)), ne_eqb o 13 (outside 13 (lit≤ tt) (lit≤ tt)))
      (rw (ne_eqb o 16 p.0.1, ne_eqb o 10 p.1))))
    where
      outside : (k : ℕ) → 12 ≤ k → k < 14 → o ≡ k → ⊥
      outside k a b h = ⊎_elim (λ l. omega arith) (λ l. omega arith) s

-- What holds of both arms holds of `if`.
pub count-bounded : (o n : ℕ) → count_ok o n ≡ true → n ≤ 14
unfolding count_ok
count-bounded o n =
    if_either (λ b. b ≡ true → n ≤ 14) _ (λ t e. omega (arith, eqb-true n 1 e))
    (λ t. if_either (λ b. b ≡ true → n ≤ 14) _ (λ u e. omega (arith, eqb-true n 2 e))
    (λ u e. leb→le n 14 (and_yes (leb n 14) _ (subst T (sym e) tt)).0))

-- ---- the kinds of a record

abbrev pub layout_as : ℕ → ℕ → Bytes → Bool
layout_as k i r =
    when eqb k 1 then integer_ok r else
    when eqb k 2 then real_ok r else
    when eqb k 3 then vector_ok r else
    when eqb k 4 then atom_ok r else
    when eqb k 5 then operation_ok i r else
    false

-- x is the answer for the kind m, and the code has found k
pub layout_of_kind :
    {x : Bool} (m k i : ℕ) (r : Bytes) → k ≡ kind r → k ≡ m → x ≡ layout_as m i r → x ≡ layout_ok i r
unfolding layout_ok when◌then◌else◌
layout_of_kind m k i r e h a = a ∙ ap (λ (j : ℕ). layout_as j i r) (sym h ∙ e)

pub layout_of_none :
    (k i : ℕ) (r : Bytes) → k ≡ kind r → (k ≡ 1 → ⊥) → (k ≡ 2 → ⊥) → (k ≡ 3 → ⊥) → (k ≡ 4 → ⊥) → (k ≡ 5 → ⊥) →
    false ≡ layout_ok i r
unfolding when◌then◌else◌
layout_of_none k i r e n1 n2 n3 n4 n5 =
    layout_of_kind k k i r e refl
    (rw (ne_eqb k 1 n1, ne_eqb k 2 n2, ne_eqb k 3 n3, ne_eqb k 4 n4, ne_eqb k 5 n5))
