-- Polynomials modulo 2^w: all coefficients of an area, and an area of a stack. The loop over the coefficients has the
-- first k of them reduced (`Reducing`).
use mathlib.Core.Path.{◌≡◌, refl, sym, ap, subst, ◌∙◌}
use mathlib.Core.List.{[], ◌∷◌, ◌++◌}
use Prim.Native.Nat.{ℕ, zero, suc, ◌+◌, ◌*◌, ◌-◌, ◌%◌, ◌^◌, ◌≤◌, ◌<◌}
use native.Mathlib.Nat.{mod-eq_of_lt, one-le-pow, pow-le-pow_right, one-mul}
use native.Mathlib.Numerals.{add-one}
use native.Mathlib.Omega.{arith}
use borrow.Author.Tests.{lt-ltb, le-ltb}
use lib.Dec.{lit≤}
use lib.IntN.{ℤ, pos}
use lib.ListN.{length, get_or, take, drop}
use lib.Seq.{length-take-le, drop-cons, set-get_or}
use Rattle.numbers.specs.Rational.{Rational, Proper, Makes, whole, modulo}
use Rattle.numbers.specs.Bytes.{Bytes, number_at}
use Rattle.numbers.proofs.Modulo.{modulo_lt}
use Rattle.index_map.specs.IndexMap.{Map}
use Rattle.polynomial.specs.Polynomial.{Monomial}
use Rattle.poly_simp.specs.PolySimp.{modulo_all}
use Rattle.polynomial.specs.Memory.PolynomialArea.{no_entry, key_at, put_entry, Held, Poly}
use Rattle.poly_simp.specs.Memory.PolynomialSteps.{modulus, reduced_by, ReducedLeft}
use Rattle.index_map.proofs.CheckedNumbers.{whole-proper}
use Rattle.polynomial.proofs.StoredMonomials.{read-key, read-value, write-value}
use Rattle.polynomial.proofs.StackAreas.{lent-held, lent-put}

-- a remainder is in range
pub modulo-proper : (z : ℤ) (m : ℕ) → 1 ≤ m → m ≤ 1073741824 → Proper (whole (pos (modulo z m)))
modulo-proper z m positive small = whole-proper (pos (modulo z m)) (omega (arith, modulo_lt m positive z))

-- ---- all coefficients

abbrev reduced_entry : ℕ → Monomial × Rational → Monomial × Rational
reduced_entry n e = (e.0, whole (pos (modulo e.1.num n)))

module _ (n : ℕ) where
  pub length-modulo_all : (m : Map Monomial) → length (modulo_all n m) ≡ length m
  unfolding modulo_all
  length-modulo_all [] = refl
  length-modulo_all (e ∷ m) = ap suc (length-modulo_all m)

  -- the first k entries are reduced
  abbrev partly : ℕ → Map Monomial → Map Monomial
  partly k m = modulo_all n (take k m) ++ drop k m

  one_more :
      (k : ℕ) (m : Map Monomial) → k < length m →
      modulo_all n (take k m) ++ reduced_entry n (get_or m k no_entry) ∷ drop (suc k) m ≡ partly (suc k) m
  unfolding modulo_all
  one_more k [] h = absurd (omega arith)
  one_more zero (e ∷ m) h = refl
  one_more (suc k) (e ∷ m) h = ap (λ z. reduced_entry n e ∷ z) (one_more k m (omega arith))

pub record Reducing (w₀ : Bytes) (n m : ℕ) (w : Bytes) (k : ℕ) : Type 0 where
  pub size : length w ≡ length w₀
  pub held : (b : Bytes) (p : Map Monomial) → Held b w₀ p → n ≡ length p → Held b w (partly m k p)

pub reducing_none : {w₀ : Bytes} {n m : ℕ} → Reducing w₀ n m w₀ 0
unfolding modulo_all
reducing_none = record { size = refl; held = λ b p held long. held }

module _ {w₀ : Bytes} {n m : ℕ} {w : Bytes} {k : ℕ} (i : Reducing w₀ n m w k) where
  pub reducing_more :
      k < n → 1 ≤ m → m ≤ 1073741824 → {key w' : Bytes} {v r : Rational} → key ≡ key_at w k →
      v ≡ number_at w (25 * k + 17) → r ≡ whole (pos (modulo v.num m)) → length w' ≡ length w →
      w' ≡ put_entry w k key r → Reducing w₀ n m w' (k + 1)
  reducing_more h positive small {key} {w'} {v} {r} is_key is-v is-r same put =
      record {
        size = same ∙ i.size;
        held =
            λ b p held long.
            let among : k < length p = omega arith in
            let e : Monomial × Rational = get_or p k no_entry in
            let front : Map Monomial = modulo_all m (take k p) in
            let before : length front ≡ k =
            length-modulo_all m (take k p) ∙ length-take-le k p (omega arith) in
            let here : Held b w (front ++ e ∷ drop (suc k) p) =
            subst (λ z. Held b w (front ++ z)) (drop-cons p k no_entry among) (i.held b p held long) in
            let named : key ≡ _ = is_key ∙ (rw before at (read-key front e (drop (suc k) p) here)).bytes in
            let value : v ≡ e.1 = is-v ∙ (rw before at (read-value front e (drop (suc k) p) here)) in
            let made : r ≡ (reduced_entry m e).1 = is-r ∙ ap (λ (q : Rational). whole (pos (modulo q.num m))) value in
            let proper = modulo-proper e.1.num m positive small in
            let written : Held b (put_entry w k key r) (front ++ reduced_entry m e ∷ drop (suc k) p) =
            rw (named, made)
            (rw before at (
            write-value front e (drop (suc k) p) here (reduced_entry m e).1 proper)) in
            rw (put, add-one, sym (one_more m k p among)) written;
      }

-- ---- an area of a stack

-- the modulus of a bit-vector sort, as the shift makes it
module _ (sort : ℕ) (most : sort ≤ 33) {m : ℕ} (is : m ≡ 1 * 2 ^ (sort - 3) % 18446744073709551616) where
  positive : 1 ≤ modulus sort
  positive = one-le-pow (sort - 3) 2 (lit≤ tt)

  small : modulus sort ≤ 1073741824
  small = pow-le-pow_right {n = 2} (lit≤ tt) {i = sort - 3} {j = 30} (omega arith)

  pub shifted_is : m ≡ modulus sort
  shifted_is =
      let below : modulus sort < 18446744073709551616 = omega (arith, small) in
      is ∙ ap (λ k. k % 18446744073709551616) (one-mul (modulus sort)) ∙ mod-eq_of_lt below

  pub shifted-range : (1 ≤ m) × (m ≤ 1073741824)
  shifted-range = (rw shifted_is positive, rw shifted_is small)

module _ {w : Bytes} {j sort : ℕ} {p : Poly} where
  pub reduced-same : sort < 4 → ReducedLeft j p sort w w p
  unfolding reduced_by
  reduced-same h b ms t among has = rw (lt-ltb sort 4 h, set-get_or ms j []) (t, (refl, has))

  pub reduced-made :
      4 ≤ sort → {m : ℕ} → m ≡ modulus sort → (1 ≤ m) × (m ≤ 1073741824) → {y : Bytes} →
      ((b : Bytes) (q : Map Monomial) → Held b (take (1600 * j + 1600 - 1600 * j) (drop (1600 * j) w)) q →
      p.len ≡ length q → Held b y (modulo_all m q)) →
      {c : Rational} → Makes c (whole (pos (modulo p.constant.num m))) →
      ReducedLeft j p sort w (take (1600 * j) w ++ (y ++ drop (1600 * j + 1600 - 1600 * j) (drop (1600 * j) w)))
      (record { len = p.len; constant = c })
  unfolding reduced_by
  reduced-made h {m} is range {y} made {c} constant b ms t among has =
      let q : Map Monomial = get_or ms j [] in
      let held : Held b y (modulo_all (modulus sort) q) =
      subst (λ k. Held b y (modulo_all k q)) is (made b q (lent-held t among) has.size) in
      let number : c ≡ whole (pos (modulo p.constant.num (modulus sort))) =
      subst (λ k. c ≡ whole (pos (modulo p.constant.num k))) is constant.is in
      rw (le-ltb sort 4 h) (
        lent-put t among held,
        (
          rw number,
          record { size = has.size ∙ sym (length-modulo_all (modulus sort) q); proper = constant.proper },
        ),
      )
