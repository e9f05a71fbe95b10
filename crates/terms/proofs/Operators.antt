-- An operator of a book is one of eighteen numbers: what holds at each of them holds of it (`by_operator`). The rules on
-- operators are chains of tests that compute at each number.
use mathlib.Core.Path.{◌≡◌, subst}
use mathlib.Core.Logic.{◌⊎◌, inl, inr}
use Prim.Native.Nat.{ℕ, zero, suc, ◌+◌, ◌≤◌, ◌<◌}
use native.Mathlib.Nat.{eq-or-lt_of_le}
use native.Mathlib.Omega.{arith}
use Rattle.terms.specs.Operator.{BvMul}

-- G from P at the n numbers from k on
abbrev pub Cases : ℕ → ℕ → (ℕ → Type 0) → Type 0 → Type 0
Cases zero k P G = G
Cases (suc n) k P G = P k → Cases n (suc k) P G

known : (n k : ℕ) (P : ℕ → Type 0) (G : Type 0) → G → Cases n k P G
known zero k P G g = g
known (suc n) k P G g = λ p. known n (suc k) P G g

pub by_number : (n k : ℕ) (P : ℕ → Type 0) (o : ℕ) → k ≤ o → o < k + n → Cases n k P (P o)
by_number zero k P o l h = absurd (omega arith)
by_number (suc n) k P o l h = λ p. go p (eq-or-lt_of_le l) (λ m. by_number n (suc k) P o m (omega arith))
  where
    go : P k → (k ≡ o) ⊎ (k < o) → (k < o → Cases n (suc k) P (P o)) → Cases n (suc k) P (P o)
    go p (inl e) f = known n (suc k) P (P o) (subst P e p)
    go p (inr m) f = f m

pub by_operator : (P : ℕ → Type 0) (o : ℕ) → 1 ≤ o → o ≤ BvMul → Cases BvMul 1 P (P o)
by_operator P o l h = by_number BvMul 1 P o l (omega arith)
