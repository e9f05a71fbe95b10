-- Zeros: those behind others are as many as both together.
use mathlib.Core.Path.{◌≡◌, sym, ap, ◌∙◌}
use mathlib.Core.List.{◌++◌, append_assoc}
use Prim.Native.Nat.{ℕ, ◌+◌}
use lib.ListN.{replicate, replicate-append-replicate}
use Rattle.numbers.specs.Bytes.{Bytes}

abbrev pub zeros : ℕ → Bytes
zeros n = replicate n 0

module _ (a k n : ℕ) (size : a + k ≡ n) where
  pub zeros-join : zeros a ++ zeros k ≡ zeros n
  zeros-join = replicate-append-replicate a k 0 ∙ ap zeros size

  -- before other bytes
  pub zeros-behind : (x r : Bytes) → x ≡ zeros k → zeros a ++ (x ++ r) ≡ zeros n ++ r
  zeros-behind x r is =
      sym (append_assoc (zeros a) x r) ∙ ap (λ (l : Bytes). l ++ r) (ap (λ (l : Bytes). zeros a ++ l) is ∙ zeros-join)
