-- The Rust's `if`, as a definition that proofs can unfold.
use Rattle.std.specs.Prelude.{Bool, true, false}

infixr 10 when◌then◌else◌
unfoldable pub when◌then◌else◌ : {A : Type 0} → Bool → A → A → A
when◌then◌else◌ true x y = x
when◌then◌else◌ false x y = y
