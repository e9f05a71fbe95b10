-- Laws on results along `>>=`.
--     next, ends, asserts       a first step that is known
--     stops, goes_on       a first step by what its function answered
--     handed_on       the refusal that `?` answers
--     none-refused, some-found       what `ok_or` answers
--     bind-same, bind_assoc       a step for a step; steps in a row
use mathlib.Core.Path.{◌≡◌, refl, sym, ap, ◌∙◌}
use mathlib.Core.Bool.{Bool, true}
use Rattle.rules.specs.Refusal.{Result, ◌>>=◌, assert, or_else}
use Rattle.rules.specs.declared.refusal.Refusal.{Refusal}
use Rattle.std.specs.Prelude.{Option, Some, None, Ok, Err, IsErrAnd}
use Rattle.std.specs.Option.{ok_or}
use Rattle.std.specs.Prelude as prelude
use Rattle.std.proofs.lemmas.Result.{err_from_is_err_and}

module _ {A B : Type 0} where
  pub next : {x : Result A} {a : A} (f : A → Result B) → x ≡ Ok a → (x >>= f) ≡ f a
  unfolding ◌>>=◌
  next f h = ap (λ z. z >>= f) h

  pub ends : {x : Result A} {r : Refusal} (f : A → Result B) → x ≡ Err r → (x >>= f) ≡ Err r
  unfolding ◌>>=◌
  ends f h = ap (λ z. z >>= f) h

  -- a function that promises x answered with a refusal, or with a
  pub stops : {x : Result A} {r : Refusal} (f : A → Result B) → Err r ≡ x → Err r ≡ (x >>= f)
  stops f e = sym (ends f (sym e))

  pub goes_on : {x : Result A} {a : A} {d : Result B} (f : A → Result B) → Ok a ≡ x → d ≡ f a → d ≡ (x >>= f)
  goes_on f e h = h ∙ sym (next f (sym e))

  pub bind-same : (d : Result A) {f g : A → Result B} → ((a : A) → f a ≡ g a) → (d >>= f) ≡ (d >>= g)
  unfolding ◌>>=◌
  bind-same (Ok a) h = h a
  bind-same (Err r) h = refl

-- what `?` hands on
pub handed_on : {A E : Type 0} {r : prelude.Result A E} {e : E} → IsErrAnd r (λ y. y ≡ e) → r ≡ Err e
handed_on {E = E} {r = r} h = let p = err_from_is_err_and r h in p.1 ∙ ap (λ (y : E). Err y) p.2

-- `ok_or`, where f says what o is in terms of the definitions
module _ {A B E : Type 0} (f : Option A → Option B) (o : Option A) (r : E) {d : Option B} (is : f o ≡ d) where
  pub none-refused : {e : E} → f None ≡ None → Err e ≡ ok_or o r → Err e ≡ or_else d r
  unfolding or_else
  none-refused none k = rw (sym is) (go o k)
    where
      go : (o : Option A) {e : E} → Err e ≡ ok_or o r → Err e ≡ or_else (f o) r
      go (Some a) k = cc
      go None {e} k = let same : e ≡ r = cc in rw (none, same)

  pub some-found : {a : A} {b : B} → f (Some a) ≡ Some b → Ok a ≡ ok_or o r → Ok b ≡ or_else d r
  unfolding or_else
  some-found {a} {b} some k = rw (sym is) (go o k)
    where
      go : (o : Option A) → Ok a ≡ ok_or o r → Ok b ≡ or_else (f o) r
      go (Some c) k = let same : a ≡ c = cc in rw (sym same, some)
      go None k = cc

pub asserts : {t : Bool} (r : Refusal) → t ≡ true → assert t r ≡ Ok tt
unfolding assert
asserts r e = rw e

pub bind_assoc :
    {A B C : Type 0} (d : Result A) (f : A → Result B) (g : B → Result C) →
    ((d >>= f) >>= g) ≡ (d >>= λ a. f a >>= g)
unfolding ◌>>=◌
bind_assoc (Ok a) f g = refl
bind_assoc (Err r) f g = refl
