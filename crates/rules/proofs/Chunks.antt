-- What an iterator over whole chunks of n bytes gives, where f makes a list of bytes, h of each whole chunk.
use mathlib.Core.Path.{◌≡◌, sym, ap, ◌∙◌}
use mathlib.Core.Bool.{Bool, false}
use mathlib.Core.List.{List, [], ◌∷◌, ◌++◌}
use Prim.Native.Nat.{ℕ, ◌<◌}
use native.Mathlib.Omega.{arith}
use lib.ListN.{length}
use denote.Param.Members.{Mut}
use denote.Ref.{Bor}
use Rattle.std.specs.Fn.{Called, CalledAt}
use Rattle.std.specs.Iterator.{AlwaysYields, ChecksAll, Drains}
use Rattle.std.specs.Iterator.Adapters.{take_while_source, take_while_callee, take_while_done, take_while_steps}
use Rattle.std.specs.List.{list_all, prefix_len}
use Rattle.std.specs.Slice.Iter.{chunks_exact_steps}
use Rattle.std.specs.declared.iter.TakeWhile.{TakeWhile}
use Rattle.std.specs.declared.slice.ChunksExact.{ChunksExact}
use Rattle.std.proofs.lemmas.Iterator.{YieldsList}
use Rattle.std.proofs.lemmas.Iterator.Consumers.{count_from_yields_List, YieldsList-at}
use Rattle.std.proofs.lemmas.Iterator.Search.{all_from_yields_List, YieldsList-from_take_while}
use Rattle.std.proofs.lemmas.List.Folds.{length-prefix_len}
use Rattle.numbers.specs.Bytes.{Bytes}

module _ {B : Type 0} (n : ℕ) (h : Bytes → B) (f : Bytes → List B)
    (less : (l : Bytes) → length l < n → f l ≡ []) (more : (x l : Bytes) → length x ≡ n → f (x ++ l) ≡ h x ∷ f l) where
  gives :
      (ys : List B) (s : ChunksExact ℕ) → s.size ≡ n → ys ≡ f s.rest.now →
      AlwaysYields chunks_exact_steps (λ y. h y.now) s ys
  gives [] s size is = λ x t step.
      let e : [] ≡ h x.now ∷ f t.rest.now =
      is ∙ ap f step.1.0 ∙ more x.now t.rest.now (step.1.1 ∙ size) in
      cc
  gives (y ∷ ys) s size is = (
    λ t step.
        let e : y ∷ ys ≡ [] = is ∙ less s.rest.now (omega (arith, step.1.0, size)) in
        cc,
    λ x t step.
        let e : y ∷ ys ≡ h x.now ∷ f t.rest.now =
        is ∙ ap f step.1.0 ∙ more x.now t.rest.now (step.1.1 ∙ size) in
        (cc, gives ys t (step.0 ∙ size) cc),
  )

  -- s starts at l
  module _ {s : ChunksExact ℕ} (l : Bytes) (rest : s.rest.now ≡ l) (size : s.size ≡ n) where
    chunks_yield : YieldsList chunks_exact_steps (λ y. h y.now) s (f l)
    chunks_yield = record { runs = gives (f l) s size (ap f (sym rest)) }

    -- `all`, where k makes the test of each chunk
    pub all_chunks :
        {F : Type 0} {g : Mut F (Bor Bytes × Unit {0}) Bool} {k : F} {r : Bool} {u : ChunksExact ℕ} (test : B → Bool) →
        ChecksAll chunks_exact_steps g s k r u →
        ((x : Bor Bytes) (b : Bool) (q : F) → Called g k (x, tt) b q → (q ≡ k) × (b ≡ test (h x.now))) →
        r ≡ list_all test (f l)
    all_chunks {r} test ran call = all_from_yields_List test _ _ r ran chunks_yield call

    -- `take_while` and `count`
    pub count_chunks :
        {F : Type 0} {g : Mut F (Bor (Bor Bytes) × Unit {0}) Bool} {k : F} {t : TakeWhile (ChunksExact ℕ) F} {r : ℕ}
        (test : B → Bool) → take_while_source t ≡ s → take_while_callee t ≡ k → take_while_done t ≡ false →
        (xs : List (Bor Bytes)) × Drains (take_while_steps chunks_exact_steps g) t xs × (r ≡ length xs) →
        ((x : Bor Bytes) (b : Bool) (q : F) → CalledAt g k x b q → (q ≡ k) × (b ≡ test (h x.now))) →
        r ≡ prefix_len test (f l)
    count_chunks {g = g} {t = t} {r = r} test source callee done ran call =
        count_from_yields_List t r ran
        (YieldsList-from_take_while g test (YieldsList-at source chunks_yield) callee done call)
        ∙ length-prefix_len test (f l)
