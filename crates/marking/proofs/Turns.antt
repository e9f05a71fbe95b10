-- The turns of a marking, by recursion along the steps (`check_steps_from`): a step that is accepted stands in front of
-- the marking of the steps behind it.
use Rattle.runs.specs.declared.verdict.Verdict.{Verdict}
use Rattle.runs.specs.declared.verdict.Verdict.TheVariants.{Stopped, AllAccepted}
use Rattle.runs.specs.declared.verdict.LentRefusal.TheVariants.{OfBook}
use mathlib.Core.Path.{◌≡◌, refl, ap, ◌∙◌}
use mathlib.Core.List.{List, [], ◌∷◌, ◌++◌, append-nil, append_assoc}
use Rattle.std.specs.Prelude.{None}
use Prim.Native.Nat.{ℕ, zero, suc}
use native.Mathlib.Omega.{arith}
use lib.ListN.{length, length-append, drop}
use Rattle.numbers.specs.Rational.{Rational}
use Rattle.numbers.specs.Bytes.{Bytes}
use Rattle.rules.specs.Refusal.{Result}
use Rattle.rules.specs.declared.refusal.Refusal.{Refusal}
use Rattle.std.specs.Prelude.{Ok, Err}
use Rattle.rules.specs.Limits.{Limits}
use Rattle.rules.proofs.Yields.{Yields, at_ok}
use Rattle.runs.specs.Run.{Step, read_run, Every, end, also}
use Rattle.steps.specs.CheckStep.{Accepted, check_step, counter}
use Rattle.marking.specs.Check.{Marking, marking, check_steps, mark_run, nothing_marked, State}
use Rattle.marking.specs.Check.{state, ended, answered, onward, turn, turns, marking_of}
use Rattle.terms.specs.Book.{BookRead}

-- a step in front of a marking
abbrev pub before : Step × List Rational → Marking → Marking
before s m = marking m.verdict (s ∷ m.steps) m.visits

unfoldable pub mark_from : Limits → List Step → List Step → ℕ → Marking
mark_from l run [] n = marking AllAccepted [] n
mark_from l run (s ∷ ss) n = elim (check_step l run s n) [
  | Err r ↦ marking (Stopped r) [] n
  | Ok a ↦ before (s, a.inferred) (mark_from l run ss a.visits)
]

-- by what the first step answers
abbrev pub next : Limits → List Step → Step → List Step → ℕ → Result Accepted → Marking
next l run s ss n x = elim x [
  | Err r ↦ marking (Stopped r) [] n
  | Ok a ↦ before (s, a.inferred) (mark_from l run ss a.visits)
]

-- ---- the turns

ended-stays : (k : ℕ) (run : List Step) (s : State) (v : Verdict) → turns k run (ended s v) ≡ ended s v
unfolding turns turn
ended-stays zero run s v = refl
ended-stays (suc k) run s v = ended-stays k run s v

drop_first : {X : Type 0} (k : ℕ) (xs : List X) {x : X} {ys : List X} → drop k xs ≡ x ∷ ys → drop (suc k) xs ≡ ys
drop_first zero [] e = let z : ◌≡◌ {A = ℕ} 0 1 = cc in absurd (omega arith)
drop_first zero (x ∷ xs) e = cc
drop_first (suc k) [] e = let z : ◌≡◌ {A = ℕ} 0 1 = cc in absurd (omega arith)
drop_first (suc k) (x ∷ xs) e = drop_first k xs e

module _ (l : Limits) (run : List Step) where
  abbrev under : List (Step × List Rational) → ℕ → State
  under done n = state done (counter l n) None

  -- the marking of the steps that are left, behind those that are accepted
  abbrev behind : List (Step × List Rational) → Marking → Marking
  behind done m = marking m.verdict (done ++ m.steps) m.visits

  one_turn :
      (done : List (Step × List Rational)) (n k : ℕ) {ss : List Step} → drop (length done) run ≡ ss →
      turns (suc k) run (under done n) ≡ turns k run (onward run (under done n) ss)
  unfolding turns turn
  one_turn done n k e = ap (λ (ss : List Step). turns k run (onward run (under done n) ss)) e

  turns_from :
      (ss : List Step) (done : List (Step × List Rational)) (n : ℕ) → drop (length done) run ≡ ss →
      marking_of (turns (suc (length ss)) run (under done n)) ≡ behind done (mark_from l run ss n)
  unfolding mark_from
  turns_from [] done n e = ap marking_of (one_turn done n 0 e) ∙ last
    where
      last : marking_of (turns 0 run (ended (under done n) AllAccepted)) ≡ marking AllAccepted (done ++ []) n
      last = rw (ended-stays, append-nil)
  turns_from (s ∷ ss) done n e =
      ap marking_of (one_turn done n (suc (length ss)) e) ∙ go (check_step l run s n) (turns_from ss)
    where
      go :
          (x : Result Accepted) →
          ((done : List (Step × List Rational)) (n : ℕ) → drop (length done) run ≡ ss →
          marking_of (turns (suc (length ss)) run (under done n)) ≡ behind done (mark_from l run ss n)) →
          marking_of (turns (suc (length ss)) run (answered (under done n) s x)) ≡ behind done (next l run s ss n x)
      go (Err r) rest = rw (ended-stays, append-nil)
      go (Ok a) rest =
          let m : Marking = mark_from l run ss a.visits in
          let x : Step × List Rational = (s, a.inferred) in
          let more : length (done ++ x ∷ []) ≡ suc (length done) = omega (arith, length-append done (x ∷ [])) in
          rest (done ++ x ∷ []) a.visits (ap (λ k. drop k run) more ∙ drop_first (length done) run e)
          ∙ ap (λ (xs : List (Step × List Rational)). marking m.verdict xs m.visits)
          (append_assoc done (x ∷ []) m.steps)

pub check_steps_from : (l : Limits) (run : List Step) → check_steps l run ≡ mark_from l run run 0
unfolding check_steps
check_steps_from l run = turns_from l run run [] 0 refl

-- ---- a marking step by step

-- n visits were made before these steps
pub data Marks (l : Limits) (run : List Step) : List Step → ℕ → Marking → Type 0 where
  ends : {n : ℕ} → Marks l run [] n (marking AllAccepted [] n)
  stops :
      {s : Step} {ss : List Step} {n : ℕ} {r : Refusal} → check_step l run s n ≡ Err r →
      Marks l run (s ∷ ss) n (marking (Stopped r) [] n)
  goes_on :
      {s : Step} {ss : List Step} {n : ℕ} {a : Accepted} {m : Marking} → check_step l run s n ≡ Ok a →
      Marks l run ss a.visits m → Marks l run (s ∷ ss) n (before (s, a.inferred) m)

module _ (l : Limits) (run : List Step) where
  pub marks : (ss : List Step) (n : ℕ) → Marks l run ss n (mark_from l run ss n)
  unfolding mark_from
  marks [] n = ends
  marks (s ∷ ss) n = go (check_step l run s n) refl (marks ss)
    where
      go :
          (x : Result Accepted) → check_step l run s n ≡ x → ((k : ℕ) → Marks l run ss k (mark_from l run ss k)) →
          Marks l run (s ∷ ss) n (next l run s ss n x)
      go (Err r) e rest = stops e
      go (Ok a) e rest = goes_on e (rest a.visits)

  -- what each accepted step has
  pub accepted-each :
      (P : Step → List Rational → Type 0) {ss : List Step} {n : ℕ} {m : Marking} → Marks l run ss n m →
      Every (λ s. (n : ℕ) → Yields (λ a. P s a.inferred) (check_step l run s n)) ss →
      Every (λ x. P x.0 x.1) m.steps
  accepted-each P ends end = end
  accepted-each P (stops e) (also h hs) = end
  accepted-each P (goes_on {n = n} e ms) (also h hs) = also (at_ok (h n) e) (accepted-each P ms hs)

-- ---- by what reading the book answers

abbrev pub mark_book : Limits → Bytes → Bytes → BookRead → Marking
mark_book l book run b = elim b [ Ok n ↦ mark_run l (read_run book run) | Err e ↦ nothing_marked (OfBook e.refusal) ]
