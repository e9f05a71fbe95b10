-- A turn of a marking, in the definition.
--     Turned, turned       it stays, ends or goes on
--     turn-reached, turn-less, turn-outcome       what each turn keeps, that it has an end, and where that is
--     turn-ended, turns-ended       a marking that has ended
use Rattle.runs.specs.declared.verdict.Verdict.{Verdict}
use Rattle.runs.specs.declared.verdict.Verdict.TheVariants.{Stopped, AllAccepted}
use mathlib.Core.Path.{◌≡◌, refl, sym, ap, ◌∙◌}
use mathlib.Core.List.{List, [], ◌∷◌, ◌++◌}
use Rattle.std.specs.Prelude.{Option, Some, None}
use Prim.Native.Nat.{ℕ, zero, suc, ◌-◌, ◌<◌}
use native.Mathlib.Omega.{arith}
use lib.ListN.{length, drop, length-append, length-drop}
use Rattle.rules.specs.Refusal.{Result}
use Rattle.std.specs.Prelude.{Ok, Err}
use Rattle.runs.specs.Run.{Step}
use Rattle.steps.specs.CheckStep.{Accepted, check_step}
use Rattle.marking.specs.Check.{State, ended, answered, onward, turn, turns}
use Rattle.marking.specs.Memory.Lent.{Reached}

module _ (run : List Step) (σ : State) where
  pub data Turned : State → Type 0 where
    stays : {v : Verdict} → σ.verdict ≡ Some v → Turned σ
    ends : σ.verdict ≡ None → (v : Verdict) → Turned (ended σ v)
    goes :
        σ.verdict ≡ None → length σ.steps < length run → (x : Step) (a : Accepted) → Turned (answered σ x (Ok a))

  pub turned : Turned (turn run σ)
  unfolding turn
  turned = by_verdict σ.verdict refl
    where
      by_answer :
          σ.verdict ≡ None → length σ.steps < length run → (x : Step) (d : Result Accepted) →
          Turned (answered σ x d)
      by_answer e h x (Err r) = ends e (Stopped r)
      by_answer e h x (Ok a) = goes e h x a

      by_steps :
          σ.verdict ≡ None → (left : List Step) → drop (length σ.steps) run ≡ left →
          Turned (onward run σ left)
      by_steps e [] f = ends e AllAccepted
      by_steps e (x ∷ left) f =
          by_answer e (omega (arith, ap length f, length-drop (length σ.steps) run)) x
          (check_step σ.counter.limits run x σ.counter.visits)

      by_verdict :
          (v : Option Verdict) → σ.verdict ≡ v →
          Turned (elim v [ Some w ↦ σ | None ↦ onward run σ (drop (length σ.steps) run) ])
      by_verdict (Some v) e = stays e
      by_verdict None e = by_steps e (drop (length σ.steps) run) refl

pub turn-reached : {run : List Step} {limit : ℕ} {σ : State} → Reached run limit σ → Reached run limit (turn run σ)
turn-reached {run} {limit} {σ} reached = go (turned run σ)
  where
    go : {τ : State} → Turned run σ τ → Reached run limit τ
    go (stays e) = reached
    go (ends e v) = record { limits = reached.limits; place = reached.place }
    go (goes e h x a) =
        record {
          limits = reached.limits;
          place = omega (arith, h, length-append σ.steps ((x, a.inferred) ∷ []));
        }

-- how many turns there are to the end
abbrev pub turns_by : ℕ → ℕ → Option Verdict → ℕ
turns_by n k v = elim v [ Some w ↦ 0 | None ↦ suc (n - k) ]

abbrev pub turns_left : List Step → State → ℕ
turns_left run σ = turns_by (length run) (length σ.steps) σ.verdict

-- the end
abbrev pub outcome : List Step → State → State
outcome run σ = turns (turns_left run σ) run σ

-- by the verdict
abbrev pub turn_by : List Step → State → Option Verdict → State
turn_by run σ v = elim v [ Some w ↦ σ | None ↦ onward run σ (drop (length σ.steps) run) ]

pub turn-ended : (run : List Step) (σ : State) {v : Verdict} → σ.verdict ≡ Some v → turn run σ ≡ σ
unfolding turn
turn-ended run σ e = ap (turn_by run σ) e

pub turns-ended : (k : ℕ) (run : List Step) (σ : State) {v : Verdict} → σ.verdict ≡ Some v → turns k run σ ≡ σ
unfolding turns
turns-ended zero run σ e = refl
turns-ended (suc k) run σ e = ap (turns k run) (turn-ended run σ e) ∙ turns-ended k run σ e

module _ (run : List Step) (σ : State) where
  pub turn-less : σ.verdict ≡ None → turns_left run (turn run σ) < turns_left run σ
  turn-less under = omega (arith, go (turned run σ), ap (turns_by (length run) (length σ.steps)) under)
    where
      go : {τ : State} → Turned run σ τ → turns_left run τ < suc (length run - length σ.steps)
      go (stays e) = let z : ◌≡◌ {A = ℕ} 0 1 = cc in absurd (omega arith)
      go (ends e v) = omega arith
      go (goes e h x a) = omega (arith, h, length-append σ.steps ((x, a.inferred) ∷ []))

  pub turn-outcome : outcome run (turn run σ) ≡ outcome run σ
  unfolding turns
  turn-outcome = go (turned run σ) refl
    where
      first : σ.verdict ≡ None → outcome run σ ≡ turns (length run - length σ.steps) run (turn run σ)
      first e = ap (λ v. turns (turns_by (length run) (length σ.steps) v) run σ) e

      go : {τ : State} → Turned run σ τ → turn run σ ≡ τ → outcome run (turn run σ) ≡ outcome run σ
      go (stays e) f = ap (outcome run) f
      go (ends e v) f =
          ap (outcome run) f
          ∙ sym
          (first e ∙ ap (turns (length run - length σ.steps) run) f
          ∙ turns-ended (length run - length σ.steps) run (ended σ v) refl)
      go (goes e h x a) f =
          let more = length-append σ.steps ((x, a.inferred) ∷ []) in
          let n : suc (length run - length (σ.steps ++ (x, a.inferred) ∷ [])) ≡ length run - length σ.steps =
          omega (arith, h, more)
          in
          ap (outcome run) f ∙ ap (λ k. turns k run (answered σ x (Ok a))) n
          ∙ sym (first e ∙ ap (turns (length run - length σ.steps) run) f)
