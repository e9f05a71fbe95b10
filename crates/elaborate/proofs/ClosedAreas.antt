-- The areas after the last step: what lies behind the elaboration is cleared.
use mathlib.Core.Path.{◌≡◌, refl, sym, ap, ◌∙◌, subst}
use mathlib.Core.Bool.{true, false}
use mathlib.Core.List.{[]}
use Prim.Native.Nat.{ℕ}
use lib.ListN.{length, take}
use Rattle.numbers.specs.Bytes.{Bytes, zeroed_from}
use Rattle.marking.specs.Check.{Marking, check}
use Rattle.elaborate.specs.Elaborate.{add_steps, elaborated}
use Rattle.out_areas.specs.Farkas.{Written, written, tail_bytes}
use Rattle.marking.specs.Answers.{area}
use Rattle.marking.specs.Memory.Lent.{state_of, opening}
use Rattle.marking.specs.declared.check.State as by_value
use Rattle.runs.specs.Memory.StepParts.{passed}
use Rattle.runs.specs.declared.verdict.LentRefusal.{LentRefusal}
use Rattle.runs.specs.declared.verdict.LentRefusal.TheVariants.{NoRoom}
use Rattle.runs.specs.declared.verdict.Verdict.{Verdict}
use Rattle.runs.specs.declared.verdict.Verdict.TheVariants.{AllAccepted, Lent}
use Rattle.std.specs.Prelude.{Err}
use Rattle.std.specs.Option.{unwrap_or}
use Rattle.marking.proofs.CheckLoops.{ended_as, first}
use Rattle.out_areas.specs.Memory.OutAreas.{Stored, Holds}
use Rattle.elaborate.specs.Memory.OutMemory.{Elaborates, Closes}
use Rattle.out_areas.specs.declared.out_areas.Out.{Out}
use Rattle.elaborate.specs.declared.elaborate.Elaborating.{Elaborating}
use Rattle.out_areas.proofs.RealRecord.{tail_bytes-length}
use Rattle.elaborate.proofs.Unrefused.{answer_by}
use Rattle.out_areas.proofs.OutAreas.{holds_none, holds-stored, holds-unfit}
use Rattle.marking.proofs.EntryPoints.{refused_is}

-- ---- after the last step

-- what is to be written of a marking
abbrev writes : Bytes → Marking → Written
writes b m = add_steps b (written [] []) m.steps

-- what stays in front of the zeros
zeroed_area : (n : ℕ) (o : Bytes) {x : Bytes} → take n o ≡ x → n ≡ length x → zeroed_from n o ≡ area (length o) x
unfolding zeroed_from area
zeroed_area n o e size = rw (e, size)

-- what is written of the tail has as many bytes as are counted
tail-size : {b o t : Bytes} {out : Out} {w : Written} → Stored b o t out w → out.tail ≡ length (tail_bytes w.tail)
tail-size {w = w} s = s.tail_size ∙ sym (tail_bytes-length w.tail)

module _ {b o t : Bytes} {e : Elaborating} {m : Marking} (h : Elaborates b o t e m) where
  pub closes_full :
      {o' t' : Bytes} → e.out.full ≡ true → o' ≡ zeroed_from 0 o → t' ≡ zeroed_from 0 t →
      Closes
      (record { verdict = Lent NoRoom; steps = e.state.steps; visits = e.state.counter.visits; run = 0; tail = 0 })
      o t o' t' (elaborated b (length o) (length t) m)
  closes_full full left left-tail =
      rw (answer_by b _ _ m (holds-unfit b o t e.out (writes b m) full h.holds)) (record {
        answered = rw (h.steps, h.visits);
        run = left ∙ zeroed_area 0 _ refl refl;
        tail = left-tail ∙ zeroed_area 0 _ refl refl;
      })

  pub closes_whole :
      {o' t' : Bytes} → e.out.full ≡ false → o' ≡ zeroed_from e.out.run o → t' ≡ zeroed_from e.out.tail t →
      {v : Verdict} → v ≡ unwrap_or e.state.verdict AllAccepted →
      Closes
      (record {
        verdict = v;
        steps = e.state.steps;
        visits = e.state.counter.visits;
        run = e.out.run;
        tail = e.out.tail;
      })
      o t o' t' (elaborated b (length o) (length t) m)
  closes_whole whole left left-tail v-is =
      let s = holds-stored b o t e.out (writes b m) whole h.holds in
      let size = tail-size s in
      rw (answer_by b _ _ m s.room) (record {
        answered = rw (v-is, h.verdict, h.steps, h.visits, s.run_size, size);
        run = left ∙ zeroed_area _ _ s.run s.run_size;
        tail = left-tail ∙ zeroed_area _ _ s.tail size;
      })

-- ---- the elaboration where `open` refuses

pub refused_elaborating :
    (b run : Bytes) (limit n : ℕ) {r : LentRefusal} → Err r ≡ passed (opening b run limit n) → {o t : Bytes} →
    {s s' : by_value.State} → ((x : Bytes) → s ≡ state_of x limit (first limit)) → s' ≡ ended_as s (Lent r) →
    {out : Out} → out ≡ record { run = 0; tail = 0; full = false } →
    Elaborates b o t (record { state = s'; out = out }) (check b run limit n)
unfolding add_steps
refused_elaborating b run limit n {r} refused {o} {t} starts ends none =
    let is = ends ∙ ap (λ x. ended_as x (Lent r)) (starts run) in
    subst (Elaborates b o t _) (sym (refused_is b run limit n refused))
    record {
      verdict = ap (λ x. x.verdict) is;
      steps = ap (λ x. x.steps) is;
      visits = ap (λ x. x.counter.visits) is;
      holds = subst (λ x. Holds b o t x (written [] [])) (sym none) (holds_none b o t);
    }
