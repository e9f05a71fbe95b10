-- What the functions of `elaborate` answer, and what they leave in lent memory, in terms of the definitions.
use Rattle.std.specs.Prelude.{Some}
use Rattle.std.specs.Prelude.{◌≡◌, [], ℕ, length}
use Rattle.numbers.specs.Bytes.{Bytes}
use Rattle.runs.specs.Run.{steps_of}
use Rattle.marking.specs.Check.{Marking, State, turn}
use Rattle.elaborate.specs.Elaborate.{add_steps, Answer}
use Rattle.out_areas.specs.Farkas.{written}
use Rattle.marking.specs.Answers.{area}
use Rattle.marking.specs.Memory.Lent.{state_of, Reached}
use Rattle.elaborate.specs.declared.elaborate.Elaborating.{Elaborating}
use Rattle.elaborate.specs.declared.elaborate.Elaborated.{Elaborated}
use Rattle.elaborate.specs.LentMemory.{elaborated_of}
use Rattle.out_areas.specs.Memory.OutAreas.{Holds}

-- ---- a marking under way, and what of its elaboration is written

-- e stands for s, and the accepted steps are written
pub record ElaboratesTo (b run o t : Bytes) (limit : ℕ) (e : Elaborating) (s : State) : Type 0 where
  pub state : e.state ≡ state_of run limit s
  pub holds : Holds b o t e.out (add_steps b (written [] []) s.steps)

-- one turn, from e and the out areas o and t to r and o' and t'
abbrev pub TurnsWritten : Bytes → Bytes → Bytes → Bytes → Bytes → Bytes → Elaborating → Elaborating → Type 0
TurnsWritten b run o t o' t' e r =
    (s : State) → Reached (steps_of b run) e.state.counter.limit s →
    ElaboratesTo b run o t e.state.counter.limit e s →
    ElaboratesTo b run o' t' e.state.counter.limit r (turn (steps_of b run) s)

-- the run was marked, and the accepted steps are written
pub record Elaborates (b o t : Bytes) (r : Elaborating) (m : Marking) : Type 0 where
  pub verdict : r.state.verdict ≡ Some m.verdict
  pub steps : r.state.steps ≡ length m.steps
  pub visits : r.state.counter.visits ≡ m.visits
  pub holds : Holds b o t r.out (add_steps b (written [] []) m.steps)

-- the answer, and both areas
pub record Closes (r : Elaborated) (o t o' t' : Bytes) (a : Answer) : Type 0 where
  pub answered : r ≡ elaborated_of a
  pub run : o' ≡ area (length o) a.run
  pub tail : t' ≡ area (length t) a.tail
