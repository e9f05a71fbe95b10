use mathlib.Core.Path.{◌≡◌}
use mathlib.Core.Bool.{Bool, true, false}
use mathlib.Core.Logic.{◌⊎◌, inl, inr}
use Prim.Native.Nat.{ℕ, ◌+◌}
use lib.Dec.{leb}
use lib.ListN.{length}
use Rattle.numbers.specs.Bytes.{Bytes}
use Rattle.again.specs.Again.{second, joined_book}
use Rattle.again.proofs.JoinedBook.{end-room, end_none, area-holds}
use Rattle.again.proofs.SecondAnswers.{Calls, marked_both}
use Rattle.again.proofs.again.mark_again.Goals as goal
use Rattle.again.proofs.again.mark_again.Goals.{After-agree-agreed, then-fits, else-fits}

-- where the joined book ends
end_is :
    (book tail joined : Bytes) {fits : Bool} {n : ℕ} → fits ≡ leb (length book + length tail) (length joined) →
    (fits ≡ true × n ≡ length book + length tail) ⊎ (fits ≡ false × n ≡ 0) →
    n ≡ length (joined_book (length joined) book tail)
end_is book tail joined e (inl (taken, is)) = end-room book tail joined e taken is
end_is book tail joined e (inr (left, is)) = end_none book tail joined e left is

pub slice_bounds-elaborate-end : goal.slice_bounds-elaborate-end
slice_bounds-elaborate-end c =
    let ends = end_is c.args.book.now c.written-tail.result.now c.args.joined.now c.join-fits.ensures.value in
    area-holds _ _
    (ends (elim c.if-fits.branch [
      | then-fits w ↦ inl (w.if-fits.true, w.n-is)
      | else-fits w ↦ inr (w.if-fits.false, w.n-is)
    ]))
    c.join-fits.ensures.joined_after

calls :
    (c : After-agree-agreed) →
    let a = c.args in
    let left = c.elaborate-again.new in
    Calls a.book.now a.limit a.work.now a.outrun.now a.outtail.now a.first
    (second a.joined.now a.againrun.now a.againtail.now) left.work
    (second c.join-fits.new.joined left.outrun left.outtail)
calls c = record {
  run = c.written-run.result.now;
  run_is = c.written-run.ensures.answered;
  tail = c.written-tail.result.now;
  tail_is = c.written-tail.ensures.answered;
  fit = c.join-fits.result;
  fit_is = c.join-fits.ensures.value;
  joined_is = c.join-fits.ensures.joined_after;
  end = c.if-fits.n;
  end_is =
      end_is c.args.book.now c.written-tail.result.now c.args.joined.now c.join-fits.ensures.value
      (elim c.if-fits.branch [
        | then-fits w ↦ inl (w.if-fits.true, w.n-is)
        | else-fits w ↦ inr (w.if-fits.false, w.n-is)
      ]);
  answer = c.elaborate-again.result;
  answer_is = c.elaborate-again.ensures.answered;
  after_is = c.elaborate-again.ensures.left;
  again = c.written.result.now;
  again_is = c.written.ensures.answered;
  agreed = c.agree-agreed.result;
  agreed_is = c.agree-agreed.ensures;
}

pub returns-then-fits-2 : goal.returns-then-fits-2
unfolding calls
returns-then-fits-2 c m book work first run tail =
    marked_both (calls (goal.at.returns-then-fits-2 c).After-agree-agreed) m book work first run tail
    (rw c.if-fits-2.true)

pub returns-else-fits-2 : goal.returns-else-fits-2
unfolding calls
returns-else-fits-2 c m book work first run tail =
    marked_both (calls (goal.at.returns-else-fits-2 c).After-agree-agreed) m book work first run tail
    (rw c.if-fits-2.false)
