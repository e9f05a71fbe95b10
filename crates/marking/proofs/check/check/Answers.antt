-- The marking is that of `check_run`; the work area is then cleared from its first byte on.
use mathlib.Core.Path.{refl}
use Rattle.numbers.proofs.ClearedBytes.{cleared-zeros}
use Rattle.marking.proofs.check.check.Goals as goal

pub returns : goal.returns
returns c =
    record {
      answered = c.check_run-m.ensures.value;
      same_book = refl;
      same_run = refl;
      cleared = cleared-zeros _ c.clear_from.ensures c.check_run-m.auto.work;
    }
