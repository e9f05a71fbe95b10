-- `from_term` lends area j, which is empty, to `add_term`: the walk starts with the empty combination and the
-- coefficient 1, as that of the definition. No atom is there, so all are noted; what is noted in the end is
-- dropped.
use mathlib.Core.Path.{◌≡◌, refl}
use mathlib.Core.List.{List, []}
use Prim.Native.Nat.{ℕ, ◌<◌}
use lib.Dec.{lit≤}
use lib.IntN.{pos}
use lib.ListN.{length}
use Rattle.numbers.specs.Rational.{whole}
use Rattle.numbers.specs.Bytes.{Bytes}
use Rattle.terms.specs.Book.{count}
use Rattle.linear_walk.specs.LinearTerms.{from_term}
use Rattle.linear_comb.specs.Memory.Notes.{note_words, KeysNoted}
use Rattle.linear_walk.specs.Memory.LinearNodes.{WalkPre}
use Rattle.index_map.specs.Memory.Answers.{nothing}
use Rattle.index_map.specs.Memory.Entries.{Held, entries_of}
use Rattle.rules.specs.Memory.Parts.{Laid}
use Rattle.index_map.proofs.CheckedNumbers.{whole-proper}
use Rattle.linear_comb.proofs.Areas.{lent_is, lent_back_lem}
use Rattle.linear_walk.proofs.WalkSteps.{filled_walks}
use Rattle.linear_walk.proofs.from_term.from_term.Goals as goal

-- a walk starts with no entries, the constant 0 and the coefficient 1
starts :
    {b w : Bytes} {id : ℕ} {ns : List ℕ} → length ns ≡ note_words → Laid b → id < count b → Held b w [] →
    WalkPre b w id (whole (pos 1)) nothing ns
unfolding entries_of KeysNoted
starts long laid inside held =
    record {
      laid = laid;
      inside = inside;
      proper = whole-proper (pos 1) (lit≤ tt);
      sum = record { kept = record { map = []; held = held; size = refl }; proper = whole-proper (pos 0) (lit≤ tt) };
      atoms = record { size = long; keys = tt };
    }

pub add_term-requires : goal.add_term-requires
add_term-requires c =
    let given = c.requires.1 in
    rw (lent_is c.args.j c.args.work.now, c.new-w.ensures, c.whole-one.ensures)
    (starts refl given.0 given.1.0 given.1.1)

-- the area as `add_term` gives it back
pub returns : goal.returns
unfolding entries_of from_term
returns c =
    let back = lent_back_lem c.requires.0 c.add_term.new.entries c.add_term.auto.entries in
    let walks = rw (c.new-w.ensures, c.whole-one.ensures) at (filled_walks c.add_term.ensures) in
    rw (back.put, back.is) (record { only_area = refl; walks = walks })
