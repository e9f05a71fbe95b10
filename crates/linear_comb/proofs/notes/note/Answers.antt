-- The bit that is set is that of the definition: it is one of 64, so the shift loses nothing.
use Prim.Native.Nat.{◌%◌}
use native.Mathlib.Omega.{arith}
use Rattle.linear_comb.specs.Memory.Notes.{word_bits, with_note}
use Rattle.linear_comb.proofs.NotedAtoms.{one_bit}
use Rattle.linear_comb.proofs.notes.note.Goals as goal

pub returns : goal.returns
unfolding with_note
returns c = rw (one_bit (c.args.x % word_bits) (omega arith))
