-- `programs::files::read_file` keeps within its buffer and ends: the bytes read are at most as many, and what is left of it
-- falls, since a turn that reads nothing is the last.
use Rattle.std.proofs.Common.{◌≤◌, ◌-◌, length}
use Rattle.programs.proofs.files.read_file.Given as goal

abbrev pub invariant-loop-n : goal.invariant-loop-n
invariant-loop-n g l = l.n ≤ length l.space

abbrev pub decreases-loop-n : goal.decreases-loop-n
decreases-loop-n g l = length l.space - l.n
