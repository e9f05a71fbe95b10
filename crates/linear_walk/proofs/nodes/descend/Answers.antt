-- Each return says what the record that is reached leads to; a factor is one record further.
use Rattle.std.proofs.Common.{rules}
use Rattle.rules.proofs.Results.{handed_on}
use Rattle.linear_walk.proofs.Places.{reaches_next, stopped, to_args, to_constant, to_atom, to_refusal}
use Rattle.linear_walk.proofs.nodes.descend.Goals as goal

pub returns-in_err-first : goal.returns-in_err-first
returns-in_err-first c =
    rw (handed_on c.from_residual.ensures.1)
    (to_refusal c.loop-made.invariant c.in_err-first.ensures (search rules))

pub returns-in-Args : goal.returns-in-Args
returns-in-Args c = to_args c.loop-made.invariant c.in_ok-first.ensures (search rules) c.in-Args.is

pub loop-made-preserved : goal.loop-made-preserved
loop-made-preserved c =
    reaches_next c.loop-made.invariant c.in_ok-first.ensures c.loop-made-test.true c.requires.0 c.in-Factor.is

pub returns-in-Constant : goal.returns-in-Constant
returns-in-Constant c = to_constant c.loop-made.invariant c.in_ok-first.ensures (search rules) c.in-Constant.is

pub returns-in-Atom : goal.returns-in-Atom
returns-in-Atom c = to_atom c.loop-made.invariant c.in_ok-first.ensures (search rules) c.in-Atom.is

pub returns : goal.returns
returns c = stopped c.loop-made.invariant (search rules)
