-- The term's place says what is added: a number to the constant as in `add_constant`, an atom by `enter`. A refusal
-- empties the area.
use Rattle.std.proofs.Common.{rules}
use Rattle.rules.proofs.Results.{handed_on}
use Rattle.linear_walk.proofs.WalkSteps.{entry_out, entry-added, sum-small, constant_pre, enter_pre}
use Rattle.linear_walk.proofs.WalkSteps.{atom-inside, at_refusal, at_constant, at_atom}
use Rattle.linear_walk.proofs.linear_walk.add_flat.Goals as goal

pub add_constant-requires : goal.add_constant-requires
add_constant-requires c =
    let leads = rw c.in-Ok-Constant-default.field-0-0-is at c.in-Ok-Constant-default.ensures in
    constant_pre c.requires leads

-- the sum of the constants is out of range, and in range
pub returns-in_err-longer-in-Ok-Constant-default : goal.returns-in_err-longer-in-Ok-Constant-default
returns-in_err-longer-in-Ok-Constant-default c =
    let leads = rw c.in-Ok-Constant-default.field-0-0-is at c.in-Ok-Constant-default.ensures in
    rw (handed_on c.from_residual.ensures.1)
    (at_constant c.requires leads (c.in_err-longer-in-Ok-Constant-default.ensures _ c.requires.sum _))

pub returns-in_ok-longer-in-Ok-Constant-default : goal.returns-in_ok-longer-in-Ok-Constant-default
returns-in_ok-longer-in-Ok-Constant-default c =
    let leads = rw c.in-Ok-Constant-default.field-0-0-is at c.in-Ok-Constant-default.ensures in
    at_constant c.requires leads (c.in_ok-longer-in-Ok-Constant-default.ensures _ c.requires.sum _)

pub enter-requires : goal.enter-requires
enter-requires c =
    let leads = rw c.in-Ok-Atom-default.field-0-0-is at c.in-Ok-Atom-default.ensures in
    enter_pre c.requires leads

-- the atom's coefficient is out of range, and in range
pub returns-in_err-len-in-Ok-Atom-default : goal.returns-in_err-len-in-Ok-Atom-default
returns-in_err-len-in-Ok-Atom-default c =
    let pre = c.requires in
    let leads = rw c.in-Ok-Atom-default.field-0-0-is at c.in-Ok-Atom-default.ensures in
    let enters = c.in_err-len-in-Ok-Atom-default.ensures in
    let inserts = enters.inserts _ pre.sum.kept (atom-inside pre leads) pre.atoms _ in
    rw (handed_on c.from_residual-in_err-len-in-Ok-Atom-default.ensures.1)
    (at_atom pre leads (entry_out pre.sum _ _ _ _ inserts) enters.noted_after)

pub returns-in_ok-len-in-Ok-Atom-default : goal.returns-in_ok-len-in-Ok-Atom-default
returns-in_ok-len-in-Ok-Atom-default c =
    let pre = c.requires in
    let leads = rw c.in-Ok-Atom-default.field-0-0-is at c.in-Ok-Atom-default.ensures in
    let enters = c.in_ok-len-in-Ok-Atom-default.ensures in
    let inserts = enters.inserts _ pre.sum.kept (atom-inside pre leads) pre.atoms _ in
    at_atom pre leads (entry-added pre.sum _ _ _ _ inserts) enters.noted_after

pub returns-in-Err : goal.returns-in-Err
returns-in-Err c = at_refusal c.requires c.in-Err.ensures (search rules)

pub clear-requires : goal.clear-requires
clear-requires c = sum-small c.requires
