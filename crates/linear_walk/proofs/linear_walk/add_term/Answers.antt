-- The term's place says what is added: a number, an atom, or the arguments of a record. A refusal empties the area.
use Rattle.std.proofs.Common.{rules}
use Rattle.linear_walk.proofs.WalkSteps.{sum-small, constant_pre, atom-inside, enter_pre, operation_pre}
use Rattle.linear_walk.proofs.WalkSteps.{at_refusal, at_constant, at_note, at_operation, operation-args}
use Rattle.linear_walk.proofs.linear_walk.add_term.Goals as goal

pub add_args-requires : goal.add_args-requires
add_args-requires c =
    let leads = rw c.in-Ok-Args-default.field-0-0-is at c.in-Ok-Args-default.ensures in
    operation-args (operation_pre c.requires leads) _ c.args-part.ensures.terms

pub add_constant-requires : goal.add_constant-requires
add_constant-requires c =
    let leads = rw c.in-Ok-Constant-default.field-0-0-is at c.in-Ok-Constant-default.ensures in
    constant_pre c.requires leads

pub add_entry-requires : goal.add_entry-requires
add_entry-requires c =
    let leads = rw c.in-Ok-Atom-default.field-0-0-is at c.in-Ok-Atom-default.ensures in
    (enter_pre c.requires leads, c.requires.sum.proper)

pub returns-in-Ok-Args-default : goal.returns-in-Ok-Args-default
returns-in-Ok-Args-default c =
    let leads = rw c.in-Ok-Args-default.field-0-0-is at c.in-Ok-Args-default.ensures in
    at_operation c.requires leads (rw c.args-part.ensures.terms at c.add_args.ensures)

pub returns-in-Ok-Constant-default : goal.returns-in-Ok-Constant-default
returns-in-Ok-Constant-default c =
    let leads = rw c.in-Ok-Constant-default.field-0-0-is at c.in-Ok-Constant-default.ensures in
    at_constant c.requires leads (c.add_constant.ensures _ c.requires.sum _)

pub returns-in-Ok-Atom-default : goal.returns-in-Ok-Atom-default
returns-in-Ok-Atom-default c =
    let pre = c.requires in
    let leads = rw c.in-Ok-Atom-default.field-0-0-is at c.in-Ok-Atom-default.ensures in
    at_note pre leads (c.add_entry.ensures.walks _ pre.sum (atom-inside pre leads) _) c.add_entry.ensures.noted_after

pub returns-in-Err : goal.returns-in-Err
returns-in-Err c = at_refusal c.requires c.in-Err.ensures (search rules)

pub clear-requires : goal.clear-requires
clear-requires c = sum-small c.requires
