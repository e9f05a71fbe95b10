use native.Mathlib.Omega.{arith}
use Rattle.again.proofs.JoinedBook.{has_room, joined-room, joined_none}
use Rattle.again.proofs.again.join.Goals as goal

pub paste-requires : goal.paste-requires
paste-requires c =
    let a = c.args in
    omega (arith, has_room a.book.now a.tail.now a.joined.now c.room.ensures c.if-room.true)

pub paste-requires-then-room : goal.paste-requires-then-room
paste-requires-then-room c =
    let a = c.args in
    omega (arith, c.paste.auto.area, has_room a.book.now a.tail.now a.joined.now c.room.ensures c.if-room.true)

pub returns-then-room : goal.returns-then-room
returns-then-room c =
    let a = c.args in
    let joined =
    joined-room a.book.now a.tail.now a.joined.now c.room.ensures c.if-room.true _ _ _
    c.paste.ensures c.paste-then-room.ensures c.clear_from.ensures
    in
    record { value = joined.0; joined_after = joined.1 }

pub returns : goal.returns
returns c =
    let a = c.args in
    let none =
    joined_none a.book.now a.tail.now a.joined.now c.room.ensures c.if-room.false _
    c.clear_from-2.ensures
    in
    record { value = none.0; joined_after = none.1 }
