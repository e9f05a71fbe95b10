-- The text is copied to the front of the slice, and zeros are put behind it.
use Rattle.yirtabun.proofs.AnswerBytes.{parts-shown}
use Rattle.yirtabun.proofs.show.Goals as goal

pub returns : goal.returns
returns c =
    parts-shown c.args.text.now c.args.answer.now c.min-n.ensures c.copy_from_slice.ensures.after
    (c.fill.ensures.after (λ y e. e))
