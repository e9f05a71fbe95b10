-- The count of steps goes into 32 bits (`marked-fits` of AnswerBounds).
use Rattle.yirtabun.proofs.AnswerBounds.{marked-fits}
use Rattle.yirtabun.proofs.yirtabun_check.Goals as goal

pub overflow_cast-m : goal.overflow_cast-m
overflow_cast-m c = marked-fits _ _ _ _ c.check-m.ensures.answered
