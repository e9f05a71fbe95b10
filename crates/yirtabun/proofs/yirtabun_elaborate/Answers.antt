-- The numbers go into 32 bits (`elaborated-fits` of AnswerBounds).
use Rattle.yirtabun.proofs.AnswerBounds.{elaborated-fits}
use Rattle.yirtabun.proofs.yirtabun_elaborate.Goals as goal

pub overflow_cast-e : goal.overflow_cast-e
overflow_cast-e c =
    (elaborated-fits _ _ _ _ _ _ c.elaborate-e.ensures.answered).steps

pub overflow_cast-e-2 : goal.overflow_cast-e-2
overflow_cast-e-2 c =
    (elaborated-fits _ _ _ _ _ _ c.elaborate-e.ensures.answered).run

pub overflow_cast-e-3 : goal.overflow_cast-e-3
overflow_cast-e-3 c =
    (elaborated-fits _ _ _ _ _ _ c.elaborate-e.ensures.answered).tail
