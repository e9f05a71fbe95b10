-- The numbers stand in the text (`elaborated-bytes` of AnswerBytes), which is then shown.
use mathlib.Core.Path.{ap, ◌∙◌}
use Rattle.yirtabun.specs.Answers.{shown}
use Rattle.yirtabun.proofs.AnswerBytes.{elaborated-bytes}
use Rattle.yirtabun.proofs.show_elaborated.Goals as goal

pub returns : goal.returns
returns c =
    c.show.ensures
    ∙ ap (shown _)
    (elaborated-bytes _ _ _ _ _ c.write_u32.ensures c.write_u32-2.ensures
    c.write_u32-3.ensures c.write_u32-4.ensures c.write_u32-5.ensures)
