-- The numbers stand in the text (`marked-bytes` of AnswerBytes), which is then shown.
use mathlib.Core.Path.{ap, ◌∙◌}
use Rattle.yirtabun.specs.Answers.{shown}
use Rattle.yirtabun.proofs.AnswerBytes.{marked-bytes}
use Rattle.yirtabun.proofs.show_marked.Goals as goal

pub returns : goal.returns
returns c =
    c.show.ensures
    ∙ ap (shown _)
    (marked-bytes _ _ _ c.write_u32.ensures c.write_u32-2.ensures c.write_u32-3.ensures)
