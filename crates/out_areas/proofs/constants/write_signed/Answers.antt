-- The eight bytes of the number are pasted, which is the definition.
use mathlib.Core.Path.{ap, ◌∙◌}
use borrow.Author.Rules.{rules}
use Rattle.numbers.specs.Bytes.{put}
use Rattle.numbers.proofs.ByteArrays.{put_of_array}
use Rattle.out_areas.proofs.RealBytes.{unsigned-complement}
use Rattle.out_areas.proofs.constants.write_signed.Goals as goal

pub returns : goal.returns
returns c =
    let s = c.args.s.now in
    c.paste.ensures ∙ put_of_array 8 _ s c.args.at c.requires c.to_le_bytes.ensures
    ∙ ap (λ v. put 8 v s c.args.at) (unsigned-complement c.args.n (search rules))
