-- The bytes of the index are lent to `fill`: they come back as zeros, and stand in their place.
use Rattle.book.proofs.RecordChains.{emptied}
use Rattle.book.proofs.index.clear.Goals as goal

pub returns : goal.returns
returns c = emptied _ _ c.requires (c.fill.ensures.after (λ y e. e))
