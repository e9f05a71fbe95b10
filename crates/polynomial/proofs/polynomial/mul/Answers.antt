-- Each return is a lemma of Products over what the calls ensure. The stack stays as high, and each answer has no more
-- entries than there are places.
use mathlib.Core.Path.{sym, ◌∙◌}
use Rattle.polynomial.proofs.Products.{mul-left-refused, insert-scaled-refused, constant-outside, product-made}
use Rattle.polynomial.proofs.polynomial.mul.Goals as goal

pub returns-in-Err : goal.returns-in-Err
returns-in-Err c =
    mul-left-refused c.requires.0 c.in-Err.ensures.inserts_at c.refuse.ensures.value c.refuse.ensures.stacked

pub returns-in-Err-insert_scaled : goal.returns-in-Err-insert_scaled
returns-in-Err-insert_scaled c =
    insert-scaled-refused c.requires.0 c.in-Ok.ensures.inserts_at c.in-Err-insert_scaled.ensures.inserts_at
    c.refuse-in-Err-insert_scaled.ensures.value c.refuse-in-Err-insert_scaled.ensures.stacked

pub returns-in_default : goal.returns-in_default
returns-in_default c =
    constant-outside c.requires.0 c.in-Ok.ensures.inserts_at c.in-Ok-insert_scaled.ensures.inserts_at
    (sym c.mul.ensures.is ∙ c.in_default.is) c.clear_at.ensures c.refuse-in_default.ensures.value
    c.refuse-in_default.ensures.stacked

pub returns : goal.returns
returns c =
    product-made c.requires.0 c.in-Ok.ensures.inserts_at c.in-Ok-insert_scaled.ensures.inserts_at
    (sym c.mul.ensures.is ∙ c.in-Some.is) (c.mul.ensures.proper _ c.in-Some.is) c.move_down.ensures
    c.clear_at-2.ensures c.clear_at-3.ensures
