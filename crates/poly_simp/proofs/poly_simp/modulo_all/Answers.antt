use borrow.Author.Rules.{rules}
use Rattle.poly_simp.proofs.Moduli.{reducing_none, reducing_more}
use Rattle.poly_simp.proofs.poly_simp.modulo_all.Goals as goal

pub loop-k-init : goal.loop-k-init
loop-k-init c = reducing_none

pub loop-k-preserved : goal.loop-k-preserved
loop-k-preserved c =
    reducing_more c.loop-k.invariant c.loop-k-test.true c.requires.1.0 c.requires.1.1 c.key_at-key.ensures
    c.value_at-value.ensures.is c.modulo.ensures.is (search rules) c.put_entry.ensures
