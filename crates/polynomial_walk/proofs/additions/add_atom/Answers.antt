-- The key is the bytes of the atom's monomial. The map after the insertion is the polynomial's, with the constant as it
-- was. An insertion that is refused has emptied the area.
use Rattle.std.proofs.Common.{[], ◌∷◌, arith}
use Rattle.rules.proofs.Results.{handed_on}
use Rattle.polynomial_walk.proofs.PolynomialSums.{atom-key, atom_out, atom-added}
use Rattle.polynomial_walk.proofs.additions.add_atom.Goals as goal

pub returns-in_err-len : goal.returns-in_err-len
returns-in_err-len c b m stack has inside l =
    let key = atom-key b _ inside c.put_atom.ensures.key in
    rw (handed_on c.from_residual.ensures.1)
    (atom_out _ has l _ _ (c.in_err-len.ensures.inserts_at b (m ∷ []) _ stack (omega arith) has.size key l))

pub returns : goal.returns
returns c b m stack has inside l =
    let key = atom-key b _ inside c.put_atom.ensures.key in
    atom-added _ has l _ _ (c.in_ok-len.ensures.inserts_at b (m ∷ []) _ stack (omega arith) has.size key l)
