-- An atom is no number. Else the denominator is that of the record's kind, and `is_number` tests the number that the two parts make.
use mathlib.Core.Path.{◌≡◌, sym, ◌∙◌, ap}
use Prim.Native.Nat.{ℕ}
use native.Mathlib.Omega.{arith}
use borrow.Author.Rules.{rules}
use lib.IntN.{ℤ}
use mir.Facts.{to_z-of_z}
use mir.Syntax.{w64}
use mir.Val.{SFits, to_z}
use Rattle.numbers.specs.Bytes.{Bytes, le, signed}
use Rattle.terms.specs.Term.Terms.{nil}
use Rattle.numbers.proofs.Machine.{R}
use Rattle.terms.proofs.RecordReadings.{denominator, denominator-integer, denominator-rational}
use Rattle.terms.proofs.RecordReadings.{denominator-other, node_is, no_number_of}
use Rattle.terms.proofs.Findings.{finds, constant-found, no_constant}
use Rattle.terms.proofs.term.constant.Goals.{in-1, in-2, in_default}
use Rattle.terms.proofs.term.constant.Goals as goal
use Rattle.terms.proofs.term.constant.Lts as lts
use Rattle.terms.proofs.term.constant.Reads as reads
use Rattle.terms.proofs.term.constant.Tie as tie

-- a field as the machine has it
field_back : {x : ℤ} {v : ℕ} (r : Bytes) (k : ℕ) → SFits w64 x → x ≡ signed 8 v → v ≡ le 8 r k → R x ≡ signed 8 (le 8 r k)
field_back r k f x-is v-is = to_z-of_z f ∙ x-is ∙ ap (signed 8) v-is

denominator_read :
    (c : lts.At-match-branch tie.the-claims reads.Pre reads.Post) → to_z w64 c.match-k.d-bits ≡ denominator c.args.r.now
denominator_read c =
    let r : Bytes = c.args.r.now in
    let is = c.byte-k.ensures in
    elim c.match-k.branch [
      | in-1 w ↦ w.d-is ∙ sym (denominator-integer r (sym is ∙ w.in-1.is))
      | in-2 w ↦
          w.d-is ∙ field_back r 12 (search rules) w.signed_u64-d.ensures w.read_u64-in-2.ensures
          ∙ sym (denominator-rational r (sym is ∙ w.in-2.is))
      | in_default w ↦
          w.d-is ∙ sym (denominator-other r (λ k. omega (arith, is, k)) (λ k. omega (arith, is, k)))
    ]

pub returns-then-k-eq-ATOM : goal.returns-then-k-eq-ATOM
returns-then-k-eq-ATOM c =
    let is = sym c.byte-k.ensures ∙ c.if-k-eq-ATOM.true in
    finds tt (no_number_of _ (node_is 0 _ nil) (λ k. omega (arith, is, k)) (λ k. omega (arith, is, k)))

pub returns-then-is_number : goal.returns-then-is_number
returns-then-is_number c =
    constant-found _ (field_back c.args.r.now 4 (search rules) c.signed_u64-n.ensures c.read_u64.ensures)
    (denominator_read c.before.before.before) (sym c.is_number.ensures ∙ c.if-is_number.true)

pub returns-else-is_number : goal.returns-else-is_number
returns-else-is_number c =
    no_constant _ (field_back c.args.r.now 4 (search rules) c.signed_u64-n.ensures c.read_u64.ensures)
    (denominator_read c.before.before.before) (sym c.is_number.ensures ∙ c.if-is_number.false)
