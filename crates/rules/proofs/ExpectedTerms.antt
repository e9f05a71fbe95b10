-- The readers that refuse: what `as_fraction` and its kin find, where a number or an operation is expected.
--     expected, expects-number, expects_none       a number, or why none is read
--     operation_record_lem, operator_law       an operation, or another term
use mathlib.Core.Path.{◌≡◌, refl, ap, ◌∙◌}
use mathlib.Core.Bool.{Bool, true, false, cond}
use Rattle.std.specs.Prelude.{is_some, Option, Some, None, Ok, Err}
use Prim.Native.Nat.{ℕ}
use borrow.Author.Tests.{eqb-true, eqb-false}
use lib.Dec.{eqb}
use Rattle.numbers.specs.Bytes.{Bytes}
use Rattle.numbers.specs.Rational.{Rational}
use Rattle.terms.specs.Term.{Terms}
use Rattle.terms.specs.Book.{record_of, kind, tree}
use Rattle.terms.specs.Readers.{Reading, Finds, as_op}
use Rattle.terms.specs.declared.term.NotRead.{NotRead}
use Rattle.terms.specs.declared.term.NotRead.TheVariants.{NotNumber, OutOfRange}
use Rattle.terms.proofs.RecordReadings.{as_op_record, as_op-other}
use Rattle.rules.specs.Refusal.{Result, ◌>>=◌, or_else, of_reading}
use Rattle.rules.specs.declared.refusal.Refusal.TheVariants.{ExpectedAnyNumber, ExpectedOperationTerm}
use Rattle.rules.specs.Limits.{number_or}
use Rattle.rules.specs.Memory.Parts.{Expects, operator_alone}

-- ---- numbers

abbrev pub expected : Reading → Result Rational
expected a = number_or a >>= λ q. or_else q ExpectedAnyNumber

not_read : (x : NotRead) → Err (of_reading x) ≡ expected (Err x)
unfolding ◌>>=◌ or_else
not_read NotNumber = refl
not_read OutOfRange = refl

module _ {a : Reading} where
  pub expects-number : {q : Rational} → Finds (Ok q) a → Expects (Ok q) (expected a)
  unfolding ◌>>=◌ or_else
  expects-number f = record { is = ap expected f.is; proper = λ p h. f.proper p cc }

  pub expects_none :
      {r : Result Rational} (x : NotRead) → r ≡ Err (of_reading x) → Finds (Err x) a → Expects r (expected a)
  expects_none x h f = record { is = h ∙ not_read x ∙ ap expected f.is; proper = λ q e. cc }

-- ---- operations

-- a record of kind 5 is an operation
pub operation_record_lem :
    (b : Bytes) (i : ℕ) {r : Bytes} {k : ℕ} → r ≡ record_of b i → k ≡ kind r → eqb k 5 ≡ is_some (as_op (tree b i))
operation_record_lem b i {r} {k} r-is k-is = rw k-is (go (eqb (kind r) 5) refl)
  where
    go : (t : Bool) → eqb (kind r) 5 ≡ t → t ≡ is_some (as_op (tree b i))
    go true e = rw (as_op_record b i r-is (eqb-true (kind r) 5 e))
    go false e = rw (as_op-other b i r-is (eqb-false (kind r) 5 e))

pub operator_law :
    (p : Option (ℕ × Terms)) →
    operator_alone (or_else p ExpectedOperationTerm)
    ≡ cond (is_some p) (Ok (elim p [ Some x ↦ x.0 | None ↦ 0 ])) (Err ExpectedOperationTerm)
unfolding ◌>>=◌ or_else
operator_law (Some x) = refl
operator_law None = refl
