-- The number of each refusal of a rule in document 01's table of verdicts, and a result that may be a refusal: the
-- Rust's `Result` with `?`.
use Rattle.std.specs.Prelude.{Bool, true, false, ℕ, leb}
use Rattle.std.specs.Prelude.{Option, Some, None, Ok, Err}
use Rattle.std.specs.Prelude as prelude
use Rattle.terms.specs.declared.term.NotRead.{NotRead}
use Rattle.terms.specs.declared.term.NotRead.TheVariants.{NotNumber, OutOfRange}
use Rattle.rules.specs.declared.refusal.Refusal.{Refusal}
use Rattle.rules.specs.declared.refusal.Refusal.TheVariants.{VisitLimit, NumberRange, PolynomialSize}
use Rattle.rules.specs.declared.refusal.Refusal.TheVariants.{WrongNumberOfArgs, WrongNumberOfPremises}
use Rattle.rules.specs.declared.refusal.Refusal.TheVariants.{WrongLengthOfClause, WrongLengthOfPremiseClause}
use Rattle.rules.specs.declared.refusal.Refusal.TheVariants.{TermOfWrongForm, ExpectedAnyNumber, InvalidDisequalityOp}
use Rattle.rules.specs.declared.refusal.Refusal.TheVariants.{TooManyArgsInDisequality, NotUnit, CoeffNotFound}
use Rattle.rules.specs.declared.refusal.Refusal.TheVariants.{DisequalityIsNotContradiction, NotValidTautologyCase}
use Rattle.rules.specs.declared.refusal.Refusal.TheVariants.{DisequalityIsNotTautology, ExpectedEqual}
use Rattle.rules.specs.declared.refusal.Refusal.TheVariants.{ExpectedLessThan, ExpectedLessEq, PolynomialsNotEqual}
use Rattle.rules.specs.declared.refusal.Refusal.TheVariants.{CoeffIsZero, CoeffDifferentSignums, CoeffEven}
use Rattle.rules.specs.declared.refusal.Refusal.TheVariants.{InvalidOperators, ExpectedBitvector}
use Rattle.rules.specs.declared.refusal.Refusal.TheVariants.{ExpectedOperationTerm}

abbrev pub number : Refusal → ℕ
number VisitLimit = 10
number NumberRange = 11
number PolynomialSize = 12
number WrongNumberOfArgs = 20
number WrongNumberOfPremises = 21
number WrongLengthOfClause = 22
number WrongLengthOfPremiseClause = 23
number TermOfWrongForm = 24
number ExpectedAnyNumber = 25
number InvalidDisequalityOp = 26
number TooManyArgsInDisequality = 27
number NotUnit = 28
number CoeffNotFound = 29
number DisequalityIsNotContradiction = 30
number NotValidTautologyCase = 31
number DisequalityIsNotTautology = 32
number ExpectedEqual = 33
number ExpectedLessThan = 34
number ExpectedLessEq = 35
number PolynomialsNotEqual = 36
number CoeffIsZero = 37
number CoeffDifferentSignums = 38
number CoeffEven = 39
number InvalidOperators = 40
number ExpectedBitvector = 41
number ExpectedOperationTerm = 42

-- what is refused where a number is asked for and none is read
abbrev pub of_reading : NotRead → Refusal
of_reading NotNumber = ExpectedAnyNumber
of_reading OutOfRange = NumberRange

-- a limit that document 01 adds to the Rust: 10 to 12
abbrev pub is_limit : Refusal → Bool
is_limit r = leb (number r) (number PolynomialSize)

-- of a rule: the Rust's `Result` with its error
abbrev pub Result : Type 0 → Type 0
Result A = prelude.Result A Refusal

-- `?`
infixl 20 ◌>>=◌
unfoldable pub ◌>>=◌ : {E A B : Type 0} → prelude.Result A E → (A → prelude.Result B E) → prelude.Result B E
Ok a >>= f = f a
Err r >>= f = Err r

infixl 20 ◌>>◌
unfoldable pub ◌>>◌ : {E A B : Type 0} → prelude.Result A E → prelude.Result B E → prelude.Result B E
Ok a >> b = b
Err r >> b = Err r

-- `rassert!`
unfoldable pub assert : {E : Type 0} → Bool → E → prelude.Result (Unit {0}) E
assert true r = Ok tt
assert false r = Err r

-- `ok_or`
unfoldable pub or_else : {E A : Type 0} → Option A → E → prelude.Result A E
or_else (Some a) r = Ok a
or_else None r = Err r
