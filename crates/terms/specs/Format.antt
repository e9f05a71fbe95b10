-- The codes and sizes of book, run and work area, by name.
use Rattle.std.specs.Prelude.{ℕ, ◌*◌}

abbrev pub record_bytes : ℕ
record_bytes = 32

abbrev pub max_records : ℕ
max_records = 2048

abbrev pub max_args : ℕ
max_args = 14

abbrev pub max_width : ℕ
max_width = 30

-- ---- the fields of a record: a value, a numerator or a name, then a denominator or a width; or two bytes an argument

abbrev pub first_at : ℕ
first_at = 4

abbrev pub second_at : ℕ
second_at = 12

-- behind the second field
abbrev pub fields_end : ℕ
fields_end = 20

abbrev pub args_at : ℕ
args_at = 4

-- ---- the kinds, byte 0 of a record

abbrev pub integer_kind : ℕ
integer_kind = 1

abbrev pub real_kind : ℕ
real_kind = 2

abbrev pub vector_kind : ℕ
vector_kind = 3

abbrev pub atom_kind : ℕ
atom_kind = 4

abbrev pub operation_kind : ℕ
operation_kind = 5

-- ---- the sorts, byte 3 of an atom's record; as one number, a bit-vector's sort is its width above `bits_code`

abbrev pub bool_sort : ℕ
bool_sort = 1

abbrev pub int_sort : ℕ
int_sort = 2

abbrev pub real_sort : ℕ
real_sort = 3

abbrev pub bits_sort : ℕ
bits_sort = 4

abbrev pub bits_code : ℕ
bits_code = 3

-- ---- the run

abbrev pub run_record_bytes : ℕ
run_record_bytes = 4

abbrev pub max_run_records : ℕ
max_run_records = 4096

abbrev pub max_run_bytes : ℕ
max_run_bytes = run_record_bytes * max_run_records

-- ---- the work area: a sort for each record, then the bytes of a step

abbrev pub work_bytes : ℕ
work_bytes = 65536

abbrev pub step_at : ℕ
step_at = 2048
