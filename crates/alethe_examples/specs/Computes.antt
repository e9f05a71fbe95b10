-- One name that opens all that computing with a rule goes through: a closed example says `unfolding rules`.
use Rattle.numbers.specs.Rational.{mul_q, add_q, abs_q, floor_q, is_positive, eq_q, less_q, less_eq_q}
use Rattle.terms.specs.Readers.{as_op}
use Rattle.terms.specs.BookExamples.{reads}
use Rattle.rules.specs.Refusal.{◌>>=◌, assert, or_else}
use Rattle.rules.specs.Limits.{ranged, times, plus, over, fraction_of, fraction_err, signed_number_err, bitvector_err}
use Rattle.rules.specs.Limits.{op_err}
use Rattle.index_map.specs.IndexMap.{last_first, swap_remove, neg_all, scale_all, get, enter, insert, insert_all, add}
use Rattle.index_map.specs.IndexMap.{neg}
use Rattle.index_map.specs.IndexMap.{sub, visit, add_entry, add_constant}
use Rattle.linear_comb.specs.LinearComb
use Rattle.linear_walk.specs.LinearTerms
use Rattle.linear_walk.specs.LinearTerms.{factors_of}
use Rattle.linear_comb.specs.LinearComb.{gcd_from, coefficients_gcd, all_int}
use Rattle.linear_shapes.specs.LinearShapes.{la_rw_eq, la_disequality, la_totality, assert_less_than, assert_less_eq}
use Rattle.linear_shapes.specs.LinearShapes.{tautology_case}
use Rattle.process_disequality.specs.ProcessDisequality.{inferred, argument_of, process_disequality}
use Rattle.linear_arithmetic.specs.LinearArithmetic.{read_args, fold_literals, is_true_at_zero, la_generic_partial}
use Rattle.linear_arithmetic.specs.LinearArithmetic.{la_generic}
use Rattle.linear_arithmetic.specs.LinearArithmetic.{la_tautology}
use Rattle.rules.specs.Shapes.{only_literal, bind, bind_all, solve, solve_all, has_form, assert_eq, negated_binary}
use Rattle.rules.specs.Shapes.{bounds_case}
use Rattle.disequality.specs.Disequality.{negate_operator, inner, negate_disequality, turned, disequality_of}
use Rattle.disequality.specs.Disequality.{is_integer_times, raised, strengthen}
use Rattle.polynomial.specs.Polynomial
use Rattle.polynomial.specs.Polynomial.{same_monomial, place, joined, mul_each, mul_left, insert_scaled}
use Rattle.polynomial_rel.specs.PolySimpRel.{equated, difference, scaled, assert_sides}
use Rattle.poly_simp.specs.PolySimp.{modulo_all, reduced, poly_simp}
use Rattle.polynomial_rel.specs.PolySimpRel.{bitvector_case, number_case, poly_simp_rel}
use Rattle.polynomial_walk.specs.PolynomialTerms
use Rattle.polynomial_walk.specs.PolynomialTerms.{divisor_of}

unfoldable pub rules : Unit {0}
unfolding reads mul_q add_q abs_q floor_q is_positive eq_q less_q less_eq_q as_op ◌>>=◌ assert or_else ranged times
    plus over fraction_of fraction_err signed_number_err bitvector_err op_err last_first swap_remove neg_all scale_all
    get enter insert insert_all add neg sub visit add_entry add_constant LinearComb.mul gcd_from coefficients_gcd
    LinearTerms.arm_of LinearTerms.add_leaf factors_of LinearTerms.add_term LinearTerms.from_term only_literal bind
    bind_all solve solve_all has_form la_rw_eq la_disequality la_totality negate_operator inner negate_disequality
    turned disequality_of is_integer_times raised strengthen inferred argument_of all_int process_disequality
    read_args fold_literals is_true_at_zero la_generic_partial la_generic assert_eq assert_less_than assert_less_eq
    negated_binary bounds_case tautology_case la_tautology same_monomial place joined mul_each mul_left insert_scaled
    Polynomial.mul modulo_all reduced PolynomialTerms.arm_of PolynomialTerms.add_leaf divisor_of
    PolynomialTerms.add_term PolynomialTerms.from_term poly_simp equated difference scaled assert_sides bitvector_case
    number_case poly_simp_rel
rules = tt
