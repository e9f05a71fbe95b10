-- equations over a ring, decided
pub mod Polynomials
pub mod Ring
pub mod RingExamples
pub mod Integers
-- truth values and whole numbers
pub mod Truths
pub mod Order
pub mod Divisors
pub mod Modulo
-- rational numbers: pairs, lowest terms, values
pub mod Pairs
pub mod LowestTerms
pub mod Rationals
pub mod Floor
pub mod Comparisons
pub mod Quotient
pub mod QuotientRings
pub mod Residues
-- numbers in machine words and in bytes
pub mod Machine
pub mod Ranges
pub mod LittleEndian
pub mod ByteArrays
pub mod TwosComplement
pub mod StoredNumbers
-- bytes: the same, copied, cleared
pub mod SameBytes
pub mod CopiedBytes
pub mod ClearedBytes
