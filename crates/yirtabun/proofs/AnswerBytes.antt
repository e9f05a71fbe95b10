-- The bytes of an answer in the slice that a caller lends.
--     parts-shown       a text copied to the front of a slice, zeros behind it: `shown`
--     marked-bytes, elaborated-bytes       the numbers of an answer put into an array of zeros: `number_bytes`
use mathlib.Core.Path.{◌≡◌, refl, ap, ◌∙◌}
use mathlib.Core.List.{[], ◌∷◌, ◌++◌, append-nil}
use mathlib.Core.Logic.{⊎_elim}
use Prim.Native.Nat.{ℕ, ◌-◌, ◌≤◌, ◌<◌, min}
use native.Mathlib.Omega.{arith}
use lib.ListN.{length, take, drop, replicate, length-append, length-drop, length-replicate, drop_of_length-le}
use lib.Seq.{take_all, take_at, length-take-le}
use Rattle.std.proofs.lemmas.Bool.{cases_lt}
use Rattle.std.proofs.lemmas.List.{take-append-le}
use Rattle.numbers.specs.Bytes.{Bytes, put, put_digits, bytes_of}
use Rattle.marking.specs.Answers.{area}
use Rattle.yirtabun.specs.Answers.{number_bytes, shown}

-- ---- a text with zeros behind it

module _ (b d : Bytes) {n : ℕ} (n-is : n ≡ min (length b) (length d)) where
  shown-front : take n b ++ replicate (length d - n) 0 ≡ shown (length d) b
  unfolding shown area
  shown-front = ⊎_elim long short (cases_lt (length b) (length d))
    where
      short :
          length d ≤ length b →
          take n b ++ replicate (length d - n) 0 ≡ take (length d) (b ++ replicate (length d - length b) 0)
      short h =
          let all : n ≡ length d = omega (arith, n-is) in
          let none : length d - length d ≡ 0 = omega arith in
          rw (all, none, take-append-le) (append-nil (take (length d) b))

      long :
          length b < length d →
          take n b ++ replicate (length d - n) 0 ≡ take (length d) (b ++ replicate (length d - length b) 0)
      long h =
          let all : n ≡ length b = omega (arith, n-is) in
          let size : length (b ++ replicate (length d - length b) 0) ≤ length d =
          simp (length-append, length-replicate) (omega arith) in
          rw (all, take_all (length b) b (omega arith), take_all (length d) _ size)

  -- v and z are put in place of the front of d, up to n, and of what is behind it
  module _ {v : Bytes} (v-is : v ≡ take n b) where
    abbrev half : Bytes
    half = v ++ drop n d

    size : length v ≡ n
    size = ap length v-is ∙ length-take-le n b (omega (arith, n-is))

    rest : length (drop n half) ≡ length d - n
    rest = simp (length-drop, length-append) (omega (arith, size, n-is))

    pub parts-shown :
        {z : Bytes} → z ≡ replicate (length (take (length half - n) (drop n half))) 0 →
        take n half ++ (z ++ drop (length half - n) (drop n half)) ≡ shown (length d) b
    parts-shown z-is =
        let past : length (drop n half) ≤ length half - n = simp length-drop (omega arith) in
        let all = take_all (length half - n) (drop n half) past in
        rw (take_at v (drop n d) n size, drop_of_length-le (drop n half) past, append-nil, v-is)
        (ap (λ x. take n b ++ x) (z-is ∙ ap (λ (x : Bytes). replicate (length x) 0) all ∙ ap (λ k. replicate k 0) rest)
        ∙ shown-front)

-- ---- the numbers of an answer, put one behind the other

module _ (v s n : ℕ) where
  marked_text : put 4 n (put 4 s (put 4 v (replicate 12 0) 0) 4) 8 ≡ number_bytes (v ∷ s ∷ n ∷ [])
  unfolding put put_digits bytes_of number_bytes
  marked_text = refl

  pub marked-bytes :
      {t₁ t₂ t₃ : Bytes} → t₁ ≡ put 4 v (replicate 12 0) 0 → t₂ ≡ put 4 s t₁ 4 → t₃ ≡ put 4 n t₂ 8 →
      t₃ ≡ number_bytes (v ∷ s ∷ n ∷ [])
  marked-bytes first second third = rw (third, second, first) marked_text

  module _ (r t : ℕ) where
    elaborated_text :
        put 4 t (put 4 r (put 4 n (put 4 s (put 4 v (replicate 20 0) 0) 4) 8) 12) 16 ≡
        number_bytes (v ∷ s ∷ n ∷ r ∷ t ∷ [])
    unfolding put put_digits bytes_of number_bytes
    elaborated_text = refl

    pub elaborated-bytes :
        {t₁ t₂ t₃ t₄ t₅ : Bytes} → t₁ ≡ put 4 v (replicate 20 0) 0 → t₂ ≡ put 4 s t₁ 4 → t₃ ≡ put 4 n t₂ 8 →
        t₄ ≡ put 4 r t₃ 12 → t₅ ≡ put 4 t t₄ 16 → t₅ ≡ number_bytes (v ∷ s ∷ n ∷ r ∷ t ∷ [])
    elaborated-bytes first second third fourth fifth = rw (fifth, fourth, third, second, first) elaborated_text
