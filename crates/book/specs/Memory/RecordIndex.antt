-- An index of a book's records in lent bytes: the sorts lie in bytes 0 to 2047, the index in bytes 2048 to 8191. It has
-- 1024 chains of record numbers, by a hash of the records' bytes; a number k stands for record k - 1, and 0 ends a
-- chain.
use Rattle.std.specs.Prelude.{◌≡◌, ◌⊎◌, [], ◌∷◌, ℕ, ◌+◌, ◌*◌, ◌/◌, ◌%◌, ◌≤◌, ◌<◌, length, get_or}
use Rattle.numbers.specs.Bytes.{Bytes, le}
use Rattle.terms.specs.Book.{record_of, read_book, records_read, put_sorts}
use Rattle.terms.specs.Book.{BookRead}

-- ---- chains

unfoldable pub hash_from : ℕ → Bytes → ℕ
hash_from h [] = h
hash_from h (x ∷ r) = hash_from ((40503 * h + x) % 65536) r

-- the chain of a record's bytes
unfoldable pub chain : Bytes → ℕ
chain r = hash_from 0 r / 64

-- the first number of a chain, and the number after that of record m
abbrev pub head_of : Bytes → ℕ → ℕ
head_of w c = le 2 w (2048 + 2 * c)

abbrev pub link_of : Bytes → ℕ → ℕ
link_of w m = le 2 w (4096 + 2 * m)

-- record j is on the chain that starts with the number k
pub data On (w : Bytes) (j : ℕ) : ℕ → Type 0 where
  here : (k : ℕ) → k ≡ j + 1 → On w j k
  later : (k m : ℕ) → k ≡ m + 1 → On w j (link_of w m) → On w j k

-- the index holds the first n records: each is on the chain of its bytes, and numbers fall
pub record Indexed (n : ℕ) (b w : Bytes) : Type 0 where
  pub room : 8192 ≤ length w
  pub few : n ≤ 2048
  pub heads : (c : ℕ) → c < 1024 → head_of w c ≤ n
  pub links : (m : ℕ) → m < n → link_of w m ≤ m
  pub on : (j : ℕ) → j < n → On w j (head_of w (chain (record_of b j)))

-- ---- the bytes of the index, and those beside it

-- the bytes of the index are 0
pub record Unused (w : Bytes) : Type 0 where
  pub zero : (j : ℕ) → 2048 ≤ j → j < 8192 → get_or w j 0 ≡ 0

-- the bytes beside the index are the same
pub record Beside (w v : Bytes) : Type 0 where
  pub long : length w ≡ length v
  pub same : (j : ℕ) → (j < 2048) ⊎ (8192 ≤ j) → get_or w j 0 ≡ get_or v j 0

-- a book is read, from the bytes w to w', and its index may still stand there
pub record BookLeft (b w w' : Bytes) (r : BookRead) : Type 0 where
  pub is : r ≡ read_book b
  pub few : records_read r ≤ 2048
  pub sorts : Beside w' (put_sorts (records_read r) b w)
