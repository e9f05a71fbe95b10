-- The steps of a walk. Each starts from the sum that an area's bytes hold: the area is emptied before a refusal, a
-- number is added to the constant, a term is added as an atom; and a term is walked by the place that it leads to.
--     kept-has, keeps, clears       the sum's entries; an answer that leaves them, and one that leaves none
--     done, done-kept, done_is       a step without a refusal leaves the sum in the bytes
--     filled_at, filled_noted, filled_walks       the same where all atoms are noted
--     walk_by_value, entry_out, entry-added       the leaves
--     sum-small, constant_pre, atom-inside, enter_pre, args-lower, operation_pre       what the steps at a place ask
--     at_refusal, at_constant, at_note, at_atom, at_operation       the walk of a term is what is done at its place
--     operation-args       what the walk of an operation's arguments asks
use mathlib.Core.Path.{◌≡◌, refl}
use mathlib.Core.Bool.{true}
use mathlib.Core.List.{List, []}
use Prim.Native.Nat.{ℕ, ◌≤◌, ◌<◌}
use native.Mathlib.Omega.{arith}
use lib.ListN.{length}
use Rattle.numbers.specs.Rational.{Rational, Proper}
use Rattle.numbers.specs.Bytes.{Bytes}
use Rattle.terms.specs.Term.{Term}
use Rattle.terms.specs.Book.{count, tree, forest, numbers, arguments}
use Rattle.terms.specs.Format.{max_records}
use Rattle.terms.specs.Readers.{arguments_of}
use Rattle.rules.specs.Refusal.{Result, ◌>>=◌}
use Rattle.std.specs.Prelude.{Ok, Err}
use Rattle.rules.specs.declared.refusal.Refusal.{Refusal}
use Rattle.rules.specs.Limits.{limited}
use Rattle.index_map.specs.IndexMap.{Walked, walked, insert, add_entry, add_constant}
use Rattle.linear_walk.specs.LinearTerms.{add_term}
use Rattle.index_map.specs.Memory.Entries.{terms, entries_of, blanked, Inserts, NewEntry}
use Rattle.linear_walk.specs.Memory.Walks.{walk_of, Walks}
use Rattle.index_map.specs.declared.combination.Walked as by_value
use Rattle.linear_comb.specs.Memory.WorkArea.{Sum, comb_of, KeptSum}
use Rattle.linear_walk.specs.Memory.LinearNodes.{WalkPre, OperationPre, ArgsPre, PlaceIs, Fills, add_each}
use Rattle.linear_comb.specs.Memory.Notes.{note_words, is_noted, with_note, noting, KeysNoted, Noted}
use Rattle.linear_walk.specs.declared.nodes.Place.TheVariants as place
use Rattle.index_map.specs.Memory.Answers.{Has, WalkIs}
use Rattle.index_map.proofs.StoredEntries.{kept-entries, kept_small}
use Rattle.rules.proofs.Yields.{Yields, at_ok}
use Rattle.linear_comb.proofs.NotedAtoms.{NotedSum, note_here, noted_keeps, noting-here, noting-keeps}
use Rattle.linear_comb.proofs.NotedAtoms.{constant_noted, entry_noted}
use Rattle.linear_comb.proofs.AreaSteps.{kept-cleared, kept-sum, sum-entries}
use Rattle.book.proofs.ArgumentsBelow.{args-below}

-- ---- the answers

module _ {b w : Bytes} {s : Sum} (kept : KeptSum b w s) where
  pub kept-has : Has s (entries_of b w s.len)
  kept-has = record { size = rw (kept-entries kept.kept) kept.kept.size; proper = kept.proper }

  module _ {r : Result by_value.Walked} {d : Result (Walked Term)} where
    pub keeps : WalkIs r (entries_of b w s.len) d → Walks b w r d
    keeps is = record { map = kept.kept.map; held = kept.kept.held; is = rw (kept-entries kept.kept) at is }

    pub clears : {w' : Bytes} → w' ≡ blanked s.len w → WalkIs r [] d → Walks b w' r d
    clears e is = record { map = []; held = kept-cleared kept.kept e; is = is }

module _ {b w : Bytes} {u : by_value.Walked} where
  pub done : KeptSum b w u.sum → (d : Result (Walked Term)) → d ≡ Ok (walk_of b w u) → Walks b w (Ok u) d
  done kept d is = keeps kept (is, kept-has kept)

  module _ {d : Result (Walked Term)} (walks : Walks b w (Ok u) d) where
    pub done-kept : KeptSum b w u.sum
    done-kept = kept-sum walks.held walks.is.1

    pub done_is : d ≡ Ok (walk_of b w u)
    done_is = rw (sum-entries walks.held walks.is.1) walks.is.0

-- ---- the same where all atoms are noted

module _ {b w : Bytes} {ns : List ℕ} {d : Result (Walked Term)} where
  refused-filled : {r : Refusal} → length ns ≡ note_words → Walks b w (Err r) d → Fills b w ns (Err r) d
  unfolding KeysNoted
  refused-filled long walks =
      record {
        map = walks.map;
        held = walks.held;
        is = walks.is;
        atoms = record { size = long; keys = rw walks.is.1 tt };
      }

  filled :
      {r : Result by_value.Walked} → length ns ≡ note_words → Yields (NotedSum ns) d → Walks b w r d →
      Fills b w ns r d
  filled {r = Ok u} long noted walks =
      record {
        map = walks.map;
        held = walks.held;
        is = walks.is;
        atoms = record { size = long; keys = at_ok noted walks.is.0 };
      }
  filled {r = Err r} long noted walks = refused-filled long walks

  module _ {u : by_value.Walked} where
    pub filled_at : Walks b w (Ok u) d → Noted ns (entries_of b w u.sum.len) → Fills b w ns (Ok u) d
    filled_at walks noted =
        record {
          map = walks.map;
          held = walks.held;
          is = walks.is;
          atoms = rw (sum-entries walks.held walks.is.1) at noted;
        }

    pub filled_noted : Fills b w ns (Ok u) d → Noted ns (entries_of b w u.sum.len)
    filled_noted fills = rw (sum-entries fills.held fills.is.1) fills.atoms

  pub filled_walks : {r : Result by_value.Walked} → Fills b w ns r d → Walks b w r d
  filled_walks fills = record { map = fills.map; held = fills.held; is = fills.is }

-- ---- the leaves

abbrev pub walk_by_value : ℕ → Rational → ℕ → by_value.Walked
walk_by_value n c v = record { sum = record { len = n; constant = c }; visits = v }

module _ {b w : Bytes} {s : Sum} (kept : KeptSum b w s) (l v : ℕ) where
  module _ (key : ℕ) (value : Rational) {w' : Bytes} where
    -- by what the insertion answers
    pub entry_out :
        {r : Refusal} → Inserts b w' (Err r) (insert terms (limited l) (entries_of b w s.len) (tree b key) value) →
        Walks b w' (Err r) (add_entry terms (limited l) (tree b key) value (walked (comb_of b w s) v))
    unfolding add_entry ◌>>=◌
    entry_out inserts = record { map = inserts.map; held = inserts.held; is = (rw inserts.is.0, inserts.is.1) }

    pub entry-added :
        {n : ℕ} → Inserts b w' (Ok n) (insert terms (limited l) (entries_of b w s.len) (tree b key) value) →
        Walks b w' (Ok (walk_by_value n s.constant v))
        (add_entry terms (limited l) (tree b key) value (walked (comb_of b w s) v))
    unfolding add_entry ◌>>=◌
    entry-added inserts =
        record {
          map = inserts.map;
          held = inserts.held;
          is = (rw inserts.is.0, record { size = inserts.is.1; proper = kept.proper });
        }

-- ---- a term, by the place that it leads to

module _
    {b w : Bytes} {id : ℕ} {coeff : Rational} {s : Sum} {ns : List ℕ} (pre : WalkPre b w id coeff s ns) where
  pub sum-small : s.len ≤ 4096
  sum-small = omega (arith, kept_small pre.sum.kept)

  module _ {limit v : ℕ} where
    pub at_refusal :
        {r : Refusal} → PlaceIs b limit id coeff v (Err r) → {w' : Bytes} → w' ≡ blanked s.len w →
        Fills b w' ns (Err r) (add_term (tree b id) (limited limit) coeff (walked (comb_of b w s) v))
    at_refusal leads blank = refused-filled pre.atoms.size (clears pre.sum blank (leads.is (comb_of b w s), refl))

    module _ {q : Rational} {seen : ℕ} (leads : PlaceIs b limit id coeff v (Ok (place.Constant q, seen))) where
      pub constant_pre : (s.len ≤ 4096) × (Proper s.constant × Proper q)
      constant_pre = (sum-small, (pre.sum.proper, leads.proper))

      pub at_constant :
          {w' : Bytes} {answer : Result by_value.Walked} →
          Walks b w' answer (add_constant (limited limit) q (walked (comb_of b w s) seen)) →
          Fills b w' ns answer (add_term (tree b id) (limited limit) coeff (walked (comb_of b w s) v))
      at_constant walks =
          rw (leads.is (comb_of b w s))
          (filled pre.atoms.size
          (constant_noted ns (limited limit) (walked (comb_of b w s) seen) pre.atoms.keys q) walks)

    module _ {x : ℕ} {c : Rational} {seen : ℕ} (leads : PlaceIs b limit id coeff v (Ok (place.Atom x c, seen))) where
      pub atom-inside : x < count b
      atom-inside = omega (arith, leads.proper.0, pre.inside)

      pub enter_pre : NewEntry s.len x c × (x < max_records)
      enter_pre =
          ((sum-small, (omega (arith, atom-inside), leads.proper.1)), omega (arith, atom-inside))

      module _
          {w' : Bytes} {answer : Result by_value.Walked}
          (walks : Walks b w' answer (add_entry terms (limited limit) (tree b x) c (walked (comb_of b w s) seen))) where
        at_noted :
            (ns' : List ℕ) → is_noted ns' x ≡ true → Noted ns' (entries_of b w s.len) →
            Fills b w' ns' answer (add_term (tree b id) (limited limit) coeff (walked (comb_of b w s) v))
        at_noted ns' key noted =
            rw (leads.is (comb_of b w s))
            (filled noted.size
            (entry_noted ns' (limited limit) (walked (comb_of b w s) seen) noted.keys b x c key) walks)

        -- the atom is noted, and noted where it is not
        pub at_note :
            {ns' : List ℕ} → ns' ≡ with_note ns x →
            Fills b w' ns' answer (add_term (tree b id) (limited limit) coeff (walked (comb_of b w s) v))
        at_note is =
            let long = pre.atoms.size in
            let small = enter_pre.1 in
            rw is
            (at_noted (with_note ns x) (note_here ns long x small)
            (noted_keeps ns long x small (entries_of b w s.len) pre.atoms))

        pub at_atom :
            {ns' : List ℕ} → ns' ≡ noting ns x →
            Fills b w' ns' answer (add_term (tree b id) (limited limit) coeff (walked (comb_of b w s) v))
        at_atom is =
            let long = pre.atoms.size in
            let small = enter_pre.1 in
            rw is
            (at_noted (noting ns x) (noting-here ns long x small)
            (noting-keeps ns long x small (entries_of b w s.len) pre.atoms))

    module _
        {x : ℕ} {p q : Rational} {seen : ℕ}
        (leads : PlaceIs b limit id coeff v (Ok (place.Args x p q, seen))) where
      pub args-lower : x ≤ id
      args-lower = leads.proper.0

      pub operation_pre : OperationPre b w x p q s ns
      operation_pre =
          record {
            laid = pre.laid;
            inside = omega (arith, args-lower, pre.inside);
            proper = leads.proper.1;
            sum = pre.sum;
            atoms = pre.atoms;
          }

      pub at_operation :
          {w' : Bytes} {ns' : List ℕ} {answer : Result by_value.Walked} →
          Fills b w' ns' answer
          (add_each (arguments_of (tree b x)) (limited limit) p q (walked (comb_of b w s) seen)) →
          Fills b w' ns' answer (add_term (tree b id) (limited limit) coeff (walked (comb_of b w s) v))
      at_operation fills = rw (leads.is (comb_of b w s)) fills

-- the record's arguments are those that the bytes hold
pub operation-args :
    {b w : Bytes} {id : ℕ} {p q : Rational} {s : Sum} {ns : List ℕ} → OperationPre b w id p q s ns → (args : Bytes) →
    forest (tree b) (arguments id (numbers args)) ≡ arguments_of (tree b id) → ArgsPre b w args id p q s ns
operation-args {b} {id = id} pre args is =
    record {
      laid = pre.laid;
      inside = pre.inside;
      below = args-below b id pre.inside (pre.laid id pre.inside) args is;
      proper = pre.proper;
      sum = pre.sum;
      atoms = pre.atoms;
    }
