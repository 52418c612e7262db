-- A region after an entry is appended or interned: n of its entries are used, and there is room for a number of them. Definitions only.
use Rattle.std.specs.Prelude.{◌≡◌, Bool, cond, List, ℕ, ◌+◌, ltb}
use Rattle.std.proofs.lemmas.List.Edits.{sets}
use Rattle.lowering.specs.Search.{seek}

-- a full region is left as it is
unfoldable pub appended_count : ℕ → ℕ → ℕ
appended_count n room = cond (ltb n room) (n + 1) n

unfoldable pub appended_words : ℕ → ℕ → List ℕ → ℕ → List ℕ → List ℕ
appended_words n room W at entry = cond (ltb n room) (sets W at entry) W

-- where the entry with the key is, or will be
abbrev pub interned_index : (ℕ → Bool) → ℕ → ℕ
interned_index hit n = seek hit n 0

-- an entry that was found is not written again; any other is appended
unfoldable pub interned_count : ℕ → ℕ → ℕ → ℕ
interned_count index n room = cond (ltb index n) n (appended_count n room)

unfoldable pub interned_words : ℕ → ℕ → ℕ → List ℕ → ℕ → List ℕ → List ℕ
interned_words index n room W at entry = cond (ltb index n) W (appended_words n room W at entry)

-- what appending to the words W gives: the count r and the words U
abbrev pub Appends : ℕ → ℕ → List ℕ → ℕ → List ℕ → List ℕ → ℕ → Type 0
Appends n room W at entry U r = (r ≡ appended_count n room) × (U ≡ appended_words n room W at entry)

-- what interning gives: the index k, the count r and the words U
abbrev pub Interns : (ℕ → Bool) → ℕ → ℕ → List ℕ → ℕ → List ℕ → List ℕ → ℕ → ℕ → Type 0
Interns hit n room W at entry U k r =
    let i = interned_index hit n in
    (k ≡ i) × (r ≡ interned_count i n room) × (U ≡ interned_words i n room W at entry)
