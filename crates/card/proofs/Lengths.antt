-- How long the parts of the image are. Assumes nothing.
use mathlib.Core.Path.{◌≡◌, ap₂, sym, ◌∙◌}
use mathlib.Core.List.{List, [], ◌++◌}
use Prim.Native.Nat.{ℕ, zero, suc, ◌+◌, ◌*◌}
use native.Mathlib.Nat.{mul-suc, mul-zero}
use native.Mathlib.Omega.{arith}
use lib.ListN.{length, length-append}
use Rattle.wire.specs.Bytes.{be}
use Rattle.card.specs.declared.Sections.{Sections}
use Rattle.card.specs.declared.TheConstants.{CLOSING}
use Rattle.workspace.specs.Layout.{TEMPS}
use Rattle.card.specs.Written.{cat, joined}
pub use Rattle.card.proofs.Join.{run_length, field_length, no_entries, entry_more}
use Rattle.card.specs.Image.{word_entry, half_entry, byte_entry, instruction_bytes, instruction_entry, const_entry, code_section, consts_section, posts_section, hashes_section, temps_section, closing_bytes}

-- entries of one size
alike : (f : ℕ → List ℕ) (k n : ℕ) → ((i : ℕ) → length (f i) ≡ k) → length (cat f n) ≡ k * n
unfolding cat
alike f k zero h = sym (mul-zero k)
alike f k (suc n) h = length-append (cat f n) (f n) ∙ ap₂ (λ a b. a + b) (alike f k n h) (h n) ∙ sym (mul-suc k n)

pub words : (ws : List ℕ) (from base n : ℕ) → length (cat (word_entry ws from base) n) ≡ 4 * n
words ws from base n = alike _ 4 n (λ i. field_length 4 _)

instruction_length : (base w a : ℕ) → length (instruction_bytes base w a) ≡ 8
unfolding instruction_bytes
instruction_length base w a = simp (length-append, field_length)

instructions : (ws : List ℕ) (from base n : ℕ) → length (cat (instruction_entry ws from base) n) ≡ 8 * n
instructions ws from base n = alike _ 8 n (λ i. instruction_length base _ _)

-- the entries that have no one size
pub letters : (tree : List ℕ) (from n : ℕ) → length (cat (byte_entry tree from) n) ≡ n
letters tree from n = alike _ 1 n (λ i. field_length 1 _) ∙ omega arith

-- what the check finds the sizes of entries by
pub ruleset lengths = (run_length, field_length, no_entries, entry_more, letters, words)

-- a section whose entries have been counted
pub counted : {e : ℕ} (n : ℕ) (entries : List ℕ) → e ≡ length entries → 4 + e ≡ length (be 4 n [] ++ entries)
counted n entries h = simp (length-append, field_length) (omega (arith, h))

-- the sections whose entries have one size
pub code : (ws : List ℕ) (n m : ℕ) → length (code_section ws n m) ≡ 4 + 8 * (n + m)
unfolding code_section
code ws n m = simp (length-append, field_length, instructions) (omega arith)

pub consts : (ws : List ℕ) (n : ℕ) → length (consts_section ws n) ≡ 4 + 4 * n
unfolding consts_section
consts ws n = let h : length (cat (const_entry ws) n) ≡ 4 * n = alike _ 4 n (λ i. field_length 4 _) in simp (length-append, field_length) (omega arith)

pub posts : (ws : List ℕ) (n : ℕ) → length (posts_section ws n) ≡ 4 + 8 * (n + 1)
unfolding posts_section
posts ws n = simp (length-append, field_length, words) (omega arith)

pub hashes : (ws : List ℕ) (n : ℕ) → length (hashes_section ws n) ≡ 4 + 8 * n
unfolding hashes_section
hashes ws n = simp (length-append, field_length, words) (omega arith)

pub temps : (ws : List ℕ) (n : ℕ) → length (temps_section ws n) ≡ 4 + 2 * n
unfolding temps_section
temps ws n = let h : length (cat (half_entry ws TEMPS) n) ≡ 2 * n = alike _ 2 n (λ i. field_length 2 _) in simp (length-append, field_length) (omega arith)

pub closing : (c : Sections) → length (closing_bytes c) ≡ CLOSING
unfolding closing_bytes joined
closing c = simp (length-append, field_length)
