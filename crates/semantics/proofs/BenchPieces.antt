-- The bench pieces M1 to M12 of 01, computed from the definitions as one table. Assumes nothing.
use mathlib.Core.Path.{◌≡◌, refl}
use mathlib.Core.List.{List, map}
use Prim.Native.Nat.{ℕ, zero, suc}
use lib.ListN.{length}
use Rattle.program.specs.Program.{Program}
use Rattle.program.specs.Image.{word_of, read}
use Rattle.semantics.proofs.Opens.{computing}
use Rattle.semantics.specs.Link.{program_image}
use Rattle.semantics.specs.Answer.{answer}
use Rattle.semantics.specs.BenchPieces.{Outcome, accepted, refused, Piece, pieces}

-- the bytes of a program image, and the program that is read in them
abbrev listing : ℕ → List ℕ → Program → Outcome
listing n card P = accepted n card (map word_of P.code) (map (λ c. c.starts) P.calls) P.depths P.flags P.float_loop

-- by a call's number and length, and the program image
abbrev outcome_of : ℕ → ℕ → List ℕ → Outcome
outcome_of zero n card = listing n card (read card)
outcome_of (suc r) n card = refused (suc r)

-- a tree image's length, and what a call with a workspace of 16,384 words and an output of 65,536 bytes gives
record Findings : Type 0 where
  size : ℕ
  outcome : Outcome

abbrev found : Piece → Findings
found p =
    let a = answer p.tree 16384 65536 in
    record { size = length p.tree; outcome = outcome_of a.number a.length (program_image p.tree) }

abbrev given : Piece → Findings
given p = record { size = p.size; outcome = p.outcome }

-- M1 to M12 of 01
bench_pieces : map found pieces ≡ map given pieces
unfolding computing
bench_pieces = refl
