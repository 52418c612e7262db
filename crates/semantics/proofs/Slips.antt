-- 01, Slips to rule out: four trees on which a slip would show, computed from the definitions as one table. Assumes nothing.
use mathlib.Core.Path.{◌≡◌, refl}
use mathlib.Core.List.{List, [], ◌∷◌, map}
use Prim.Native.Nat.{ℕ}
use Rattle.numeric.specs.Post.{identity}
use Rattle.numeric.specs.PostOp.{post}
use Rattle.ast.specs.Tree.{p_none, p_hash, p_name, p_query, Tree, node, nil, cons}
use Rattle.ast.specs.Encode.{image}
use Rattle.program.specs.Program.{Program}
use Rattle.program.specs.Image.{Word, word, word_of, read}
use Rattle.semantics.proofs.Opens.{computing}
use Rattle.semantics.specs.Link.{program_image}
use Rattle.semantics.specs.BenchPieces.{this, query, conditional, assignment, leaf, pair, float}

-- the instructions and the two pools that a slip would change
record Listing : Type 0 where
  code : List Word
  consts : List ℕ
  hashes : List ℕ

-- a tree and what its program lists
record Slip : Type 0 where
  tree : Tree
  lists : Listing

-- "Folding a statement list's last constant with scale (it is the offset alone)": offset 1.0 under an infinite scale, which no fold keeps
abbrev folded_list : Slip
folded_list = record {
  tree = node 28 (post 0x7f80_0000 0x3f80_0000) p_none nil;
  lists = record { code = word 1 0 0 0 ∷ word 48 0 0 0 ∷ []; consts = 0x3f80_0000 ∷ []; hashes = [] };
}

-- "EqConst from a Hash payload's low 32 bits (equality gives EqHash ..)"
abbrev hashed_equal : Slip
hashed_equal = record {
  tree = node 22 identity (p_hash 0x1_0000_0002) (cons (leaf this) nil);
  lists = record { code = word 4 0 0 0 ∷ word 27 0 0 0 ∷ word 48 0 0 0 ∷ []; consts = []; hashes = 0x1_0000_0002 ∷ [] };
}

-- "A jump in an argument without its segment's start": the argument stands from 2 on
abbrev argument_jump : Slip
argument_jump = record {
  tree = node query identity (p_query 0 0) (cons (pair conditional (leaf this) (float 0x3f80_0000)) nil);
  lists = record {
    code = word 39 0 0 0 ∷ word 48 0 0 0 ∷ word 4 0 0 0 ∷ word 33 0 6 0 ∷ word 1 0 0 0 ∷ word 32 0 7 0 ∷ word 1 0 1 0 ∷ word 48 0 0 0 ∷ [];
    consts = 0x3f80_0000 ∷ 0 ∷ [];
    hashes = [];
  };
}

-- "Storing under MemberAccessor when its payload is Entity (it is StoreVar)"
abbrev member_variable : Slip
member_variable = record {
  tree = pair assignment (node 16 identity (p_name 4 (record { hash = 5; text = 97 ∷ [] })) nil) (float 0x3f80_0000);
  lists = record { code = word 1 0 0 0 ∷ word 10 0 0 0 ∷ word 48 0 0 0 ∷ []; consts = 0x3f80_0000 ∷ []; hashes = [] };
}

abbrev slips : List Slip
slips = folded_list ∷ hashed_equal ∷ argument_jump ∷ member_variable ∷ []

abbrev listing : Program → Listing
listing P = record { code = map word_of P.code; consts = P.consts; hashes = P.hashes }

ruled_out : map (λ s. listing (read (program_image (image 0 0 s.tree)))) slips ≡ map (λ s. s.lists) slips
unfolding computing
ruled_out = refl
