-- The program of every image that questions 2 to 4 accept stays within the workspace's regions, refused or not. Assumes nothing.
use Prim.Native.Nat.{ℕ}
use mathlib.Core.Path.{◌≡◌}
use mathlib.Core.List.{List}
use native.Mathlib.Omega.{arith}
use Rattle.wire.specs.Bytes.{Bytes}
use Rattle.ast.specs.Node.{parse}
use Rattle.ast.specs.Questions.{questions}
use Rattle.ast.specs.Header.{settings}
use Rattle.semantics.specs.Link.{program}
use Rattle.semantics.specs.Regions.{Regions}
use Rattle.semantics.proofs.Sizes.{nodes_bytes, sizes}
use Rattle.semantics.proofs.AcceptedTrees.{parsed_short}

pub regions : (tree : List ℕ) → Bytes tree → questions tree ≡ 0 → Regions (program (settings tree) (parse tree))
regions tree small passed =
    let z = sizes (settings tree) (parse tree) in
    let n = nodes_bytes (parse tree) in
    let b = parsed_short tree small passed in
    record {
      code = omega arith;
      consts = omega arith;
      posts = omega arith;
      hashes = omega arith;
      names = omega arith;
      temps = omega arith;
      members = omega arith;
      stores = omega arith;
      paths = omega arith;
      calls = omega arith;
      arguments = omega arith;
    }
