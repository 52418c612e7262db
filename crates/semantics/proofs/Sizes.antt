use Rattle.ast.specs.Encode.{payload_size}
use mathlib.Core.Path.{◌≡◌, refl}
use mathlib.Core.List.{List, [], ◌∷◌, map}
use Prim.Native.Nat.{ℕ, suc, ◌≤◌, ◌+◌, ◌*◌}
use native.Mathlib.Omega.{arith}
use native.Mathlib.Nat.{mul-zero, mul-add}
use lib.ListN.{length, length-map}
use Rattle.ast.specs.Tree.{Name, Payload, p_name, Tree, node, Forest, nil, cons}
use Rattle.program.specs.Program.{MemberStore, Program}
use Rattle.semantics.proofs.CostedRules.{named, pay, own, cost, costs, sized}
use Rattle.semantics.proofs.Costs.{Weight, sum, weigh, weigh_append, weigh_map, count_least, store_weight, call_weight, sz, size}
pub use Rattle.semantics.proofs.Costs.{weigh_length}
use Rattle.semantics.specs.Link.{settle, place_segments, offsets_of, place_call, member_entry, lowered, link, program}
use Rattle.semantics.specs.Pieces.{Lowered}
use Rattle.semantics.specs.Positions.{◌⊕◌, past}
use Rattle.semantics.specs.Regions.{path_entries, argument_starts}
use Rattle.ast.specs.Header.{Settings}
use Rattle.semantics.specs.State.{Item, CallInfo}

-- Sizes of the program, by the tree's nodes and bytes: what the workspace's regions must hold. Assumes nothing.

-- a sum over the nodes
module _ (m : Payload → ℕ) where
  unfoldable mutual
    pub mass : Tree → ℕ
    mass (node r p v ts) = m v + masses ts

    pub masses : Forest → ℕ
    masses nil = 0
    masses (cons t ts) = mass t + masses ts

abbrev pub nodes : Tree → ℕ
nodes t = mass (λ v. 1) t

abbrev pub held : Payload → ℕ
held v = 16 + payload_size v

abbrev pub bytes : Tree → ℕ
bytes t = mass held t

-- nodes that pay for what they may weigh
module _ (w : Weight) (m : Payload → ℕ) (enough : (v : Payload) → own w + pay w v + w.i + w.ar ≤ m v) where
  mutual
    unfolding cost mass

    pub all_paid : (t : Tree) → cost w t + w.i + w.ar ≤ mass m t
    all_paid (node r p v ts) = let a = enough v in let b = alls_paid ts in omega arith

    alls_paid : (ts : Forest) → costs w ts ≤ masses m ts
    alls_paid nil = omega arith
    alls_paid (cons t ts) = let a = all_paid t in let b = alls_paid ts in omega arith

-- what holds node by node holds of the sums
module _ (a b : ℕ) (m n : Payload → ℕ) (each : (v : Payload) → a * m v ≤ b * n v) where
  mutual
    unfolding mass

    pub scaled : (t : Tree) → a * mass m t ≤ b * mass n t
    scaled (node r p v ts) = omega (arith, each v, all_scaled ts, mul-add a (m v) (masses m ts), mul-add b (n v) (masses n ts))

    all_scaled : (ts : Forest) → a * masses m ts ≤ b * masses n ts
    all_scaled nil = omega (arith, mul-zero a, mul-zero b)
    all_scaled (cons t ts) = omega (arith, scaled t, all_scaled ts, mul-add a (mass m t) (masses m ts), mul-add b (mass n t) (masses n ts))

-- a node takes 16 bytes
pub nodes_bytes : (t : Tree) → 16 * nodes t ≤ bytes t
nodes_bytes t = let h = scaled 16 1 (λ v. 1) held (λ v. omega arith) t in omega arith

abbrev nothing : Weight
nothing = record { i = 0; co = 0; po = 0; ha = 0; na = λ n. 0; te = 0; me = λ n. 0; sa = 0; sm = 0; pa = 0; ca = 0; ar = 0 }

-- a tree's lowering weighs no more than its nodes pay
pub weighed : (w : Weight) (m : Payload → ℕ) → ((v : Payload) → own w + pay w v + w.i + w.ar ≤ m v) → (S : Settings) (t : Tree) → weigh w.i (lowered S t).code + size w (lowered S t).state + w.ar ≤ mass m t
weighed w m enough S t = let h = sized w S t in let i = all_paid w m enough t in omega arith

-- k for each node
free : (w : Weight) (k : ℕ) → own w + w.i + w.ar ≤ k → ((n : Name) → named w n ≤ 0) → (v : Payload) → own w + pay w v + w.i + w.ar ≤ k
unfolding pay
free w k e h (p_name j n) = let i = h n in omega arith
free w k e h _ = omega arith

-- at most 16 for a node, and 25 for one with a name
dear : (w : Weight) → own w + w.i + w.ar ≤ 16 → ((n : Name) → own w + w.i + w.ar + named w n ≤ 25) → (v : Payload) → own w + pay w v + w.i + w.ar ≤ held v
unfolding pay
dear w e h (p_name j n) = let i = h n in omega arith
dear w e h _ = omega arith

paths_count : (xs : List MemberStore) → sum (store_weight (record nothing { pa = 25 })) xs ≡ 25 * path_entries xs
paths_count [] = omega arith
paths_count (v ∷ vs) = let h = paths_count vs in let i = weigh_length 25 v.path in omega arith

args_count : (b : ℕ) (xs : List CallInfo) → argument_starts (map (place_call b) xs) ≡ sum (call_weight (record nothing { ar = 1 })) xs
unfolding place_call
args_count b [] = refl
args_count b (v ∷ vs) = let h = args_count b vs in let i = weigh_length 1 (offsets_of v.offsets) in let j = length-map (offsets_of v.offsets) (b ⊕◌) in omega arith

-- code weighs the same where it is placed
placed_weigh : (w : Weight) (b : ℕ) (cs : List (List Item)) → weigh w.i (place_segments cs b) ≡ sum (weigh w.i) cs
unfolding place_segments
placed_weigh w b [] = refl
placed_weigh w b (c ∷ cs) = let h = placed_weigh w (past c b) cs in let i = weigh_map w.i (settle b 0 0) c in let k = weigh_append w.i (map (settle b 0 0) c) (place_segments cs (past c b)) in omega arith

pub code_weigh : (w : Weight) (x : Lowered) → weigh w.i (link x).code ≡ weigh w.i x.code + sum (weigh w.i) x.state.pools.segments
unfolding link
code_weigh w x =
    let b = past x.code 0 in
    let h = placed_weigh w b x.state.pools.segments in
    let i = weigh_map w.i (settle 0 0 0) x.code in
    let j = weigh_append w.i (map (settle 0 0 0) x.code) (place_segments x.state.pools.segments b) in omega arith

-- THE SIZES
pub record Sizes (n m : ℕ) (P : Program) : Type 0 where
  pub code : length P.code ≤ 3 * n
  pub consts : length P.consts ≤ n
  pub posts : length P.posts ≤ suc n
  pub hashes : length P.hashes ≤ n
  pub calls : length P.calls ≤ n
  pub args : argument_starts P.calls ≤ n
  pub names : 25 * length P.names ≤ m
  pub temps : 25 * length P.temps ≤ m
  pub members : 25 * length P.members ≤ m
  pub stores : 41 * length P.stores ≤ m
  pub paths : 25 * path_entries P.stores ≤ m

module _ (S : Settings) (t : Tree) where
  by_nodes : (w : Weight) (k : ℕ) → own w + w.i + w.ar ≤ k → ((n : Name) → named w n ≤ 0) → weigh w.i (lowered S t).code + size w (lowered S t).state ≤ mass (λ v. k) t
  by_nodes w k e h = let i = weighed w (λ v. k) (free w k e h) S t in omega arith

  by_bytes : (w : Weight) → own w + w.i + w.ar ≤ 16 → ((n : Name) → own w + w.i + w.ar + named w n ≤ 25) → weigh w.i (lowered S t).code + size w (lowered S t).state ≤ bytes t
  by_bytes w e h = let i = weighed w held (dear w e h) S t in omega arith

  pub sizes : Sizes (nodes t) (bytes t) (program S t)
  unfolding program link sz
  sizes =
      let x = lowered S t in
      let s = x.state.pools in
      let b = past x.code 0 in
      record {
        code = omega (arith, by_nodes (record nothing { i = 1 }) 3 (omega arith) (λ n. omega arith), scaled 1 3 (λ v. 3) (λ v. 1) (λ v. omega arith) t, code_weigh (record nothing { i = 1 }) x, weigh_length 1 (link x).code);
        consts = omega (arith, by_nodes (record nothing { co = 1 }) 1 (omega arith) (λ n. omega arith), weigh_length 1 s.consts);
        posts = omega (arith, by_nodes (record nothing { po = 1 }) 1 (omega arith) (λ n. omega arith), weigh_length 1 s.posts);
        hashes = omega (arith, by_nodes (record nothing { ha = 1 }) 1 (omega arith) (λ n. omega arith), weigh_length 1 s.hashes);
        calls = omega (arith, by_nodes (record nothing { ca = 1 }) 1 (omega arith) (λ n. omega arith), count_least 1 (call_weight (record nothing { ca = 1 })) (λ v. omega arith) s.calls, length-map s.calls (place_call b));
        args = omega (arith, by_nodes (record nothing { ar = 1 }) 1 (omega arith) (λ n. omega arith), args_count b s.calls);
        names = omega (arith, by_bytes (record nothing { na = λ n. 25 }) (omega arith) (λ n. omega arith), weigh_length 25 s.names);
        temps = omega (arith, by_bytes (record nothing { te = 25 }) (omega arith) (λ n. omega arith), weigh_length 25 s.temps);
        members = omega (arith, by_bytes (record nothing { me = λ n. 25 }) (omega arith) (λ n. omega arith), weigh_length 25 s.members, length-map s.members member_entry);
        stores = omega (arith, by_bytes (record nothing { sa = 16; sm = 9 }) (omega arith) (λ n. omega arith), count_least 41 (store_weight (record nothing { sa = 16; sm = 9 })) (λ v. omega arith) s.stores);
        paths = omega (arith, by_bytes (record nothing { pa = 25 }) (omega arith) (λ n. omega arith), paths_count s.stores);
      }
