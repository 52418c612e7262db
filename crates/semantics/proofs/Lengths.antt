-- The length of a tree's program image, by the tree's bytes: one weight for each section's entries, in bytes. Assumes nothing.
use mathlib.Core.Path.{◌≡◌, refl}
use mathlib.Core.List.{List, [], ◌∷◌, map}
use Prim.Native.Nat.{ℕ, ◌≤◌, ◌+◌, ◌*◌}
use native.Mathlib.Omega.{arith}
use lib.ListN.{length}
use Rattle.ast.specs.Tree.{Payload, p_none, Tree}
use Rattle.program.specs.Program.{MemberStore}
use Rattle.program.specs.Fits.{Every}
use Rattle.program.specs.Image.{image}
use Rattle.program.proofs.Length.{name_bytes, member_bytes, store_bytes, call_bytes, entry_bytes, image_length}
use Rattle.semantics.proofs.Costs.{Weight, sum, weigh_map, member_weight, store_weight, call_weight, sz}
use Rattle.semantics.proofs.CostedRules.{pay, own}
use Rattle.semantics.proofs.Sizes.{held, bytes, mass, weighed, scaled, code_weigh}
use Rattle.semantics.proofs.Ranges.{FitRead}
use Rattle.semantics.specs.Link.{offsets_of, place_call, member_entry, lowered, link, program}
use Rattle.semantics.specs.Positions.{◌⊕◌, past}
use Rattle.ast.specs.Header.{Settings}
use Rattle.semantics.specs.State.{CallInfo, MemberRead}

-- what an entry takes in the image; a member's report, the last text of its path, has 255 bytes at most
abbrev in_bytes : Weight
in_bytes = record { i = 8; co = 4; po = 8; ha = 8; na = name_bytes; te = 2; me = λ n. 269 + length n.text; sa = 0; sm = 5; pa = 8; ca = 5; ar = 4 }

members_take : (xs : List MemberRead) → Every FitRead xs → sum member_bytes (map member_entry xs) ≤ sum (member_weight in_bytes) xs
unfolding member_entry
members_take [] q = omega arith
members_take (x ∷ xs) q = let h = members_take xs q.1 in let i = q.0.last.short in omega arith

stores_take : (xs : List MemberStore) → sum store_bytes xs ≡ sum (store_weight in_bytes) xs
stores_take xs = refl

calls_take : (b : ℕ) (xs : List CallInfo) → sum call_bytes (map (place_call b) xs) ≡ sum (call_weight in_bytes) xs
unfolding place_call
calls_take b [] = refl
calls_take b (x ∷ xs) = let h = calls_take b xs in let i = weigh_map 4 (b ⊕◌) (offsets_of x.offsets) in omega arith

-- what a node pays, against its bytes: a name's node has 25 and its text
abbrev paid : Payload → ℕ
paid v = own in_bytes + pay in_bytes v + 12

paid_held : (v : Payload) → 25 * paid v ≤ 347 * held v
unfolding pay
paid_held p_none = omega arith
paid_held _ = omega arith

module _ (S : Settings) (t : Tree) (short : Every FitRead (lowered S t).state.pools.members) where
  entries_paid : entry_bytes (program S t) ≤ mass paid t + 4
  unfolding program link sz
  entries_paid =
      let x = lowered S t in
      let s = x.state.pools in
      let h = weighed in_bytes paid (λ v. omega arith) S t in
      let c = code_weigh in_bytes x in
      let m = members_take s.members short in
      let o = stores_take s.stores in
      let a = calls_take (past x.code 0) s.calls in omega arith

  -- THE LENGTH
  pub length_bytes : 25 * length (image (program S t)) ≤ 347 * bytes t + 1350
  length_bytes = let h = entries_paid in let i = scaled 25 347 paid held paid_held t in let j = image_length (program S t) in omega arith
