-- The length of a program image: what each section's entries take, and 50 bytes besides. Assumes nothing.
use mathlib.Core.Path.{◌≡◌}
use mathlib.Core.List.{List, [], ◌∷◌}
use Prim.Native.Nat.{ℕ, ◌+◌}
use native.Mathlib.Omega.{arith}
use lib.ListN.{length}
use Rattle.wire.specs.Bytes.{be}
use Rattle.wire.proofs.Numbers.{be_length}
use Rattle.wire.specs.Reader.{entries, list}
use Rattle.ast.specs.Tree.{Name}
use Rattle.program.specs.Counts.{numbers}
use Rattle.program.specs.Program.{MemberEntry, root_var, root_temp, root_other, MemberStore, QueryCall, Program}
use Rattle.program.specs.Image.{bit, word_of, put_instruction, put_text, put_post, put_name, put_member, put_root, put_store, put_call, put_depths, put_closing, put_program, image}

-- what the entries weigh together
module _ {A : Type 0} (f : A → ℕ) where
  abbrev pub sum : List A → ℕ
  sum [] = 0
  sum (x ∷ xs) = f x + sum xs

-- as many times k
abbrev pub weigh : {A : Type 0} → ℕ → List A → ℕ
weigh k xs = sum (λ x. k) xs

-- an entry is written in f of it bytes
abbrev Takes : {A : Type 0} → (A → List ℕ → List ℕ) → (A → ℕ) → Type 0
Takes {A} put f = (a : A) (r : List ℕ) → length (put a r) ≡ f a + length r

module _ {A : Type 0} (put : A → List ℕ → List ℕ) (f : A → ℕ) (h : Takes put f) where
  entries_take : Takes (entries put) (sum f)
  unfolding entries
  entries_take [] r = omega arith
  entries_take (a ∷ xs) r = let i = h a (entries put xs r) in let j = entries_take xs r in omega arith

  list_takes : (k : ℕ) → Takes (list put k) (λ xs. k + sum f xs)
  unfolding list
  list_takes k xs r = let i = be_length k (length xs) (entries put xs r) in let j = entries_take xs r in omega arith

-- the kinds of entries
numbers_take : (n k : ℕ) → Takes (list (be n) k) (λ xs. k + weigh n xs)
numbers_take n = list_takes (be n) (λ v. n) (be_length n)

bytes_weigh : (t : List ℕ) → weigh 1 t ≡ length t
bytes_weigh [] = omega arith
bytes_weigh (x ∷ t) = let h = bytes_weigh t in omega arith

instruction_takes : Takes put_instruction (λ i. 8)
unfolding put_instruction
instruction_takes i r =
    let b = be 2 (word_of i).b r in
    let a = be 4 (word_of i).a b in
    let s = be 1 (word_of i).sub a in
    omega (arith, be_length 1 (word_of i).opcode s, be_length 1 (word_of i).sub a, be_length 4 (word_of i).a b, be_length 2 (word_of i).b r)

post_takes : Takes put_post (λ p. 8)
unfolding put_post
post_takes p r = omega (arith, be_length 4 p.scale (be 4 p.offset r), be_length 4 p.offset r)

text_takes : Takes put_text (λ t. 2 + length t)
unfolding put_text
text_takes t r = omega (arith, numbers_take 1 2 t r, bytes_weigh t)

abbrev pub name_bytes : Name → ℕ
name_bytes n = 10 + length n.text

name_takes : Takes put_name name_bytes
unfolding put_name
name_takes n r = omega (arith, be_length 8 n.hash (put_text n.text r), text_takes n.text r)

abbrev pub member_bytes : MemberEntry → ℕ
member_bytes m = 12 + (length m.text + length m.report)

member_takes : Takes put_member member_bytes
unfolding put_member
member_takes m r = omega (arith, be_length 8 m.hash (put_text m.text (put_text m.report r)), text_takes m.text (put_text m.report r), text_takes m.report r)

root_takes : Takes put_root (λ x. 3)
unfolding put_root
root_takes (root_var n) r = omega (arith, be_length 1 0 (be 2 n r), be_length 2 n r)
root_takes (root_temp n) r = omega (arith, be_length 1 1 (be 2 n r), be_length 2 n r)
root_takes root_other r = omega (arith, be_length 1 2 (be 2 0 r), be_length 2 0 r)

abbrev pub store_bytes : MemberStore → ℕ
store_bytes s = 5 + weigh 8 s.path

store_takes : Takes put_store store_bytes
unfolding put_store
store_takes s r = omega (arith, root_takes s.root (list (be 8) 2 s.path r), numbers_take 8 2 s.path r)

abbrev pub call_bytes : QueryCall → ℕ
call_bytes c = 5 + weigh 4 c.starts

call_takes : Takes put_call call_bytes
unfolding put_call
call_takes c r =
    let s = list (be 4) 2 c.starts r in
    omega (arith, be_length 2 c.index (be 1 c.impl s), be_length 1 c.impl s, numbers_take 4 2 c.starts r)

-- the closing fields
depths_take : Takes put_depths (λ d. 6)
unfolding put_depths
depths_take d = entries_take (be 2) (λ v. 2) (be_length 2) (numbers d)

closing_takes : Takes put_closing (λ P. 9)
unfolding put_closing
closing_takes P r =
    let s = be 1 (bit P.float_loop) r in
    omega (arith, depths_take P.depths (be 2 P.flags s), be_length 2 P.flags s, be_length 1 (bit P.float_loop) r)

-- the entries of the nine sections
abbrev pub entry_bytes : Program → ℕ
entry_bytes P =
    weigh 8 P.code + weigh 4 P.consts + weigh 8 P.posts + weigh 8 P.hashes + sum name_bytes P.names + weigh 2 P.temps
    + sum member_bytes P.members + sum store_bytes P.stores + sum call_bytes P.calls

-- nine counts and the closing fields
pub program_length : (P : Program) → length (put_program P []) ≡ 45 + entry_bytes P
unfolding put_program
program_length P =
    let r9 = put_closing P [] in
    let r8 = list put_call 4 P.calls r9 in
    let r7 = list put_store 4 P.stores r8 in
    let r6 = list put_member 4 P.members r7 in
    let r5 = list (be 2) 4 P.temps r6 in
    let r4 = list put_name 4 P.names r5 in
    let r3 = list (be 8) 4 P.hashes r4 in
    let r2 = list put_post 4 P.posts r3 in
    let r1 = list (be 4) 4 P.consts r2 in
    omega (
      arith,
      list_takes put_instruction _ instruction_takes 4 P.code r1,
      numbers_take 4 4 P.consts r2,
      list_takes put_post _ post_takes 4 P.posts r3,
      numbers_take 8 4 P.hashes r4,
      list_takes put_name _ name_takes 4 P.names r5,
      numbers_take 2 4 P.temps r6,
      list_takes put_member _ member_takes 4 P.members r7,
      list_takes put_store _ store_takes 4 P.stores r8,
      list_takes put_call _ call_takes 4 P.calls r9,
      closing_takes P [],
    )

-- and the header
pub image_length : (P : Program) → length (image P) ≡ 50 + entry_bytes P
unfolding image
image_length P =
    let r = put_program P [] in
    omega (arith, program_length P, be_length 1 1 (be 4 (length r) r), be_length 4 (length r) r)
