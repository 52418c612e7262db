-- Reading a written program image gives the program back where its fields fit. Assumes nothing.
use mathlib.Core.Path.{◌≡◌, refl, ap}
use mathlib.Core.Bool.{Bool, true, false}
use mathlib.Core.List.{List, [], ◌∷◌}
use Prim.Native.Nat.{ℕ, ◌^◌, ◌<◌}
use native.Mathlib.Omega.{arith}
use lib.ListN.{length}
use Rattle.wire.specs.Bytes.{be}
use Rattle.wire.specs.Reader.{Got, got, u, entries, list, lists}
use Rattle.wire.proofs.ReadBack.{Back, All, u_back, and_back, list_back}
use Rattle.numeric.specs.Post.{Post}
use Rattle.ast.specs.Tree.{Name}
use Rattle.program.specs.Instruction.{const, add_last, load_var, div_guard, each_next_var, Instruction, plain, taking, reading, guard, each_next}
use Rattle.program.specs.Counts.{Counts}
use Rattle.program.specs.Program.{MemberEntry, StoreRoot, root_var, root_temp, root_other, MemberStore, QueryCall, Program}
use Rattle.program.specs.Image.{bit, is_set, word_of, shapes, instruction_of, put_instruction, get_instruction, put_text, get_text, put_post, get_post, put_name, get_name, put_member, get_member, put_root, root_of, get_root, put_store, get_store, put_call, get_call, put_depths, get_depths, put_closing, put_program, get_program, image, read}
use Rattle.program.specs.Fits.{Below, Every, Listed, FitInstruction, FitPost, FitName, FitMember, root_index, FitStore, FitCall, FitCounts, FitProgram}

instruction_word : (i : Instruction) → instruction_of (word_of i) ≡ i
unfolding word_of instruction_of shapes bit is_set
instruction_word (plain (const c)) = refl
instruction_word (taking (add_last p)) = refl
instruction_word (reading (load_var n p)) = refl
instruction_word (guard (div_guard true) t) = refl
instruction_word (guard (div_guard false) t) = refl
instruction_word (each_next (each_next_var n) t) = refl
instruction_word i = refl

instruction_back : (i : Instruction) → FitInstruction i → Back put_instruction get_instruction i
unfolding put_instruction get_instruction
instruction_back i h r = and_back _ _ (u_back 1 (word_of i).opcode h.opcode _) (and_back _ _ (u_back 1 (word_of i).sub h.sub _) (and_back _ _ (u_back 4 (word_of i).a h.a _) (and_back _ _ (u_back 2 (word_of i).b h.b r) (ap (λ x. got x r) (instruction_word i)))))

-- lists whose entries are read back
each_back : {A : Type 0} {Q : A → Type 0} (put : A → List ℕ → List ℕ) (get : List ℕ → Got A) → ((a : A) → Q a → Back put get a) → (xs : List A) → Every Q xs → All put get xs
each_back put get h [] q = tt
each_back put get h (a ∷ xs) q = (h a q.0, each_back put get h xs q.1)

listed_back : {A : Type 0} {Q : A → Type 0} (put : A → List ℕ → List ℕ) (get : List ℕ → Got A) → ((a : A) → Q a → Back put get a) → (k : ℕ) (xs : List A) → Listed Q k xs → Back (list put k) (lists get k) xs
listed_back put get h k xs q = list_back put get k xs q.short (each_back put get h xs q.each)

text_back : (t : List ℕ) → Listed (Below 1) 2 t → Back put_text get_text t
unfolding put_text get_text
text_back t h = listed_back (be 1) (u 1) (u_back 1) 2 t h

post_back : (p : Post) → FitPost p → Back put_post get_post p
unfolding put_post get_post
post_back p h r = and_back _ _ (u_back 4 p.scale h.scale _) (and_back _ _ (u_back 4 p.offset h.offset r) refl)

name_back : (n : Name) → FitName n → Back put_name get_name n
unfolding put_name get_name
name_back n h r = and_back _ _ (u_back 8 n.hash h.hash _) (and_back _ _ (text_back n.text h.text r) refl)

member_back : (m : MemberEntry) → FitMember m → Back put_member get_member m
unfolding put_member get_member
member_back m h r = and_back _ _ (u_back 8 m.hash h.hash _) (and_back _ _ (text_back m.text h.text _) (and_back _ _ (text_back m.report h.report r) refl))

root_back : (x : StoreRoot) → Below 2 (root_index x) → Back put_root get_root x
unfolding put_root get_root root_index root_of
root_back (root_var n) h r = and_back _ _ (u_back 1 0 (omega arith) _) (and_back _ _ (u_back 2 n h r) refl)
root_back (root_temp n) h r = and_back _ _ (u_back 1 1 (omega arith) _) (and_back _ _ (u_back 2 n h r) refl)
root_back root_other h r = and_back _ _ (u_back 1 2 (omega arith) _) (and_back _ _ (u_back 2 0 h r) refl)

store_back : (s : MemberStore) → FitStore s → Back put_store get_store s
unfolding put_store get_store
store_back s h r = and_back _ _ (root_back s.root h.root _) (and_back _ _ (listed_back (be 8) (u 8) (u_back 8) 2 s.path h.path r) refl)

call_back : (c : QueryCall) → FitCall c → Back put_call get_call c
unfolding put_call get_call
call_back c h r = and_back _ _ (u_back 2 c.index h.index _) (and_back _ _ (u_back 1 c.impl h.impl _) (and_back _ _ (listed_back (be 4) (u 4) (u_back 4) 2 c.starts h.starts r) refl))

depths_back : (d : Counts) → FitCounts d → Back put_depths get_depths d
unfolding put_depths get_depths entries
depths_back d h r = and_back _ _ (u_back 2 d.operands h.0 _) (and_back _ _ (u_back 2 d.loops h.1.0 _) (and_back _ _ (u_back 2 d.handlers h.1.1.0 r) refl))

bit_small : (b : Bool) → Below 1 (bit b)
unfolding bit
bit_small true = omega arith
bit_small false = omega arith

bit_back : (b : Bool) → is_set (bit b) ≡ b
unfolding bit is_set
bit_back true = refl
bit_back false = refl

program_back : (P : Program) → FitProgram P → Back put_program get_program P
unfolding put_program get_program put_closing
program_back P h r =
    and_back _ _ (listed_back put_instruction get_instruction instruction_back 4 P.code h.code _)
    (and_back _ _ (listed_back (be 4) (u 4) (u_back 4) 4 P.consts h.consts _)
    (and_back _ _ (listed_back put_post get_post post_back 4 P.posts h.posts _)
    (and_back _ _ (listed_back (be 8) (u 8) (u_back 8) 4 P.hashes h.hashes _)
    (and_back _ _ (listed_back put_name get_name name_back 4 P.names h.names _)
    (and_back _ _ (listed_back (be 2) (u 2) (u_back 2) 4 P.temps h.temps _)
    (and_back _ _ (listed_back put_member get_member member_back 4 P.members h.members _)
    (and_back _ _ (listed_back put_store get_store store_back 4 P.stores h.stores _)
    (and_back _ _ (listed_back put_call get_call call_back 4 P.calls h.calls _)
    (and_back _ _ (depths_back P.depths h.depths _)
    (and_back _ _ (u_back 2 P.flags h.flags _)
    (and_back _ _ (u_back 1 (bit P.float_loop) (bit_small P.float_loop) r)
    (ap (λ x. got (record { code = P.code; consts = P.consts; posts = P.posts; hashes = P.hashes; names = P.names; temps = P.temps; members = P.members; stores = P.stores; calls = P.calls; depths = P.depths; flags = P.flags; float_loop = x }) r) (bit_back P.float_loop)))))))))))))

-- a program that fits is read back from its image
pub read_image : (P : Program) → FitProgram P → length (put_program P []) < 256 ^ 4 → read (image P) ≡ P
unfolding image read
read_image P h l = ap (λ x. x.val) (and_back _ _ (u_back 1 1 (omega arith) _) (and_back _ _ (u_back 4 (length (put_program P [])) l _) (program_back P h [])))
