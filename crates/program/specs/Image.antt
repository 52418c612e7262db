-- The program image: its bytes, and the program that is read in bytes. Definitions only.
use Rattle.std.specs.Prelude.{Bool, true, false, List, [], ◌∷◌, ℕ, zero, suc, length, get_or}
use Rattle.wire.specs.Bytes.{be}
use Rattle.wire.specs.Reader.{Got, got, ◌>>=◌, ◌and◌, u, entries, list, lists}
use Rattle.numeric.specs.Post.{Post}
use Rattle.ast.specs.Tree.{Name}
use Rattle.program.specs.Instruction as I
use Rattle.program.specs.Instruction.{Instruction}
use Rattle.program.specs.Counts.{Counts, numbers}
use Rattle.program.specs.Program.{MemberEntry, StoreRoot, root_var, root_temp, root_other, MemberStore, QueryCall, Program}

-- 01, The program image: "An instruction is 8 bytes: opcode, sub, A (4), B (2)."
pub record Word : Type 0 where
  pub opcode : ℕ
  pub sub : ℕ
  pub a : ℕ
  pub b : ℕ

abbrev pub word : ℕ → ℕ → ℕ → ℕ → Word
word o s a b = record { opcode = o; sub = s; a = a; b = b }

unfoldable pub bit : Bool → ℕ
bit false = 0
bit true = 1

unfoldable pub is_set : ℕ → Bool
is_set zero = false
is_set (suc n) = true

-- 01, The program image: "Sub: .. A is the target or pool index, or HostMath's function, else 0. B is the post;
-- in EachNextVar and EachNextTemp, A is the exit and B the variable; else 0."
unfoldable pub word_of : Instruction → Word
word_of (I.plain (I.const c)) = word 1 0 c 0
word_of (I.plain (I.hash h)) = word 2 0 h 0
word_of (I.plain (I.resource h)) = word 3 0 h 0
word_of (I.plain (I.this p)) = word 4 0 0 p
word_of (I.reading (I.load_var n p)) = word 5 0 n p
word_of (I.reading (I.load_temp n p)) = word 6 0 n p
word_of (I.reading (I.load_ctx n p)) = word 7 0 n p
word_of (I.reading (I.array_element n p)) = word 8 0 n p
word_of (I.reading (I.member n p)) = word 9 0 n p
word_of (I.plain (I.store_var n p)) = word 10 0 n p
word_of (I.plain (I.store_temp n p)) = word 11 0 n p
word_of (I.plain (I.store_member n p)) = word 12 0 n p
word_of I.push = word 13 0 0 0
word_of (I.push_const c) = word 14 0 c 0
word_of (I.plain (I.negate p)) = word 15 0 0 p
word_of (I.plain (I.not p)) = word 16 0 0 p
word_of (I.plain I.add_acc) = word 17 0 0 0
word_of (I.taking (I.add_last p)) = word 18 0 0 p
word_of (I.taking (I.mul p)) = word 19 0 0 p
word_of (I.guard (I.div_guard d) t) = word 20 (bit d) t 0
word_of (I.taking (I.div p)) = word 21 0 0 p
word_of (I.taking (I.host_math f n p)) = word 22 n f p
word_of (I.taking (I.cmp o p)) = word 23 o 0 p
word_of (I.plain (I.cmp_const o c p)) = word 24 o c p
word_of (I.taking (I.eq o p)) = word 25 o 0 p
word_of (I.plain (I.eq_const o c p)) = word 26 o c p
word_of (I.plain (I.eq_hash o c p)) = word 27 o c p
word_of (I.guard (I.and_step p) t) = word 28 0 t p
word_of (I.guard (I.or_step p) t) = word 29 0 t p
word_of (I.plain (I.and_last p)) = word 30 0 0 p
word_of (I.plain (I.or_last p)) = word 31 0 0 p
word_of (I.jump t) = word 32 0 t 0
word_of (I.guard I.jump_if_falsy t) = word 33 0 t 0
word_of (I.plain (I.post p)) = word 34 0 0 p
word_of (I.handler_push t) = word 35 0 t 0
word_of (I.handler_pop t) = word 36 0 t 0
word_of (I.guard (I.pointer_enter p) t) = word 37 0 t p
word_of (I.plain (I.pointer_leave p)) = word 38 0 0 p
word_of (I.call q p) = word 39 0 q p
word_of (I.loop_begin t) = word 40 0 t 0
word_of (I.loop_check t) = word 41 0 t 0
word_of I.loop_end = word 42 0 0 0
word_of (I.each_begin t) = word 43 0 t 0
word_of (I.each_next (I.each_next_var n) t) = word 44 0 t n
word_of (I.each_next (I.each_next_temp n) t) = word 45 0 t n
word_of (I.return p) = word 46 0 0 p
word_of I.halt = word 47 0 0 0
word_of I.end = word 48 0 0 0

-- the instruction of each opcode from 0 on, by sub, A and B; 0 is none
unfoldable pub shapes : List (ℕ → ℕ → ℕ → Instruction)
shapes =
    (λ s a b. I.halt)
    ∷ (λ s a b. I.plain (I.const a)) ∷ (λ s a b. I.plain (I.hash a)) ∷ (λ s a b. I.plain (I.resource a)) ∷ (λ s a b. I.plain (I.this b))
    ∷ (λ s a b. I.reading (I.load_var a b)) ∷ (λ s a b. I.reading (I.load_temp a b)) ∷ (λ s a b. I.reading (I.load_ctx a b))
    ∷ (λ s a b. I.reading (I.array_element a b)) ∷ (λ s a b. I.reading (I.member a b))
    ∷ (λ s a b. I.plain (I.store_var a b)) ∷ (λ s a b. I.plain (I.store_temp a b)) ∷ (λ s a b. I.plain (I.store_member a b))
    ∷ (λ s a b. I.push) ∷ (λ s a b. I.push_const a)
    ∷ (λ s a b. I.plain (I.negate b)) ∷ (λ s a b. I.plain (I.not b)) ∷ (λ s a b. I.plain I.add_acc) ∷ (λ s a b. I.taking (I.add_last b))
    ∷ (λ s a b. I.taking (I.mul b))
    ∷ (λ s a b. I.guard (I.div_guard (is_set s)) a) ∷ (λ s a b. I.taking (I.div b)) ∷ (λ s a b. I.taking (I.host_math a s b))
    ∷ (λ s a b. I.taking (I.cmp s b)) ∷ (λ s a b. I.plain (I.cmp_const s a b))
    ∷ (λ s a b. I.taking (I.eq s b)) ∷ (λ s a b. I.plain (I.eq_const s a b)) ∷ (λ s a b. I.plain (I.eq_hash s a b))
    ∷ (λ s a b. I.guard (I.and_step b) a) ∷ (λ s a b. I.guard (I.or_step b) a)
    ∷ (λ s a b. I.plain (I.and_last b)) ∷ (λ s a b. I.plain (I.or_last b)) ∷ (λ s a b. I.jump a) ∷ (λ s a b. I.guard I.jump_if_falsy a)
    ∷ (λ s a b. I.plain (I.post b))
    ∷ (λ s a b. I.handler_push a) ∷ (λ s a b. I.handler_pop a) ∷ (λ s a b. I.guard (I.pointer_enter b) a)
    ∷ (λ s a b. I.plain (I.pointer_leave b)) ∷ (λ s a b. I.call a b)
    ∷ (λ s a b. I.loop_begin a) ∷ (λ s a b. I.loop_check a) ∷ (λ s a b. I.loop_end) ∷ (λ s a b. I.each_begin a)
    ∷ (λ s a b. I.each_next (I.each_next_var b) a) ∷ (λ s a b. I.each_next (I.each_next_temp b) a)
    ∷ (λ s a b. I.return b) ∷ (λ s a b. I.halt) ∷ (λ s a b. I.end) ∷ []

unfoldable pub instruction_of : Word → Instruction
instruction_of w = get_or shapes w.opcode (λ s a b. I.halt) w.sub w.a w.b

unfoldable pub put_instruction : Instruction → List ℕ → List ℕ
put_instruction i r = be 1 (word_of i).opcode (be 1 (word_of i).sub (be 4 (word_of i).a (be 2 (word_of i).b r)))

unfoldable pub get_instruction : List ℕ → Got Instruction
get_instruction = do
  opcode ← u 1
  sub ← u 1
  a ← u 4
  b ← u 2
  got (instruction_of (word opcode sub a b))

-- 01, The program image: "A text has a 2-byte length."
unfoldable pub put_text : List ℕ → List ℕ → List ℕ
put_text = list (be 1) 2

unfoldable pub get_text : List ℕ → Got (List ℕ)
get_text = lists (u 1) 2

-- 01, The program image: "posts (scale 4, offset 4)"
unfoldable pub put_post : Post → List ℕ → List ℕ
put_post p r = be 4 p.scale (be 4 p.offset r)

unfoldable pub get_post : List ℕ → Got Post
get_post = do
  scale ← u 4
  offset ← u 4
  got (record { scale = scale; offset = offset })

-- 01, The program image: "names (hash 8, text)"
unfoldable pub put_name : Name → List ℕ → List ℕ
put_name n r = be 8 n.hash (put_text n.text r)

unfoldable pub get_name : List ℕ → Got Name
get_name = do
  hash ← u 8
  text ← get_text
  got (record { hash = hash; text = text })

unfoldable pub put_member : MemberEntry → List ℕ → List ℕ
put_member m r = be 8 m.hash (put_text m.text (put_text m.report r))

unfoldable pub get_member : List ℕ → Got MemberEntry
get_member = do
  hash ← u 8
  text ← get_text
  report ← get_text
  got (record { hash = hash; text = text; report = report })

-- 01, The program image: "stores (root 0 Var, 1 Temp, 2 Other; index 2, 0 for Other; path count 2; hashes)"
abbrev pub VAR_ROOT : ℕ
VAR_ROOT = 0

abbrev pub TEMP_ROOT : ℕ
TEMP_ROOT = 1

abbrev pub OTHER_ROOT : ℕ
OTHER_ROOT = 2

unfoldable pub put_root : StoreRoot → List ℕ → List ℕ
put_root (root_var n) r = be 1 VAR_ROOT (be 2 n r)
put_root (root_temp n) r = be 1 TEMP_ROOT (be 2 n r)
put_root root_other r = be 1 OTHER_ROOT (be 2 0 r)

unfoldable pub root_of : ℕ → ℕ → StoreRoot
root_of zero n = root_var n
root_of (suc zero) n = root_temp n
root_of (suc (suc k)) n = root_other

unfoldable pub get_root : List ℕ → Got StoreRoot
get_root = do
  kind ← u 1
  index ← u 2
  got (root_of kind index)

unfoldable pub put_store : MemberStore → List ℕ → List ℕ
put_store s r = put_root s.root (list (be 8) 2 s.path r)

unfoldable pub get_store : List ℕ → Got MemberStore
get_store = do
  root ← get_root
  path ← lists (u 8) 2
  got (record { root = root; path = path })

-- 01, The program image: "calls (index 2, impl_idx 1, argument count 2, starts 4 each)"
unfoldable pub put_call : QueryCall → List ℕ → List ℕ
put_call c r = be 2 c.index (be 1 c.impl (list (be 4) 2 c.starts r))

unfoldable pub get_call : List ℕ → Got QueryCall
get_call = do
  index ← u 2
  impl ← u 1
  starts ← lists (u 4) 2
  got (record { index = index; impl = impl; starts = starts })

-- 01, The program image: "Then stack, loops, handlers (2 each), flags (2), float_loop (1)."
unfoldable pub put_depths : Counts → List ℕ → List ℕ
put_depths d = entries (be 2) (numbers d)

unfoldable pub get_depths : List ℕ → Got Counts
get_depths = do
  operands ← u 2
  loops ← u 2
  handlers ← u 2
  got (record { operands = operands; loops = loops; handlers = handlers })

unfoldable pub put_closing : Program → List ℕ → List ℕ
put_closing P r = put_depths P.depths (be 2 P.flags (be 1 (bit P.float_loop) r))

-- 01, The program image: "Nine sections, each a 4-byte count and its entries"
unfoldable pub put_program : Program → List ℕ → List ℕ
put_program P r =
    list put_instruction 4 P.code (list (be 4) 4 P.consts (list put_post 4 P.posts (list (be 8) 4 P.hashes
    (list put_name 4 P.names (list (be 2) 4 P.temps (list put_member 4 P.members (list put_store 4 P.stores
    (list put_call 4 P.calls (put_closing P r)))))))))

unfoldable pub get_program : List ℕ → Got Program
get_program = do
  code ← lists get_instruction 4
  consts ← lists (u 4) 4
  posts ← lists get_post 4
  hashes ← lists (u 8) 4
  names ← lists get_name 4
  temps ← lists (u 2) 4
  members ← lists get_member 4
  stores ← lists get_store 4
  calls ← lists get_call 4
  depths ← get_depths
  flags ← u 2
  loop ← u 1
  got (record {
    code = code;
    consts = consts;
    posts = posts;
    hashes = hashes;
    names = names;
    temps = temps;
    members = members;
    stores = stores;
    calls = calls;
    depths = depths;
    flags = flags;
    float_loop = is_set loop;
  })

-- 01, The program image: "Byte 0 is 1, then a 4-byte length of the rest."
unfoldable pub image : Program → List ℕ
image P = be 1 1 (be 4 (length (put_program P [])) (put_program P []))

-- the program that a machine reads in bytes
unfoldable pub read : List ℕ → Program
read bytes = ((u 1 and λ v. u 4 and λ n. get_program) bytes).val
