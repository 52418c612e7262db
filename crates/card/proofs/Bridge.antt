-- The image that a workspace stands for is the image of the program that it holds. Assumes nothing.
use mathlib.Core.Path.{◌≡◌, refl, ap, ap₂, sym, ◌∙◌}
use mathlib.Core.List.{List, [], ◌∷◌, ◌++◌, append_assoc, map}
use Prim.Native.Nat.{ℕ, suc, ◌+◌, ◌*◌, ◌/◌, ◌%◌, ◌^◌, ◌<◌}
use native.Mathlib.Numerals.{add-one}
use native.Mathlib.Omega.{arith}
use lib.ListN.{length, get_or, length-append}
use Rattle.wire.specs.Bytes.{be}
use Rattle.wire.specs.Reader.{entries, list}
use Rattle.numeric.specs.Post.{identity}
use Rattle.ast.specs.Tree.{Name}
use Rattle.program.specs.Instruction.{Instruction, halt}
use Rattle.program.specs.Counts.{numbers}
use Rattle.program.specs.Program.{MemberEntry, StoreRoot, root_var, root_temp, root_other, MemberStore, QueryCall, Program}
use Rattle.program.specs.Image.{bit, word_of, put_instruction, put_text, put_post, put_name, put_member, put_root, put_store, put_call, put_depths, put_closing, put_program, image}
use Rattle.program.specs.Targets.{shift_of}
use Rattle.program.specs.Fits.{Below, Every, FitInstruction, FitPost, root_index, FitStore, FitCall, FitProgram}
use Rattle.card.specs.declared.Sections.{Sections}
use Rattle.workspace.specs.Layout.{OPEN, FINISHED, POSTS, HASHES, NAMES, TEMPS, MEMBERS, STORES, PATHS, CALLS, ARGUMENTS}
use Rattle.card.specs.Written.{cat, joined}
use Rattle.workspace.specs.Words.{plus}
use Rattle.card.specs.Image.{word_entry, half_entry, instruction_bytes, instruction_entry, const_entry, dotted_bytes, text_bytes, hash_bytes, name_bytes, name_entry, member_bytes, member_entry, store_bytes, store_at, store_entry, call_bytes, call_at, call_entry, code_section, consts_section, posts_section, hashes_section, names_section, temps_section, members_section, stores_section, calls_section, closing_bytes, sections_of, body_of, image_of}
use Rattle.card.specs.Holds.{Each, InstructionIs, NameIs, MemberIs, root_kind, StoreIs, CallIs, Holds}
use Rattle.card.proofs.Shown.{field, front, every_at, counted, words_are, posts_are, hash_is, hashes_are, text_is, dotted_is}

-- numbers of k bytes, one behind the other
numbers_are : (k : ℕ) (xs : List ℕ) (r : List ℕ) → entries (be k) xs r ≡ joined (map (λ n. be k n []) xs) r
unfolding entries joined
numbers_are k [] r = refl
numbers_are k (x ∷ xs) r = field k refl (numbers_are k xs r)

-- an instruction
pub instruction_is : (ws : List ℕ) (base k : ℕ) (i : Instruction) → InstructionIs ws base k i → FitInstruction i → (r : List ℕ) → put_instruction i r ≡ instruction_bytes base (get_or ws k 0) (get_or ws (k + 1) 0) ++ r
unfolding put_instruction instruction_bytes
instruction_is ws base k i q h r =
    let w = get_or ws k 0 in
    let a = get_or ws (k + 1) 0 in
    let x = word_of i in
    let o : x.opcode ≡ w / 16777216 = omega (arith, q.first, h.opcode, h.sub, h.b) in
    let s : x.sub ≡ w / 65536 % 256 = omega (arith, q.first, h.opcode, h.sub, h.b) in
    let b : x.b ≡ w % 65536 = omega (arith, q.first, h.opcode, h.sub, h.b) in
    let e : x.a ≡ plus a (shift_of (w / 16777216) base) = sym q.second ∙ ap (λ n. plus a (shift_of n base)) o in
    field 1 o (field 1 s (field 4 e (field 2 b refl))) ∙ simp append_assoc

-- names and members
pub name_is : (tree ws : List ℕ) (k : ℕ) (n : Name) → NameIs tree ws k n → (r : List ℕ) → put_name n r ≡ name_bytes tree ws k ++ r
unfolding put_name name_bytes
name_is tree ws k n q r =
    let t = text_bytes tree (get_or ws (k + 2) 0) in
    front _ (hash_is ws k n.hash q.hash _) (text_is tree (get_or ws (k + 2) 0) n.text q.text r)
    ∙ sym (append_assoc (hash_bytes ws k) t r)

pub member_is : (tree ws : List ℕ) (k : ℕ) (m : MemberEntry) → MemberIs tree ws k m → (r : List ℕ) → put_member m r ≡ member_bytes tree ws k ++ r
unfolding put_member member_bytes
member_is tree ws k m q r =
    let s = dotted_bytes tree (get_or ws (k + 4) 0) in
    let t = dotted_bytes tree (get_or ws (k + 5) 0) in
    front _ (hash_is ws k m.hash q.hash _)
    (ap₂ (λ a b. put_text a (put_text b r)) q.text q.report
    ∙ front _ (dotted_is tree (get_or ws (k + 4) 0) q.own q.own_text _) (dotted_is tree (get_or ws (k + 5) 0) q.last q.last_text r))
    ∙ sym (append_assoc (hash_bytes ws k) s (t ++ r)) ∙ sym (append_assoc (hash_bytes ws k ++ s) t r)

-- stores
root_is : (x : StoreRoot) (r : List ℕ) → put_root x r ≡ be 1 (root_kind x) (be 2 (root_index x) r)
unfolding put_root root_kind root_index
root_is (root_var n) r = refl
root_is (root_temp n) r = refl
root_is root_other r = refl

kind_fits : (x : StoreRoot) → root_kind x < 256
unfolding root_kind
kind_fits (root_var n) = omega arith
kind_fits (root_temp n) = omega arith
kind_fits root_other = omega arith

low_byte : {x v : ℕ} → x ≡ v → v < 256 → v ≡ x % 256
low_byte e h = omega arith

low_half : {x v : ℕ} → x ≡ v → v < 256 ^ 2 → v ≡ x % 65536
low_half e h = omega arith

pub store_is : (ws : List ℕ) (k : ℕ) (s : MemberStore) → StoreIs ws k s → FitStore s → (r : List ℕ) → put_store s r ≡ store_at ws k ++ r
unfolding put_store list store_bytes
store_is ws k s q h r =
    let n = length s.path in
    let e : n ≡ get_or ws (k + 3) 0 % 65536 = low_half q.count h.path.short in
    root_is s.root _ ∙ field 1 (low_byte q.kind (kind_fits s.root)) (field 2 (low_half q.index h.root)
    (field 2 e (hashes_are ws (PATHS + 2 * get_or ws (k + 2) 0) s.path e q.path h.path.each r)))
    ∙ simp append_assoc

-- calls
pub call_is : (ws : List ℕ) (base k : ℕ) (c : QueryCall) → CallIs ws base k c → FitCall c → (r : List ℕ) → put_call c r ≡ call_at ws base k ++ r
unfolding put_call list call_bytes
call_is ws base k c q h r =
    let n = length c.starts in
    let e : n ≡ get_or ws (k + 2) 0 % 65536 = low_half q.count h.starts.short in
    field 2 (low_half q.index h.index) (field 1 (low_byte q.impl h.impl)
    (field 2 e (words_are ws (ARGUMENTS + get_or ws (k + 3) 0) base c.starts e q.starts h.starts.each r)))
    ∙ simp append_assoc

-- a section: the count and the entries
section : {A : Type 0} (put : A → List ℕ → List ℕ) (xs : List A) {n : ℕ} (b r : List ℕ) → length xs ≡ n → entries put xs r ≡ b ++ r → list put 4 xs r ≡ (be 4 n [] ++ b) ++ r
unfolding list
section put xs {n} b r e q = field 4 e q ∙ sym (append_assoc (be 4 n []) b r)

entries_append : {A : Type 0} (put : A → List ℕ → List ℕ) (xs ys : List A) (r : List ℕ) → entries put (xs ++ ys) r ≡ entries put xs (entries put ys r)
unfolding entries
entries_append put [] ys r = refl
entries_append put (x ∷ xs) ys r = ap (put x) (entries_append put xs ys r)

every_split : {A : Type 0} (Q : A → Type 0) (xs ys : List A) → Every Q (xs ++ ys) → Every Q xs × Every Q ys
every_split Q [] ys h = (tt, h)
every_split Q (x ∷ xs) ys h = let s = every_split Q xs ys h.1 in ((h.0, s.0), s.1)

module _ (tree ws : List ℕ) (c : Sections) (P : Program) (q : Holds tree ws c P) (h : FitProgram P) where
  instructions : (xs : List Instruction) (from base : ℕ) {n : ℕ} → length xs ≡ n → Each halt (λ k i. InstructionIs ws base (from + 2 * k) i) xs → Every FitInstruction xs
      → (r : List ℕ) → entries put_instruction xs r ≡ cat (instruction_entry ws from base) n ++ r
  instructions xs from base e is fit =
      counted put_instruction halt xs (instruction_entry ws from base) e (λ k l. instruction_is ws base (from + 2 * k) (get_or xs k halt) (is k l) (every_at FitInstruction halt xs fit k l))

  code_is : (r : List ℕ) → list put_instruction 4 P.code r ≡ code_section ws c.code c.finished ++ r
  unfolding code_section
  code_is r =
      let a = cat (instruction_entry ws OPEN 0) c.code in
      let b = cat (instruction_entry ws FINISHED c.code) c.finished in
      let n : length P.code ≡ c.code + c.finished = ap length q.code ∙ length-append q.main q.finished ∙ ap₂ (λ x y. x + y) q.main_count q.finished_count in
      let fit = every_split FitInstruction q.main q.finished (rw q.code at h.code.each) in
      section put_instruction P.code (a ++ b) r n
      (ap (λ l. entries put_instruction l r) q.code ∙ entries_append put_instruction q.main q.finished r
      ∙ instructions q.main OPEN 0 q.main_count q.main_is fit.0 _
      ∙ ap (λ l. a ++ l) (instructions q.finished FINISHED c.code q.finished_count q.finished_is fit.1 r) ∙ sym (append_assoc a b r))
      ∙ ap (λ l. l ++ r) (sym (append_assoc (be 4 (c.code + c.finished) []) a b))

  consts_are : (r : List ℕ) → list (be 4) 4 P.consts r ≡ consts_section ws c.pools.consts ++ r
  unfolding consts_section
  consts_are r =
      section (be 4) P.consts _ r q.consts_count
      (counted (be 4) 0 P.consts (const_entry ws) q.consts_count (λ k l s. field 4 (sym (q.consts k l)) refl) r)

  all_posts : (r : List ℕ) → list put_post 4 P.posts r ≡ posts_section ws c.pools.posts ++ r
  unfolding posts_section put_post entries
  all_posts r =
      let w = cat (word_entry ws POSTS 0) (2 * c.pools.posts) in
      let n : length P.posts ≡ c.pools.posts + 1 = ap length q.posts ∙ ap suc q.posts_count ∙ sym (add-one c.pools.posts) in
      let fit : Every FitPost (identity ∷ q.further) = rw q.posts at h.posts.each in
      section put_post P.posts (be 4 identity.scale [] ++ (be 4 identity.offset [] ++ w)) r n
      (ap (λ l. entries put_post l r) q.posts
      ∙ field 4 refl (field 4 refl (posts_are ws POSTS q.further q.posts_count q.posts_are fit.1 r)) ∙ simp append_assoc)
      ∙ simp append_assoc

  all_hashes : (r : List ℕ) → list (be 8) 4 P.hashes r ≡ hashes_section ws c.pools.hashes ++ r
  unfolding hashes_section
  all_hashes r = section (be 8) P.hashes _ r q.hashes_count (hashes_are ws HASHES P.hashes q.hashes_count q.hashes h.hashes.each r)

  names_are : (r : List ℕ) → list put_name 4 P.names r ≡ names_section tree ws c.pools.names ++ r
  unfolding names_section
  names_are r =
      section put_name P.names _ r q.names_count
      (counted put_name (record { hash = 0; text = [] }) P.names (name_entry tree ws) q.names_count (λ k l. name_is tree ws (NAMES + 3 * k) _ (q.names k l)) r)

  temps_are : (r : List ℕ) → list (be 2) 4 P.temps r ≡ temps_section ws c.pools.temps ++ r
  unfolding temps_section
  temps_are r =
      section (be 2) P.temps _ r q.temps_count
      (counted (be 2) 0 P.temps (half_entry ws TEMPS) q.temps_count
      (λ k l s. field 2 (low_half (q.temps k l) (every_at (Below 2) 0 P.temps h.temps.each k l)) refl) r)

  members_are : (r : List ℕ) → list put_member 4 P.members r ≡ members_section tree ws c.pools.members ++ r
  unfolding members_section
  members_are r =
      section put_member P.members _ r q.members_count
      (counted put_member (record { hash = 0; text = []; report = [] }) P.members (member_entry tree ws) q.members_count (λ k l. member_is tree ws (MEMBERS + 6 * k) _ (q.members k l)) r)

  stores_are : (r : List ℕ) → list put_store 4 P.stores r ≡ stores_section ws c.listed.stores ++ r
  unfolding stores_section
  stores_are r =
      let d : MemberStore = record { root = root_other; path = [] } in
      section put_store P.stores _ r q.stores_count
      (counted put_store d P.stores (store_entry ws) q.stores_count (λ k l. store_is ws (STORES + 4 * k) _ (q.stores k l) (every_at FitStore d P.stores h.stores.each k l)) r)

  calls_are : (r : List ℕ) → list put_call 4 P.calls r ≡ calls_section ws c.code c.listed.calls ++ r
  unfolding calls_section
  calls_are r =
      let d : QueryCall = record { index = 0; impl = 0; starts = [] } in
      section put_call P.calls _ r q.calls_count
      (counted put_call d P.calls (call_entry ws c.code) q.calls_count (λ k l. call_is ws c.code (CALLS + 4 * k) _ (q.calls k l) (every_at FitCall d P.calls h.calls.each k l)) r)

  closing_is : put_closing P [] ≡ closing_bytes c
  unfolding put_closing put_depths closing_bytes
  closing_is =
      numbers_are 2 (numbers P.depths) _ ∙ ap₂ (λ d r. joined (map (λ n. be 2 n []) (numbers d)) r) (sym q.depths)
      (field 2 (sym q.flags) (ap (λ b. be 1 (bit b) []) (sym q.float_loop)))

  body_is : put_program P [] ≡ body_of tree ws c
  unfolding put_program body_of sections_of joined
  body_is =
      front _ (code_is _) (front _ (consts_are _) (front _ (all_posts _) (front _ (all_hashes _) (front _ (names_are _)
      (front _ (temps_are _) (front _ (members_are _) (front _ (stores_are _) (front _ (calls_are _) closing_is))))))))

  -- the image of the workspace is the image of the program
  pub image_is : length (put_program P []) < 256 ^ 4 → image_of tree ws c ≡ image P
  unfolding image image_of
  image_is l =
      let b = put_program P [] in
      let m : length b % 4294967296 ≡ length b = omega arith in
      ap (λ d. be 1 1 [] ++ be 4 (length d % 4294967296) [] ++ d) (sym body_is) ∙ ap (λ n. be 1 1 [] ++ be 4 n [] ++ b) m
      ∙ append_assoc (be 1 1 []) (be 4 (length b) []) b ∙ sym (field 1 refl (field 4 refl refl))
