-- Pieces of lowering and how they are put together: code, pools, jumps. Definitions only.
use Rattle.std.specs.Prelude.{◌≡◌, Bool, true, false, cond, List, [], ◌∷◌, ◌++◌, map, ℕ, suc, length}
use Rattle.std.proofs.Math.Decide.{ℕ_discrete}
use Rattle.numeric.specs.Post.{Post, is_identity}
use Rattle.ast.specs.Tree.{Name}
use Rattle.program.specs.Kinds.{USES_TEMPS}
use Rattle.program.specs.Instruction as I
use Rattle.program.specs.Instruction.{Guard, EachNext, Instruction}
use Rattle.program.specs.Counts.{Counts}
use Rattle.program.specs.Program.{MemberStore}
use Rattle.semantics.specs.Positions.{past, slot, intern, pair_discrete}
use Rattle.semantics.specs.Run.{operand+, opens}
use Rattle.semantics.specs.State as S
use Rattle.semantics.specs.State.{Item, instr, to_cleanup, to_check, MemberRead, Pools, Flags, sets, State, set_pools, set_flags, raise, fail}

-- the code of a piece, and the state after it
pub record Lowered : Type 0 where
  pub code : List Item
  pub state : State

abbrev pub emit : List Item → State → Lowered
emit c s = record { code = c; state = s }

-- a piece: from the open counts, whether a Push waits, the position in the segment and the state
abbrev pub Lowering : Type 0
Lowering = Counts → Bool → ℕ → State → Lowered

-- a Push that waits comes before anything that is no constant
unfoldable pub flush : (ℕ → State → Lowered) → Bool → ℕ → State → Lowered
flush f false n s = f n s
flush f true n s = emit (instr I.push ∷ (f (suc n) s).code) (f (suc n) s).state

abbrev pub put : Instruction → Lowering
put i c = flush λ n s. emit (instr i ∷ []) s

abbrev pub nothing : Lowering
nothing c = flush λ n s. emit [] s

-- a refusal stays in the state and lowering goes on; no refused program is looked at
abbrev pub failing : ℕ → Lowering
failing r c = flush λ n s. emit [] (fail r s)

-- 01, Modules, code.rs: "Const after Push becomes PushConst unless a label stands between": no rule puts a label behind a Push
unfoldable pub put_const : ℕ → Lowering
put_const k c false n s = emit (instr (I.plain (I.const k)) ∷ []) s
put_const k c true n s = emit (instr (I.push_const k) ∷ []) s

infixr 50 ◌⨾◌
abbrev pub ◌⨾◌ : Lowering → Lowering → Lowering
◌⨾◌ f g c b n s =
    let x = f c b n s in
    let y = g c false (past x.code n) x.state in
    emit (x.code ++ y.code) y.state

-- f, Push, g
abbrev pub pushed : Lowering → Lowering → Lowering
pushed f g c b n s =
    let x = f c b n s in
    let y = g (operand+ c) true (past x.code n) (raise (operand+ c) x.state) in
    emit (x.code ++ y.code) y.state

abbrev pub flagged : (Flags → Flags) → Lowering → Lowering
flagged m f c b n s = f c b n (set_flags (m s.flags) s)

-- 01, Modules, pools.rs: "consts by bits, posts by both bit patterns, names by hash (first text stays),
-- members by (own, outermost) hashes. Stores and calls are never merged."
abbrev pub itself : ℕ → ℕ
itself n = n

-- an interned pool: its entries in the state, their keys
pub record Pool (A K : Type 0) : Type 1 where
  pub get : Pools → List A
  pub set : List A → Pools → Pools
  pub key : A → K
  pub dec : (a b : K) → Dec (a ≡ b)

-- the entry of v's key, found or appended; f goes on with its index
abbrev pub interned : {A K : Type 0} → Pool A K → A → (ℕ → Lowering) → Lowering
interned pool v f c b n s =
    f (slot pool.key pool.dec v 0 (pool.get s.pools)) c b n
    (set_pools (pool.set (intern pool.key pool.dec v (pool.get s.pools)) s.pools) s)

abbrev pub const_pool : Pool ℕ ℕ
const_pool = record { get = λ p. p.consts; set = S.set_consts; key = itself; dec = ℕ_discrete }

abbrev pub hash_pool : Pool ℕ ℕ
hash_pool = record { get = λ p. p.hashes; set = S.set_hashes; key = itself; dec = ℕ_discrete }

abbrev pub slot_pool : Pool ℕ ℕ
slot_pool = record { get = λ p. p.temps; set = S.set_temps; key = itself; dec = ℕ_discrete }

abbrev pub with_const : ℕ → (ℕ → Lowering) → Lowering
with_const v f = interned const_pool v f

abbrev pub with_hash : ℕ → (ℕ → Lowering) → Lowering
with_hash v f = interned hash_pool v f

abbrev pub hash_key : Name → ℕ
hash_key n = n.hash

abbrev pub name_pool : Pool Name ℕ
name_pool = record { get = λ p. p.names; set = S.set_names; key = hash_key; dec = ℕ_discrete }

abbrev pub with_name : Name → (ℕ → Lowering) → Lowering
with_name v f = interned name_pool v f

abbrev pub with_slot : ℕ → (ℕ → Lowering) → Lowering
with_slot v f = interned slot_pool v f

-- a temp: its name first, then its slot; USES_TEMPS
abbrev pub with_temp : Name → (ℕ → Lowering) → Lowering
with_temp v f = flagged (sets USES_TEMPS) (with_name v λ k. with_slot k f)

abbrev pub read_key : MemberRead → ℕ × ℕ
read_key r = (r.own.hash, r.last.hash)

abbrev pub member_pool : Pool MemberRead (ℕ × ℕ)
member_pool = record { get = λ p. p.members; set = S.set_members; key = read_key; dec = pair_discrete }

abbrev pub with_member : MemberRead → (ℕ → Lowering) → Lowering
with_member v f = interned member_pool v f

abbrev pub with_store : MemberStore → (ℕ → Lowering) → Lowering
with_store v f c b n s = f (length s.pools.stores) c b n (set_pools (S.set_stores (s.pools.stores ++ (v ∷ [])) s.pools) s)

abbrev pub post_key : Post → ℕ × ℕ
post_key p = (p.scale, p.offset)

abbrev pub post_pool : Pool Post (ℕ × ℕ)
post_pool = record { get = λ p. p.posts; set = S.set_posts; key = post_key; dec = pair_discrete }

-- the identity is slot 0, and is not looked up
unfoldable pub post_if : Bool → Post → (ℕ → Lowering) → Lowering
post_if true v f = f 0
post_if false v f = interned post_pool v λ k. f (suc k)

abbrev pub with_post : Post → (ℕ → Lowering) → Lowering
with_post v = post_if (is_identity v) v

abbrev pub constant : ℕ → Lowering
constant v = with_const v put_const

-- a Post behind a branch, nothing for the identity
abbrev pub post_instruction : Post → Lowering
post_instruction v = cond (is_identity v) nothing (with_post v λ p. put (I.plain (I.post p)))

-- a guard whose target is what follows f
abbrev pub guarded : Guard → (Counts → Counts) → Lowering → Lowering
guarded g up f c = flush λ n s.
    let x = f (up c) false (suc n) (raise (up c) s) in
    emit (instr (I.guard g (past x.code (suc n))) ∷ x.code) x.state

-- i to g, f, j to what follows g, g
abbrev pub fork : (ℕ → Instruction) → (ℕ → Instruction) → (Counts → Counts) → Lowering → Lowering → Lowering
fork i j up f g c = flush λ n s.
    let x = f (up c) false (suc n) (raise (up c) s) in
    let m = past x.code (suc n) in
    let y = g c false (suc m) x.state in
    emit (instr (i (suc m)) ∷ (x.code ++ (instr (j (past y.code (suc m))) ∷ y.code))) y.state

-- the breaks and continues of a loop's body
abbrev pub aim : ℕ → ℕ → Item → Item
aim check_at cleanup_at (instr i) = instr i
aim check_at cleanup_at to_cleanup = instr (I.jump cleanup_at)
aim check_at cleanup_at to_check = instr (I.jump check_at)

-- LoopBegin to the exit, the body, LoopCheck back to the body, LoopEnd
abbrev pub counted_loop : Lowering → Lowering
counted_loop f c = flush λ n s.
    let x = f (opens true c) false (suc n) (raise (opens true c) s) in
    let check_at = past x.code (suc n) in
    let body = map (aim check_at (suc check_at)) x.code ++ (instr (I.loop_check (suc n)) ∷ instr I.loop_end ∷ []) in
    emit (instr (I.loop_begin (suc (suc check_at))) ∷ body) x.state

-- EachBegin to the exit, EachNext to LoopEnd, the body, a Jump back to EachNext, LoopEnd
abbrev pub eached : EachNext → Lowering → Lowering
eached i f c = flush λ n s.
    let x = f (opens false c) false (suc (suc n)) (raise (opens false c) s) in
    let back = past x.code (suc (suc n)) in
    let body = map (aim (suc n) (suc back)) x.code ++ (instr (I.jump (suc n)) ∷ instr I.loop_end ∷ []) in
    emit (instr (I.each_begin (suc (suc back))) ∷ instr (I.each_next i (suc back)) ∷ body) x.state

-- Break or Continue; 01, Walk: "With none open they log Halt."
unfoldable pub jumps : Item → Bool → Lowering
jumps i open_here c = flush λ n s. emit (cond open_here i (instr I.halt) ∷ []) s
