-- What each rule without operands makes of the builder's state and the workspace's words, and what stands behind an operand. Definitions only.
use Rattle.std.specs.Prelude.{Bool, cond, List, ℕ, zero, suc, eqb, Option, None, Some}
use Rattle.std.specs.Option.{option_map}
use Rattle.answers.specs.declared.refusals.Refusal.{Refusal}
use Rattle.numeric.specs.Post.{fold}
use Rattle.ast.specs.NameKinds as Kind
use Rattle.ast.specs.Rules.{Rule, return, member, entity, pointer, plain, is_member, rule_at}
use Rattle.ast.specs.Node.{op_at, count_at, first_at}
use Rattle.program.specs.Kinds as Flag
use Rattle.program.specs.Opcodes as O
use Rattle.payload.specs.declared.NameRef.{NameRef}
use Rattle.payload.specs.declared.Payload.{Payload}
use Rattle.payload.specs.Payloads.{payload_ref_at}
use Rattle.lowering.specs.Held.{State, Held}
use Rattle.builder.specs.Steps.{still, failed}
use Rattle.lowering.specs.Pools as B
use Rattle.workspace.specs.Counts.{one_more}
use Rattle.lowering.specs.Pools.{Found, constant}
use Rattle.lowering.specs.declared.assign.PathEnd.{PathEnd}
use Rattle.lowering.specs.declared.interning.VariableIdx.{VariableIdx}
use Rattle.lowering.specs.declared.interning.VariableIdx.TheVariants.{Name, Temp}
use Rattle.lowering.specs.Kinds.{root_kind, root_index}
use Rattle.lowering.specs.Payloads.{as_name, as_hash, as_math, as_query, float_of, const_of, string_of, resource_of}
use Rattle.lowering.specs.Steps.{flagged, not_float_only}
use Rattle.lowering.specs.Parts.{Step, ◌>>◌, ◌>>=◌, either, instr, put_variable, where_found, going, with_const, with_hash, with_name, with_member}
use Rattle.lowering.specs.Parts.{post_bits, with_post, put_post}
use Rattle.lowering.specs.Parts.{path_added, store_added}

-- a state with the index of a variable or a temp, if there is one
pub record VariableEntry : Type 0 where
  pub state : State
  pub index : Option VariableIdx

-- none, where nothing is done, and one that is interned, as a name or as a temp
abbrev pub no_variable : Held → VariableEntry × List ℕ
no_variable h = (record { state = h.0; index = None }, h.1)

abbrev pub variable_of : (ℕ → VariableIdx) → Found → VariableEntry × List ℕ
variable_of kind e = (record { state = e.0.state; index = Some (kind e.0.index) }, e.1)

abbrev pub name_kind : ℕ → VariableIdx
name_kind k = Name (record { 0 = k })

abbrev pub temp_kind : ℕ → VariableIdx
temp_kind k = Temp (record { 0 = k })

-- a variable that is read is an actor's
abbrev pub read_flagged : VariableIdx → Step
read_flagged (Name n) h = still (flagged Flag.READS_ACTOR_VARS) h
read_flagged (Temp n) h = h

-- a hash by the instruction that reads it
abbrev pub hashed : ℕ → ℕ → Step
hashed op v = do
  still not_float_only
  k ← with_hash v
  instr op 0 k 0

-- the step with where a path ends, Failed where a link is no member with a child
abbrev pub with_path : Option PathEnd → (PathEnd → Step) → Step
with_path None f h = failed Refusal.Failed h
with_path (Some e) f h = f e h

-- why an assignment's target is refused, if it is
unfoldable pub target_refusal : Rule → Payload → Option Refusal
target_refusal return v = as_name Kind.TEMP v (Some Refusal.Failed) (λ n. None)
target_refusal member v = None
target_refusal entity v = None
target_refusal pointer v = Some Refusal.WriteToOtherMob
target_refusal (plain r) v = as_name Kind.TEMP v (Some Refusal.Failed) (λ n. None)

module _ (t : List ℕ) where
  abbrev pub payload : ℕ → Payload
  payload p = payload_ref_at t p

  abbrev pub rule : ℕ → Rule
  rule p = rule_at (op_at t p)

  -- f with the node's payload if it is a name of that kind, else d; the same for a hash, a host function and a query
  abbrev pub if_name : ℕ → ℕ → Step → (NameRef → Step) → Step
  if_name kind p d f h = as_name kind (payload p) (d h) (λ n. f n h)

  abbrev pub if_hash : ℕ → Step → (ℕ → Step) → Step
  if_hash p d f h = as_hash (payload p) (d h) (λ v. f v h)

  abbrev pub if_math : ℕ → Step → (ℕ → Step) → Step
  if_math p d f h = as_math (payload p) (d h) (λ v. f v h)

  abbrev pub if_query : ℕ → Step → (ℕ → ℕ → Step) → Step
  if_query p d f h = as_query (payload p) (d h) (λ i m. f i m h)

  -- ---- variables and temps

  -- the one that the node names is interned; nothing is done where it names neither
  unfoldable pub variable : ℕ → Held → VariableEntry × List ℕ
  variable p h =
      as_name Kind.ENTITY (payload p)
      (as_name Kind.TEMP (payload p) (no_variable h) (λ n. variable_of temp_kind (B.temp n h)))
      (λ n. variable_of name_kind (B.name n h))

  -- the step with its index, or the other where it names neither
  abbrev pub with_variable : ℕ → Step → (VariableIdx → Step) → Step
  with_variable p other f h = let v = variable p h in where_found v.0.index other f (v.0.state, v.1)

  -- ---- values

  unfoldable pub load_context : ℕ → ℕ → Step
  load_context p q = if_name Kind.CONTEXT p (failed Refusal.Failed) λ n. do
    still (flagged Flag.READS_CONTEXT)
    k ← with_name n
    instr O.LOAD_CTX 0 k q

  unfoldable pub load : ℕ → Step
  load p = do
    q ← with_post t p
    with_variable p (load_context p q) λ i. do
      read_flagged i
      put_variable O.LOAD_VAR O.LOAD_TEMP i q

  unfoldable pub string_literal : ℕ → Step
  string_literal p = hashed O.HASH (string_of (payload p))

  unfoldable pub resource : ℕ → Step
  resource p = hashed O.RESOURCE (resource_of (payload p))

  unfoldable pub generic : ℕ → Step
  generic p = constant (fold (post_bits t p) (const_of (payload p)))

  -- behind a member's base
  unfoldable pub member_put : ℕ → NameRef → Step
  member_put p last = if_name Kind.MEMBER p (failed Refusal.Failed) λ n. do
    k ← with_member n last
    put_post t p O.MEMBER 0 k

  -- behind an array's index
  unfoldable pub array_put : ℕ → NameRef → Step
  array_put p n = do
    k ← with_name n
    put_post t p O.ARRAY_ELEMENT 0 k

  -- ---- assignments: the path of a member store ends at its root

  abbrev pub longer : PathEnd → PathEnd
  longer e = record { root = e.root; count = one_more e.count }

  abbrev pub is_link : ℕ → Bool
  is_link p = is_member (rule p)

  unfoldable pub path_end : ℕ → ℕ → Option PathEnd
  path_end zero p = None
  path_end (suc n) p =
      cond (is_link p)
      (as_name Kind.MEMBER (payload p) None (λ m. cond (eqb (count_at t p) 0) None (option_map longer (path_end n (first_at t p)))))
      (Some (record { root = p; count = 0 }))

  -- its hashes, from the root outwards
  unfoldable pub path_hashes : ℕ → ℕ → Step
  path_hashes zero p h = h
  path_hashes (suc n) p h =
      cond (is_link p)
      (as_name Kind.MEMBER (payload p) h (λ m. path_added m.hash (path_hashes n (first_at t p) h)))
      h

  -- the target at p has a path of so many links and levels; q is the post
  unfoldable pub store_as : ℕ → ℕ → ℕ → ℕ → ℕ → ℕ → Step
  store_as kind index n p count q h = going (store_added kind index h.0.listed.paths count (path_hashes n p h)) λ k. instr O.STORE_MEMBER 0 k q

  -- under the root of the path: a variable, a temp, or any other value
  unfoldable pub store_under : ℕ → ℕ → ℕ → ℕ → ℕ → Step
  store_under root n p count q h =
      let v = variable root h in
      store_as (root_kind v.0.index) (root_index v.0.index) n p count q (v.0.state, v.1)

  unfoldable pub store_member : ℕ → ℕ → ℕ → Step
  store_member n p q =
      either (is_link p)
      (with_path (path_end n p) λ e. do
        still not_float_only
        still (flagged Flag.USES_MEMBERS)
        store_under e.root n p e.count q)
      (failed Refusal.Failed)

  -- to the target at p, and the same with the post of the node at a
  unfoldable pub store_to : ℕ → ℕ → ℕ → Step
  store_to n p q = with_variable p (store_member n p q) λ i. put_variable O.STORE_VAR O.STORE_TEMP i q

  unfoldable pub store : ℕ → ℕ → ℕ → Step
  store n p a = do
    q ← with_post t a
    store_to n p q

  abbrev pub target_refusal_at : ℕ → Option Refusal
  target_refusal_at p = target_refusal (rule p) (payload p)

  -- ---- logic

  unfoldable pub compare_const : ℕ → ℕ → ℕ → Step
  compare_const o p q = do
    k ← with_const (const_of (payload p))
    instr O.CMP_CONST o k q

  unfoldable pub equal_const : ℕ → ℕ → ℕ → Step
  equal_const o p q = if_hash p
      (do
        k ← with_const (float_of (payload p))
        instr O.EQ_CONST o k q)
      λ v. do
        still not_float_only
        k ← with_hash v
        instr O.EQ_HASH o k q

  -- the form of a comparison or an equality whose second operand is the constant of the payload
  unfoldable pub constant_form : ℕ → ℕ → ℕ → ℕ → Step
  constant_form op sub p q = either (eqb op O.EQ) (equal_const sub p q) (compare_const sub p q)
