-- What each rule with operands, and the node at a place of the tree image, makes of the builder's state and the workspace's words. Definitions only.
use Rattle.std.specs.Prelude.{Bool, true, false, cond, List, ℕ, zero, suc, ◌-◌, eqb, ltb, None}
use Rattle.answers.specs.declared.refusals.Refusal.TheVariants as Refusal
use Rattle.numeric.specs.Post.{fold}
use Rattle.ast.specs.Header.{arrays_of, divisor_of, ROOT, LEVELS}
use Rattle.ast.specs.Rules as U
use Rattle.ast.specs.NameKinds as Kind
use Rattle.ast.specs.Node.{offset_at, count_at, first_at, next_at}
use Rattle.program.specs.Kinds as Flag
use Rattle.program.specs.Opcodes as O
use Rattle.program.specs.Image.{bit}
use Rattle.payload.specs.declared.NameRef.{NameRef}
use Rattle.program.specs.Depths.{nothing}
use Rattle.lowering.specs.Held.{State, Held}
use Rattle.builder.specs.Steps.{still, failed, pushed}
use Rattle.workspace.specs.Counts.{one_more, no_pools, none_listed}
use Rattle.lowering.specs.Pools.{Found, constant}
use Rattle.builder.specs.Segments.{opened}
use Rattle.code.specs.Segments.{BREAK, CONTINUE}
use Rattle.lowering.specs.Payloads.{const_of, float_of}
use Rattle.lowering.specs.Steps.{operand_entered, popped, loop_entered, loop_left, handler_entered, handler_left, flagged, not_float_only, queried}
use Rattle.lowering.specs.Parts.{Step, ◌>>◌, ◌>>=◌, either, unless_refused, instr}
use Rattle.lowering.specs.Parts.{post_bits, with_post, put_post, post_instr, emit_jump, with_jump, place_target, resolve_breaks, jump_out}
use Rattle.lowering.specs.Parts.{loop_closed, each_closed, with_call, argument_closed, each_next}
unfoldable pub use Rattle.lowering.specs.Leaves.{no_variable, variable_of, name_kind, temp_kind, hashed, with_path, payload, rule, if_name, if_hash}
unfoldable pub use Rattle.lowering.specs.Leaves.{if_math, if_query, variable, with_variable, read_flagged, load_context, load, string_literal, resource}
unfoldable pub use Rattle.lowering.specs.Leaves.{generic, member_put, array_put, longer, is_link, path_end, path_hashes, store_as, store_under, store_member}
unfoldable pub use Rattle.lowering.specs.Leaves.{store_to, store, target_refusal, target_refusal_at, compare_const, equal_const, constant_form}

-- ---- rules with operands: E lowers the node at a place with one level fewer, C does as the base of a member path, R a Return of a statement list

module _ (t : List ℕ) (E : ℕ → Bool → Step) (C : ℕ → NameRef → Bool → Step) (R : ℕ → Bool → Step) where
  unfoldable pub array_element : ℕ → Bool → Step
  array_element p l =
      either (eqb (arrays_of t) 1)
      (either (eqb (count_at t p) 1)
      (if_name t Kind.ARRAY_VARIABLE p (failed Refusal.Failed) λ n. do
        still not_float_only
        E (first_at t p) l
        array_put t p n)
      (failed Refusal.Failed))
      (failed Refusal.UsesArrays)

  unfoldable pub chained : ℕ → NameRef → Bool → Step
  chained p last l = either (eqb (count_at t p) 0) (failed Refusal.Failed) do
    C (first_at t p) last l
    member_put t p last

  unfoldable pub member_read : ℕ → Bool → Step
  member_read p l = do
    still not_float_only
    still (flagged Flag.USES_MEMBERS)
    if_name t Kind.MEMBER p (failed Refusal.Failed) λ n. chained p n l

  -- m arguments from q on; their starts go to slot and on
  unfoldable pub arguments : ℕ → Bool → ℕ → ℕ → ℕ → Step
  arguments base waiting zero q slot h = h
  arguments base waiting (suc m) q slot h = (do
    still opened
    E q false
    argument_closed base waiting slot
    arguments base waiting m (next_at t q) (one_more slot)) h

  unfoldable pub called : ℕ → ℕ → ℕ → Step
  called p i m h =
      let g = still (queried (eqb (count_at t p) 0)) h in
      (do
        k ← with_call i m (count_at t p)
        arguments g.0.code.base g.0.code.waiting (count_at t p) (first_at t p) g.0.listed.arguments
        put_post t p O.CALL 0 k) g

  unfoldable pub query : ℕ → Step
  query p = if_query t p (failed Refusal.Failed) λ i m. called p i m

  unfoldable pub binary : ℕ → Bool → Step
  binary a l = do
    E a l
    still pushed
    E (next_at t a) l

  -- a child and the constant of the payload, or two children and the instruction of both; the post is interned first
  unfoldable pub paired : ℕ → ℕ → ℕ → Bool → Step
  paired op sub p l = either (eqb (count_at t p) 0) (failed Refusal.Failed) do
    q ← with_post t p
    either (eqb (count_at t p) 1)
        (do
          E (first_at t p) l
          constant_form t op sub p q)
        do
          binary (first_at t p) l
          instr op sub 0 q
          still (popped 1)

  -- m steps and the last operand, from the operand at a on
  unfoldable pub operands : ℕ → ℕ → ℕ → ℕ → ℕ → Bool → Step
  operands step last q zero a l h = (do
    E a l
    instr last 0 0 q) h
  operands step last q (suc m) a l h = (do
    E a l
    e ← with_jump step 0 q
    operands step last q m (next_at t a) l
    place_target e) h

  unfoldable pub logic : ℕ → ℕ → ℕ → Bool → Step
  logic step last p l = either (eqb (count_at t p) 0) (failed Refusal.Failed) do
    q ← with_post t p
    operands step last q (count_at t p - 1) (first_at t p) l

  unfoldable pub coalesce : ℕ → Bool → Step
  coalesce p l = either (ltb (count_at t p) 2) (failed Refusal.Failed) do
    missing ← with_jump O.HANDLER_PUSH 0 0
    still handler_entered
    E (first_at t p) l
    still handler_left
    end ← with_jump O.HANDLER_POP 0 0
    place_target missing
    E (next_at t (first_at t p)) l
    place_target end
    post_instr t p

  -- the third child, or 0.0
  unfoldable pub alternative : ℕ → ℕ → Bool → Step
  alternative p b l = either (ltb (count_at t p) 3) (constant 0) (E (next_at t b) l)

  unfoldable pub conditional : ℕ → Bool → Step
  conditional p l = either (ltb (count_at t p) 2) (failed Refusal.Failed) do
    E (first_at t p) l
    falsy ← with_jump O.JUMP_IF_FALSY 0 0
    E (next_at t (first_at t p)) l
    end ← with_jump O.JUMP 0 0
    place_target falsy
    alternative p (next_at t (first_at t p)) l
    place_target end
    post_instr t p

  unfoldable pub statement : ℕ → Bool → Step
  statement q l = either (U.is_return (rule t q)) (R q l) (E q l)

  unfoldable pub statements_from : ℕ → ℕ → ℕ → Bool → Step
  statements_from o zero q l h = constant o h
  statements_from o (suc m) q l h = (do
    statement q l
    statements_from o m (next_at t q) l) h

  unfoldable pub statements : ℕ → Bool → Step
  statements p l = statements_from (offset_at t p) (count_at t p) (first_at t p) l

  unfoldable pub ret : ℕ → Bool → Step
  ret p l = do
    either (eqb (count_at t p) 0) (constant 0) (E (first_at t p) l)
    put_post t p O.RETURN 0 0

  unfoldable pub counted_loop : ℕ → Bool → Step
  counted_loop p l = do
    still (flagged Flag.HAS_LOOPS)
    either (ltb (count_at t p) 2) (failed Refusal.Failed) do
      E (first_at t p) l
      begin ← with_jump O.LOOP_BEGIN 0 0
      still operand_entered
      still loop_entered
      E (next_at t (first_at t p)) true
      loop_closed begin
      still (popped 1)
      still loop_left
      constant (fold (post_bits t p) 0)

  -- behind the variable, whose EachNext is `next`
  unfoldable pub each : ℕ → (Held → Found) → Bool → Step
  each p next l h =
      let b = next_at t (first_at t p) in
      let e = emit_jump O.EACH_BEGIN 0 0 (E b l h) in
      let f = next (e.0.state, e.1) in
      let x = E (next_at t b) true (still loop_entered (f.0.state, f.1)) in
      constant (fold (post_bits t p) 0) (still loop_left (each_closed e.0.index f.0.index x))

  -- 01, question 7: "a ForEach variable Entity or Temp under any operator"
  unfoldable pub for_each : ℕ → Bool → Step
  for_each p l = do
    still (flagged Flag.HAS_LOOPS)
    still not_float_only
    either (ltb (count_at t p) 3) (failed Refusal.Failed) do
      with_variable t (first_at t p) (failed Refusal.Failed) λ i. each p (each_next i) l

  -- the second child, or the node's constant
  unfoldable pub value : ℕ → ℕ → Bool → Step
  value p a l = either (eqb (count_at t p) 1) (constant (const_of (payload t p))) (E (next_at t a) l)

  -- n are the target's levels
  unfoldable pub assignment : ℕ → ℕ → Bool → Step
  assignment n p l =
      let a = first_at t p in
      either (eqb (count_at t p) 0) (failed Refusal.Failed)
      (unless_refused (target_refusal_at t a) do
        still (flagged Flag.HAS_ASSIGNMENT)
        value p a l
        store t n a p)

  unfoldable pub pointer : ℕ → Bool → Step
  pointer p l = do
    still not_float_only
    still (flagged Flag.USES_ARROW)
    either (ltb (count_at t p) 2) (failed Refusal.Failed) do
      q ← with_post t p
      E (first_at t p) l
      end ← with_jump O.POINTER_ENTER 0 q
      E (next_at t (first_at t p)) l
      instr O.POINTER_LEAVE 0 0 q
      place_target end

  unfoldable pub bracket : ℕ → Bool → Step
  bracket p l = either (eqb (count_at t p) 0) (failed Refusal.Failed) (E (first_at t p) l)

  unfoldable pub unary : ℕ → ℕ → ℕ → Bool → Step
  unary op sub p l = either (eqb (count_at t p) 0) (failed Refusal.Failed) do
    E (first_at t p) l
    put_post t p op sub 0

  -- m terms and the last, from the term at a on
  unfoldable pub terms : ℕ → ℕ → ℕ → Bool → Step
  terms p zero a l h = (do
    E a l
    put_post t p O.ADD_LAST 0 0) h
  terms p (suc m) a l h = (do
    E a l
    instr O.ADD_ACC 0 0 0
    terms p m (next_at t a) l) h

  unfoldable pub add : ℕ → Bool → Step
  add p l =
      let a = first_at t p in
      either (eqb (count_at t p) 0) (failed Refusal.Failed)
      (either (eqb (count_at t p) 1)
      (do
        E a l
        post_instr t p)
      do
        E a l
        still pushed
        terms p (count_at t p - 2) (next_at t a) l
        still (popped 1))

  -- two children, and the instruction of both with the post behind them
  unfoldable pub bounds : ℕ → ℕ → ℕ → Bool → Step
  bounds op sub p l = either (ltb (count_at t p) 2) (failed Refusal.Failed) do
    binary (first_at t p) l
    put_post t p op sub 0
    still (popped 1)

  unfoldable pub div : ℕ → Bool → Step
  div p l = either (ltb (count_at t p) 2) (failed Refusal.Failed) do
    E (next_at t (first_at t p)) l
    end ← with_jump O.DIV_GUARD (bit (eqb (divisor_of t) 1)) 0
    still operand_entered
    E (first_at t p) l
    put_post t p O.DIV 0 0
    still (popped 1)
    place_target end

  -- m arguments and the last of k, from the one at a on
  unfoldable pub host_arguments : ℕ → ℕ → ℕ → ℕ → ℕ → Bool → Step
  host_arguments p f k zero a l h = (do
    E a l
    put_post t p O.HOST_MATH k f) h
  host_arguments p f k (suc m) a l h = (do
    E a l
    still pushed
    host_arguments p f k m (next_at t a) l) h

  unfoldable pub host_math : ℕ → ℕ → Bool → Step
  host_math bits p l =
      let count = count_at t p in
      (do
        still (flagged bits)
        if_math t p (failed Refusal.Failed) λ f. either (eqb count 0) (failed Refusal.Failed) (either (ltb 255 count) (failed Refusal.Failed) do
          host_arguments p f count (count - 1) (first_at t p) l
          still (popped (count - 1))))

  -- the node by its rule; n are the children's levels
  unfoldable pub branch : ℕ → ℕ → Bool → U.Rule → Step
  branch n p l U.return = generic t p
  branch n p l U.member = member_read p l
  branch n p l U.entity = load t p
  branch n p l U.pointer = pointer p l
  branch n p l (U.plain U.array) = array_element p l
  branch n p l (U.plain U.uses_arrays) = failed Refusal.UsesArrays
  branch n p l (U.plain U.uses_resources) = failed Refusal.UsesResources
  branch n p l (U.plain U.float) = constant (float_of (payload t p))
  branch n p l (U.plain U.string) = string_literal t p
  branch n p l (U.plain U.resource) = resource t p
  branch n p l (U.plain U.this) = put_post t p O.THIS 0 0
  branch n p l (U.plain U.load) = load t p
  branch n p l (U.plain U.query) = query p
  branch n p l (U.plain (U.compare o)) = paired O.CMP o p l
  branch n p l (U.plain (U.equal o)) = paired O.EQ o p l
  branch n p l (U.plain (U.logic true)) = logic O.AND_STEP O.AND_LAST p l
  branch n p l (U.plain (U.logic false)) = logic O.OR_STEP O.OR_LAST p l
  branch n p l (U.plain U.coalesce) = coalesce p l
  branch n p l (U.plain U.conditional) = conditional p l
  branch n p l (U.plain U.statements) = statements p l
  branch n p l (U.plain U.loop) = counted_loop p l
  branch n p l (U.plain U.for_each) = for_each p l
  branch n p l (U.plain U.break) = jump_out BREAK l
  branch n p l (U.plain U.continue) = jump_out CONTINUE l
  branch n p l (U.plain U.assign) = assignment n p l
  branch n p l (U.plain U.bracket) = bracket p l
  branch n p l (U.plain (U.unary true)) = unary O.NEGATE 0 p l
  branch n p l (U.plain (U.unary false)) = unary O.NOT 0 p l
  branch n p l (U.plain U.add) = add p l
  branch n p l (U.plain U.mul) = bounds O.MUL 0 p l
  branch n p l (U.plain U.div) = div p l
  branch n p l (U.plain (U.host_math false)) = host_math 0 p l
  branch n p l (U.plain (U.host_math true)) = host_math Flag.RANDOM p l
  branch n p l (U.plain U.generic) = generic t p
  branch n p l (U.plain U.refused) = failed Refusal.Failed

-- ---- the node at a place, to so many levels: as an expression, as the base of a member path, as a Return of a statement list

module _ (t : List ℕ) where
  unfoldable mutual
    pub expr : ℕ → ℕ → Bool → Step
    expr zero p l h = failed Refusal.Failed h
    expr (suc n) p l h = branch t (expr n) (chain n) (returned n) n p l (rule t p) h

    pub chain : ℕ → ℕ → NameRef → Bool → Step
    chain zero p last l h = failed Refusal.Failed h
    chain (suc n) p last l h =
        cond (is_link t p)
        (chained t (expr n) (chain n) (returned n) p last l h)
        (branch t (expr n) (chain n) (returned n) n p l (rule t p) h)

    pub returned : ℕ → ℕ → Bool → Step
    returned zero p l h = failed Refusal.Failed h
    returned (suc n) p l h = ret t (expr n) (chain n) (returned n) p l h

-- a rule over the lowerings of children of so many levels
module _ (t : List ℕ) where
  abbrev pub under : {X : Type 0} → ℕ → ((ℕ → Bool → Step) → (ℕ → NameRef → Bool → Step) → (ℕ → Bool → Step) → X) → X
  under n f = f (expr t n) (chain t n) (returned t n)

-- nothing is lowered yet
abbrev pub start : State
start = record {
  pools = no_pools;
  listed = none_listed;
  code = record { top = 0; base = 0; finished = 0; waiting = false };
  depth = record { now = nothing; max = nothing };
  flags = record { bits = Flag.FLOAT_ONLY; float_loop = true };
  refusal = None;
}

-- the root, and End; a Break or Continue that no loop has resolved leads to the start
unfoldable pub lowered : List ℕ → List ℕ → Held
lowered t words = (do
  expr t LEVELS ROOT false
  instr O.END 0 0 0
  resolve_breaks 0 0 0) (start, words)
