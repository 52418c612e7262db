use mathlib.Core.Path.{◌≡◌, ap}
use mathlib.Core.Bool.{Bool, true, false, cond, ◌&&◌}
use mathlib.Core.List.{List, [], ◌∷◌, ◌++◌}
use mathlib.Core.Option.{none}
use Prim.Native.Nat.{ℕ, zero, suc, ◌≤◌, ◌+◌}
use native.Mathlib.Omega.{arith}
use lib.ListN.{length}
use lib.Dec.{leb}
use Rattle.ast.specs.Tree.{Name, Payload, p_none, p_float, p_hash, p_math, p_name, p_query, Tree, node, Forest, nil, cons}
use Rattle.numeric.specs.Post.{Post, is_identity}
use Rattle.program.specs.Instruction as Instr
use Rattle.program.specs.Instruction.{Taking, Plain, hash, resource, this, negate, not, and_last, or_last, pointer_leave, store_var, store_temp, store_member, cmp_const, eq_const, eq_hash, add_acc, add_last, mul, div, cmp, eq, host_math, load_var, load_temp, load_ctx, member, Guard, div_guard, and_step, or_step, pointer_enter, jump_if_falsy, EachNext, each_next_var, each_next_temp, plain, taking, reading, guard, end, jump, handler_push, handler_pop, return, call}
use Rattle.program.specs.Counts.{Counts}
use Rattle.program.specs.Program.{StoreRoot, root_var, root_temp, root_other}
use Rattle.semantics.proofs.Costs.{Weight, weigh, weigh_append}
use Rattle.semantics.proofs.Relations.{either_one, name_one, hash_one, math_one, query_one}
use Rattle.semantics.specs.Link.{offsets_of, lowered}
use Rattle.semantics.specs.Lowering.{query, arguments, pointer, returning, Lowerings, member_read, with_root, member_store, target_refusal, unless, const_operand, equal_const, close_segment, fill, called, array_element, lower_plain, lower_rule, lower, lowers}
use Rattle.semantics.specs.Payloads.{link, as_name, Path, longer, path, paths}
use Rattle.semantics.specs.Pieces.{Lowered, Lowering, put, failing, ◌⨾◌}
use Rattle.ast.specs.Header.{Settings}
use Rattle.ast.specs.Rules.{Rule, is_member, rule_at}
use Rattle.ast.specs.Rules as R
use Rattle.semantics.specs.Run.{nothing_open, operand+, handler+, same}
use Rattle.semantics.specs.State.{instr, to_cleanup, to_check, CallInfo, set_calls, State, empty, set_pools}
use Rattle.semantics.specs.Lowering as L
use Rattle.semantics.proofs.Costs as C

-- The cost of each rule and of a whole tree: a node pays for itself, and for its parent an instruction and an argument. Assumes nothing.

module _ (w : Weight) where
  abbrev Cost : Lowering → ℕ → Type 0
  Cost f k = C.Cost w f k

  infixr 50 ◌then_c◌
  ◌then_c◌ : {f g : Lowering} {j k : ℕ} → Cost f j → Cost g k → Cost (f ⨾ g) (j + k)
  ◌then_c◌ a b = C.◌then_c◌ w a b

  -- what a node pays for itself (a name also for its entries); and for its parent an instruction and an argument
  abbrev pub named : Name → ℕ
  named n = w.na n + w.te + w.me n + w.sm + w.pa

  unfoldable pub pay : Payload → ℕ
  pay p_none = 0
  pay (p_float v) = 0
  pay (p_hash v) = 0
  pay (p_math v) = 0
  pay (p_query i m) = 0
  pay (p_name k n) = named n

  abbrev pub own : ℕ
  own = w.i + w.i + w.co + w.po + w.ha + w.sa + w.ca

  unfoldable mutual
    pub cost : Tree → ℕ
    cost (node op p v ts) = own + pay v + costs ts

    pub costs : Forest → ℕ
    costs nil = 0
    costs (cons t ts) = cost t + w.i + w.ar + costs ts

  -- the name that is read is paid for
  module _ {X : Type 0} (R : X → Type 0) where
    name_c : (k : ℕ) (v : Payload) {d : X} {f : Name → X} → R d → ((n : Name) → named n ≤ pay v → R (f n)) → R (as_name k v d f)
    unfolding pay
    name_c k v h i = name_one R k v h (λ j n e. let p = ap pay e in i n (omega arith))

    -- by the kind of a variable's name
    kind_c : (v : Payload) {d : X} {f g : Name → X} → R d → ((n : Name) → named n ≤ pay v → R (f n)) → ((n : Name) → named n ≤ pay v → R (g n)) → R (as_name 4 v (as_name 5 v d f) g)
    kind_c v o t e = name_c 4 v (name_c 5 v o t) e

  pub record Whole (a : Lowerings) (k : ℕ) : Type 0 where
    pub expr : (l : Bool) → Cost (a.expr l) k
    pub statement : (l : Bool) → Cost (a.statement l) k
    pub base : (n : Name) (l : Bool) → Cost (a.base n l) k

  pub data Pays : List Lowerings → Forest → Type 0 where
    pnil : Pays [] nil
    pcons : {a : Lowerings} {t : Tree} {xs : List Lowerings} {ts : Forest} → Whole a (cost t) → Pays xs ts → Pays (a ∷ xs) (cons t ts)

  -- call arguments
  pub seg_grow : (x : Lowered) → C.size w (close_segment x) ≡ C.size w x.state + weigh w.i x.code + w.i
  unfolding C.sz
  seg_grow x = let h = C.sum_append (weigh w.i) x.state.pools.segments ((x.code ++ (instr end ∷ [])) ∷ []) in let i = weigh_append w.i x.code (instr end ∷ []) in omega arith

  args_c : {xs : List Lowerings} {ts : Forest} → Pays xs ts → (c : Counts) (s : State) → weigh w.ar (arguments xs c s).offsets + C.size w (arguments xs c s).state ≤ C.size w s + costs ts
  unfolding arguments cost
  args_c pnil c s = omega arith
  args_c (pcons {a = a} {xs = xs} {ts = ts} h z) c s =
      let x = a.expr false c false 0 s in
      let i = (h.expr false).by c false 0 s in
      let g = seg_grow x in
      let j = args_c z c (close_segment x) in omega arith

  pub call_grow : (v : CallInfo) (s : State) → C.size w (set_pools (set_calls (s.pools.calls ++ (v ∷ [])) s.pools) s) ≡ C.size w s + (w.ca + weigh w.ar (offsets_of v.offsets))
  unfolding C.sz
  call_grow v s = let h = C.sum_append (C.call_weight w) s.pools.calls (v ∷ []) in omega arith

  query_cost : (v m : ℕ) (p : Post) {xs : List Lowerings} {ts : Forest} → Pays xs ts → Cost (query v m p xs) (w.po + w.i + w.ca + costs ts)
  unfolding offsets_of C.sz
  query_cost v m p {xs} z = record {
    by = λ c b n s.
        let e : CallInfo = record { index = v; impl = m; offsets = none } in
        let s' = set_pools (set_calls (s.pools.calls ++ (e ∷ [])) s.pools) s in
        let y = arguments xs c s' in
        let i = call_grow e s in
        let j = args_c z c s' in
        let k = C.asked_fill w (length s.pools.calls) y.offsets y.state.pools.calls in
        let h = (C.post_c w p (λ q. put (call (length s.pools.calls) q)) (λ q. C.put_c w (call (length s.pools.calls) q))).by c b n (called v m xs c s) in omega arith;
  }

  -- rules over lists of children
  statements_c : (o : ℕ) {xs : List Lowerings} {ts : Forest} → Pays xs ts → (l : Bool) → Cost (L.statements o xs l) (w.co + w.i + costs ts)
  unfolding L.statements cost
  statements_c o pnil l = C.weak w (C.constant_c w o) (omega arith)
  statements_c o (pcons a z) l = C.weak w (a.statement l then_c statements_c o z l) (omega arith)

  junction_c : (state : Guard) (la : Plain) {a : Lowerings} {j : ℕ} → Whole a j → {xs : List Lowerings} {ts : Forest} → Pays xs ts → (l : Bool) → Cost (L.logic state la a xs l) (j + w.i + costs ts)
  unfolding L.logic cost
  junction_c state la a pnil l = C.weak w (a.expr l then_c C.put_c w (plain la)) (omega arith)
  junction_c state la {a = a'} a (pcons {a = a''} b z) l = C.weak w (a.expr l then_c C.guarded_c w state same (junction_c state la {a = a''} b z l)) (omega arith)

  addition_c : (p : Post) {a : Lowerings} {j : ℕ} → Whole a j → {xs : List Lowerings} {ts : Forest} → Pays xs ts → (l : Bool) → Cost (L.terms p a xs l) (w.po + w.i + j + costs ts)
  unfolding L.terms cost
  addition_c p a pnil l = C.weak w (a.expr l then_c C.post_c w p _ (λ q. C.put_c w (taking (add_last q)))) (omega arith)
  addition_c p {a = a'} a (pcons {a = a''} b z) l = C.weak w (a.expr l then_c C.put_c w (plain add_acc) then_c addition_c p {a = a''} b z l) (omega arith)

  hosted_c : (f k : ℕ) (p : Post) {a : Lowerings} {j : ℕ} → Whole a j → {xs : List Lowerings} {ts : Forest} → Pays xs ts → (l : Bool) → Cost (L.host_math f k p a xs l) (w.po + w.i + j + costs ts)
  unfolding L.host_math cost
  hosted_c f k p a pnil l = C.weak w (a.expr l then_c C.post_c w p _ (λ q. C.put_c w (taking (host_math f k q)))) (omega arith)
  hosted_c f k p {a = a'} a (pcons {a = a''} b z) l = C.weak w (C.pushed_c w (a.expr l) (hosted_c f k p {a = a''} b z l)) (omega arith)

  -- what is stored to
  link_pays : (r : Rule) (v : Payload) (m : Path) → pay (link r v m).root + weigh w.pa (link r v m).hashes ≤ pay v + (pay m.root + weigh w.pa m.hashes)
  unfolding link pay
  link_pays R.member v m = name_c (λ (l : Path). pay l.root + weigh w.pa l.hashes ≤ pay v + (pay m.root + weigh w.pa m.hashes)) 6 v (omega arith)
      (λ n e. let i = weigh_append w.pa m.hashes (n.hash ∷ []) in omega arith)
  link_pays _ v m = omega arith

  mutual
    unfolding path cost pay

    pub path_pays : (t : Tree) → pay (path t).root + weigh w.pa (path t).hashes ≤ cost t
    path_pays (node op p v ts) = let h = link_pays (rule_at op) v (paths ts) in let i = paths_pay ts in omega arith

    pub paths_pay : (ts : Forest) → pay (paths ts).root + weigh w.pa (paths ts).hashes ≤ costs ts
    paths_pay nil = omega arith
    paths_pay (cons t ts) = let h = path_pays t in omega arith

  root_c : (v : Payload) (g : StoreRoot → Lowering) {k : ℕ} → ((r : StoreRoot) → Cost (g r) k) → Cost (with_root v g) (pay v + k)
  unfolding with_root
  root_c v g {k} h = kind_c (λ f. Cost f (pay v + k)) v (C.weak w (h root_other) (omega arith)) (λ n e. C.weak w (C.with_temp_c w n _ (λ t. h (root_temp t))) (omega arith)) (λ n e. C.weak w (C.with_name_c w n _ (λ t. h (root_var t))) (omega arith))

  member_store_c : (m : Path) (q : ℕ) → Cost (member_store m q) (pay m.root + (w.sa + w.sa + w.sm + weigh w.pa m.hashes) + w.i)
  unfolding member_store
  member_store_c m q = C.weak w (C.flagged_c w _ (root_c m.root _ (λ r. C.with_store_c w (record { root = r; path = m.hashes }) _ (λ k. C.put_c w (plain (store_member k q)))))) (omega arith)

  path_store_c : (r : Rule) (v : Payload) (us : Forest) (q : ℕ) → Cost (cond (is_member r && (link r v (paths us)).fine) (member_store (link r v (paths us)) q) (failing 7)) (w.sa + w.sa + w.i + pay v + costs us)
  unfolding link
  path_store_c R.member v us q = name_c (λ (m : Path). Cost (cond m.fine (member_store m q) (failing 7)) (w.sa + w.sa + w.i + pay v + costs us)) 6 v (C.failing_c w 7)
      (λ n e. let h = paths_pay us in let i = weigh_append w.pa (paths us).hashes (n.hash ∷ []) in either_one (λ f. Cost f (w.sa + w.sa + w.i + pay v + costs us)) (paths us).fine (C.weak w (member_store_c (longer n.hash (paths us)) q) (omega arith)) (C.failing_c w 7))
  path_store_c _ v us q = C.failing_c w 7

  stores_c : (r : Rule) (v : Payload) (us : Forest) (p : Post) → Cost (L.stores r v (link r v (paths us)) p) (w.po + (w.sa + w.sa + w.i + pay v + costs us))
  unfolding L.stores
  stores_c r v us p =
      let m = w.sa + w.sa + w.i + pay v + costs us in
      C.post_c w p _ λ q. kind_c (λ f. Cost f m) v (path_store_c r v us q) (λ n e. C.weak w (C.with_temp_c w n _ (λ t. C.put_c w (plain (store_temp t q)))) (omega arith)) (λ n e. C.weak w (C.with_name_c w n _ (λ k. C.put_c w (plain (store_var k q)))) (omega arith))

  unless_c : (r : ℕ) {f : Lowering} {k : ℕ} → Cost f k → Cost (unless r f) k
  unfolding unless
  unless_c zero h = h
  unless_c (suc r) h = C.failing_c w (suc r)

  target_c : (t : Tree) (ts : Forest) {f : Lowering} {k : ℕ} → Cost f k → (p : Post) → Cost (L.target (cons t ts) f p) (w.sa + k + cost t)
  unfolding L.target cost path
  target_c (node op o v us) ts h p = unless_c (target_refusal (rule_at op) v) (C.flagged_c w _ (C.weak w (h then_c stores_c (rule_at op) v us p) (omega arith)))

  variable_c : (t : Tree) (ts : Forest) (g : EachNext → Lowering) {k : ℕ} → ((x : EachNext) → Cost (g x) k) → Cost (L.variable (cons t ts) g) (k + cost t)
  unfolding L.variable L.each_of cost
  variable_c (node r o v us) ts g {k} h =
      let m = k + (own + pay v + costs us) in
      kind_c (λ f. Cost f m) v (C.failing_c w 7) (λ n e. C.weak w (C.with_temp_c w n _ (λ t. h (each_next_temp t))) (omega arith)) (λ n e. C.weak w (C.with_name_c w n _ (λ t. h (each_next_var t))) (omega arith))

  loaded_c : (v : Payload) (p : Post) → Cost (L.loaded v p) (w.po + (w.i + pay v))
  unfolding L.loaded
  loaded_c v p =
      let m = w.i + pay v in
      C.post_c w p _ λ q. kind_c (λ f. Cost f m) v (name_c (λ f. Cost f m) 3 v (C.failing_c w 7) (λ n e. C.flagged_c w _ (C.weak w (C.with_name_c w n _ (λ k. C.put_c w (reading (load_ctx k q)))) (omega arith)))) (λ n e. C.weak w (C.with_temp_c w n _ (λ t. C.put_c w (reading (load_temp t q)))) (omega arith)) (λ n e. C.flagged_c w _ (C.weak w (C.with_name_c w n _ (λ k. C.put_c w (reading (load_var k q)))) (omega arith)))

  equal_const_c : (o : ℕ) (v : Payload) (q : ℕ) → Cost (equal_const o v q) (w.co + w.ha + w.i)
  unfolding equal_const
  equal_const_c o v q = hash_one (λ f. Cost f (w.co + w.ha + w.i)) v (C.weak w (C.with_const_c w _ _ (λ k. C.put_c w (plain (eq_const o k q)))) (omega arith)) (λ h e. C.flagged_c w _ (C.weak w (C.with_hash_c w h _ (λ k. C.put_c w (plain (eq_hash o k q)))) (omega arith)))

  -- a child and the form with a constant, or two children
  paired_c : (f : ℕ → Lowering) (i : ℕ → Taking) {m : ℕ} → ((q : ℕ) → Cost (f q) m) → (p : Post) {xs : List Lowerings} {ts : Forest} → Pays xs ts → (l : Bool)
      → Cost (L.paired f i p xs l) (w.po + w.i + m + costs ts)
  unfolding L.paired cost
  paired_c f i h p pnil l = C.failing_c w 7
  paired_c f i h p (pcons a pnil) l = C.weak w (C.post_c w p _ λ q. a.expr l then_c h q) (omega arith)
  paired_c f i h p (pcons a (pcons b z)) l = C.weak w (C.post_c w p _ λ q. C.pushed_c w (a.expr l) (b.expr l then_c C.put_c w (taking (i q)))) (omega arith)

  -- two children
  bounds_c : (i : ℕ → Taking) (p : Post) {a b : Lowerings} {j k : ℕ} → Whole a j → Whole b k → (l : Bool)
      → Cost (L.bounds i p a b l) (w.po + w.i + w.i + j + k)
  unfolding L.bounds
  bounds_c i p a b l = C.weak w (C.pushed_c w (a.expr l) (b.expr l then_c C.post_c w p _ (λ q. C.put_c w (taking (i q))))) (omega arith)

  -- each rule by its children, as far as it reads them
  module _ (S : Settings) where
    array_c : (x : Bool) (p : Post) (v : Payload) {xs : List Lowerings} {ts : Forest} → Pays xs ts → (l : Bool) → Cost (cond x (array_element p v xs l) (failing 5)) (own + pay v + costs ts)
    unfolding array_element cost
    array_c true p v {ts = ts} (pcons a pnil) l = name_c (λ f. Cost f (own + pay v + costs ts)) 7 v (C.failing_c w 7) (λ n i. C.flagged_c w _ (C.weak w (a.expr l then_c C.with_name_c w n _ (λ k. C.post_c w p _ λ q. C.put_c w (reading (Instr.array_element k q)))) (omega arith)))
    array_c true p v h l = C.failing_c w 7
    array_c false p v h l = C.failing_c w 5

    plain_c : (r : R.Plain) (p : Post) (v : Payload) {xs : List Lowerings} {ts : Forest} → Pays xs ts → (l : Bool) → Cost (lower_plain S r p v ts xs l) (own + pay v + costs ts)
    unfolding lower_plain const_operand cost
    plain_c R.array p v h l = array_c S.from_host p v h l
    plain_c R.uses_arrays p v h l = C.failing_c w 5
    plain_c R.uses_resources p v h l = C.failing_c w 6
    plain_c R.float p v h l = C.weak w (C.constant_c w _) (omega arith)
    plain_c R.string p v h l = C.flagged_c w _ (C.weak w (C.with_hash_c w _ _ (λ h. C.put_c w (plain (hash h)))) (omega arith))
    plain_c R.resource p v h l = C.flagged_c w _ (C.weak w (C.with_hash_c w _ _ (λ h. C.put_c w (plain (resource h)))) (omega arith))
    plain_c R.this p v h l = C.weak w (C.post_c w p _ (λ q. C.put_c w (plain (this q)))) (omega arith)
    plain_c R.load p v h l = C.weak w (loaded_c v p) (omega arith)
    plain_c R.query p v {ts = ts} h l = query_one (λ f. Cost f (own + pay v + costs ts)) v (C.failing_c w 7) (λ i m e. C.flagged_c w _ (C.weak w (query_cost i m p h) (omega arith)))
    plain_c (R.compare o) p v h l = C.weak w (paired_c _ (cmp o) (λ q. C.with_const_c w _ _ (λ k. C.put_c w (plain (cmp_const o k q)))) p h l) (omega arith)
    plain_c (R.equal o) p v h l = C.weak w (paired_c _ (eq o) (equal_const_c o v) p h l) (omega arith)
    plain_c (R.logic j) p v (pcons a z) l = C.weak w (C.post_c w p _ λ q. junction_c (cond j (and_step q) (or_step q)) (cond j (and_last q) (or_last q)) a z l) (omega arith)
    plain_c R.coalesce p v (pcons a (pcons b z)) l = C.weak w (C.fork_c w handler_push handler_pop handler+ (a.expr l) (b.expr l) then_c C.post_instr_c w (is_identity p) p) (omega arith)
    plain_c R.conditional p v (pcons a (pcons b pnil)) l = C.weak w (a.expr l then_c C.fork_c w (guard jump_if_falsy) jump same (b.expr l) (C.constant_c w 0) then_c C.post_instr_c w (is_identity p) p) (omega arith)
    plain_c R.conditional p v (pcons a (pcons b (pcons c z))) l = C.weak w (a.expr l then_c C.fork_c w (guard jump_if_falsy) jump same (b.expr l) (c.expr l) then_c C.post_instr_c w (is_identity p) p) (omega arith)
    plain_c R.statements p v h l = C.weak w (statements_c _ h l) (omega arith)
    plain_c R.loop p v (pcons a (pcons b z)) l = C.flagged_c w _ (C.weak w (a.expr l then_c C.looped_c w (b.expr true) then_c C.constant_c w _) (omega arith))
    plain_c R.loop p v h l = C.flagged_c w _ (C.failing_c w 7)
    plain_c R.for_each p v (pcons {t = t} {ts = ts} a (pcons b (pcons c z))) l = C.flagged_c w _ (C.weak w (variable_c t ts _ (λ i. b.expr l then_c C.eached_c w i (c.expr true) then_c C.constant_c w _)) (omega arith))
    plain_c R.for_each p v h l = C.flagged_c w _ (C.failing_c w 7)
    plain_c R.break p v h l = C.weak w (C.jumps_c w to_cleanup l) (omega arith)
    plain_c R.continue p v h l = C.weak w (C.jumps_c w to_check l) (omega arith)
    plain_c R.assign p v (pcons {t = t} {ts = ts} a pnil) l = C.weak w (target_c t ts (C.constant_c w _) p) (omega arith)
    plain_c R.assign p v (pcons {t = t} {ts = ts} a (pcons b z)) l = C.weak w (target_c t ts (b.expr l) p) (omega arith)
    plain_c R.bracket p v (pcons a z) l = C.weak w (a.expr l) (omega arith)
    plain_c (R.unary u) p v (pcons a z) l = C.weak w (a.expr l then_c C.post_c w p _ (λ q. C.put_c w (plain (cond u (negate q) (not q))))) (omega arith)
    plain_c R.add p v (pcons a pnil) l = C.weak w (a.expr l then_c C.post_instr_c w (is_identity p) p) (omega arith)
    plain_c R.add p v (pcons a (pcons b z)) l = C.weak w (C.pushed_c w (a.expr l) (addition_c p b z l)) (omega arith)
    plain_c R.mul p v (pcons a (pcons b z)) l = C.weak w (bounds_c mul p a b l) (omega arith)
    plain_c R.div p v (pcons a (pcons b z)) l = C.weak w (b.expr l then_c C.guarded_c w (div_guard S.absolute) operand+ (a.expr l then_c C.post_c w p _ (λ q. C.put_c w (taking (div q))))) (omega arith)
    plain_c (R.host_math u) p v pnil l = C.flagged_c w _ (math_one (λ f. Cost f (own + pay v + costs nil)) v (C.failing_c w 7) (λ f e. C.failing_c w 7))
    plain_c (R.host_math u) p v {xs} {ts} (pcons a z) l = C.flagged_c w _ (math_one (λ f. Cost f (own + pay v + costs ts)) v (C.failing_c w 7) (λ f e. either_one (λ f. Cost f (own + pay v + costs ts)) (leb (length xs) 255) (C.weak w (hosted_c f (length xs) p a z l) (omega arith)) (C.failing_c w 7)))
    plain_c R.generic p v h l = C.weak w (C.constant_c w _) (omega arith)
    plain_c _ p v h l = C.failing_c w 7

    chained_c : (p : Post) (v : Payload) {xs : List Lowerings} {ts : Forest} → Pays xs ts → (n : Name) (l : Bool) → Cost (L.chained p v xs n l) (own + pay v + costs ts)
    unfolding L.chained cost
    chained_c p v pnil n l = C.failing_c w 7
    chained_c p v (pcons a z) n l = C.weak w (a.base n l then_c name_c (λ f. Cost f (w.po + w.i + pay v)) 6 v (C.failing_c w 7) (λ m i. C.weak w (C.with_member_c w (record { own = m; last = n }) _ (λ x. C.post_c w p _ λ q. C.put_c w (reading (member x q)))) (omega arith))) (omega arith)

    member_read_c : (p : Post) (v : Payload) {xs : List Lowerings} {ts : Forest} → Pays xs ts → (l : Bool) → Cost (member_read p v xs l) (own + pay v + costs ts)
    unfolding member_read
    member_read_c p v {ts = ts} h l = C.flagged_c w _ (name_c (λ f. Cost f (own + pay v + costs ts)) 6 v (C.failing_c w 7) (λ n e. chained_c p v h n l))

    pointer_c : (p : Post) (v : Payload) {xs : List Lowerings} {ts : Forest} → Pays xs ts → (l : Bool) → Cost (pointer p xs l) (own + pay v + costs ts)
    unfolding pointer cost
    pointer_c p v (pcons a (pcons b z)) l = C.flagged_c w _ (C.weak w (C.post_c w p _ (λ q. a.expr l then_c C.guarded_c w (pointer_enter q) same (b.expr l then_c C.put_c w (plain (pointer_leave q))))) (omega arith))
    pointer_c p v h l = C.flagged_c w _ (C.failing_c w 7)

    return_c : (p : Post) (v : Payload) {xs : List Lowerings} {ts : Forest} → Pays xs ts → (l : Bool) → Cost (returning p xs l) (own + pay v + costs ts)
    unfolding cost returning
    return_c p v pnil l = C.weak w (C.constant_c w 0 then_c C.post_c w p _ (λ q. C.put_c w (return q))) (omega arith)
    return_c p v (pcons a z) l = C.weak w (a.expr l then_c C.post_c w p _ (λ q. C.put_c w (return q))) (omega arith)

    whole : (r : Rule) (p : Post) (v : Payload) {xs : List Lowerings} {ts : Forest} → Pays xs ts → Whole (lower_rule S r p v ts xs) (own + pay v + costs ts)
    unfolding lower_rule
    whole R.return p v h = record { expr = λ l. C.weak w (C.constant_c w _) (omega arith); base = λ n l. C.weak w (C.constant_c w _) (omega arith); statement = return_c p v h }
    whole R.member p v h = record { expr = member_read_c p v h; statement = member_read_c p v h; base = chained_c p v h }
    whole R.entity p v h = record { expr = λ l. C.weak w (loaded_c v p) (omega arith); statement = λ l. C.weak w (loaded_c v p) (omega arith); base = λ n l. C.weak w (loaded_c v p) (omega arith) }
    whole R.pointer p v h = record { expr = pointer_c p v h; statement = pointer_c p v h; base = λ n. pointer_c p v h }
    whole (R.plain r) p v h = record { expr = plain_c r p v h; statement = plain_c r p v h; base = λ n. plain_c r p v h }

    mutual
      unfolding lower cost

      pub tree_cost : (t : Tree) → Whole (lower S t) (cost t)
      tree_cost (node op p v ts) = whole (rule_at op) p v (trees_cost ts)

      pub trees_cost : (ts : Forest) → Pays (lowers S ts) ts
      trees_cost nil = pnil
      trees_cost (cons t ts) = pcons (tree_cost t) (trees_cost ts)

    -- the whole program, its End and all: by the tree's weight
    pub sized : (t : Tree) → weigh w.i (lowered S t).code + C.size w (lowered S t).state ≤ cost t + w.i
    unfolding lowered C.sz
    sized t = let h = ((tree_cost t).expr false then_c C.put_c w end).by nothing_open false 0 empty in omega arith
