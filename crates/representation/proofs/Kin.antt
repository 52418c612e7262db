-- Rules by how many children they read; steps that many rules share. Assumes nothing.
use Rattle.std.proofs.Common.{◌≡◌, refl, sym, ◌∙◌, Bool, true, false, cond, List, [], ◌∷◌, ℕ, zero, suc, ◌≤◌, arith, length, eqb, ltb, eq-eqb, ne_eqb, lt-ltb, le-ltb}
use Rattle.numeric.specs.Post.{is_identity}
use Rattle.ast.specs.Tree as T
use Rattle.ast.specs.Node.{payload_at, next_at}
use Rattle.program.specs.Instruction.{Instruction, plain, post}
use Rattle.program.specs.Counts.{Counts}
use Rattle.program.specs.Image.{word_of, word}
use Rattle.semantics.specs.Run.{operand+}
use Rattle.semantics.specs.State.{Flags, State, sets, set_flags}
use Rattle.semantics.specs.State as S
use Rattle.semantics.specs.Payloads as P
use Rattle.semantics.specs.Payloads.{one, two, three, some, just}
use Rattle.semantics.specs.Pieces.{Lowering, put, nothing, with_post, constant, post_instruction}
use Rattle.semantics.specs.Lowering.{Lowerings}
use Rattle.payload.specs.declared.NameRef.{NameRef}
use Rattle.payload.specs.Payloads.{named}
use Rattle.lowering.specs.declared.interning.VariableIdx.{VariableIdx}
use Rattle.lowering.specs.Held.{Held}
use Rattle.lowering.specs.Leaves.{VariableEntry}
use Rattle.lowering.specs.Pools as B
use Rattle.builder.specs.Steps as W
use Rattle.lowering.specs.Parts as L
use Rattle.lowering.specs.Parts.{Step}
use Rattle.builder.specs.Steps.{still}
use Rattle.lowering.specs.Steps as Y
use Rattle.lowering.specs.Rules as R
use Rattle.representation.proofs.Represents.{Moves, Does, on_state}
use Rattle.representation.proofs.Entries.{TextOf}
use Rattle.representation.proofs.Interning as I
use Rattle.representation.proofs.Sound.{NodeSound, name_related}
use Rattle.representation.proofs.Laws.{flags_move, popped_move}
use Rattle.representation.proofs.OpenCode.{nothing_does}
use Rattle.representation.proofs.Branches as C
use Rattle.representation.proofs.Branches.{instr_does}
use Rattle.representation.proofs.Arguments.{Child, Children, children_count}

-- ---- by the number of children

module _ (tree : List ℕ) (E : ℕ → Bool → Step) (C : ℕ → NameRef → Bool → Step) (Z : ℕ → Bool → Step) (c : Counts) (d : Lowering) {D F : Step} (x : Does tree d c D) where
  pub one_rel : (f : Lowerings → Lowering) (xs : List Lowerings) (m q : ℕ) → Children tree E C Z xs m q → ((a : Lowerings) → Child tree E C Z a q → Does tree (f a) c F) → Does tree (one xs d f) c (λ h. cond (eqb m 0) (D h) (F h))
  one_rel f [] zero q k y = x
  one_rel f (a ∷ xs) (suc m) q k y = rw (ne_eqb (suc m) 0 (λ e. omega arith)) (y a k.0)
  one_rel f xs m q k y = absurd k

  pub some_rel : (f : Lowerings → List Lowerings → Lowering) (xs : List Lowerings) (m q : ℕ) → Children tree E C Z xs m q → ((a : Lowerings) (ys : List Lowerings) (j : ℕ) → m ≡ suc j → Child tree E C Z a q → Children tree E C Z ys j (next_at tree q) → Does tree (f a ys) c F) → Does tree (some xs d f) c (λ h. cond (eqb m 0) (D h) (F h))
  some_rel f [] zero q k y = x
  some_rel f (a ∷ xs) (suc m) q k y = rw (ne_eqb (suc m) 0 (λ e. omega arith)) (y a xs m refl k.0 k.1)
  some_rel f xs m q k y = absurd k

  pub just_rel : (f : Lowerings → Lowering) (xs : List Lowerings) (m q : ℕ) → Children tree E C Z xs m q → ((a : Lowerings) → Child tree E C Z a q → Does tree (f a) c F) → Does tree (just xs d f) c (λ h. cond (eqb m 1) (F h) (D h))
  just_rel f [] zero q k y = x
  just_rel f (a ∷ []) (suc zero) q k y = y a k.0
  just_rel f (a ∷ b ∷ xs) (suc (suc m)) q k y = rw (ne_eqb (suc (suc m)) 1 (λ e. omega arith)) x
  just_rel f xs m q k y = absurd (let e = children_count tree E C Z xs m q k in omega arith)

  -- two and the rest
  pub pair_rel : (f : Lowerings → Lowerings → List Lowerings → Lowering) (xs : List Lowerings) (m q : ℕ) → Children tree E C Z xs m q → ((a b : Lowerings) (zs : List Lowerings) (j : ℕ) → m ≡ suc (suc j) → Child tree E C Z a q → Child tree E C Z b (next_at tree q) → Children tree E C Z zs j (next_at tree (next_at tree q)) → Does tree (f a b zs) c F)
      → Does tree (some xs d (λ a ys. some ys d (λ b zs. f a b zs))) c (λ h. cond (ltb m 2) (D h) (F h))
  pair_rel f [] zero q k y = x
  pair_rel f (a ∷ []) (suc zero) q k y = x
  pair_rel f (a ∷ b ∷ xs) (suc (suc m)) q k y = rw (le-ltb (suc (suc m)) 2 (omega arith)) (y a b xs m refl k.0 k.1.0 k.1.1)
  pair_rel f xs m q k y = absurd (let e = children_count tree E C Z xs m q k in omega arith)

  pub two_rel : (f : Lowerings → Lowerings → Lowering) (xs : List Lowerings) (m q : ℕ) → Children tree E C Z xs m q → ((a b : Lowerings) → Child tree E C Z a q → Child tree E C Z b (next_at tree q) → Does tree (f a b) c F) → Does tree (two xs d f) c (λ h. cond (ltb m 2) (D h) (F h))
  two_rel f [] zero q k y = x
  two_rel f (a ∷ []) (suc zero) q k y = x
  two_rel f (a ∷ b ∷ xs) (suc (suc m)) q k y = rw (le-ltb (suc (suc m)) 2 (omega arith)) (y a b k.0 k.1.0)
  two_rel f xs m q k y = absurd (let e = children_count tree E C Z xs m q k in omega arith)

  pub three_rel : (f : Lowerings → Lowerings → Lowerings → Lowering) (xs : List Lowerings) (m q : ℕ) → Children tree E C Z xs m q → ((a b e : Lowerings) → 3 ≤ m → Child tree E C Z a q → Child tree E C Z b (next_at tree q) → Child tree E C Z e (next_at tree (next_at tree q)) → Does tree (f a b e) c F) → Does tree (three xs d f) c (λ h. cond (ltb m 3) (D h) (F h))
  three_rel f [] zero q k y = x
  three_rel f (a ∷ []) (suc zero) q k y = x
  three_rel f (a ∷ b ∷ []) (suc (suc zero)) q k y = x
  three_rel f (a ∷ b ∷ e ∷ xs) (suc (suc (suc m))) q k y = rw (le-ltb (suc (suc (suc m))) 3 (omega arith)) (y a b e (omega arith) k.0 k.1.0 k.1.1.0)
  three_rel f xs m q k y = absurd (let e = children_count tree E C Z xs m q k in omega arith)

-- how the tests on counts follow one another
pub one_left : (m j : ℕ) → m ≡ suc j → eqb j 0 ≡ eqb m 1
one_left m zero e = sym (eq-eqb m 1 e)
one_left m (suc j) e = ne_eqb (suc j) 0 (λ q. omega arith) ∙ sym (ne_eqb m 1 (λ q. omega arith))

pub two_left : (m j : ℕ) → m ≡ suc (suc j) → eqb j 0 ≡ ltb m 3
two_left m zero e = sym (lt-ltb m 3 (omega arith))
two_left m (suc j) e = ne_eqb (suc j) 0 (λ q. omega arith) ∙ sym (le-ltb m 3 (omega arith))

-- ---- shared steps

module _ {tree : List ℕ} {c : Counts} where
  pub nothing_move : Moves tree (λ A. A) c c (λ h. h)
  nothing_move = record { back = λ A f. f; keep = λ A h f r. r }

  pub constant_does : (v : ℕ) → Does tree (constant v) c (B.constant v)
  unfolding B.constant
  constant_does v = I.const_does v (λ k. C.const_does k)

  -- an instruction with the node's post
  pub put_post_lem : (p : ℕ) (i : ℕ → Instruction) (op sub a : ℕ) → ((q : ℕ) → word_of (i q) ≡ word op sub a q) → Does tree (with_post (L.post_bits tree p) (λ q. put (i q))) c (L.put_post tree p op sub a)
  unfolding L.put_post
  put_post_lem p i op sub a e = I.post_does (L.post_bits tree p) (λ q. instr_does (i q) (e q))

  pub post_behind : (p : ℕ) → Does tree (post_instruction (L.post_bits tree p)) c (L.post_instr tree p)
  unfolding L.post_instr word_of
  post_behind p = go (is_identity (L.post_bits tree p))
    where
      go : (b : Bool) → Does tree (cond b nothing (with_post (L.post_bits tree p) λ q. put (plain (post q)))) c (λ h. cond b (W.flushed h) (L.put_post tree p 34 0 0 h))
      go true = nothing_does
      go false = put_post_lem p (λ q. plain (post q)) 34 0 0 (λ q. refl)

  -- what is made of the variable or the temp that a node names, or of there being neither
  pub variable_lem : (p : ℕ) → NodeSound tree p → length tree ≤ 6144 → (made : VariableEntry × List ℕ → Held) (e t : T.Name → Lowering) {d : Lowering}
      → Does tree d c (λ h. made (R.no_variable h))
      → ((r : NameRef) → TextOf tree r → Does tree (e (named tree r)) c (λ h. made (R.variable_of R.name_kind (B.name r h))))
      → ((r : NameRef) → TextOf tree r → Does tree (t (named tree r)) c (λ h. made (R.variable_of R.temp_kind (B.temp r h))))
      → Does tree (P.as_name 4 (payload_at tree p) (P.as_name 5 (payload_at tree p) d t) e) c (λ h. made (R.variable tree p h))
  unfolding R.variable
  variable_lem p sound short made e t o v w =
      let Gives : Lowering → (Held → VariableEntry × List ℕ) → Type 0 = λ x F. Does tree x c (λ h. made (F h)) in
      name_related tree Gives 4 p sound short e (name_related tree Gives 5 p sound short t o w) v

  -- the same where a step goes on with its index, or another with none
  pub found_lem : (p : ℕ) → NodeSound tree p → length tree ≤ 6144 → (other : Step) (f : VariableIdx → Step) (e t : T.Name → Lowering) {d : Lowering}
      → Does tree d c other
      → ((r : NameRef) → TextOf tree r → Does tree (e (named tree r)) c (L.with_name r (λ k. f (R.name_kind k))))
      → ((r : NameRef) → TextOf tree r → Does tree (t (named tree r)) c (L.with_temp r (λ k. f (R.temp_kind k))))
      → Does tree (P.as_name 4 (payload_at tree p) (P.as_name 5 (payload_at tree p) d t) e) c (R.with_variable tree p other f)
  found_lem p sound short other f e t o v w = variable_lem p sound short (λ x. L.where_found x.0.index other f (x.0.state, x.1)) e t o v w

  -- ---- flags

  pub sets_move : (k : ℕ) → Moves tree (on_state (λ s. set_flags (sets k s.flags) s)) c c (still (Y.flagged k))
  unfolding sets Y.flagged
  sets_move k = flags_move (sets k) (Y.flagged k) (λ s f p q. (rw p, q)) (λ s. refl)

  pub not_float_move : Moves tree (on_state (λ s. set_flags (S.not_float_only s.flags) s)) c c (still Y.not_float_only)
  unfolding S.not_float_only Y.not_float_only
  not_float_move = flags_move S.not_float_only Y.not_float_only (λ s f p q. (rw p, refl)) (λ s. refl)

  pub sets_not_move : (k : ℕ) → Moves tree (on_state (λ s. set_flags (sets k (S.not_float_only s.flags)) s)) c c (still (λ s. Y.flagged k (Y.not_float_only s)))
  unfolding sets S.not_float_only Y.flagged Y.not_float_only
  sets_not_move k = flags_move (λ f. sets k (S.not_float_only f)) (λ s. Y.flagged k (Y.not_float_only s)) (λ s f p q. (rw p, refl)) (λ s. refl)

  pub not_sets_move : (k : ℕ) → Moves tree (on_state (λ s. set_flags (S.not_float_only (sets k s.flags)) s)) c c (still (λ s. Y.not_float_only (Y.flagged k s)))
  unfolding sets S.not_float_only Y.flagged Y.not_float_only
  not_sets_move k = flags_move (λ f. S.not_float_only (sets k f)) (λ s. Y.not_float_only (Y.flagged k s)) (λ s f p q. (rw p, refl)) (λ s. refl)

-- one operand taken
pub pop_one : {tree : List ℕ} (c : Counts) → Moves tree (λ A. A) (operand+ c) c (still (Y.popped 1))
pop_one c = popped_move (suc c.operands) 1 (omega arith)
