-- An assignment's target: the path of a member store, the stores and their paths in the workspace. Assumes nothing.
use Rattle.std.proofs.Common.{rules as common_rules, ◌≡◌, refl, sym, ap, subst, ◌∙◌, Bool, true, false, cond, ◌&&◌, List, [], ◌∷◌, ◌++◌, ℕ, zero, suc, ◌+◌, ◌*◌, ◌≤◌, ◌<◌, arith, length, get_or, length-append, eqb, ne_eqb, lt-ltb}
use Rattle.std.specs.Prelude.{Option, None, Some}
use Rattle.std.specs.Option.{option_map}
use Rattle.answers.specs.declared.refusals.Refusal.TheVariants as Refusal
use native.Mathlib.Decide.{ℕ_discrete}
use lib.Seq.{sets}
use Rattle.ast.specs.Tree as T
use Rattle.ast.specs.Header.{LEVELS}
use Rattle.ast.specs.Rules.{Rule, return, member, entity, pointer, plain, is_member, rule_at}
use Rattle.ast.specs.Node.{op_at, payload_at, count_at, first_at, trees, tree_at}
use Rattle.program.specs.Kinds.{USES_MEMBERS}
use Rattle.program.specs.Instruction as I
use Rattle.program.specs.Counts.{Counts}
use Rattle.program.specs.Program.{StoreRoot, root_var, root_temp, root_other, MemberStore}
use Rattle.program.specs.Image.{word_of}
use Rattle.program.specs.Fits.{root_index}
use Rattle.payload.specs.declared.Payload.{Payload}
use Rattle.payload.specs.declared.Payload.TheVariants.{Member}
use Rattle.payload.specs.Payloads.{payload_ref_at, meant}
use Rattle.payload.proofs.Meant.{payload_meant}
use Rattle.semantics.specs.Payloads as P
use Rattle.semantics.specs.State.{State, set_pools, set_stores}
use Rattle.semantics.specs.State as S
use Rattle.semantics.specs.Regions.{path_entries}
use Rattle.semantics.specs.Pieces.{Lowering, put, failing, with_store}
use Rattle.semantics.specs.Lowering as D
use Rattle.semantics.proofs.Costs.{weigh}
use Rattle.semantics.proofs.Sizes.{weigh_length}
use Rattle.workspace.specs.Layout.{STORES, PATHS, CALLS}
use Rattle.card.specs.Holds.{HashIs, HashesAre, root_kind}
use Rattle.lowering.specs.Regions.{appended_count, appended_words}
use Rattle.builder.specs.Steps as W
use Rattle.lowering.specs.Held.{Held}
use Rattle.workspace.specs.Words.{high, low}
use Rattle.lowering.specs.Pools.{Found}
use Rattle.lowering.specs.declared.assign.PathEnd.{PathEnd}
use Rattle.lowering.specs.Kinds as K
use Rattle.lowering.specs.Steps as L
use Rattle.lowering.specs.Payloads as Q
use Rattle.lowering.specs.Parts.{Step, either, instr, put_variable, going, set_listed, post_bits, path_added, store_added}
use Rattle.builder.specs.Steps.{still}
use Rattle.lowering.specs.Rules as R
use Rattle.representation.proofs.Rows.{Apart, Agree, rows_snoc, sets_apart, sets_stored}
use Rattle.representation.proofs.Represents.{StoreAt, Abs, Fits, Table, Content, Does, Enters, on_state, run}
use Rattle.representation.proofs.Keeps.{hash_local, rows_moved, store_keep, stores_changed}
use Rattle.representation.proofs.Pools.{apart_wider}
use Rattle.representation.proofs.Interning.{with_does, name_does, temp_does, post_does}
use Rattle.representation.proofs.Laws.{flagged_does}
use Rattle.representation.proofs.OpenCode.{failing_does}
use Rattle.representation.proofs.Branches.{instr_does}
use Rattle.representation.proofs.Sound.{NodeSound, Sound, node_sound, first_sound}
use Rattle.representation.proofs.Kin.{variable_lem, found_lem, sets_not_move}

-- ---- paths

-- the hashes of a path go to the workspace in order
unfoldable pub all_added : List ℕ → Step
all_added [] h = h
all_added (x ∷ xs) h = all_added xs (path_added x h)

added_last : (xs : List ℕ) (x : ℕ) (h : Held) → all_added (xs ++ (x ∷ [])) h ≡ path_added x (all_added xs h)
unfolding all_added
added_last [] x h = refl
added_last (y ∷ xs) x h = added_last xs x (path_added y h)

-- the path m of the definition ends at e, its hashes are added by G, in no more than n steps
pub record EndsAt (tree : List ℕ) (n : ℕ) (m : P.Path) (e : PathEnd) (G : Step) : Type 0 where
  pub fine_is : m.fine ≡ true
  pub root_is : payload_at tree e.root ≡ m.root
  pub root_sound : NodeSound tree e.root
  pub count_is : e.count ≡ length m.hashes
  pub short : length m.hashes ≤ n
  pub adds : (h : Held) → G h ≡ all_added m.hashes h

-- the same where there may be none
abbrev PathIs : List ℕ → ℕ → P.Path → Option PathEnd → Step → Type 0
PathIs tree n m None G = m.fine ≡ false
PathIs tree n m (Some e) G = EndsAt tree n m e G

root_path_lem : (tree : List ℕ) (n p : ℕ) → NodeSound tree p → PathIs tree n (P.root_path (payload_at tree p)) (Some (record { root = p; count = 0 })) (λ h. h)
unfolding all_added
root_path_lem tree n p s = record { fine_is = refl; root_is = refl; root_sound = s; count_is = refl; short = omega arith; adds = λ h. refl }

longer_path : (tree : List ℕ) (n x : ℕ) (m : P.Path) (o : Option PathEnd) (G : Step) → n ≤ LEVELS → PathIs tree n m o G
    → PathIs tree (suc n) (P.longer x m) (option_map (R.longer tree) o) (λ h. path_added x (G h))
longer_path tree n x m None G l i = i
longer_path tree n x m (Some e) G l i = record {
  fine_is = i.fine_is;
  root_is = i.root_is;
  root_sound = i.root_sound;
  count_is = let a = i.count_is in let b = i.short in let c = length-append m.hashes (x ∷ []) in omega (arith, a, b, c, l);
  short = let b = i.short in let c = length-append m.hashes (x ∷ []) in omega (arith, b, c);
  adds = λ h. ap (path_added x) (i.adds h) ∙ sym (added_last m.hashes x h);
}

module _ (tree : List ℕ) (n : ℕ) (short : n ≤ LEVELS) where
  -- a link, by how many children it has; its first child's path is known
  link_children : (c q x : ℕ) (G : Step) → (1 ≤ c → PathIs tree n (P.path (tree_at n tree q)) (R.path_end tree n q) G)
      → PathIs tree (suc n) (P.longer x (P.paths (trees (tree_at n tree) tree c q))) (cond (eqb c 0) None (option_map (R.longer tree) (R.path_end tree n q))) (λ h. path_added x (G h))
  unfolding P.path trees
  link_children zero q x G i = refl
  link_children (suc c) q x G i =
      subst (λ (b : Bool). PathIs tree (suc n) (P.longer x (P.path (tree_at n tree q))) (cond b None (option_map (R.longer tree) (R.path_end tree n q))) (λ h. path_added x (G h)))
      (sym (ne_eqb (suc c) 0 (λ e. omega arith)))
      (longer_path tree n x (P.path (tree_at n tree q)) (R.path_end tree n q) G short (i (omega arith)))

  -- by the payload of the node
  link_payload : (v : Payload) (m : P.Path) (o : Option PathEnd) (G : Step) → ((x : ℕ) → PathIs tree (suc n) (P.longer x m) o (λ h. path_added x (G h)))
      → PathIs tree (suc n) (P.as_name 6 (meant tree v) P.no_path (λ y. P.longer y.hash m)) (Q.as_name 6 v None (λ y. o)) (λ h. Q.as_name 6 v h (λ y. path_added y.hash (G h)))
  unfolding P.as_name P.cases Q.as_name Q.cases ℕ_discrete
  link_payload (Member r) m o G i = i r.hash
  link_payload v m o G i = refl

  -- by the node's rule
  link_rule : (p : ℕ) → NodeSound tree p → (m : P.Path) (o : Option PathEnd) (G : Step)
      → PathIs tree (suc n) (P.as_name 6 (payload_at tree p) P.no_path (λ y. P.longer y.hash m)) o G
      → (r : Rule) → PathIs tree (suc n) (P.link r (payload_at tree p) m)
      (cond (is_member r) o (Some (record { root = p; count = 0 }))) (λ h. cond (is_member r) (G h) h)
  unfolding P.link
  link_rule p s m o G i return = root_path_lem tree (suc n) p s
  link_rule p s m o G i member = i
  link_rule p s m o G i entity = root_path_lem tree (suc n) p s
  link_rule p s m o G i pointer = root_path_lem tree (suc n) p s
  link_rule p s m o G i (plain r) = root_path_lem tree (suc n) p s

pub path_is : (tree : List ℕ) (n p : ℕ) → n ≤ LEVELS → Sound n tree p → PathIs tree n (P.path (tree_at n tree p)) (R.path_end tree n p) (R.path_hashes tree n p)
unfolding P.path tree_at R.path_end R.path_hashes
path_is tree zero p l s = absurd s
path_is tree (suc n) p l s =
    let q = first_at tree p in
    let m = P.paths (trees (tree_at n tree) tree (count_at tree p) q) in
    let o : Option PathEnd = cond (eqb (count_at tree p) 0) None (option_map (R.longer tree) (R.path_end tree n q)) in
    let below : PathIs tree (suc n) (P.as_name 6 (payload_at tree p) P.no_path (λ y. P.longer y.hash m)) (Q.as_name 6 (payload_ref_at tree p) None (λ y. o)) (λ h. Q.as_name 6 (payload_ref_at tree p) h (λ y. path_added y.hash (R.path_hashes tree n q h))) =
    subst (λ (v : T.Payload). PathIs tree (suc n) (P.as_name 6 v P.no_path (λ y. P.longer y.hash m)) (Q.as_name 6 (payload_ref_at tree p) None (λ y. o)) (λ h. Q.as_name 6 (payload_ref_at tree p) h (λ y. path_added y.hash (R.path_hashes tree n q h)))) (payload_meant tree p)
    (link_payload tree n (omega arith) (payload_ref_at tree p) m o (R.path_hashes tree n q) (λ x. link_children tree n (omega arith) (count_at tree p) q x (R.path_hashes tree n q) (λ c. path_is tree n q (omega arith) (first_sound n tree p c s)))) in
    link_rule tree n (omega arith) p s.0 m (Q.as_name 6 (payload_ref_at tree p) None (λ y. o)) (λ h. Q.as_name 6 (payload_ref_at tree p) h (λ y. path_added y.hash (R.path_hashes tree n q h))) below (rule_at (op_at tree p))

-- ---- the words of a path

unfoldable path_words : List ℕ → ℕ → List ℕ → List ℕ
path_words [] n ws = ws
path_words (x ∷ xs) n ws = path_words xs (n + 1) (sets ws (PATHS + 2 * n) (high x ∷ low x ∷ []))

apart_both : {ws vs us : List ℕ} {lo hi : ℕ} → Apart ws vs lo hi → Apart vs us lo hi → Apart ws us lo hi
apart_both a b = record { same_length = b.same_length ∙ a.same_length; below = λ j l. b.below j l ∙ a.below j l; above = λ j l. b.above j l ∙ a.above j l }

path_apart : (hs : List ℕ) (n : ℕ) (ws : List ℕ) → Apart ws (path_words hs n ws) (PATHS + 2 * n) (PATHS + 2 * (n + length hs))
unfolding path_words
path_apart [] n ws = record { same_length = refl; below = λ j l. refl; above = λ j l. refl }
path_apart (x ∷ xs) n ws =
    let vs = sets ws (PATHS + 2 * n) (high x ∷ low x ∷ []) in
    apart_both (apart_wider (sets_apart ws (PATHS + 2 * n) (high x ∷ low x ∷ [])) (PATHS + 2 * n) (PATHS + 2 * (n + suc (length xs))) (omega arith) (omega arith))
    (apart_wider (path_apart xs (n + 1) vs) (PATHS + 2 * n) (PATHS + 2 * (n + suc (length xs))) (omega arith) (omega arith))

path_hashes_lem : (hs : List ℕ) (n : ℕ) (ws : List ℕ) → PATHS + 2 * (n + length hs) ≤ length ws → (k : ℕ) → k < length hs → HashIs (path_words hs n ws) (PATHS + 2 * n + 2 * k) (get_or hs k 0)
unfolding path_words
path_hashes_lem [] n ws f k l = absurd (omega arith)
path_hashes_lem (x ∷ xs) n ws f zero l =
    let at = PATHS + 2 * n in
    let vs = sets ws at (high x ∷ low x ∷ []) in
    let a = path_apart xs (n + 1) vs in
    let e0 : at + 2 * 0 ≡ at + 0 = omega arith in
    let e1 : at + 2 * 0 + 1 ≡ at + 1 = omega arith in
    search common_rules
path_hashes_lem (x ∷ xs) n ws f (suc k) l =
    let at = PATHS + 2 * n in
    let vs = sets ws at (high x ∷ low x ∷ []) in
    let s = (sets_apart ws at (high x ∷ low x ∷ [])).same_length in
    let e : PATHS + 2 * (n + 1) + 2 * k ≡ at + 2 * suc k = omega arith in
    subst (λ (j : ℕ). HashIs (path_words xs (n + 1) vs) j (get_or xs k 0)) e (path_hashes_lem xs (n + 1) vs (omega (arith, s, f)) k (omega arith))

path_added_lem : (x : ℕ) (h : Held) → h.0.listed.paths < 256 → path_added x h ≡ (set_listed (record h.0.listed { paths = h.0.listed.paths + 1 }) h.0, sets h.1 (PATHS + 2 * h.0.listed.paths) (high x ∷ low x ∷ []))
unfolding path_added appended_count appended_words
path_added_lem x h l = rw (lt-ltb h.0.listed.paths 256 l)

all_added_lem : (hs : List ℕ) (h : Held) → h.0.listed.paths + length hs ≤ 256 → all_added hs h ≡ (set_listed (record h.0.listed { paths = h.0.listed.paths + length hs }) h.0, path_words hs h.0.listed.paths h.1)
unfolding all_added path_words
all_added_lem [] h l = let e : h.0.listed.paths ≡ h.0.listed.paths + 0 = omega arith in ap (λ (n : ℕ). (set_listed (record h.0.listed { paths = n }) h.0, h.1)) e
all_added_lem (x ∷ xs) h l =
    let g : Held = (set_listed (record h.0.listed { paths = h.0.listed.paths + 1 }) h.0, sets h.1 (PATHS + 2 * h.0.listed.paths) (high x ∷ low x ∷ [])) in
    let e : h.0.listed.paths + 1 + length xs ≡ h.0.listed.paths + suc (length xs) = omega arith in
    ap (all_added xs) (path_added_lem x h (omega arith)) ∙ all_added_lem xs g (omega arith)
    ∙ ap (λ (n : ℕ). (set_listed (record h.0.listed { paths = n }) h.0, path_words xs (h.0.listed.paths + 1) (sets h.1 (PATHS + 2 * h.0.listed.paths) (high x ∷ low x ∷ [])))) e

-- ---- a store more

abbrev pub store_state : MemberStore → State → State
store_state v s = set_pools (set_stores (s.pools.stores ++ (v ∷ [])) s.pools) s

abbrev store_words : MemberStore → ℕ → ℕ → List ℕ → List ℕ
store_words v stores paths ws = sets (path_words v.path paths ws) (STORES + 4 * stores) (root_kind v.root ∷ root_index v.root ∷ paths ∷ length v.path ∷ [])

entries_more : (xs : List MemberStore) (v : MemberStore) → path_entries (xs ++ (v ∷ [])) ≡ path_entries xs + length v.path
entries_more [] v = omega arith
entries_more (x ∷ xs) v = let i = entries_more xs v in omega arith

module _ (v : MemberStore) where
  -- fewer stores fit as well
  back_store : (A : Abs) → Fits (on_state (store_state v) A) → Fits A
  back_store A f =
      let l = length-append A.state.pools.stores (v ∷ []) in
      let e = entries_more A.state.pools.stores v in
      search common_rules

  -- what is found, where there is room
  store_found : (h : Held) → h.0.listed.stores < 192 → h.0.listed.paths + length v.path ≤ 256 →
      store_added (root_kind v.root) (root_index v.root) h.0.listed.paths (length v.path) (all_added v.path h) ≡ (record { state = set_listed (record h.0.listed { stores = h.0.listed.stores + 1; paths = h.0.listed.paths + length v.path }) h.0; index = h.0.listed.stores }, store_words v h.0.listed.stores h.0.listed.paths h.1)
  unfolding store_added appended_count appended_words
  store_found h l m = rw (all_added_lem v.path h m, lt-ltb h.0.listed.stores 192 l)

  module _ (ws : List ℕ) (stores paths : ℕ) (enough : 16384 ≤ length ws) (less : stores < 192) (room : paths + length v.path ≤ 256) where
    abbrev entry : List ℕ
    entry = root_kind v.root ∷ root_index v.root ∷ paths ∷ length v.path ∷ []

    abbrev mid : List ℕ
    mid = path_words v.path paths ws

    abbrev vs : List ℕ
    vs = store_words v stores paths ws

    mid_apart : Apart ws mid STORES CALLS
    mid_apart = apart_wider (path_apart v.path paths ws) STORES CALLS (omega arith) (omega arith)

    end_apart : Apart mid vs STORES CALLS
    end_apart = apart_wider (sets_apart mid (STORES + 4 * stores) entry) STORES CALLS (omega arith) (omega arith)

    words_apart : Apart ws vs STORES CALLS
    words_apart = apart_both mid_apart end_apart

    -- the words of the stores that are there, and of their paths
    old_stores : Agree ws vs STORES (STORES + 4 * stores)
    old_stores j a b = (sets_apart mid (STORES + 4 * stores) entry).below j (omega arith) ∙ (path_apart v.path paths ws).below j (omega arith)

    old_paths : Agree ws vs PATHS (PATHS + 2 * paths)
    old_paths j a b = (sets_apart mid (STORES + 4 * stores) entry).above j (omega arith) ∙ (path_apart v.path paths ws).below j (omega arith)

    new_store : StoreAt (paths + length v.path) vs (STORES + 4 * stores) v
    new_store =
        let at = STORES + 4 * stores in
        let n = mid_apart.same_length in
        let f : at + length entry ≤ length mid = omega (arith, n, enough, less) in
        let e0 : at ≡ at + 0 = omega arith in
        let first : get_or vs (at + 2) 0 ≡ paths = sets_stored mid at entry 2 (omega arith) f in (
          record {
            kind = ap (λ (j : ℕ). get_or vs j 0) e0 ∙ sets_stored mid at entry 0 (omega arith) f;
            index = sets_stored mid at entry 1 (omega arith) f;
            count = sets_stored mid at entry 3 (omega arith) f;
            path = subst (λ (j : ℕ). HashesAre vs (PATHS + 2 * j) v.path) (sym first)
                (λ k l. hash_local mid vs (PATHS + 2 * paths + 2 * k) (get_or v.path k 0) (λ j a b. (sets_apart mid at entry).above j (omega arith)) (path_hashes_lem v.path paths ws (omega arith) k l));
          },
          omega (arith, first),
        )

    more_stores : (xs : List MemberStore) → Table 4 (StoreAt paths ws) STORES stores xs → Table 4 (StoreAt (paths + length v.path) vs) STORES (stores + 1) (xs ++ (v ∷ []))
    more_stores xs t =
        let k = weigh_length 4 xs in
        let c = t.count in
        let p : STORES + 4 * stores ≡ STORES + weigh 4 xs = omega (arith, k, c) in
        record {
          count = omega (arith, c, length-append xs (v ∷ []));
          rows = rows_snoc 4 (StoreAt (paths + length v.path) vs) STORES xs v
              (rows_moved 4 (StoreAt paths ws) (StoreAt (paths + length v.path) vs) ws vs (λ q s g h. let r = store_keep ws vs paths old_paths q s g h in (r.0, omega (arith, r.1))) STORES xs (λ j a b. old_stores j a (omega (arith, p, b))) t.rows)
              (subst (λ (q : ℕ). StoreAt (paths + length v.path) vs q v) p new_store);
        }

  pub store_enters : (tree : List ℕ) → Enters tree (store_state v) (λ s. length s.pools.stores) (λ h. store_added (root_kind v.root) (root_index v.root) h.0.listed.paths (length v.path) (all_added v.path h))
  store_enters tree = record {
    back = back_store;
    index = λ c A h f x. ap (λ (y : Found). y.0.index) (store_found h (less A h f x.tables.stores_held.the_stores.count) (room A h f x.tables.stores_held.path_count)) ∙ x.tables.stores_held.the_stores.count;
    keep = λ c A h f x.
        let l = less A h f x.tables.stores_held.the_stores.count in
        let m = room A h f x.tables.stores_held.path_count in
        let e = x.enough in
        let a = words_apart h.1 h.0.listed.stores h.0.listed.paths e l m in
        let n = a.same_length in
        let p = x.tables.stores_held.path_count in
        subst (λ (y : Found). Content tree c (y.0.state, y.1) (on_state (store_state v) A)) (sym (store_found h l m))
        (record {
          enough = omega (arith, n, e);
          beside = x.beside;
          tables = stores_changed tree h.1 (store_words v h.0.listed.stores h.0.listed.paths h.1) A (back_store A f) a x.tables (record {
            the_stores = more_stores h.1 h.0.listed.stores h.0.listed.paths e l m A.state.pools.stores x.tables.stores_held.the_stores;
            path_count = omega (arith, p, entries_more A.state.pools.stores v);
          });
        });
  }
    where
      less : (A : Abs) (h : Held) → Fits (on_state (store_state v) A) → h.0.listed.stores ≡ length A.state.pools.stores → h.0.listed.stores < 192
      less A h f e = omega (arith, f.stores, length-append A.state.pools.stores (v ∷ []), e)

      room : (A : Abs) (h : Held) → Fits (on_state (store_state v) A) → h.0.listed.paths ≡ path_entries A.state.pools.stores → h.0.listed.paths + length v.path ≤ 256
      room A h f e = omega (arith, f.paths, entries_more A.state.pools.stores v, e)

-- ---- the lowerings

-- steps that give the same
pub does_same : {tree : List ℕ} {f : Lowering} {c : Counts} {F G : Step} → ((h : Held) → F h ≡ G h) → Does tree f c F → Does tree f c G
does_same {tree} {f} {c} e d = record { back = d.back; keep = λ A h k r. subst (λ (y : Held). Content tree c y (run f c A)) (e h) (d.keep A h k r) }

module _ {tree : List ℕ} {c : Counts} where
  pub store_with : (v : MemberStore) {f : ℕ → Lowering} {F : ℕ → Step} → ((i : ℕ) → Does tree (f i) c (F i)) → Does tree (with_store v f) c (λ h. going (store_added (root_kind v.root) (root_index v.root) h.0.listed.paths (length v.path) (all_added v.path h)) F)
  store_with v d = with_does (store_enters v tree) d

module _ (tree : List ℕ) (c : Counts) (n p : ℕ) (m : P.Path) (e : PathEnd) (q : ℕ) (small : length tree ≤ 6144) (same : EndsAt tree n m e (R.path_hashes tree n p)) where
  abbrev rooted : StoreRoot → Lowering
  rooted r = with_store (record { root = r; path = m.hashes }) λ k. put (I.plain (I.store_member k q))

  -- with that root
  store_as_lem : (r : StoreRoot) (kind index : ℕ) → root_kind r ≡ kind → root_index r ≡ index → Does tree (rooted r) c (R.store_as tree kind index n p e.count q)
  unfolding R.store_as word_of
  store_as_lem r kind index a b =
      does_same {F = λ h. going (store_added (root_kind r) (root_index r) h.0.listed.paths (length m.hashes) (all_added m.hashes h)) λ k. instr 12 0 k q}
      (λ h. rw (a, b, sym (same.count_is), sym (same.adds h)))
      (store_with (record { root = r; path = m.hashes }) (λ i. instr_does (I.plain (I.store_member i q)) refl))

  root_lem : Does tree (D.with_root m.root rooted) c (R.store_under tree e.root n p e.count q)
  unfolding D.with_root R.store_under root_kind root_index
  root_lem =
      subst (λ (v : T.Payload). Does tree (D.with_root v rooted) c (R.store_under tree e.root n p e.count q)) (same.root_is)
      (variable_lem e.root (same.root_sound) small (λ v. R.store_as tree (K.root_kind v.0.index) (K.root_index v.0.index) n p e.count q (v.0.state, v.1)) _ _
      (store_as_lem root_other 2 0 refl refl)
      (λ r t. name_does r t (λ i. store_as_lem (root_var i) 0 i refl refl))
      (λ r t. temp_does r t (λ i. store_as_lem (root_temp i) 1 i refl refl)))

  member_store_lem : Does tree (D.member_store m q) c (λ h. R.store_under tree e.root n p e.count q (still (λ s. L.flagged 16 (L.not_float_only s)) h))
  unfolding D.member_store
  member_store_lem = flagged_does (λ f. S.sets USES_MEMBERS (S.not_float_only f)) (λ s. L.flagged 16 (L.not_float_only s)) (sets_not_move 16) root_lem

module _ (tree : List ℕ) (c : Counts) (n p : ℕ) (few : n ≤ LEVELS) (sound : Sound n tree p) (small : length tree ≤ 6144) where
  abbrev path : P.Path
  path = P.path (tree_at n tree p)

  -- by whether the target is a link, and by where its path ends
  member_if : (q : ℕ) (b : Bool) (o : Option PathEnd) → PathIs tree n path o (R.path_hashes tree n p) → Does tree (cond (b && path.fine) (D.member_store path q) (failing 7)) c
      (either b (R.with_path o λ e h. R.store_under tree e.root n p e.count q (still (λ s. L.flagged 16 (L.not_float_only s)) h)) (W.failed Refusal.Failed))
  member_if q false o i = failing_does Refusal.Failed
  member_if q true None i = subst (λ (x : Bool). Does tree (cond x (D.member_store path q) (failing 7)) c (W.failed Refusal.Failed)) (sym i) (failing_does Refusal.Failed)
  member_if q true (Some e) i =
      subst (λ (x : Bool). Does tree (cond x (D.member_store path q) (failing 7)) c (λ h. R.store_under tree e.root n p e.count q (still (λ s. L.flagged 16 (L.not_float_only s)) h)))
      (sym i.fine_is) (member_store_lem tree c n p path e q small i)

  store_member_lem : (q : ℕ) → Does tree (cond (is_member (rule_at (op_at tree p)) && path.fine) (D.member_store path q) (failing 7)) c (R.store_member tree n p q)
  unfolding R.store_member
  store_member_lem q = member_if q (R.is_link tree p) (R.path_end tree n p) (path_is tree n p few sound)

  stored_to : (a : ℕ) → Does tree (D.stores (rule_at (op_at tree p)) (payload_at tree p) (P.path (tree_at n tree p)) (post_bits tree a)) c (R.store tree n p a)
  unfolding D.stores R.store R.store_to put_variable word_of
  stored_to a = post_does (post_bits tree a) (λ q.
      found_lem p (node_sound n tree p sound) small (R.store_member tree n p q) (λ i. put_variable 10 11 i q) _ _
      (store_member_lem q)
      (λ r t. name_does r t (λ i. instr_does (I.plain (I.store_var i q)) refl))
      (λ r t. temp_does r t (λ i. instr_does (I.plain (I.store_temp i q)) refl)))

-- n are the target's levels; the post is the one of the node at a
pub store_does : {tree : List ℕ} {c : Counts} (n p a : ℕ) → n ≤ LEVELS → Sound n tree p → length tree ≤ 6144 → Does tree (D.stores (rule_at (op_at tree p)) (payload_at tree p) (P.path (tree_at n tree p)) (post_bits tree a)) c (R.store tree n p a)
store_does {tree} {c} n p a few sound small = stored_to tree c n p few sound small a
