use lib.Bits.{or_lt, and_lt}
use mathlib.Core.Path.{◌≡◌}
use mathlib.Core.Bool.{Bool, true, false}
use mathlib.Core.List.{List, [], ◌∷◌, ◌++◌}
use Prim.Native.Nat.{ℕ, zero, suc, ◌≤◌, ◌<◌, ◌+◌}
use native.Mathlib.Omega.{arith}
use lib.ListN.{length}
use Rattle.ast.specs.Tree.{Name}
use Rattle.program.specs.Fits.{Below, Every, FitInstruction, FitPost, root_index}
use Rattle.program.specs.Image.{word_of}
use Rattle.program.specs.Instruction.{const, plain, Instruction, halt, push}
use Rattle.semantics.proofs.Costs.{Weight, weigh, weigh_length, size, waits, weigh_append}
use Rattle.semantics.proofs.Positions.{past_plus, interning}
use Rattle.program.specs.Counts.{Counts, EachCount, AtMost}
use Rattle.semantics.specs.Link.{relocate, settle, offsets_of}
use Rattle.semantics.specs.Pieces.{Lowered, emit, Lowering, flush, put, nothing, failing, put_const, ◌⨾◌, pushed, flagged, jumps}
use Rattle.semantics.specs.Positions.{◌⊕◌, past, intern}
use Rattle.semantics.specs.Run.{operand+}
use Rattle.semantics.specs.State.{Item, instr, CallInfo, MemberRead, Pools, Flags, sets, not_float_only, queried, State, raise}

-- Every index, target and value of a lowering fits its field, and no count goes deeper than the code is long: the relation `Ranged`,
-- closed under every combinator. It holds where the whole stays below 65,536 entries, which `Sizes` gives. Assumes nothing.

-- everything weighs 1, but an argument's start nothing
abbrev pub ones : Weight
ones = record { i = 1; co = 1; po = 1; ha = 1; na = λ n. 1; te = 1; me = λ n. 1; sa = 1; sm = 1; pa = 1; ca = 1; ar = 0 }

abbrev pub total : Lowered → ℕ
total x = weigh 1 x.code + size ones x.state

-- an item fits wherever its segment is placed
abbrev pub Fits : Item → Type 0
Fits x = (b : ℕ) → b ≤ 65535 → FitInstruction (settle b 0 0 x)

-- an instruction with a target
abbrev pub Aims : (ℕ → Instruction) → Type 0
Aims i = (t : ℕ) → t ≤ 65535 → Fits (instr (i t))

-- a name of the tree
pub record FitText (n : Name) : Type 0 where
  pub hash : Below 8 n.hash
  pub short : length n.text ≤ 255
  pub bytes : Every (Below 1) n.text

pub record FitRead (r : MemberRead) : Type 0 where
  pub own : FitText r.own
  pub last : FitText r.last

pub record FitInfo (i : CallInfo) : Type 0 where
  pub index : Below 2 i.index
  pub impl : Below 1 i.impl
  pub offsets : Every (λ o. o ≤ 65535) (offsets_of i.offsets)

pub record FitPools (p : Pools) : Type 0 where
  pub consts : Every (Below 4) p.consts
  pub posts : Every FitPost p.posts
  pub hashes : Every (Below 8) p.hashes
  pub names : Every FitText p.names
  pub temps : Every (Below 2) p.temps
  pub members : Every FitRead p.members
  pub stores : Every (λ v. Below 2 (root_index v.root) × Every (Below 8) v.path) p.stores
  pub calls : Every FitInfo p.calls
  pub segments : Every (Every Fits) p.segments

pub record FitParts (p : Pools) (f : Flags) : Type 0 where
  pub pools : FitPools p
  pub flags : f.bits < 2048

abbrev pub Good : State → Type 0
Good s = FitParts s.pools s.flags

pub record Done (x : Lowered) : Type 0 where
  pub good : Good x.state
  pub fits : Every Fits x.code

-- counts m have room for the counts c and all that a piece adds, from `before` entries and a Push that may wait to `after`
abbrev pub Room : Counts → Counts → ℕ → ℕ → ℕ → Type 0
Room c m w before after = EachCount (λ n most. n + after ≤ most + before + w) c m

-- the indices that stand in the piece are small
abbrev pub Under : List ℕ → Type 0
Under [] = Unit {0}
Under (x ∷ xs) = (x ≤ 65535) × Under xs

-- a piece at the counts c and the position n, with w for a Push that may wait, from the state s to x
pub record Adds (is : List ℕ) (c : Counts) (w n : ℕ) (s : State) (x : Lowered) : Type 0 where
  pub grows : size ones s + w ≤ total x
  pub deep : (m : Counts) → Room c m w (size ones s) (total x) → AtMost s.deepest m → AtMost x.state.deepest m
  pub ok : Under is → n + total x ≤ 65535 → Good s → Done x

pub record Ranged (is : List ℕ) (f : Lowering) : Type 0 where
  pub by : (c : Counts) (b : Bool) (n : ℕ) (s : State) → Adds is c (waits ones b) n s (f c b n s)

abbrev pub Ranged₀ : List ℕ → (Counts → ℕ → State → Lowered) → Type 0
Ranged₀ is f = (c : Counts) (n : ℕ) (s : State) → Adds is c 0 n s (f c n s)

-- lists whose entries fit
module _ {A : Type 0} (Q : A → Type 0) where
  pub every_append : (xs ys : List A) → Every Q xs → Every Q ys → Every Q (xs ++ ys)
  every_append [] ys h i = i
  every_append (x ∷ xs) ys h i = (h.0, every_append xs ys h.1 i)

  pub every_intern : {K : Type 0} (key : A → K) (dec : (a b : K) → Dec (a ≡ b)) (v : A) (xs : List A) → Q v → Every Q xs → Every Q (intern key dec v xs)
  every_intern key dec v xs q = interning key dec v (λ n xs ys k. Every Q xs → Every Q ys) (λ n h. (q, tt)) (λ n x xs p h. h) (λ n x xs ys k i h. (h.0, i h.1)) 0 xs

-- positions
pub past_weigh : {A : Type 0} (xs : List A) (n : ℕ) → past xs n ≡ n + weigh 1 xs
past_weigh xs n = omega (arith, past_plus xs n, weigh_length 1 xs)

pub shift : (b t : ℕ) → b ⊕ t ≡ b + t
shift b zero = omega arith
shift b (suc t) = let h = shift b t in omega arith

-- what a fork or a guard opens
pub record Up (up : Counts → Counts) : Type 0 where
  pub by : (c : Counts) → EachCount (λ n before. n ≤ suc before) (up c) c

fits_push : Fits (instr push)
unfolding settle relocate word_of
fits_push b h = omega arith

module _ {is : List ℕ} where
  -- a waiting Push
  pub flushed : {f : Counts → ℕ → State → Lowered} → Ranged₀ is f → Ranged is (λ c. flush (f c))
  unfolding flush
  flushed {f} a = record { by = go }
    where
      go : (c : Counts) (b : Bool) (n : ℕ) (s : State) → Adds is c (waits ones b) n s (flush (f c) b n s)
      go c true n s =
          let h = a c (suc n) s in
          record {
            grows = omega arith;
            deep = λ m r d. h.deep m (omega arith) d;
            ok = λ u l g. let x = h.ok u (omega arith) g in record { good = x.good; fits = (fits_push, x.fits) };
          }
      go c false n s = a c n s

  infixr 50 ◌then_r◌
  pub ◌then_r◌ : {f g : Lowering} → Ranged is f → Ranged is g → Ranged is (f ⨾ g)
  ◌then_r◌ {f} {g} a b = record {
    by = λ c p n s.
        let x = f c p n s in
        let i = past x.code n in
        let y = g c false i x.state in
        let h = a.by c p n s in
        let k = b.by c false i x.state in
        let e = weigh_append 1 x.code y.code in
        let o = past_weigh x.code n in
        record {
          grows = omega arith;
          deep = λ m r d. k.deep m (omega arith) (h.deep m (omega arith) d);
          ok = λ u l q. let v = h.ok u (omega arith) q in let w = k.ok u (omega arith) v.good in record { good = w.good; fits = every_append Fits x.code y.code v.fits w.fits };
        };
  }

  pub pushed_r : {f g : Lowering} → Ranged is f → Ranged is g → Ranged is (pushed f g)
  pushed_r {f} {g} a b = record {
    by = λ c p n s.
        let x = f c p n s in
        let i = past x.code n in
        let t = raise (operand+ c) x.state in
        let y = g (operand+ c) true i t in
        let h = a.by c p n s in
        let k = b.by (operand+ c) true i t in
        let e = weigh_append 1 x.code y.code in
        let o = past_weigh x.code n in
        record {
          grows = omega arith;
          deep = λ m r d. let v = h.deep m (omega arith) d in k.deep m (omega arith) (omega arith);
          ok = λ u l q. let v = h.ok u (omega arith) q in let w = k.ok u (omega arith) v.good in record { good = w.good; fits = every_append Fits x.code y.code v.fits w.fits };
        };
  }

  -- pieces with one instruction or none
  emits : {c : Counts} {n : ℕ} {s : State} (xs : List Item) → (Under is → Every Fits xs) → Adds is c 0 n s (emit xs s)
  emits xs h = record { grows = omega arith; deep = λ m r d. d; ok = λ u l g. record { good = g; fits = h u } }

  pub nothing_r : Ranged is nothing
  nothing_r = flushed (λ c n s. emits [] (λ u. tt))

  pub failing_r : (r : ℕ) → Ranged is (failing r)
  failing_r r = flushed (λ c n s. record { grows = omega arith; deep = λ m r d. d; ok = λ u l g. record { good = g; fits = tt } })

  pub put_r : (i : Instruction) → (Under is → Fits (instr i)) → Ranged is (put i)
  put_r i h = flushed (λ c n s. emits (instr i ∷ []) (λ u. (h u, tt)))

  pub jumps_r : (i : Item) → Fits i → (l : Bool) → Ranged is (jumps i l)
  unfolding jumps settle relocate word_of
  jumps_r i h true = flushed (λ c n s. emits (i ∷ []) (λ u. (h, tt)))
  jumps_r i h false = flushed (λ c n s. emits (instr halt ∷ []) (λ u. ((λ b k. omega arith), tt)))

  pub const_r : (k : ℕ) → (Under is → k ≤ 65535) → Ranged is (put_const k)
  unfolding put_const settle relocate word_of
  const_r k h = record { by = go }
    where
      go : (c : Counts) (b : Bool) (n : ℕ) (s : State) → Adds is c (waits ones b) n s (put_const k c b n s)
      go c true n s = record { grows = omega arith; deep = λ m r d. d; ok = λ u l g. let i = h u in record { good = g; fits = ((λ b j. omega arith), tt) } }
      go c false n s = emits (instr (plain (const k)) ∷ []) (λ u. let i = h u in ((λ b j. omega arith), tt))

  -- flags stay below 2,048
  pub flagged_r : (m : Flags → Flags) → ((f : Flags) → f.bits < 2048 → (m f).bits < 2048) → {f : Lowering} → Ranged is f → Ranged is (flagged m f)
  flagged_r m h a = record {
    by = λ c b n s. let x = a.by c b n _ in record { grows = x.grows; deep = x.deep; ok = λ u l g. x.ok u l (record { pools = g.pools; flags = h _ g.flags }) };
  }

pub sets_fit : (k : ℕ) → k < 2048 → (f : Flags) → f.bits < 2048 → (sets k f).bits < 2048
unfolding sets
sets_fit k h f g = or_lt 11 f.bits k g h

pub not_fit : (f : Flags) → f.bits < 2048 → (not_float_only f).bits < 2048
unfolding not_float_only
not_fit f g = and_lt 11 f.bits 2046 g (omega arith)

pub queried_fit : (a : Bool) (f : Flags) → f.bits < 2048 → (queried a f).bits < 2048
unfolding queried
queried_fit a f g = or_lt 11 _ 256 (and_lt 11 f.bits 2046 g (omega arith)) (omega arith)
