-- Every packing that the search meets, and the start, is a packing. Assumes nothing.
use Rattle.std.proofs.Common.{◌≡◌, ◌≢◌, refl, sym, ap, subst, ◌∙◌, Bool, true, false, cond, List, [], ◌∷◌, ◌++◌, append_assoc, append-nil, ℕ, zero, suc, ◌+◌, ◌-◌, ◌≤◌, ◌<◌, max, arith, length, get_or, set, take, replicate, eqb, leb-true, eq-eqb, length-append, length-set, get_or-set_same, get_or-set_other, get_or-take, length-take-le}
use Rattle.std.specs.List.{range_with_len, flat_map, AllByRecursion as Each}
use Rattle.std.proofs.lemmas.Bool.Decides.{nat_tests}
use Rattle.std.proofs.lemmas.List.{get_or-replicate, length-replicate}
use Rattle.std.proofs.lemmas.List.Elements.{All-from_recursion, recursion_from_All, All-take}
use Rattle.pages.specs.declared.order.Image.{Image}
use Rattle.pages.specs.declared.state.State.{State}
use Rattle.pages.specs.Order.{order}
use Rattle.pages.specs.State.{empty, put, has_room, first_room, started, start}
use Rattle.pages.specs.Search.{Visit, tried, visits, all_visits, ended, packings, met, best}
use Rattle.pages.specs.Packs.{upto, part, Opens, Packed}
use Rattle.pages.proofs.Sums.{over, over_append, over_ordered, upto_same, upto_one, upto_out}
use Rattle.pages.proofs.Fewest.{first_fewest}
use Rattle.pages.proofs.Sorted.{one, others, length_order, order_each, each_order}

module _ {X : Type 0} (P : X → Type 0) where
  each_weaker : (Q : X → Type 0) → ((x : X) → P x → Q x) → (xs : List X) → Each P xs → Each Q xs
  each_weaker Q f [] h = tt
  each_weaker Q f (x ∷ xs) h = (f x h.0, each_weaker Q f xs h.1)

  each_append : (xs ys : List X) → Each P xs → Each P ys → Each P (xs ++ ys)
  each_append [] ys h k = k
  each_append (x ∷ xs) ys h k = (h.0, each_append xs ys h.1 k)

  each_middle : (xs : List X) (y : X) (ys : List X) → Each P (xs ++ y ∷ ys) → P y
  each_middle [] y ys h = h.0
  each_middle (x ∷ xs) y ys h = each_middle xs y ys h.1

-- the bytes of an image that lie on page p
abbrev bytes : (ℕ → ℕ) → ℕ → Image → ℕ
bytes page p a = cond (eqb (page a.index) p) a.size 0

over_same : (f g : Image → ℕ) (bs : List Image) → Each (λ b. f b ≡ g b) bs → over f bs ≡ over g bs
unfolding over
over_same f g [] h = refl
over_same f g (b ∷ bs) h = omega (arith, h.0, over_same f g bs h.1)

-- pages that are opened in order
module _ (f : ℕ → ℕ) where
  opens_same : (g : ℕ → ℕ) (bs : List Image) (k m : ℕ) → Each (λ b. f b.index ≡ g b.index) bs → Opens f bs k m → Opens g bs k m
  unfolding Opens
  opens_same g [] k m h o = o
  opens_same g (b ∷ bs) k m h o = (omega (arith, o.0, h.0), rw h.0 at (opens_same g bs (max k (f b.index + 1)) m h.1 o.1))

  opens_more : (bs : List Image) (a : Image) (k m : ℕ) → Opens f bs k m → f a.index ≤ m → Opens f (bs ++ a ∷ []) k (max m (f a.index + 1))
  unfolding Opens
  opens_more [] a k m o l = (omega arith, ap (λ (n : ℕ). max n (f a.index + 1)) o)
  opens_more (b ∷ bs) a k m o l = (o.0, opens_more bs a (max k (f b.index + 1)) m o.1 l)

  opens_length : (bs : List Image) (k m : ℕ) → Opens f bs k m → (k ≤ m) × (m ≤ k + length bs)
  unfolding Opens
  opens_length [] k m o = omega arith
  opens_length (b ∷ bs) k m o = omega (arith, opens_length bs (max k (f b.index + 1)) m o.1, o.0)

  -- each image has a page below the number of pages
  opens_within : (bs : List Image) (k m : ℕ) → Opens f bs k m → Each (λ b. f b.index < m) bs
  unfolding Opens
  opens_within [] k m o = tt
  opens_within (b ∷ bs) k m o = (omega (arith, opens_length bs (max k (f b.index + 1)) m o.1), opens_within bs (max k (f b.index + 1)) m o.1)

  -- each page that was opened has an image
  used_by : (P : Image → Type 0) (b : Image) (p k : ℕ) (c : Bool) → eqb (f b.index) p ≡ c → P b → f b.index ≤ k → k ≤ p
      → (max k (f b.index + 1) ≤ p → (a : Image) × P a × (f a.index ≡ p)) → (a : Image) × P a × (f a.index ≡ p)
  used_by P b p k true e h l m r = (b, h, grind (arith, nat_tests))
  used_by P b p k false e h l m r = r (grind (arith, nat_tests))

  opens_used : (P : Image → Type 0) (bs : List Image) (p k m : ℕ) → Each P bs → Opens f bs k m → k ≤ p → p < m → (a : Image) × P a × (f a.index ≡ p)
  unfolding Opens
  opens_used P [] p k m h o l n = absurd (omega arith)
  opens_used P (b ∷ bs) p k m h o l n = used_by P b p k (eqb (f b.index) p) refl h.0 o.0 l (λ q. opens_used P bs p (max k (f b.index + 1)) m h.1 o.1 q n)

-- what holds of a state in which the images `done` are placed
pub record Placed (done : List Image) (st : State) : Type 0 where
  pub long : length st.pages ≡ 32
  pub room : (p : ℕ) → over (bytes (λ j. get_or st.pages j 0) p) done + get_or st.free p 0 ≤ 4096
  pub opens : Opens (λ j. get_or st.pages j 0) done 0 st.opened
  pub fresh : (p : ℕ) → st.opened ≤ p → p < 32 → get_or st.free p 0 ≡ 4096

less_free : (l : List ℕ) (i s : ℕ) → s ≤ get_or l i 0 → get_or (set l i (get_or l i 0 - s)) i 0 + s ≤ get_or l i 0
less_free [] i s h = omega arith
less_free (x ∷ l) zero s h = omega arith
less_free (x ∷ l) (suc i) s h = less_free l i s h

module _ (done : List Image) (a : Image) (p : ℕ) (st : State) (h : Placed done st) (new : Each (λ b. a.index ≢ b.index) done) (low : a.index < 32)
    (order : p ≤ st.opened) (fits : a.size ≤ get_or st.free p 0) where
  abbrev old : ℕ → ℕ
  old j = get_or st.pages j 0

  abbrev now : ℕ → ℕ
  now j = get_or (set st.pages a.index p) j 0

  at_a : now a.index ≡ p
  at_a = get_or-set_same st.pages a.index p 0 (omega (arith, h.long))

  same : Each (λ b. old b.index ≡ now b.index) done
  same = each_weaker _ _ (λ b n. sym (get_or-set_other st.pages a.index b.index p 0 (λ e. n (sym e)))) done new

  same_bytes : (q : ℕ) → over (bytes old q) done ≡ over (bytes now q) done
  same_bytes q = over_same _ _ done (each_weaker _ _ (λ b e. ap (λ (m : ℕ). cond (eqb m q) b.size 0) e) done same)

  page_room : (q : ℕ) (c : Bool) → eqb p q ≡ c
      → over (bytes now q) done + (cond c a.size 0 + 0) + get_or (set st.free p (get_or st.free p 0 - a.size)) q 0 ≤ 4096
  page_room q true e =
      let z : p ≡ q = grind (arith, nat_tests) in
      rw (← z) (omega (arith, less_free st.free p a.size fits, h.room p, same_bytes p))
  page_room q false e =
      let n : q ≢ p = grind (arith, nat_tests) in
      rw (get_or-set_other st.free p q (get_or st.free p 0 - a.size) 0 n) (omega (arith, h.room q, same_bytes q))

  placed_more : Placed (done ++ a ∷ []) (put a p st)
  unfolding over
  placed_more = record {
    long = length-set st.pages a.index p ∙ h.long;
    room = λ q. rw (over_append (bytes now q) done (a ∷ []), at_a) (page_room q (eqb p q) refl);
    opens = rw at_a at (opens_more now done a 0 st.opened (opens_same old now done 0 st.opened same h.opens) (rw at_a order));
    fresh = λ q l m. get_or-set_other st.free p q (get_or st.free p 0 - a.size) 0 (λ e. omega arith) ∙ h.fresh q (omega arith) m;
  }

-- the first page with room has room, if the page behind the open ones has
first_fits : (free : List ℕ) (s p q e : ℕ) → p + q ≡ e → s ≤ get_or free e 0 → (first_room free s p q ≤ e) × (s ≤ get_or free (first_room free s p q) 0)
unfolding first_room
first_fits free s p zero e z h = let y : p ≡ e = omega arith in rw y (omega arith, h)
first_fits free s p (suc q) e z h = grind (arith, nat_tests, first_fits free s (suc p) q e (omega arith) h)

-- a list of images in the order of the search
pub record Fit (o : List Image) : Type 0 where
  pub once : (j : ℕ) → over (one j) o ≤ 1
  pub low : Each (λ a. (a.index < 32) × (a.size ≤ 4096)) o
  pub few : length o ≤ 32

-- a state of the search: the first images are placed, and these are left
pub record Good (o left : List Image) (st : State) : Type 0 where
  pub done : List Image
  pub split : o ≡ done ++ left
  pub placed : Placed done st

module _ (o : List Image) (fit : Fit o) where
  all_placed : (st : State) → Good o [] st → Placed o st
  all_placed st g = let e : o ≡ g.done = g.split ∙ append-nil g.done in rw e g.placed

  module _ (a : Image) (left : List Image) (st : State) (g : Good o (a ∷ left) st) where
    is_low : (a.index < 32) × (a.size ≤ 4096)
    is_low = each_middle _ g.done a left (rw g.split at fit.low)

    is_new : over (one a.index) g.done ≡ 0
    unfolding over
    is_new =
        let c : over (one a.index) g.done + (one a.index a + over (one a.index) left) ≤ 1 = rw (g.split, over_append) at (fit.once a.index) in
        let d : over (one a.index) g.done + (1 + over (one a.index) left) ≤ 1 = rw (eq-eqb a.index a.index refl) at c in
        omega arith

    -- the page behind the open ones has room
    pub room_behind : a.size ≤ get_or st.free st.opened 0
    room_behind =
        let n = opens_length (λ j. get_or st.pages j 0) g.done 0 st.opened g.placed.opens in
        let l : st.opened < 32 = omega (arith, n, ap length g.split, length-append g.done (a ∷ left), fit.few) in
        omega (arith, g.placed.fresh st.opened (omega arith) l, is_low)

    good_put : (p : ℕ) → p ≤ st.opened → a.size ≤ get_or st.free p 0 → Good o left (put a p st)
    good_put p l h = record {
      done = g.done ++ a ∷ [];
      split = g.split ∙ sym (append_assoc g.done (a ∷ []) left);
      placed = placed_more g.done a p st g.placed (others a.index g.done is_new) is_low.0 l h;
    }

    -- the first page with room
    pub first_good : Good o left (put a (first_room st.free a.size 0 st.opened) st)
    first_good = let f = first_fits st.free a.size 0 st.opened st.opened (omega arith) room_behind in good_put (first_room st.free a.size 0 st.opened) f.0 f.1

  started_placed : (left : List Image) (st : State) → Good o left st → Placed o (started left st)
  unfolding started
  started_placed [] st g = all_placed st g
  started_placed (a ∷ left) st g = started_placed left (put a (first_room st.free a.size 0 st.opened) st) (first_good a left st g)

  -- every step of the search
  abbrev GoodVisit : Visit → Type 0
  GoodVisit v = Good o v.left v.state

  tried_good : (c : Bool) (below : State → List Visit) (left : List Image) (st : State) → (c ≡ true → Good o left st)
      → ((s : State) → Good o left s → Each GoodVisit (below s))
      → Each GoodVisit (tried c below left st)
  unfolding tried
  tried_good false below left st h k = tt
  tried_good true below left st h k = (h refl, k st (h refl))

  pages_good : (a : Image) (left : List Image) (st : State) (p q : ℕ)
      → ((s : State) → Good o left s → Each GoodVisit (visits left s)) → Good o (a ∷ left) st → p + q ≡ st.opened + 1
      → Each GoodVisit (flat_map (λ p. tried (has_room a p st) (visits left) left (put a p st)) (range_with_len p q))
  pages_good a left st p zero k g e = tt
  pages_good a left st p (suc q) k g e =
      each_append _ _ _
      (tried_good (has_room a p st) (visits left) left (put a p st) (λ t. good_put a left st g p (omega arith) (leb-true a.size (get_or st.free p 0) t)) k)
      (pages_good a left st (p + 1) q k g (omega arith))

  visits_good : (left : List Image) (st : State) → Good o left st → Each GoodVisit (visits left st)
  unfolding visits
  visits_good [] st g = tt
  visits_good (a ∷ left) st g = pages_good a left st 0 (st.opened + 1) (λ s h. visits_good left s h) g (omega arith)

  ended_placed : (left : List Image) (st : State) (ss : List State) → Good o left st → Each (Placed o) ss → Each (Placed o) (ended left st ss)
  unfolding ended
  ended_placed [] st ss g h = (all_placed st g, h)
  ended_placed (a ∷ left) st ss g h = h

  packings_placed : (vs : List Visit) → Each GoodVisit vs → Each (Placed o) (packings vs)
  unfolding packings
  packings_placed [] h = tt
  packings_placed (v ∷ vs) h = ended_placed v.left v.state (packings vs) h.0 (packings_placed vs h.1)

all_left : (n p : ℕ) → get_or (replicate n 4096) p 0 ≤ 4096
all_left zero p = omega arith
all_left (suc n) zero = omega arith
all_left (suc n) (suc p) = all_left n p

image_once : (j n : ℕ) → upto (λ p. cond (eqb j p) 1 0) n ≤ 1
image_once j n = grind (arith, upto_one j 1 n, upto_out j 1 n)

module _ (xs : List ℕ) (few : length xs ≤ 32) (low : (j : ℕ) → get_or xs j 0 ≤ 4096) where
  pub order_fit : Fit (order xs)
  order_fit = record {
    once = λ j. omega (arith, over_ordered (one j) xs (length xs), image_once j (length xs));
    low = order_each (λ a. (a.index < 32) × (a.size ≤ 4096)) xs (λ j l. (omega arith, low j));
    few = omega (arith, length_order xs);
  }

  pub empty_good : Good (order xs) (order xs) empty
  unfolding over Opens
  empty_good = record {
    done = [];
    split = refl;
    placed = record {
      long = length-replicate {A = ℕ} 32 0;
      room = λ p. omega (arith, all_left 32 p);
      opens = refl;
      fresh = λ p l h. get_or-replicate 32 p 4096 0 h;
    };
  }

  start_placed : Placed (order xs) (start xs)
  start_placed = started_placed (order xs) order_fit (order xs) empty empty_good

  met_placed : (b : ℕ) → Each (Placed (order xs)) (met xs b)
  met_placed b =
      let G : Visit → Type 0 = GoodVisit (order xs) order_fit in
      let all = All-from_recursion G (all_visits xs) (visits_good (order xs) order_fit (order xs) empty empty_good) in
      packings_placed (order xs) order_fit _ (recursion_from_All G _ (All-take G b (all_visits xs) all))

  best_placed : (b : ℕ) → Placed (order xs) (best xs b)
  best_placed b =
      let f = first_fewest (start xs) (met xs b) in
      each_middle (Placed (order xs)) f.0 _ f.1 (subst (Each (Placed (order xs))) f.2 (start_placed, met_placed b))

  -- pages that are those of a state in which all images are placed
  placed_packs : (at : List ℕ) (st : State) → ((j : ℕ) → j < length xs → get_or st.pages j 0 ≡ get_or at j 0) → Placed (order xs) st → Packed xs at st.opened
  placed_packs at st e h =
      let old : ℕ → ℕ = λ j. get_or st.pages j 0 in
      let opens = opens_same old (λ j. get_or at j 0) (order xs) 0 st.opened (order_each _ xs e) h.opens in
      record {
        packs = record {
          within = each_order (λ a. get_or at a.index 0 < st.opened) xs (opens_within (λ j. get_or at j 0) (order xs) 0 st.opened opens);
          room = λ p. omega (
            arith,
            h.room p,
            over_ordered (bytes old p) xs (length xs),
            upto_same (part xs old p) (part xs (λ j. get_or at j 0) p) (length xs) (λ j l. ap (λ (m : ℕ). cond (eqb m p) (get_or xs j 0) 0) (e j l)),
          );
        };
        opens = opens;
      }

  -- each packing met, and the start
  pub each_packs : (b : ℕ) → Each (λ st. Packed xs st.pages st.opened) (start xs ∷ met xs b)
  each_packs b = each_weaker (Placed (order xs)) _ (λ st h. placed_packs st.pages st (λ j l. refl) h) (start xs ∷ met xs b) (start_placed, met_placed b)

  pub best_packs : (b : ℕ) → Packed xs (take (length xs) (best xs b).pages) (best xs b).opened
  best_packs b = placed_packs _ (best xs b) (λ j l. sym (get_or-take (length xs) (best xs b).pages j 0 l)) (best_placed b)

  pub best_listed : (b : ℕ) → length (take (length xs) (best xs b).pages) ≡ length xs
  best_listed b = length-take-le (length xs) (best xs b).pages (omega (arith, (best_placed b).long))

-- Each page of a packing has an image.
pub no_page_empty : (xs at : List ℕ) (k : ℕ) → Packed xs at k → (p : ℕ) → p < k → (j : ℕ) × (j < length xs) × (get_or at j 0 ≡ p)
no_page_empty xs at k h p l =
    let y = opens_used (λ j. get_or at j 0) (λ a. a.index < length xs) (order xs) p 0 k (order_each _ xs (λ j n. n)) h.opens (omega arith) l in
    (y.0.index, y.1, y.2)
