-- The search, page by page: steps behind steps, and what a page adds. Assumes nothing.
use mathlib.Core.Path.{◌≡◌, refl, sym, ap, ◌∙◌, subst}
use native.Mathlib.Omega.{arith}
use native.Mathlib.Numerals.{add-one}
use Rattle.std.proofs.Common.{ℕ, zero, suc, ◌+◌, ◌-◌, ◌<◌, ◌≤◌, List, [], ◌∷◌, ◌++◌, length, take, drop, get_or}
use Rattle.std.specs.List.{flat_map, range_with_len}
use Rattle.std.proofs.lemmas.List.{length-append, append-nil, set-set, set-get_or}
use Rattle.std.proofs.lemmas.Bool.{le-leb, lt-leb}
use Rattle.std.proofs.lemmas.Grind.{flat_map-append}
use Rattle.std.proofs.Math.Seq.{slice-cons, slice_empty}
use Rattle.pages.specs.declared.order.Image.{Image}
use Rattle.pages.specs.declared.state.State.{State}
use Rattle.pages.specs.declared.state.Search.{Search}
use Rattle.pages.specs.State.{put, there, put_back, has_room}
use Rattle.pages.specs.Search.{Visit, tried, visits, on_page, ended, packings, better, fewest}
use Rattle.pages.specs.Searched.{left_from, Searched}

-- the steps with the first of the images on one of the first n pages
unfoldable pub turns : List Image → State → ℕ → List Visit
turns [] st n = []
turns (a ∷ bs) st n = flat_map (λ p. tried (has_room a p st) (visits bs) bs (put a p st)) (range_with_len 0 n)

-- the packings among the first of some steps and then others
ended_append : (js : List Image) (st : State) (ss ts : List State) → ended js st (ss ++ ts) ≡ ended js st ss ++ ts
unfolding ended
ended_append [] st ss ts = refl
ended_append (j ∷ js) st ss ts = refl

pub packings_append : (us vs : List Visit) → packings (us ++ vs) ≡ packings us ++ packings vs
unfolding packings
packings_append [] vs = refl
packings_append (u ∷ us) vs = ap (ended u.left u.state) (packings_append us vs) ∙ ended_append u.left u.state (packings us) (packings vs)

pub fewest_append : (m : State) (ss ts : List State) → fewest m (ss ++ ts) ≡ fewest (fewest m ss) ts
fewest_append m [] ts = refl
fewest_append m (s ∷ ss) ts = fewest_append (better m s) ss ts

pub take_none : (n : ℕ) → take {A = Visit} n [] ≡ []
take_none zero = refl
take_none (suc n) = refl

none_of : (n : ℕ) (vs : List Visit) → take (0 - suc n) vs ≡ []
none_of n vs = let e : 0 - suc n ≡ 0 = omega arith in rw e

take_both : (n : ℕ) (us vs : List Visit) → take n (us ++ vs) ≡ take n us ++ take (n - length us) vs
take_both n [] vs = let e : n - 0 ≡ n = omega arith in rw (take_none n, e)
take_both zero (u ∷ us) vs = sym (none_of (length us) vs)
take_both (suc n) (u ∷ us) vs = ap (λ ws. u ∷ ws) (take_both n us vs ∙ let e : n - length us ≡ suc n - suc (length us) = omega arith in ap (λ m. take n us ++ take m vs) e)

-- steps, and then others with what is left of the budget
pub joined : (s t u : Search) (us vs : List Visit) (b k m : ℕ) → Searched s us b t k → Searched t vs (b - k) u m → Searched s (us ++ vs) b u (k + m)
joined s t u us vs b k m h g =
    let rest : b - k ≡ b - length us = omega (arith, h.steps) in
    let whole : fewest s.best (packings (take b (us ++ vs))) ≡ fewest (fewest s.best (packings (take b us))) (packings (take (b - length us) vs)) = rw (take_both b us vs, packings_append, fewest_append) in
    record {
      steps = omega (arith, length-append us vs, h.steps, g.steps);
      left = g.left ∙ rw (h.left, rest, whole);
    }

-- no steps, and steps with none of the budget left
pub nothing : (s : Search) (b : ℕ) → Searched s [] b s 0
unfolding packings
nothing s b = record { steps = omega arith; left = rw (take_none b) refl }

pub none_left : (s : Search) (vs : List Visit) (b k : ℕ) → b ≤ k → Searched s vs (b - k) s 0
unfolding packings
none_left s vs b k l = let e : b - k ≡ 0 = omega arith in rw e (record { steps = omega arith; left = refl })

-- what page p adds to the pages before it
unfoldable pub at_page : List Image → ℕ → State → List Visit
at_page [] p st = []
at_page (a ∷ bs) p st = tried (has_room a p st) (visits bs) bs (put a p st)

pub none_yet : (s : Search) (left : List Image) (b : ℕ) → Searched s (turns left s.placed 0) b s 0
unfolding turns
none_yet s [] b = nothing s b
none_yet s (a ∷ bs) b = nothing s b

pub all_turns : (left : List Image) (st : State) → visits left st ≡ turns left st (st.opened + 1)
unfolding visits turns
all_turns [] st = refl
all_turns (a ∷ bs) st = refl

range_more : (a n : ℕ) → range_with_len a (suc n) ≡ range_with_len a n ++ (a + n) ∷ []
range_more a zero = let e : a ≡ a + 0 = omega arith in ap (λ k. k ∷ []) e
range_more a (suc n) = let e : a + 1 + n ≡ a + suc n = omega arith in ap (λ ks. a ∷ ks) (range_more (a + 1) n ∙ ap (λ k. range_with_len (a + 1) n ++ k ∷ []) e)

one_page : (f : ℕ → List Visit) (n : ℕ) → flat_map f (range_with_len 0 (n + 1)) ≡ flat_map f (range_with_len 0 n) ++ f n
one_page f n =
    let e : 0 + n ≡ n = omega arith in
    ap (flat_map f) (ap (range_with_len 0) (add-one n) ∙ range_more 0 n ∙ ap (λ k. range_with_len 0 n ++ k ∷ []) e)
    ∙ flat_map-append f (range_with_len 0 n) (n ∷ [])
    ∙ ap (λ vs. flat_map f (range_with_len 0 n) ++ vs) (append-nil (f n))

page_more : (left : List Image) (st : State) (p : ℕ) → turns left st (p + 1) ≡ turns left st p ++ at_page left p st
unfolding turns at_page
page_more [] st p = refl
page_more (a ∷ bs) st p = one_page _ p

-- a page that is passed over: there is no room, or no step is left
pub passed : (s t : Search) (left : List Image) (p b k : ℕ) → Searched s (turns left s.placed p) b t k → Searched t (at_page left p s.placed) (b - k) t 0
    → Searched s (turns left s.placed (p + 1)) b t k
passed s t left p b k h g =
    let e : k + 0 ≡ k = omega arith in
    let j : Searched s (turns left s.placed p ++ at_page left p s.placed) b t (k + 0) = joined s t t _ _ b k 0 h g in
    rw (page_more left s.placed p) (subst (λ n. Searched s (turns left s.placed p ++ at_page left p s.placed) b t n) e j)

-- a page on which the image goes
pub went : (s t u : Search) (left : List Image) (p b k m : ℕ) → Searched s (turns left s.placed p) b t k → Searched t (at_page left p s.placed) (b - k) u m
    → Searched s (turns left s.placed (p + 1)) b u (k + m)
went s t u left p b k m h g = rw (page_more left s.placed p) (joined s t u _ _ b k m h g)

-- the image at place i on page p: it is the last one
module _ (s : Search) (i p b : ℕ) (d : Image) (l : i < s.count) (f : s.count ≤ length s.images) where
  first_left : left_from i s ≡ get_or s.images i d ∷ left_from (i + 1) s
  first_left = rw (slice-cons i s.count s.images d l f, add-one i)

  pub last_one : (t : Search) → i + 1 ≡ s.count → 0 < b → t ≡ record s { best = better s.best (put (get_or s.images i d) p s.placed) } → Searched s (on_page (left_from i s) p s.placed) b t 1
  unfolding on_page tried visits packings ended
  last_one t e h is =
      let none : left_from (i + 1) s ≡ [] = ap (λ k. drop k (take s.count s.images)) e ∙ slice_empty s.count s.images in
      let more : b ≡ suc (b - 1) = omega (arith, h) in
      rw (first_left, none, more) (record { steps = omega arith; left = rw (take_none (b - 1)) is })

  pub and_more : (t u : Search) (m : ℕ) → i + 1 < s.count → 0 < b
      → Searched (record s { placed = put (get_or s.images i d) p s.placed }) (visits (left_from (i + 1) s) (put (get_or s.images i d) p s.placed)) (b - 1) t m
      → u ≡ record t { placed = s.placed } → Searched s (on_page (left_from i s) p s.placed) b u (1 + m)
  unfolding on_page tried packings ended
  and_more t u m e h g is =
      let some : left_from (i + 1) s ≡ get_or s.images (i + 1) d ∷ drop (suc (i + 1)) (take s.count s.images) = slice-cons (i + 1) s.count s.images d e f in
      let more : b ≡ suc (b - 1) = omega (arith, h) in
      rw (first_left, more) (record { steps = omega (arith, g.steps); left = is ∙ rw (g.left, some) refl })

  pub back : put_back (get_or s.images i d) p (there (get_or s.images i d) p s.placed) (put (get_or s.images i d) p s.placed) ≡ s.placed
  back = rw (set-set s.placed.free p, set-get_or s.placed.free p, set-set s.placed.pages, set-get_or s.placed.pages)

  -- a page with room, and one without, while the search stands at t
  module _ (t : Search) (x : State) (q : ℕ) (so : t ≡ record s { best = x }) (at : q ≡ p) where
    pub roomy : (get_or s.images i d).size ≤ get_or t.placed.free q 0 → at_page (left_from i s) p s.placed ≡ on_page (left_from i t) p t.placed
    unfolding at_page on_page
    roomy h =
        let r : (get_or s.images i d).size ≤ get_or s.placed.free p 0 = rw at at (rw so at h) in
        rw (so, first_left, le-leb (get_or s.images i d).size (get_or s.placed.free p 0) r) refl

    pub full : get_or t.placed.free q 0 < (get_or s.images i d).size → at_page (left_from i s) p s.placed ≡ []
    unfolding at_page tried
    full h =
        let r : get_or s.placed.free p 0 < (get_or s.images i d).size = rw at at (rw so at h) in
        rw (first_left, lt-leb (get_or s.images i d).size (get_or s.placed.free p 0) r) refl
