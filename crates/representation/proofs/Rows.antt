-- Entries of w words each, one behind the other in the workspace. Assumes nothing.
use Rattle.std.proofs.Common.{rules, ◌≡◌, refl, ap, subst, ◌∙◌, List, [], ◌∷◌, ◌++◌, ℕ, zero, suc, ◌+◌, ◌≤◌, ◌<◌, arith, length, get_or, set, length-set, get_or-set_same}
use lib.Seq.{sets}
use Rattle.semantics.proofs.Costs.{weigh}

-- the words two workspaces differ in lie from lo up to hi
pub record Apart (ws vs : List ℕ) (lo hi : ℕ) : Type 0 where
  pub same_length : length vs ≡ length ws
  pub below : (j : ℕ) → j < lo → get_or vs j 0 ≡ get_or ws j 0
  pub above : (j : ℕ) → hi ≤ j → get_or vs j 0 ≡ get_or ws j 0

-- ws and vs agree from o up to e
abbrev pub Agree : List ℕ → List ℕ → ℕ → ℕ → Type 0
Agree ws vs o e = (j : ℕ) → o ≤ j → j < e → get_or vs j 0 ≡ get_or ws j 0

module _ {A : Type 0} (w : ℕ) where
  abbrev pub Rows : (ℕ → A → Type 0) → ℕ → List A → Type 0
  Rows Q o [] = Unit {0}
  Rows Q o (x ∷ xs) = Q o x × Rows Q (o + w) xs

  -- a claim about an entry at a place looks at its own words only
  abbrev pub Local : (List ℕ → ℕ → A → Type 0) → Type 0
  Local Q = (ws vs : List ℕ) (p : ℕ) (x : A) → Agree ws vs p (p + w) → Q ws p x → Q vs p x

  pub rows_append : (Q : ℕ → A → Type 0) (o : ℕ) (xs ys : List A) → Rows Q o xs → Rows Q (o + weigh w xs) ys → Rows Q o (xs ++ ys)
  rows_append Q o [] ys h k = let e : o + 0 ≡ o = omega arith in subst (λ (p : ℕ). Rows Q p ys) e k
  rows_append Q o (x ∷ xs) ys h k =
      let e : o + (w + weigh w xs) ≡ o + w + weigh w xs = omega arith in
      (h.0, rows_append Q (o + w) xs ys h.1 (subst (λ (p : ℕ). Rows Q p ys) e k))

  pub rows_left : (Q : ℕ → A → Type 0) (o : ℕ) (xs ys : List A) → Rows Q o (xs ++ ys) → Rows Q o xs
  rows_left Q o [] ys h = tt
  rows_left Q o (x ∷ xs) ys h = (h.0, rows_left Q (o + w) xs ys h.1)

  pub rows_right : (Q : ℕ → A → Type 0) (o : ℕ) (xs ys : List A) → Rows Q o (xs ++ ys) → Rows Q (o + weigh w xs) ys
  rows_right Q o [] ys h = let e : o ≡ o + 0 = omega arith in subst (λ (p : ℕ). Rows Q p ys) e h
  rows_right Q o (x ∷ xs) ys h =
      let e : o + w + weigh w xs ≡ o + (w + weigh w xs) = omega arith in
      subst (λ (p : ℕ). Rows Q p ys) e (rows_right Q (o + w) xs ys h.1)

  pub rows_agree : (Q : List ℕ → ℕ → A → Type 0) → Local Q → (ws vs : List ℕ) (o : ℕ) (xs : List A) → Agree ws vs o (o + weigh w xs) → Rows (Q ws) o xs → Rows (Q vs) o xs
  rows_agree Q l ws vs o [] g h = tt
  rows_agree Q l ws vs o (x ∷ xs) g h =
      (l ws vs o x (λ j a b. g j a (omega arith)) h.0, rows_agree Q l ws vs (o + w) xs (λ j a b. g j (omega arith) (omega arith)) h.1)

  -- one more entry
  pub rows_snoc : (Q : ℕ → A → Type 0) (o : ℕ) (xs : List A) (x : A) → Rows Q o xs → Q (o + weigh w xs) x → Rows Q o (xs ++ (x ∷ []))
  rows_snoc Q o xs x h q = rows_append Q o xs (x ∷ []) h (q, tt)

-- a run of stores keeps all else
pub sets_apart : (ws : List ℕ) (at : ℕ) (vs : List ℕ) → Apart ws (sets ws at vs) at (at + length vs)
sets_apart ws at [] = record { same_length = refl; below = λ j l. refl; above = λ j l. refl }
sets_apart ws at (v ∷ vs) =
    let h = sets_apart (set ws at v) (suc at) vs in
    search rules

-- and stores what it says
pub sets_stored : (ws : List ℕ) (at : ℕ) (vs : List ℕ) (k : ℕ) → k < length vs → at + length vs ≤ length ws → get_or (sets ws at vs) (at + k) 0 ≡ get_or vs k 0
sets_stored ws at [] k l f = absurd (omega arith)
sets_stored ws at (v ∷ vs) zero l f =
    let e : at + 0 ≡ at = omega arith in
    ap (λ (j : ℕ). get_or (sets (set ws at v) (suc at) vs) j 0) e
    ∙ (sets_apart (set ws at v) (suc at) vs).below at (omega arith) ∙ get_or-set_same ws at v 0 (omega arith)
sets_stored ws at (v ∷ vs) (suc k) l f =
    let e : at + suc k ≡ suc at + k = omega arith in
    let g = length-set ws at v in
    ap (λ (j : ℕ). get_or (sets (set ws at v) (suc at) vs) j 0) e
    ∙ sets_stored (set ws at v) (suc at) vs k (omega arith) (omega arith)
