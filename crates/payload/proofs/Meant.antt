-- The payload that the code reads stands for the tree's payload, and its text lies in the image. Assumes nothing.
use Prim.Native.Nat.{ℕ, zero, suc}
use native.Mathlib.Omega.{arith}
use mathlib.Core.Path.{◌≡◌, sym, ap, ◌∙◌, subst}
use mathlib.Core.List.{List, [], ◌∷◌}
use lib.ListN.{get_or, get_or-map}
use Rattle.wire.specs.Bytes.{be8, be16, be32, be64}
use Rattle.ast.specs.Tree.{Name, p_none, p_float, p_hash, p_name, p_query, p_math}
use Rattle.ast.specs.Tree as ast
use Rattle.ast.specs.Node.{name_at, payload_at, kind_at}
use Rattle.payload.specs.Payloads.{name_ref_at, payload_refs, payload_ref_at, named, meant, Inside, TextInside}
use Rattle.payload.specs.declared.Payload.{Payload}
use Rattle.payload.specs.declared.Payload.TheVariants.{None}
use Rattle.payload.proofs.TextCut.{text_cut}

with_text : ℕ → List ℕ → Name
with_text h t = record { hash = h; text = t }

pub name_meant : (s : List ℕ) (p : ℕ) → named s (name_ref_at s p) ≡ name_at s p
unfolding name_ref_at name_at with_text
name_meant s p = ap (with_text (be64 s p 14)) (text_cut s p)

-- what the payload is under each kind, where a name is n
abbrev payloads_with : List ℕ → ℕ → Name → List ast.Payload
payloads_with s p n =
    p_none ∷ p_float (be32 s p 14) ∷ p_hash (be64 s p 14)
    ∷ p_name 3 n ∷ p_name 4 n ∷ p_name 5 n ∷ p_name 6 n ∷ p_name 7 n ∷ p_name 8 n ∷ p_name 9 n ∷ p_name 10 n
    ∷ p_query (be16 s p 14) (be8 s p 16) ∷ p_math (be16 s p 14) ∷ []

pub payload_meant : (s : List ℕ) (p : ℕ) → meant s (payload_ref_at s p) ≡ payload_at s p
unfolding payload_ref_at payload_at
payload_meant s p =
    sym (get_or-map (meant s) (payload_refs s p) (kind_at s p) None)
    ∙ ap (λ (n : Name). get_or (payloads_with s p n) (kind_at s p) p_none) (name_meant s p)

pub name_inside : (s : List ℕ) (p : ℕ) → Inside s (name_ref_at s p)
unfolding name_ref_at
name_inside s p = omega arith

-- every entry of a list has a property
abbrev Each : (Payload → Type 0) → List Payload → Type 0
Each P [] = Unit {0}
Each P (x ∷ xs) = P x × Each P xs

each_at : (P : Payload → Type 0) (xs : List Payload) → P None → Each P xs → (k : ℕ) → P (get_or xs k None)
each_at P [] d h k = d
each_at P (x ∷ xs) d h zero = h.0
each_at P (x ∷ xs) d h (suc k) = each_at P xs d h.1 k

pub payload_inside : (s : List ℕ) (p : ℕ) → TextInside s (payload_ref_at s p)
unfolding payload_ref_at
payload_inside s p =
    let i = name_inside s p in
    each_at (TextInside s) (payload_refs s p) tt
    (tt, (tt, (tt, (i, (i, (i, (i, (i, (i, (i, (i, (tt, (tt, tt))))))))))))) (kind_at s p)

-- the same of what `payload_at` returned, and of what it was found to be
pub read_meant : (s : List ℕ) (p : ℕ) {v : Payload} → v ≡ payload_ref_at s p → meant s v ≡ payload_at s p
read_meant s p e = ap (meant s) e ∙ payload_meant s p

pub read_inside : (s : List ℕ) (p : ℕ) {v : Payload} (w : Payload) → v ≡ payload_ref_at s p → v ≡ w → TextInside s w
read_inside s p w e f = subst (TextInside s) (sym e ∙ f) (payload_inside s p)
