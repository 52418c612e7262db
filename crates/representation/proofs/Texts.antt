-- The text of a name that lies in the tree image stands behind its length byte. Assumes nothing.
use Rattle.std.proofs.Common.{◌≡◌, sym, ap, ◌∙◌, List, ℕ, ◌+◌, ◌-◌, ◌%◌, ◌≤◌, min, arith, length, get_or, drop, length-drop, length-take-le, get_or-take, get_or-drop}
use Rattle.wire.specs.Bytes.{be8}
use Rattle.payload.specs.declared.NameRef.{NameRef}
use Rattle.payload.specs.Payloads.{name_ref_at}
use Rattle.representation.proofs.Entries.{TextOf}

pub text_of : (tree : List ℕ) (r : NameRef) → 1 ≤ r.at → r.at ≤ 4294967296 → get_or tree (r.at - 1) 0 ≡ r.len → r.at + r.len ≤ length tree → TextOf tree r
text_of tree r l u e f =
    let p : (r.at - 1) % 4294967296 ≡ r.at - 1 = omega arith in
    let d = length-drop r.at tree in
    let n = length-take-le r.len (drop r.at tree) (omega arith) in
    record {
      count = ap (λ (i : ℕ). get_or tree i 0) p ∙ e ∙ sym n;
      letters = λ k b.
          let q : (r.at - 1) % 4294967296 + 1 + k ≡ r.at + k = omega arith in
          ap (λ (i : ℕ). get_or tree i 0) q ∙ sym (get_or-drop r.at tree k 0) ∙ sym (get_or-take r.len (drop r.at tree) k 0 (omega arith));
    }

-- of the node at p
pub text_at : (tree : List ℕ) (p : ℕ) → p + 23 + be8 tree p 22 ≤ length tree → length tree ≤ 4294967296 → TextOf tree (name_ref_at tree p)
unfolding name_ref_at
text_at tree p f u =
    let a : min (p + 23) (length tree) ≡ p + 23 = omega arith in
    let b : min (p + 23) (length tree) - 1 ≡ p + 22 = omega arith in
    let n : min (be8 tree p 22) (length tree - min (p + 23) (length tree)) ≡ be8 tree p 22 = omega arith in
    text_of tree (name_ref_at tree p) (omega (arith, a)) (omega (arith, a)) (ap (λ (i : ℕ). get_or tree i 0) b ∙ sym n) (omega (arith, a, n))
