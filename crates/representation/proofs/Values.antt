-- The rules without operands, members and arrays: each is what its definition says. Assumes nothing.
use Rattle.std.proofs.Common.{refl, Bool, true, false, cond, List, ℕ, ◌≤◌, length, eqb}
use Rattle.answers.specs.declared.refusals.Refusal.TheVariants as Refusal
use Rattle.wire.specs.Bytes.{be8}
use Rattle.numeric.specs.Post.{fold}
use Rattle.ast.specs.Node.{payload_at, count_at, first_at}
use Rattle.program.specs.Kinds.{READS_ACTOR_VARS, READS_CONTEXT, USES_MEMBERS}
use Rattle.program.specs.Instruction as N
use Rattle.program.specs.Counts.{Counts}
use Rattle.program.specs.Image.{word_of}
use Rattle.semantics.specs.State as S
use Rattle.semantics.specs.Payloads as P
use Rattle.semantics.specs.Pieces.{put, failing, flagged, with_name, with_hash, with_member, with_post, constant, ◌⨾◌}
use Rattle.semantics.specs.Lowering as D
use Rattle.semantics.specs.Lowering.{Lowerings}
use Rattle.payload.specs.declared.NameRef.{NameRef}
use Rattle.payload.specs.Payloads.{named, payload_ref_at}
use Rattle.lowering.specs.Pools as B
use Rattle.builder.specs.Steps as W
use Rattle.lowering.specs.Payloads as Q
use Rattle.lowering.specs.Parts as L
use Rattle.lowering.specs.Parts.{Step}
use Rattle.builder.specs.Steps.{still}
use Rattle.lowering.specs.Steps as Y
use Rattle.lowering.specs.Rules as R
use Rattle.representation.proofs.Represents.{Does}
use Rattle.representation.proofs.Entries.{TextOf}
use Rattle.representation.proofs.Interning.{name_does, temp_does, hash_does, member_does, post_does}
use Rattle.representation.proofs.Laws.{thens, flagged_does}
use Rattle.representation.proofs.OpenCode.{failing_does}
use Rattle.representation.proofs.Branches.{instr_does}
use Rattle.representation.proofs.Arguments.{Children}
use Rattle.representation.proofs.Sound.{NodeSound, as_name_lem, float_same, const_same, string_same, resource_same}
use Rattle.representation.proofs.Kin.{one_rel, just_rel, constant_does, put_post_lem, found_lem, sets_move, not_float_move, sets_not_move}

module _ {tree : List ℕ} {c : Counts} (p : ℕ) where
  pub float_does : Does tree (constant (P.float_of (payload_at tree p))) c (B.constant (Q.float_of (payload_ref_at tree p)))
  float_does = rw (← float_same tree p) (constant_does (P.float_of (payload_at tree p)))

  pub generic_does : Does tree (constant (fold (L.post_bits tree p) (P.const_of (payload_at tree p)))) c (R.generic tree p)
  unfolding R.generic
  generic_does = rw (← const_same tree p) (constant_does (fold (L.post_bits tree p) (P.const_of (payload_at tree p))))

  pub string_does : Does tree (flagged S.not_float_only (with_hash (P.string_of (payload_at tree p)) λ h. put (N.plain (N.hash h)))) c (R.string_literal tree p)
  unfolding R.string_literal word_of
  string_does = rw (← string_same tree p) (flagged_does S.not_float_only Y.not_float_only not_float_move (hash_does (P.string_of (payload_at tree p)) (λ k. instr_does (N.plain (N.hash k)) refl)))

  pub resource_does : Does tree (flagged S.not_float_only (with_hash (P.resource_of (payload_at tree p)) λ h. put (N.plain (N.resource h)))) c (R.resource tree p)
  unfolding R.resource word_of
  resource_does = rw (← resource_same tree p) (flagged_does S.not_float_only Y.not_float_only not_float_move (hash_does (P.resource_of (payload_at tree p)) (λ k. instr_does (N.plain (N.resource k)) refl)))

  pub this_does : Does tree (with_post (L.post_bits tree p) λ q. put (N.plain (N.this q))) c (L.put_post tree p 4 0 0)
  unfolding word_of
  this_does = put_post_lem p (λ q. N.plain (N.this q)) 4 0 0 (λ q. refl)

  module _ (sound : NodeSound tree p) (short : length tree ≤ 6144) where
    pub load_does : Does tree (D.loaded (payload_at tree p) (L.post_bits tree p)) c (R.load tree p)
    unfolding D.loaded R.load R.load_context L.put_variable B.name Y.flagged word_of
    load_does = post_does (L.post_bits tree p) (λ q.
        found_lem p sound short (R.load_context tree p q) (λ i h. L.put_variable 5 6 i q (R.read_flagged i h)) _ _
        (as_name_lem 3 p sound short _
        (failing_does Refusal.Failed)
        (λ r t. flagged_does (S.sets READS_CONTEXT) (Y.flagged 8) (sets_move 8) (name_does r t (λ k. instr_does (N.reading (N.load_ctx k q)) refl))))
        (λ r t. flagged_does (S.sets READS_ACTOR_VARS) (Y.flagged 2) (sets_move 2) (name_does r t (λ k. instr_does (N.reading (N.load_var k q)) refl)))
        (λ r t. temp_does r t (λ k. instr_does (N.reading (N.load_temp k q)) refl)))

    -- behind a member's base
    pub member_put_lem : (last : NameRef) → TextOf tree last → Does tree (P.as_name 6 (payload_at tree p) (failing 7) (λ n. with_member (record { own = n; last = named tree last }) λ m. with_post (L.post_bits tree p) λ q. put (N.reading (N.member m q)))) c (R.member_put tree p last)
    unfolding R.member_put word_of
    member_put_lem last t = as_name_lem 6 p sound short _ (failing_does Refusal.Failed) (λ r u. member_does r last u t (λ k. put_post_lem p (λ q. N.reading (N.member k q)) 9 0 k (λ q. refl)))

module _ {tree : List ℕ} {c : Counts} (p : ℕ) (sound : NodeSound tree p) (short : length tree ≤ 6144) (E : ℕ → Bool → Step) (C : ℕ → NameRef → Bool → Step) (Z : ℕ → Bool → Step) (xs : List Lowerings) (k : Children tree E C Z xs (count_at tree p) (first_at tree p)) where
  pub chained_does : (last : NameRef) → TextOf tree last → (l : Bool) → Does tree (D.chained (L.post_bits tree p) (payload_at tree p) xs (named tree last) l) c (R.chained tree E C Z p last l)
  unfolding D.chained R.chained
  chained_does last t l = one_rel tree E C Z c _ (failing_does Refusal.Failed) _ xs (count_at tree p) (first_at tree p) k
      (λ a ca. thens (ca.base_is last t l c) (member_put_lem p sound short last t))

  pub member_does' : (l : Bool) → Does tree (D.member_read (L.post_bits tree p) (payload_at tree p) xs l) c (R.member_read tree E C Z p l)
  unfolding D.member_read R.member_read
  member_does' l = flagged_does (λ f. S.sets USES_MEMBERS (S.not_float_only f)) (λ s. Y.flagged 16 (Y.not_float_only s)) (sets_not_move 16)
      (as_name_lem 6 p sound short _ (failing_does Refusal.Failed) (λ r t. chained_does r t l))

  pub array_does : (l : Bool) → Does tree (cond (eqb (be8 tree 0 5) 1) (D.array_element (L.post_bits tree p) (payload_at tree p) xs l) (failing 5)) c (R.array_element tree E C Z p l)
  unfolding D.array_element R.array_element R.array_put word_of
  array_does l = go (eqb (be8 tree 0 5) 1)
    where
      inner : Does tree (P.just xs (failing 7) λ a. P.as_name 7 (payload_at tree p) (failing 7) λ n. flagged S.not_float_only (a.expr l ⨾ with_name n (λ k. with_post (L.post_bits tree p) λ q. put (N.reading (N.array_element k q))))) c
          (λ h. cond (eqb (count_at tree p) 1) (Q.as_name 7 (payload_ref_at tree p) (W.failed Refusal.Failed h) (λ n. L.with_name n (λ k. L.put_post tree p 8 0 k) (E (first_at tree p) l (still Y.not_float_only h)))) (W.failed Refusal.Failed h))
      inner = just_rel tree E C Z c _ (failing_does Refusal.Failed) _ xs (count_at tree p) (first_at tree p) k
          (λ a ca. as_name_lem 7 p sound short _ (failing_does Refusal.Failed)
          (λ r t. flagged_does S.not_float_only Y.not_float_only not_float_move (thens (ca.expr_is l c) (name_does r t (λ k. put_post_lem p (λ q. N.reading (N.array_element k q)) 8 0 k (λ q. refl))))))

      go : (b : Bool) → Does tree (cond b (P.just xs (failing 7) λ a. P.as_name 7 (payload_at tree p) (failing 7) λ n. flagged S.not_float_only (a.expr l ⨾ with_name n (λ k. with_post (L.post_bits tree p) λ q. put (N.reading (N.array_element k q))))) (failing 5)) c
          (λ h. cond b (cond (eqb (count_at tree p) 1) (Q.as_name 7 (payload_ref_at tree p) (W.failed Refusal.Failed h) (λ n. L.with_name n (λ k. L.put_post tree p 8 0 k) (E (first_at tree p) l (still Y.not_float_only h)))) (W.failed Refusal.Failed h)) (W.failed Refusal.UsesArrays h))
      go true = inner
      go false = failing_does Refusal.UsesArrays
