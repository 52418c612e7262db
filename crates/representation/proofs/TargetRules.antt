-- An assignment's target by its rule: what the words make of it is what the definition makes of it. Assumes nothing.
use Rattle.std.proofs.Common.{Option, None, Some, ◌≡◌, refl, List, ℕ}
use Rattle.answers.specs.Refusals.{number_of_first}
use Rattle.answers.specs.declared.refusals.Refusal.{Refusal}
use Rattle.answers.specs.declared.refusals.Refusal.TheVariants.{Failed}
use Rattle.ast.specs.Rules.{Rule, return, member, entity, pointer, plain, rule_at}
use Rattle.ast.specs.Node.{op_at, payload_at}
use Rattle.payload.specs.Payloads.{payload_ref_at}
use Rattle.semantics.specs.Payloads as P
use Rattle.semantics.specs.Lowering as D
use Rattle.lowering.specs.Payloads as Q
use Rattle.lowering.specs.Rules as R
use Rattle.representation.proofs.Sound.{name_always}

module _ (tree : List ℕ) (p : ℕ) where
  by_payload : P.as_name 5 (payload_at tree p) 7 (λ n. 0) ≡ number_of_first (Q.as_name 5 (payload_ref_at tree p) (Some Failed) (λ n. None))
  by_payload =
      name_always tree (λ (x : ℕ) (g : Unit {0} → Option Refusal). x ≡ number_of_first (g tt)) 5 p (λ n. 0)
      {d = 7} {D = λ z. Some Failed} {F = λ r z. None} refl (λ r. refl)

  by_rule : (r : Rule) → D.target_refusal r (payload_at tree p) ≡ number_of_first (R.target_refusal r (payload_ref_at tree p))
  unfolding D.target_refusal R.target_refusal
  by_rule return = by_payload
  by_rule member = refl
  by_rule entity = refl
  by_rule pointer = refl
  by_rule (plain r) = by_payload

  pub target_same : D.target_refusal (rule_at (op_at tree p)) (payload_at tree p) ≡ number_of_first (R.target_refusal_at tree p)
  target_same = by_rule (rule_at (op_at tree p))
