use Rattle.std.proofs.Common.{◌+◌, ◌*◌, sym, ap, ap₂, ◌∙◌, arith}
use Rattle.card.specs.Image.{sections_of, names_section, members_section, stores_section, calls_section}
use Rattle.card.proofs.Lengths.{counted, code, consts, posts, hashes, temps}
use Rattle.card.proofs.Starts.{first, step, sums_are}
use Rattle.card.proofs.Lowered.sums.Goals as goal

pub overflow_add-consts-2 : goal.overflow_add-consts-2
overflow_add-consts-2 c = omega arith

pub overflow_add-code-3 : goal.overflow_add-code-3
overflow_add-code-3 c = omega arith

pub returns : goal.returns
unfolding sections_of names_section members_section stores_section calls_section
returns c =
    let l = c.args.self in
    let tree = l.tree.now in
    let ws = l.ws.now in
    let sections = l.sections in
    let s8 = first tree ws sections (counted _ _ c.sizes-calls.ensures.0) in
    let s7 = step tree ws sections 7 (omega arith) (counted _ _ c.sizes.ensures.0) s8 in
    let s6 = step tree ws sections 6 (omega arith) (counted _ _ c.sizes-2.ensures.0) s7 in
    let s5 = step tree ws sections 5 (omega arith) (ap (λ n. 4 + 2 * n) c.from.ensures ∙ sym (temps ws _)) s6 in
    let s4 = step tree ws sections 4 (omega arith) (counted _ _ c.sizes-3.ensures.0) s5 in
    let s3 = step tree ws sections 3 (omega arith) (ap (λ n. 4 + 8 * n) c.from-2.ensures ∙ sym (hashes ws _)) s4 in
    let s2 = step tree ws sections 2 (omega arith) (ap (λ n. 4 + 8 * (n + 1)) c.from-3.ensures ∙ sym (posts ws _)) s3 in
    let s1 = step tree ws sections 1 (omega arith) (ap (λ n. 4 + 4 * n) c.from-4.ensures ∙ sym (consts ws _)) s2 in
    let s0 = step tree ws sections 0 (omega arith) (ap₂ (λ n m. 4 + 8 * (n + m)) c.from-5.ensures c.from-6.ensures ∙ sym (code ws _ _)) s1 in
    (sums_are tree ws sections s8 s7 s6 s5 s4 s3 s2 s1 s0, omega arith)
