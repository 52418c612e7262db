use mathlib.Core.Path.{ap}
use native.Mathlib.Omega.{arith}
use Rattle.card.specs.declared.measure.Sums.{Sums}
use Rattle.card.specs.Image.{sections_of, consts_section, names_section, temps_section, members_section, stores_section, calls_section}
use Rattle.card.specs.Starts.{sums_of}
use Rattle.card.proofs.Starts.{closed, one_more, all_nine}
use Rattle.card.proofs.Lowered.body.Goals as goal

pub posts-requires : goal.posts-requires
posts-requires c = omega arith

pub returns-clause-wrote : goal.returns-clause-wrote
unfolding sections_of sums_of consts_section names_section temps_section members_section stores_section calls_section
returns-clause-wrote c =
    let sums = c.requires.0 in
    let end = c.requires.1 in
    let w9 = closed _ _ _ _ c.closing.ensures.wrote in
    let w8 = one_more _ _ _ 8 _ (omega arith) (ap (λ (s : Sums). s.calls) sums) end w9 c.section.ensures.wrote in
    let w7 = one_more _ _ _ 7 _ (omega arith) (ap (λ (s : Sums). s.stores) sums) end w8 c.section-2.ensures.wrote in
    let w6 = one_more _ _ _ 6 _ (omega arith) (ap (λ (s : Sums). s.members) sums) end w7 c.section-3.ensures.wrote in
    let w5 = one_more _ _ _ 5 _ (omega arith) (ap (λ (s : Sums). s.temps) sums) end w6 c.section-4.ensures.wrote in
    let w4 = one_more _ _ _ 4 _ (omega arith) (ap (λ (s : Sums). s.names) sums) end w5 c.section-5.ensures.wrote in
    let w3 = one_more _ _ _ 3 _ (omega arith) (ap (λ (s : Sums). s.hashes) sums) end w4 c.hashes.ensures.wrote in
    let w2 = one_more _ _ _ 2 _ (omega arith) (ap (λ (s : Sums). s.posts) sums) end w3 c.posts.ensures.wrote in
    let w1 = one_more _ _ _ 1 _ (omega arith) (ap (λ (s : Sums). s.consts) sums) end w2 c.section-6.ensures.wrote in
    let w0 = one_more _ _ _ 0 _ (omega arith) (ap (λ (s : Sums). s.code) sums) end w1 c.code.ensures.wrote in
    all_nine _ _ _ end w0
