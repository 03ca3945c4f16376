use Rattle.std.proofs.Common.{◌≡◌, ◌+◌, ◌-◌, length, get_or, refl, ◌∙◌, arith, rules}
use borrow.Author.Tests.{tests}
use Rattle.std.proofs.lemmas.Iterator.{cases_from_any, YieldsList-from_range}
use Rattle.line.specs.Records.{bit_places}
use Rattle.line.proofs.Recordings.{length_places}
use Rattle.line.proofs.Faults.{any_from, judged}
use Rattle.line.proofs.record.record_fault.Goals as goal

pub returns : goal.returns
returns c =
    let block = c.args.block.now in
    let bits = bit_places block in
    let count = get_or block 0 0 in
    let found =
    cases_from_any _ _ _ (λ p. get_or bits p 0 ≡ 0 → ⊥) (λ p. get_or bits p 0 ≡ 0) c.any.ensures.ran (YieldsList-from_range count 120 (120 - count) refl refl)
    (λ x q k. search (rules, tests)) (λ x q k. search (rules, tests)) in
    let all : count + (120 - count) ≡ length bits = omega (arith, length_places block c.told-block) in
    c.then_some.ensures ∙ judged block c.any.result c.if-count-gt120.false (any_from bits count (120 - count) all c.any.result found)
