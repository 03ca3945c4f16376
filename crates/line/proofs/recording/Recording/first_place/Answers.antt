use Rattle.std.proofs.Common.{◌≡◌, ℕ, ◌+◌, ◌-◌, ◌<◌, ◌≤◌, [], length, get_or, drop, None, Some, sym, ap, ◌∙◌, arith, rules}
use borrow.Author.Tests.{tests}
use Rattle.std.proofs.lemmas.Iterator.{first_from_Range}
use Rattle.std.proofs.lemmas.List.{get_or_read}
use Rattle.line.specs.Records.{records, held_bits, all_bits, bits_left}
use Rattle.line.specs.Recordings.{gone_from}
use Rattle.line.proofs.Recordings.{passed, passed_all}
use Rattle.line.proofs.recording.Recording.first_place.Goals as goal

pub returns-in_err-index : goal.returns-in_err-index
returns-in_err-index c =
    let place = c.args.self.now.place in
    let blocks = c.records-records.result.now in
    let spent : (k : ℕ) → place.index ≤ k → k < length blocks → length (held_bits (get_or blocks k [])) ≤ gone_from place k =
    first_from_Range _ _ _ None (λ i. gone_from place i < length (held_bits (get_or blocks i []))) (λ i. length (held_bits (get_or blocks i [])) ≤ gone_from place i) c.in_err-index.ensures.ran
    (λ x q k. grind (arith, tests, get_or_read))
    (λ x q k. (search rules, grind (arith, tests, get_or_read))) in
    rw c.from_residual.ensures
    (ap (λ bs. bits_left (drop place.index bs) place.gone) (sym c.records-records.ensures) ∙ passed_all blocks place spent)

pub returns : goal.returns
returns c =
    let place = c.args.self.now.place in
    let blocks = c.records-records.result.now in
    let all = records c.args.self.now.bytes.now in
    let i = c.in_ok-index.index in
    let found : (place.index ≤ i) × (i < length blocks) × (gone_from place i < length (held_bits (get_or blocks i []))) × ((k : ℕ) → place.index ≤ k → k < i → length (held_bits (get_or blocks k [])) ≤ gone_from place k) =
    first_from_Range _ _ _ (Some i) (λ j. gone_from place j < length (held_bits (get_or blocks j []))) (λ j. length (held_bits (get_or blocks j [])) ≤ gone_from place j) c.in_ok-index.ensures.ran
    (λ x q k. grind (arith, tests, get_or_read))
    (λ x q k. (search rules, grind (arith, tests, get_or_read))) in
    let here : place.index + (i - place.index) ≡ i = omega (arith, found.0) in
    let same = c.records-records.ensures in
    let passes = passed blocks place (i - place.index) (omega (arith, found.1)) (λ k low high. found.3 k low (omega arith)) in
    let bits : bits_left (drop i all) c.gone_from.result ≡ bits_left (drop place.index all) place.gone =
    ap (bits_left (drop i all)) c.gone_from.ensures
    ∙ (ap (λ bs. bits_left (drop i bs) (gone_from place i)) (sym same)
    ∙ (ap (λ j. bits_left (drop j blocks) (gone_from place j)) (sym here)
    ∙ (passes ∙ ap (λ bs. bits_left (drop place.index bs) place.gone) same))) in (
      omega (arith, found.1, ap length same),
      omega (arith, found.2, c.gone_from.ensures, ap (λ bs. length (held_bits (get_or bs i []))) same),
      ap (λ ws. record { waiting = ws; capacity = length (all_bits all) }) bits,
    )
