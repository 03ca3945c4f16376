use Rattle.std.proofs.Common.{[], length, get_or, refl, sym, ap, ◌∙◌, arith, rules}
use Rattle.line.specs.Records.{records, bit_places, all_bits}
use Rattle.line.proofs.Recordings.{few_held, left_bit}
use Rattle.line.proofs.recording.RecordingTap.take.Goals as goal

pub overflow_add-self : goal.overflow_add-self
overflow_add-self c =
    let first = c.in_ok-index.ensures in
    let few = few_held c.args.self.now.bytes.now c.in_ok-index.field-0.index first.0 in
    search rules

pub bit_at-requires : goal.bit_at-requires
bit_at-requires c =
    let first = c.in_ok-index.ensures in
    omega (arith, few_held c.args.self.now.bytes.now c.in_ok-index.field-0.index first.0, first.1)

pub returns-clause-taken : goal.returns-clause-taken
returns-clause-taken c =
    let blocks = records c.args.self.now.bytes.now in
    let index = c.in_ok-index.field-0.index in
    let gone = c.in_ok-index.field-0.gone in
    let first = c.in_ok-index.ensures in
    let bit = c.bit_at.ensures.place ∙ ap (λ bs. get_or (bit_places (get_or bs index [])) gone 0) c.records.ensures in
    let leaves = left_bit blocks index (get_or blocks index []) first.0 refl gone c.bit_at.result first.1 bit in
    sym first.2 ∙ ap (λ bits. record { waiting = bits; capacity = length (all_bits blocks) }) leaves
