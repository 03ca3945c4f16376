use Rattle.std.proofs.Common.{◌≡◌, length, sym, ◌∙◌}
use Rattle.line.proofs.Recordings.{place_bit}
use Rattle.line.proofs.record.bit_at.Goals as goal

pub returns-clause-place : goal.returns-clause-place
returns-clause-place c =
    let whole : length c.args.block.now ≡ 16 = c.told-block in
    c.bit_of_byte.ensures.value ∙ sym (place_bit c.args.block.now whole c.args.place c.requires)
