use Rattle.std.proofs.Common.{◌∙◌}
use Rattle.line.proofs.Rings.{none_in_use}
use Rattle.lines.specs.Packed.{byte_bits}
use Rattle.lines.proofs.Meanings.{same_meaning}
use Rattle.lines.proofs.packed_line.PackedLine.over.Goals as goal

pub returns-clause-line : goal.returns-clause-line
returns-clause-line c =
    same_meaning _ _
    (none_in_use (byte_bits c.args.memory.now) c.over.result c.over.ensures.count)
    (c.over.ensures.size ∙ c.capacity_over.ensures)
