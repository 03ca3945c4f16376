use Rattle.std.proofs.Common.{sym, ◌∙◌}
use Rattle.lines.proofs.PackedLines.{length_waiting}
use Rattle.lines.proofs.packed_line.packing.PackedLineTap.count.Goals as goal

pub returns : goal.returns
returns c = c.count.ensures ∙ sym (length_waiting c.args.self.now)
