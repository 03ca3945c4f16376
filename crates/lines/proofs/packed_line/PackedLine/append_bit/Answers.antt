use Rattle.std.proofs.Common.{set, refl, ap, ◌∙◌}
use Rattle.line.specs.Rings.{in_use}
use Rattle.line.proofs.Rings.{grown_in_use}
use Rattle.lines.specs.Packed.{memory_bits, overwritten}
use Rattle.lines.proofs.Meanings.{same_meaning}
use Rattle.lines.proofs.PackedLines.{ring_within}
use Rattle.lines.proofs.packed_line.PackedLine.append_bit.Goals as goal

pub returns-in-Some : goal.returns-in-Some
unfolding overwritten
returns-in-Some c =
    let s = c.args.self.now in
    let after = c.grow.new.self in
    let grown = c.in-Some.ensures in
    let joins = grown_in_use (memory_bits s) s.ring (ring_within s) c.in-Some.place after c.args.bit grown in
    record {
      line = same_meaning _ _ (ap (λ bits. in_use bits after) c.set_bit.ensures ∙ joins) grown.1;
      memory = c.set_bit.ensures ∙ ap (λ n. set (memory_bits s) n c.args.bit) grown.0;
      front = grown.2;
      count = grown.3;
      lent = refl;
    }
