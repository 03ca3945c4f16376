use Rattle.std.proofs.Common.{◌≡◌, ℕ, ◌<◌, true, false, [], Some, sym, ap, ◌∙◌, subst, arith}
use Rattle.std.specs.Option.{option_map}
use Rattle.std.specs.Fmt.{digits, digits_output, format_spec, styled_digits_output, padded_integral}
use Rattle.std.proofs.lemmas.Fmt.{hex_byte}
use Rattle.reports.specs.Shown.{hex_pair}
use Rattle.reports.proofs.record.DwordRecordDisplay.fmt.Goals as goal

-- `{:02X}` writes a byte as two digits
hex_output : (d : _) (s : _) (n : ℕ) → n < 256 → digits_output d ≡ Some (digits 16 true n) → s ≡ format_spec 32 0 4 2 18446744073709551615 → styled_digits_output d s ≡ Some (hex_pair n)
hex_output d s n h e k =
    subst (λ z. styled_digits_output d z ≡ Some (hex_pair n)) (sym k) (ap (option_map (padded_integral (format_spec 32 0 4 2 18446744073709551615) false [])) e ∙ ap Some (hex_byte true n h))

pub returns-clause-writes : goal.returns-clause-writes
returns-clause-writes g c =
    let a = hex_output c.in_radix.result c.laid_out.result c.args.self.now.dword.b0 (omega arith) c.in_radix.ensures c.laid_out.ensures in
    let b = hex_output c.in_radix-2.result c.laid_out-2.result c.args.self.now.dword.b1 (omega arith) c.in_radix-2.ensures c.laid_out-2.ensures in
    let x = hex_output c.in_radix-3.result c.laid_out-3.result c.args.self.now.dword.b2 (omega arith) c.in_radix-3.ensures c.laid_out-3.ensures in
    let y = hex_output c.in_radix-4.result c.laid_out-4.result c.args.self.now.dword.b3 (omega arith) c.in_radix-4.ensures c.laid_out-4.ensures in
    simp (a, b, x, y) at c.write.ensures.writes
