-- The laws of bits packed in bytes.
use Rattle.std.proofs.Common.{◌≡◌, ℕ, ◌+◌, ◌-◌, ◌*◌, ◌/◌, ◌%◌, ◌^◌, ◌<◌, List, [], ◌∷◌, ◌++◌, length, get_or, set, sym, ap, ◌∙◌, arith}
use lib.Bits.{bit_xor}
use Rattle.code.specs.Bits.{bits_of, inverted}
use Rattle.line.specs.Rings.{place_of}
use Rattle.line.specs.declared.ring.Ring.{Ring}
use Rattle.line.proofs.BitLists.{getd_bits_of, bits_of_xor, length_joined, getd_joined, joined-set}
use Rattle.lines.specs.Packed.{byte_bits, overwritten}

pub length_bits : (bytes : List ℕ) → length (byte_bits bytes) ≡ 8 * length bytes
unfolding byte_bits
length_bits bytes = length_joined 8 bytes

-- Bit p lies in byte p / 8.
module _ (bytes : List ℕ) (p : ℕ) (h : p < 8 * length bytes) where
  pub bit_in_byte : get_or (byte_bits bytes) p 0 ≡ get_or bytes (p / 8) 0 / 2 ^ (7 - p % 8) % 2
  unfolding byte_bits
  bit_in_byte =
      let split : p ≡ 8 * (p / 8) + p % 8 = omega arith in
      ap (λ i. get_or (byte_bits bytes) i 0) split
      ∙ getd_joined 8 bytes (p / 8) (p % 8) 0 (omega arith) (omega arith)

  pub bit_flips : byte_bits (set bytes (p / 8) (bit_xor (get_or bytes (p / 8) 0) (2 ^ (7 - p % 8)))) ≡ inverted (byte_bits bytes) p
  unfolding byte_bits
  bit_flips =
      let byte = get_or bytes (p / 8) 0 in
      let split : 8 * (p / 8) + p % 8 ≡ p = omega arith in
      let old : get_or (bits_of 8 byte) (p % 8) 0 ≡ get_or (byte_bits bytes) p 0 =
      getd_bits_of 8 (p % 8) byte 0 (omega arith) ∙ sym bit_in_byte in
      joined-set 8 bytes (p / 8) (p % 8) (bit_xor byte (2 ^ (7 - p % 8))) (1 - get_or (bits_of 8 byte) (p % 8) 0) (omega arith) (omega arith) (bits_of_xor 8 (p % 8) byte (omega arith))
      ∙ (ap (λ i. set (byte_bits bytes) i (1 - get_or (bits_of 8 byte) (p % 8) 0)) split
      ∙ ap (λ b. set (byte_bits bytes) p (1 - b)) old)

-- One bit more is written behind the others.
pub overwritten-more : (ring : Ring) (k b : ℕ) (bits memory : List ℕ)
    → overwritten ring k (bits ++ b ∷ []) memory ≡ set (overwritten ring k bits memory) (place_of ring (k + length bits)) b
unfolding overwritten
overwritten-more ring k b [] memory = ap (λ i. set memory (place_of ring i) b) (omega arith)
overwritten-more ring k b (c ∷ bits) memory =
    overwritten-more ring (k + 1) b bits (set memory (place_of ring k) c)
    ∙ ap (λ i. set (overwritten ring (k + 1) bits (set memory (place_of ring k) c)) (place_of ring i) b) (omega arith)
