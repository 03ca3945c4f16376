-- Characters put on a line one after another.
use Rattle.std.proofs.Common.{◌≡◌, ℕ, ◌+◌, length, ap, ◌∙◌, append_assoc, length-append}
use Rattle.code.specs.Bits.{bits_of}
use Rattle.line.specs.Waiting.{Meaning}
use Rattle.link.specs.declared.dword.Dword.{Dword}
use Rattle.link.specs.Sending.{c0, c1, c2, c3, dword_bits}
use Rattle.link.specs.Accepting.{followed_by}

-- a character is ten bits
pub ten_longer : (line next : Meaning) (character : ℕ) → next ≡ followed_by line (bits_of 10 character)
    → length next.waiting ≡ length line.waiting + 10
ten_longer line next character e = ap (λ (m : Meaning). length m.waiting) e ∙ length-append line.waiting (bits_of 10 character)

-- a dword's four characters put one after another are put as one
pub dword_put : (line one two three four : Meaning) (d : ℕ) (w : Dword)
    → one ≡ followed_by line (bits_of 10 (c0 d w)) → two ≡ followed_by one (bits_of 10 (c1 d w))
    → three ≡ followed_by two (bits_of 10 (c2 d w)) → four ≡ followed_by three (bits_of 10 (c3 d w))
    → four ≡ followed_by line (dword_bits d w)
unfolding dword_bits
dword_put line one two three four d w p q r s = rw (s, r, q, p) (simp append_assoc)
