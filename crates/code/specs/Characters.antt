-- The 8b10b code with two special codes, K28.3 and K28.5. A code is a kind (0 data, 1 special) and a byte, a disparity is 0 (minus) or 1 (plus),
-- and a character is a number below 1024 whose highest bit is the first one sent.
use Rattle.std.specs.Prelude.{◌≡◌, ℕ, zero, suc, ◌+◌, ◌-◌, ◌*◌, ◌/◌, ◌%◌, ◌^◌, ◌<◌, Bool, cond, not, ◌&&◌, ◌||◌, T, List, [], ◌∷◌, Some, None, Option, ◌==◌, nat_lt, slice_index}
use Rattle.code.specs.declared.character.Code.{Code}
use Rattle.code.specs.Kinds.{kind_number, code_with}

-- The six-bit halves at minus, by the low five bits of the byte.
unfoldable pub sixes : List ℕ
sixes =
    0x27 ∷ 0x1D ∷ 0x2D ∷ 0x31 ∷ 0x35 ∷ 0x29 ∷ 0x19 ∷ 0x38 ∷ 0x39 ∷ 0x25 ∷ 0x15 ∷ 0x34 ∷ 0x0D ∷ 0x2C ∷ 0x1C ∷ 0x17
    ∷ 0x1B ∷ 0x23 ∷ 0x13 ∷ 0x32 ∷ 0x0B ∷ 0x2A ∷ 0x1A ∷ 0x3A ∷ 0x33 ∷ 0x26 ∷ 0x16 ∷ 0x36 ∷ 0x0E ∷ 0x2E ∷ 0x1E ∷ 0x2B ∷ []

-- The four-bit halves at minus, by the high three bits of the byte.
unfoldable pub fours : List ℕ
fours = 0b1011 ∷ 0b1001 ∷ 0b0101 ∷ 0b1100 ∷ 0b1101 ∷ 0b1010 ∷ 0b0110 ∷ 0b1110 ∷ []

-- How many of the lowest bits are ones.
unfoldable pub ones_of : ℕ → ℕ → ℕ
ones_of zero bits = 0
ones_of (suc width) bits = bits % 2 + ones_of width (bits / 2)

-- As many ones as zeros.
unfoldable pub balanced : ℕ → ℕ → Bool
unfolding ones_of
balanced width half = 2 * ones_of width half == width

-- The balanced halves that have all their ones first, 111000 and 1100, or last, 000111 and 0011.
abbrev pub ones_first : ℕ → ℕ
ones_first width = 2 ^ width - 2 ^ (width / 2)

abbrev pub ones_last : ℕ → ℕ
ones_last width = 2 ^ (width / 2) - 1

-- A half at a disparity, from the half at minus: at plus its complement if it is unbalanced, 111000 or 1100, else the same.
unfoldable pub at_disparity : ℕ → ℕ → ℕ → ℕ
unfolding balanced
at_disparity width half disparity =
    cond (disparity == 0 || (balanced width half && not (half == ones_first width))) half (2 ^ width - 1 - half)

-- The disparity that the encoder uses for the next half: an unbalanced half changes it.
unfoldable pub used_after : ℕ → ℕ → ℕ → ℕ
unfolding balanced
used_after width half disparity = cond (balanced width half) disparity (1 - disparity)

-- The disparity after a received half, good or not.
unfoldable pub after_half : ℕ → ℕ → ℕ → ℕ
unfolding ones_of
after_half width half disparity =
    cond (nat_lt width (2 * ones_of width half) || half == ones_last width) 1
    (cond (nat_lt (2 * ones_of width half) width || half == ones_first width) 0 disparity)

-- The disparity after a received character.
unfoldable pub after : ℕ → ℕ → ℕ
unfolding after_half
after character disparity = after_half 4 (character % 16) (after_half 6 (character / 16) disparity)

-- The halves at a disparity.
unfoldable pub six_of : ℕ → ℕ → ℕ
unfolding sixes at_disparity
six_of low disparity = at_disparity 6 (slice_index sixes low) disparity

unfoldable pub four_of : ℕ → ℕ → ℕ
unfolding fours at_disparity
four_of high disparity = at_disparity 4 (slice_index fours high) disparity

-- The low bits after which a 7 in the high ones has an alternate four-bit half, 0111 at minus and 1000 at plus.
abbrev pub alternate_at_minus : ℕ → Bool
alternate_at_minus low = low == 17 || low == 18 || low == 20

abbrev pub alternate_at_plus : ℕ → Bool
alternate_at_plus low = low == 11 || low == 13 || low == 14

abbrev pub is_alternate : ℕ → ℕ → ℕ → Bool
is_alternate low high disparity = high == 7 && cond (disparity == 0) (alternate_at_minus low) (alternate_at_plus low)

-- The four-bit half, at the disparity that the six-bit half leaves.
unfoldable pub four_after : ℕ → ℕ → ℕ → ℕ
unfolding four_of
four_after low high disparity =
    cond (high == 7 && disparity == 0 && alternate_at_minus low) 0b0111
    (cond (high == 7 && disparity == 1 && alternate_at_plus low) 0b1000 (four_of high disparity))

-- The character of a data byte: the two halves, the second at the disparity that the first leaves.
unfoldable pub data_character : ℕ → ℕ → ℕ
unfolding six_of used_after four_after
data_character byte disparity =
    let six = six_of (byte % 32) disparity in
    six * 16 + four_after (byte % 32) (byte / 32) (used_after 6 six disparity)

-- K28.5 is BCh, and K28.3 the other special byte, 7Ch.
unfoldable pub special_character : ℕ → ℕ → ℕ
special_character byte disparity =
    let minus = cond (byte == 0xBC) 0b001111_1010 0b001111_0011 in
    cond (disparity == 0) minus (1023 - minus)

-- The character of a valid code.
unfoldable pub encoded : ℕ → ℕ → ℕ → ℕ
unfolding data_character special_character
encoded kind byte disparity = cond (kind == 0) (data_character byte disparity) (special_character byte disparity)

-- The special bytes.
abbrev pub special : ℕ → Bool
special byte = byte == 0x7C || byte == 0xBC

-- The valid codes: every data byte, K28.3 and K28.5.
abbrev pub valid : ℕ → ℕ → Bool
valid kind byte = cond (kind == 0) (nat_lt byte 256) (kind == 1 && special byte)

-- Whichever column a character is read in, no other code than this one has it.
abbrev pub OnlyCode : ℕ → Code → Type 0
OnlyCode character code = (k b d : ℕ) → T (valid k b) → d < 2 → encoded k b d ≡ character → (k ≡ kind_number code.kind) × (b ≡ code.byte)

-- The data bytes below n, before other codes.
abbrev pub data_codes : ℕ → List Code → List Code
data_codes zero others = others
data_codes (suc n) others = data_codes n (code_with 0 n ∷ others)

unfoldable pub codes : List Code
codes = data_codes 256 (code_with 1 0x7C ∷ code_with 1 0xBC ∷ [])

-- The first of some codes whose character at the disparity is the one given.
abbrev pub first_encoded : ℕ → ℕ → List Code → Option Code
first_encoded character disparity [] = None
first_encoded character disparity (c ∷ others) =
    cond (encoded (kind_number c.kind) c.byte disparity == character) (Some c) (first_encoded character disparity others)

-- The code that a character stands for in the column of a disparity.
unfoldable pub decoded : ℕ → ℕ → Option Code
unfolding codes
decoded character disparity = first_encoded character disparity codes

-- The two characters of the code differ.
abbrev pub unlike : ℕ → ℕ → Bool
unlike kind byte = not (encoded kind byte 0 == encoded kind byte 1)
