-- Characters as ten bits, dwords as forty.
use Rattle.std.proofs.Common.{◌≡◌, ℕ, ◌+◌, ◌*◌, ◌<◌, ◌⊎◌, List, [], ◌∷◌, ◌++◌, length, get_or, drop, sym, refl, ap, ◌∙◌, append_assoc, arith, length-append, get_or-drop}
use lib.Seq.{drop-append-add}
use Rattle.code.specs.Bits.{bits_of, number_after, inverted}
use Rattle.link.specs.declared.dword.Dword.{Dword}
use Rattle.link.specs.Sending.{c0, c1, c2, c3, dword_bits}

-- the ten bits of a character; shut, so that goals stay short
unfoldable pub bits : ℕ → List ℕ
bits n = bits_of 10 n

-- the number that bits make, gathered as a receiver gathers it
abbrev pub push : ℕ → List ℕ → ℕ
push v [] = v
push v (b ∷ bs) = push (v * 2 + b) bs

abbrev pub number : List ℕ → ℕ
number bs = push 0 bs

pub push_is : (v : ℕ) (bs : List ℕ) → push v bs ≡ number_after v bs
push_is v [] = refl
push_is v (b ∷ bs) = let e : v * 2 + b ≡ 2 * v + b = omega arith in ap (λ n. push n bs) e ∙ push_is (2 * v + b) bs

-- the bits with the one at a place inverted
abbrev pub turn : ℕ → List ℕ → List ℕ
turn place bs = inverted bs place

-- seven bits that begin a K28.5
abbrev pub Comma : List ℕ → Type 0
Comma seven = (number seven ≡ 31) ⊎ (number seven ≡ 96)

abbrev pub K28_5 : Dword → Type 0
K28_5 w = (w.kind ≡ 1) × (w.b0 ≡ 0xBC)

pub length_bits : (n : ℕ) → length (bits n) ≡ 10
unfolding bits
length_bits n = refl

pub number-bits : (n : ℕ) → n < 1024 → number (bits n) ≡ n
unfolding bits
number-bits n h = omega arith

pub dword_is : (d : ℕ) (w : Dword) → dword_bits d w ≡ bits (c0 d w) ++ (bits (c1 d w) ++ (bits (c2 d w) ++ bits (c3 d w)))
unfolding dword_bits bits
dword_is d w = refl

pub length_dword : (d : ℕ) (w : Dword) → length (dword_bits d w) ≡ 40
length_dword d w = ap length (dword_is d w) ∙ simp (length-append, length_bits) refl

-- a dword's characters before what follows
pub dword_then : (d : ℕ) (w : Dword) (rest : List ℕ)
    → dword_bits d w ++ rest ≡ bits (c0 d w) ++ (bits (c1 d w) ++ (bits (c2 d w) ++ (bits (c3 d w) ++ rest)))
dword_then d w rest = ap (λ xs. xs ++ rest) (dword_is d w) ∙ simp append_assoc

-- what stands in a list behind another of n elements
pub get_d_past : (y r : List ℕ) (j n : ℕ) → length y ≡ n → get_or (y ++ r) (n + j) 0 ≡ get_or r j 0
get_d_past y r j n l =
    sym (get_or-drop n (y ++ r) j 0)
    ∙ ap (λ xs. get_or xs j 0) (ap (λ m. drop m (y ++ r)) (let z : n ≡ length y + 0 = omega arith in z) ∙ drop-append-add y r 0)
