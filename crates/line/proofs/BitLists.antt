-- Numbers as lists of bits, and lists of numbers as one list of bits.
use Rattle.std.proofs.Common.{◌≡◌, ℕ, zero, suc, ◌+◌, ◌-◌, ◌*◌, ◌/◌, ◌%◌, ◌^◌, ◌<◌, ◌≢◌, List, [], ◌∷◌, ◌++◌, length, get_or, set, sym, refl, ap, ◌∙◌, ⊎_elim, mul-zero, mul-suc, arith}
use lib.Bits.{bit_xor}
use Rattle.std.specs.List.{flat_map}
use Rattle.std.proofs.lemmas.Nat.Bits.{bit_at-lt, bit_at-pow_same, bit_at-pow_other, bit_at_xor}
use Rattle.std.proofs.lemmas.List.{same_lists, append_assoc, length-append, length-set, get_or_append_left, get_or-append_right, get_or-set_same, get_or-set_other, set-append_left, set-append_right}
use Rattle.std.proofs.lemmas.Bool.{cases_eq}
use Rattle.code.specs.Bits.{bits_of, inverted}

pub length_bits_of : (n x : ℕ) → length (bits_of n x) ≡ n
length_bits_of zero x = refl
length_bits_of (suc n) x = ap suc (length_bits_of n x)

-- The bit at place j has the weight of the n - 1 - j bits after it.
pub getd_bits_of : (n j x d : ℕ) → j < n → get_or (bits_of n x) j d ≡ x / 2 ^ (n - 1 - j) % 2
getd_bits_of zero j x d h = absurd (omega arith)
getd_bits_of (suc n) zero x d h = ap (λ k. x / 2 ^ k % 2) (omega arith)
getd_bits_of (suc n) (suc j) x d h = getd_bits_of n j x d (omega arith) ∙ ap (λ k. x / 2 ^ k % 2) (omega arith)

pub length_joined : (n : ℕ) (xs : List ℕ) → length (flat_map (bits_of n) xs) ≡ n * length xs
length_joined n [] = sym (mul-zero n)
length_joined n (x ∷ xs) =
    length-append (bits_of n x) (flat_map (bits_of n) xs)
    ∙ omega (arith, length_bits_of n x, length_joined n xs, mul-suc n (length xs))

-- Bit j of number i stands after the n bits of each number before.
pub getd_joined : (n : ℕ) (xs : List ℕ) (i j d : ℕ) → i < length xs → j < n
    → get_or (flat_map (bits_of n) xs) (n * i + j) d ≡ get_or xs i 0 / 2 ^ (n - 1 - j) % 2
getd_joined n [] i j d h k = absurd (omega arith)
getd_joined n (y ∷ xs) zero j d h k =
    let here : n * 0 + j ≡ j = omega (arith, mul-zero n) in
    ap (λ m. get_or (bits_of n y ++ flat_map (bits_of n) xs) m d) here
    ∙ (get_or_append_left (bits_of n y) (flat_map (bits_of n) xs) d j (omega (arith, length_bits_of n y))
    ∙ getd_bits_of n j y d k)
getd_joined n (y ∷ xs) (suc i) j d h k =
    let later : n * suc i + j - n ≡ n * i + j = omega (arith, mul-suc n i) in
    get_or-append_right (bits_of n y) (flat_map (bits_of n) xs) n (n * suc i + j) d (length_bits_of n y) (omega (arith, mul-suc n i))
    ∙ (ap (λ m. get_or (flat_map (bits_of n) xs) m d) later
    ∙ getd_joined n xs i j d (omega arith) k)

pub joined-append : (n : ℕ) (xs ys : List ℕ) → flat_map (bits_of n) (xs ++ ys) ≡ flat_map (bits_of n) xs ++ flat_map (bits_of n) ys
joined-append n [] ys = refl
joined-append n (x ∷ xs) ys =
    ap (λ zs. bits_of n x ++ zs) (joined-append n xs ys)
    ∙ sym (append_assoc (bits_of n x) (flat_map (bits_of n) xs) (flat_map (bits_of n) ys))

-- One bit of one number is changed.
pub joined-set : (n : ℕ) (xs : List ℕ) (i j x b : ℕ) → i < length xs → j < n → bits_of n x ≡ set (bits_of n (get_or xs i 0)) j b
    → flat_map (bits_of n) (set xs i x) ≡ set (flat_map (bits_of n) xs) (n * i + j) b
joined-set n [] i j x b h k e = absurd (omega arith)
joined-set n (y ∷ xs) zero j x b h k e =
    let here : j ≡ n * 0 + j = omega (arith, mul-zero n) in
    ap (λ zs. zs ++ flat_map (bits_of n) xs) e
    ∙ (sym (set-append_left (bits_of n y) (flat_map (bits_of n) xs) j b (omega (arith, length_bits_of n y)))
    ∙ ap (λ m. set (bits_of n y ++ flat_map (bits_of n) xs) m b) here)
joined-set n (y ∷ xs) (suc i) j x b h k e =
    let later : n * suc i + j - n ≡ n * i + j = omega (arith, mul-suc n i) in
    ap (λ zs. bits_of n y ++ zs) (joined-set n xs i j x b (omega arith) k e)
    ∙ sym (set-append_right (bits_of n y) (flat_map (bits_of n) xs) n (n * suc i + j) b (length_bits_of n y) (omega (arith, mul-suc n i))
    ∙ ap (λ m. bits_of n y ++ set (flat_map (bits_of n) xs) m b) later)

-- An exclusive or with a power of two inverts that bit and keeps the others.
bit_xor_same : (x m : ℕ) → bit_xor x (2 ^ m) / 2 ^ m % 2 ≡ 1 - x / 2 ^ m % 2
bit_xor_same x m = omega (arith, bit_at_xor x (2 ^ m) m, bit_at-pow_same m, bit_at-lt x m)

bit_xor_other : (x m n : ℕ) → n ≢ m → bit_xor x (2 ^ m) / 2 ^ n % 2 ≡ x / 2 ^ n % 2
bit_xor_other x m n ne = omega (arith, bit_at_xor x (2 ^ m) n, bit_at-pow_other m n ne, bit_at-lt x n)

-- The bits of a number with the one at place j inverted.
module _ (n j x : ℕ) (h : j < n) where
  bit_of_xor : (k d : ℕ) → k < n → get_or (bits_of n (bit_xor x (2 ^ (n - 1 - j)))) k d ≡ get_or (inverted (bits_of n x) j) k d
  bit_of_xor k d b =
      let y = bit_xor x (2 ^ (n - 1 - j)) in
      let turned = 1 - get_or (bits_of n x) j 0 in
      getd_bits_of n k y d b
      ∙ ⊎_elim
      (λ (e : k ≡ j).
      ap (λ i. y / 2 ^ (n - 1 - i) % 2) e
      ∙ (bit_xor_same x (n - 1 - j)
      ∙ (ap (λ i. 1 - i) (sym (getd_bits_of n j x 0 h))
      ∙ sym (ap (λ i. get_or (inverted (bits_of n x) j) i d) e ∙ get_or-set_same (bits_of n x) j turned d (omega (arith, length_bits_of n x))))))
      (λ (ne : k ≢ j).
      bit_xor_other x (n - 1 - j) (n - 1 - k) (λ e. ne (omega arith))
      ∙ sym (get_or-set_other (bits_of n x) j k turned d ne ∙ getd_bits_of n k x d b))
      (cases_eq k j)

  pub bits_of_xor : bits_of n (bit_xor x (2 ^ (n - 1 - j))) ≡ inverted (bits_of n x) j
  bits_of_xor =
      let size = length_bits_of n (bit_xor x (2 ^ (n - 1 - j))) in
      same_lists _ _
      (size ∙ sym (length-set (bits_of n x) j (1 - get_or (bits_of n x) j 0) ∙ length_bits_of n x))
      (λ k d l. bit_of_xor k d (omega arith))
