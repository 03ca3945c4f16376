-- Commas in two characters sent one after the other: all windows of seven bits, computed.
use Rattle.std.proofs.Common.{◌≡◌, ℕ, zero, suc, ◌+◌, ◌-◌, ◌/◌, ◌%◌, ◌^◌, ◌<◌, Bool, true, cond, not, ◌&&◌, ◌||◌, T, eqb, ltb, List, [], ◌∷◌, ◌++◌, take, drop, sym, refl, ap, ◌∙◌, subst, ap₂, inl, inr, arith, T_not}
use Rattle.std.proofs.lemmas.Bool.{eq-eqb, eqb-true, and_parts, or_left, or_right, ltb-true, cases_lt}
use Rattle.code.specs.Bits.{bits_of, number_of}
use Rattle.code.specs.Characters.{encoded, after, valid, six_of}
use Rattle.code.specs.Laws as laws
use Rattle.code.proofs.Computed.{below, at_below, at_both, implied}
use Rattle.code.proofs.Codes.{true_from, from_true, at_code_and_disparity}

abbrev pub comma : List ℕ → Bool
comma bits = eqb (number_of bits) 31 || eqb (number_of bits) 96

comma_is : (bits : List ℕ) → laws.Comma bits → comma bits ≡ true
comma_is bits (inl e) = or_left (eqb (number_of bits) 31) (eqb (number_of bits) 96) (eq-eqb (number_of bits) 31 (ap number_of e))
comma_is bits (inr e) = or_right (eqb (number_of bits) 31) (eqb (number_of bits) 96) (eq-eqb (number_of bits) 96 (ap number_of e))

-- within one character
starts : ℕ → ℕ → ℕ → ℕ → Bool
starts k b d place = not (comma (take 7 (drop place (bits_of 10 (encoded k b d))))) || (eqb place 0 && (eqb k 1 && eqb b 0xBC))

starts_everywhere : (k b d place : ℕ) → T (valid k b) → d < 2 → place < 4 → T (starts k b d place)
unfolding starts encoded
starts_everywhere k b d place v h p =
    at_below 4 (starts k b d) (at_code_and_disparity (λ (k b d : ℕ). below 4 (starts k b d)) tt tt k b d v h) place p

-- From one character to the next only the last six bits of the first and the first six of the second matter. The six-bit halves at a disparity
-- are those of the 32 low parts of a byte, and that of K28 as the 33rd. Of the 64 sixes of bits, a character leaves one of 32 before each disparity.
half_at : ℕ → ℕ → ℕ
half_at n d = cond (eqb n 32) (cond (eqb d 0) 0b001111 0b110000) (six_of n d)

half_number : ℕ → ℕ → ℕ
half_number k b = cond (eqb k 0) (b % 32) 32

left_before : ℕ → ℕ
left_before d = cond (eqb d 0) 0x1676167616761774 0x2ee86e686e686e68

left : ℕ → ℕ → Bool
left six d = eqb (left_before d / 2 ^ six % 2) 1

links : ℕ → ℕ → ℕ → Bool
links k b d =
    let ch = encoded k b d in
    (left (ch % 64) (after ch d) && ltb (after ch d) 2) && (eqb (ch / 16) (half_at (half_number k b) d) && ltb (half_number k b) 33)

links_everywhere : (k b d : ℕ) → T (valid k b) → d < 2 → T (links k b d)
unfolding links left left_before half_at half_number six_of encoded after
links_everywhere k b d v h = at_code_and_disparity links tt tt k b d v h

clean : List ℕ → Bool
clean bits = below 6 (λ i. not (comma (take 7 (drop i bits))))

parted : ℕ → ℕ → Bool
parted six d = not (left six d) || below 33 (λ n. clean (bits_of 6 six ++ bits_of 6 (half_at n d)))

parted_everywhere : (six d : ℕ) → six < 64 → d < 2 → T (parted six d)
unfolding parted clean left left_before half_at six_of
parted_everywhere six d h g = at_both 64 parted tt tt six d h g

-- what a window of seven bits over two characters sees
within : (x y place : ℕ) → place < 4 → take 7 (drop place (bits_of 10 x ++ bits_of 10 y)) ≡ take 7 (drop place (bits_of 10 x))
within x y zero h = refl
within x y (suc zero) h = refl
within x y (suc (suc zero)) h = refl
within x y (suc (suc (suc zero))) h = refl
within x y (suc (suc (suc (suc n)))) h = absurd (omega arith)

across : (x y i : ℕ) → i < 6 → take 7 (drop (4 + i) (bits_of 10 x ++ bits_of 10 y)) ≡ take 7 (drop i (bits_of 6 x ++ take 6 (bits_of 10 y)))
across x y zero h = refl
across x y (suc zero) h = refl
across x y (suc (suc zero)) h = refl
across x y (suc (suc (suc zero))) h = refl
across x y (suc (suc (suc (suc zero)))) h = refl
across x y (suc (suc (suc (suc (suc zero))))) h = refl
across x y (suc (suc (suc (suc (suc (suc n)))))) h = absurd (omega arith)

six_cons : {a b c d e f a' b' c' d' e' f' : ℕ} → a ≡ a' → b ≡ b' → c ≡ c' → d ≡ d' → e ≡ e' → f ≡ f'
    → ◌≡◌ {A = List ℕ} (a ∷ b ∷ c ∷ d ∷ e ∷ f ∷ []) (a' ∷ b' ∷ c' ∷ d' ∷ e' ∷ f' ∷ [])
six_cons p q r s t u = cc

last_six : (x : ℕ) → bits_of 6 x ≡ bits_of 6 (x % 64)
last_six x = six_cons (omega arith) (omega arith) (omega arith) (omega arith) (omega arith) (omega arith)

first_six : (y : ℕ) → take 6 (bits_of 10 y) ≡ bits_of 6 (y / 16)
first_six y = six_cons (omega arith) (omega arith) (omega arith) (omega arith) (omega arith) (omega arith)

-- what the links say, by name
record Linked (k b d : ℕ) : Type 0 where
  leaves : left (encoded k b d % 64) (after (encoded k b d) d) ≡ true
  small : after (encoded k b d) d < 2
  half : encoded k b d / 16 ≡ half_at (half_number k b) d
  numbered : half_number k b < 33

linked : (k b d : ℕ) → T (valid k b) → d < 2 → Linked k b d
unfolding links
linked k b d v h =
    let ch = encoded k b d in
    let t = and_parts (left (ch % 64) (after ch d) && ltb (after ch d) 2) (eqb (ch / 16) (half_at (half_number k b) d) && ltb (half_number k b) 33) (true_from (links k b d) (links_everywhere k b d v h)) in
    let p = and_parts (left (ch % 64) (after ch d)) (ltb (after ch d) 2) t.0 in
    let q = and_parts (eqb (ch / 16) (half_at (half_number k b) d)) (ltb (half_number k b) 33) t.1 in
    record { leaves = p.0; small = ltb-true (after ch d) 2 p.1; half = eqb-true (ch / 16) (half_at (half_number k b) d) q.0; numbered = ltb-true (half_number k b) 33 q.1 }

none_across : (k b k' b' d i : ℕ) → T (valid k b) → T (valid k' b') → d < 2 → i < 6
    → T (not (comma (take 7 (drop (4 + i) (bits_of 10 (encoded k b d) ++ bits_of 10 (encoded k' b' (after (encoded k b d) d)))))))
unfolding parted clean
none_across k b k' b' d i v v' h hi =
    let ch = encoded k b d in
    let e = after ch d in
    let y = encoded k' b' e in
    let n = half_number k' b' in
    let one = linked k b d v h in
    let two = linked k' b' e v' one.small in
    let low : ch % 64 < 64 = omega arith in
    let all = implied (left (ch % 64) e) (below 33 (λ (m : ℕ). clean (bits_of 6 (ch % 64) ++ bits_of 6 (half_at m e)))) (parted_everywhere (ch % 64) e low one.small) one.leaves in
    let here = at_below 33 (λ (m : ℕ). clean (bits_of 6 (ch % 64) ++ bits_of 6 (half_at m e))) all n two.numbered in
    let window = at_below 6 (λ (j : ℕ). not (comma (take 7 (drop j (bits_of 6 (ch % 64) ++ bits_of 6 (half_at n e)))))) here i hi in
    let same = across ch y i hi ∙ ap₂ (λ (s t : List ℕ). take 7 (drop i (s ++ t))) (last_six ch) (first_six y ∙ ap (bits_of 6) two.half) in
    subst (λ (w : List ℕ). T (not (comma w))) (sym same) window

none_within : (k b d place : ℕ) → T (valid k b) → d < 2 → place < 4
    → comma (take 7 (drop place (bits_of 10 (encoded k b d)))) ≡ true → (place ≡ 0) × (k ≡ 1) × (b ≡ 0xBC)
unfolding starts
none_within k b d place v h p t =
    let s = true_from (eqb place 0 && (eqb k 1 && eqb b 0xBC)) (implied (comma (take 7 (drop place (bits_of 10 (encoded k b d))))) (eqb place 0 && (eqb k 1 && eqb b 0xBC)) (starts_everywhere k b d place v h p) t) in
    let q = and_parts (eqb place 0) (eqb k 1 && eqb b 0xBC) s in
    let r = and_parts (eqb k 1) (eqb b 0xBC) q.1 in
    (eqb-true place 0 q.0, eqb-true k 1 r.0, eqb-true b 0xBC r.1)

-- the same for a test that a window passes
pub seen_comma_starts_k28_5 : (k b k' b' d place : ℕ) → T (valid k b) → T (valid k' b') → d < 2 → place < 10
    → comma (take 7 (drop place (bits_of 10 (encoded k b d) ++ bits_of 10 (encoded k' b' (after (encoded k b d) d))))) ≡ true
    → (place ≡ 0) × (k ≡ 1) × (b ≡ 0xBC)
seen_comma_starts_k28_5 k b k' b' d place v v' h p seen =
    let xs = bits_of 10 (encoded k b d) in
    let ys = bits_of 10 (encoded k' b' (after (encoded k b d) d)) in
    elim (cases_lt place 4) [
      | inl lt ↦ none_within k b d place v h lt (sym (ap comma (within (encoded k b d) (encoded k' b' (after (encoded k b d) d)) place lt)) ∙ seen)
      | inr ge ↦
          let i : place ≡ 4 + (place - 4) = omega arith in
          let s : comma (take 7 (drop (4 + (place - 4)) (xs ++ ys))) ≡ true = subst (λ (m : ℕ). comma (take 7 (drop m (xs ++ ys))) ≡ true) i seen in
          absurd (T_not (comma (take 7 (drop (4 + (place - 4)) (xs ++ ys)))) (none_across k b k' b' d (place - 4) v v' h (omega arith)) (from_true (comma (take 7 (drop (4 + (place - 4)) (xs ++ ys)))) s))
    ]

pub comma_starts_k28_5 : laws.CommaStartsK28_5
comma_starts_k28_5 k b k' b' d place v v' h p t =
    seen_comma_starts_k28_5 k b k' b' d place v v' h p
    (comma_is (take 7 (drop place (bits_of 10 (encoded k b d) ++ bits_of 10 (encoded k' b' (after (encoded k b d) d))))) t)

pub k28_5_starts_with_comma : laws.K28_5StartsWithComma
unfolding encoded
k28_5_starts_with_comma = (refl, refl)
