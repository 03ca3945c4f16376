-- Tests at each valid code, and the code that a character can stand for.
use Rattle.std.proofs.Common.{◌≡◌, ℕ, ◌+◌, ◌-◌, ◌*◌, ◌/◌, ◌%◌, ◌<◌, Bool, true, false, cond, ◌&&◌, ◌||◌, T, eqb, ◌⊎◌, get_or, sym, refl, ap, subst, inl, inr, arith, eqb→eq}
use Rattle.std.proofs.lemmas.Bool.Decides.{nat_tests}
use Rattle.code.specs.Characters.{encoded, data_character, special_character, valid, unlike, OnlyCode}
use Rattle.code.specs.declared.character.Code.{Code}
use Rattle.code.specs.declared.character.numbers.Kind.{Kind}
use Rattle.code.specs.declared.character.numbers.Kind.TheVariants.{Data, Special}
use Rattle.code.specs.Kinds.{kind_number, kind_with, code_with}
use Rattle.code.proofs.Computed.{both_left, both_right, below, at_below, at_disparity_below}
use Rattle.code.specs.declared.tables.TheConstants.{LOW_OF_SIX, HIGH_OF_FOUR}

pub true_from : (b : Bool) → T b → b ≡ true
true_from true t = refl
true_from false t = absurd t

pub from_true : (b : Bool) → b ≡ true → T b
from_true b e = subst T (sym e) tt

pub valid_cases : (k b : ℕ) → valid k b ≡ true → ((k ≡ 0) × (b < 256)) ⊎ ((k ≡ 1) × ((b ≡ 0x7C) ⊎ (b ≡ 0xBC)))
valid_cases k b t = grind (arith, nat_tests)

-- a kind is the one of its number, and a valid code's number is that of its kind
kind_of_number : (kind : Kind) → kind_with (kind_number kind) ≡ kind
kind_of_number Data = refl
kind_of_number Special = refl

pub code_of_number : (code : Code) → code_with (kind_number code.kind) code.byte ≡ code
code_of_number code = ap (λ (kind : Kind). record { kind = kind; byte = code.byte }) (kind_of_number code.kind)

pub number_of_kind : (k b : ℕ) → T (valid k b) → kind_number (kind_with k) ≡ k
number_of_kind k b v = elim (valid_cases k b (true_from (valid k b) v)) [ inl p ↦ rw p.0 refl | inr p ↦ rw p.0 refl ]

-- every number but 0 is taken for that of a special code
chosen : (t : Bool) (x y : ℕ) → cond (eqb (kind_number (cond t Data Special)) 0) x y ≡ cond t x y
chosen true x y = refl
chosen false x y = refl

encoded_with : (k b d : ℕ) → encoded (kind_number (kind_with k)) b d ≡ encoded k b d
unfolding encoded
encoded_with k b d = chosen (eqb k 0) (data_character b d) (special_character b d)

pub unlike_with : (k b : ℕ) → unlike (kind_number (kind_with k)) b ≡ unlike k b
unlike_with k b = rw (encoded_with k b 0, encoded_with k b 1) refl

-- a test at each valid code
abbrev pub every_code : (ℕ → ℕ → Bool) → Bool
every_code f = below 256 (f 0) && (f 1 0x7C && f 1 0xBC)

pub at_code : (f : ℕ → ℕ → Bool) → T (every_code f) → (k b : ℕ) → T (valid k b) → T (f k b)
at_code f t k b v =
    let bytes = both_left (below 256 (f 0)) (f 1 0x7C && f 1 0xBC) t in
    let specials = both_right (below 256 (f 0)) (f 1 0x7C && f 1 0xBC) t in
    elim (valid_cases k b (true_from (valid k b) v)) [
      | inl p ↦ subst (λ (n : ℕ). T (f n b)) (sym p.0) (at_below 256 (f 0) bytes b p.1)
      | inr p ↦ subst (λ (n : ℕ). T (f n b)) (sym p.0) (elim p.1 [
        | inl e ↦ subst (λ (n : ℕ). T (f 1 n)) (sym e) (both_left (f 1 0x7C) (f 1 0xBC) specials)
        | inr e ↦ subst (λ (n : ℕ). T (f 1 n)) (sym e) (both_right (f 1 0x7C) (f 1 0xBC) specials)
      ])
    ]

-- the same at both disparities
pub at_code_and_disparity : (f : ℕ → ℕ → ℕ → Bool) → T (every_code (λ k b. f k b 0)) → T (every_code (λ k b. f k b 1))
    → (k b d : ℕ) → T (valid k b) → d < 2 → T (f k b d)
at_code_and_disparity f m p k b d v h =
    at_disparity_below (f k b) (at_code (λ (k b : ℕ). f k b 0) m k b v) (at_code (λ (k b : ℕ). f k b 1) p k b v) d h

-- the code that the program takes a character for
abbrev pub kind_of : ℕ → ℕ
kind_of character = cond (eqb (character / 16) 15 || eqb (character / 16) 48) 1 0

abbrev pub four_of : ℕ → ℕ
four_of character = cond (eqb (character / 16) 48) (15 - character % 16) (character % 16)

abbrev pub byte_of : ℕ → ℕ
byte_of character = get_or HIGH_OF_FOUR (four_of character) 0 * 32 + get_or LOW_OF_SIX (character / 16) 0

pub of_encoded : (k b d : ℕ) → T (valid k b) → d < 2 → (k ≡ kind_of (encoded k b d)) × (b ≡ byte_of (encoded k b d))
unfolding encoded
of_encoded k b d v h =
    let t : T (eqb k (kind_of (encoded k b d)) && eqb b (byte_of (encoded k b d)))
    = at_code_and_disparity (λ (k b d : ℕ). eqb k (kind_of (encoded k b d)) && eqb b (byte_of (encoded k b d))) tt tt k b d v h in (
      eqb→eq k (kind_of (encoded k b d)) (both_left (eqb k (kind_of (encoded k b d))) (eqb b (byte_of (encoded k b d))) t),
      eqb→eq b (byte_of (encoded k b d)) (both_right (eqb k (kind_of (encoded k b d))) (eqb b (byte_of (encoded k b d))) t),
    )

pub only_code : (character : ℕ) (kind : Kind) (byte : ℕ) → kind_number kind ≡ kind_of character → byte ≡ byte_of character
    → OnlyCode character (record { kind = kind; byte = byte })
only_code character kind byte p q k b d v h e =
    let o = of_encoded k b d v h in
    let o' : (k ≡ kind_of character) × (b ≡ byte_of character)
    = subst (λ (ch : ℕ). (k ≡ kind_of ch) × (b ≡ byte_of ch)) e o in
    (cc (o'.0, p), cc (o'.1, q))
