-- A dword heard as it was put.
use Rattle.std.proofs.Common.{◌≡◌, ℕ, suc, ◌/◌, ◌%◌, ◌<◌, Bool, true, false, cond, ◌⊎◌, List, ◌∷◌, ◌++◌, take, refl, ap, ◌∙◌, inl, inr, arith}
use Rattle.std.proofs.lemmas.Bool.{cases_lt, lt-ltb}
use Rattle.link.specs.declared.dword.Dword.{Dword}
use Rattle.link.specs.declared.state.Ledger.{Ledger}
use Rattle.transcript.proofs.CodeFacts.{valid_data, ValidCode, comma_minus, comma_plus}
use Rattle.code.specs.Characters.{encoded, unlike}
use Rattle.transcript.proofs.Bits.{dword_then, bits, number, K28_5, number-bits}
use Rattle.link.specs.Sending.{ValidDword, dword_bits, c0, c1, c2, c3, d1, d2, d3}
use Rattle.transcript.proofs.Running.{readings_of, close, said, mores, at_start, Ten, ten_bits, said_dword}
use Rattle.link.specs.Readings.{is_good, dword, reading, is_refused, kind_of, byte_of}
use Rattle.link.specs.declared.reading.Reading.{Reading}
use Rattle.link.specs.declared.reading.Reading.TheVariants.{Unlike, Like}
use Rattle.transcript.proofs.Hunting.{hunting, match}
use Rattle.code.specs.Kinds.{code_with}
use Rattle.code.proofs.Codes.{number_of_kind, unlike_with}
use Rattle.code.proofs.Laws.{characters_fit, decoding_undoes_encoding, disparity_fits}

pub ten_of : (n : ℕ) → Ten (bits n)
unfolding bits
ten_of n = ten_bits _ _ _ _ _ _ _ _ _ _

-- a code by its columns
abbrev pub column : ℕ → ℕ → Reading
column kind byte = cond (unlike kind byte) (Unlike (code_with kind byte)) (Like (code_with kind byte))

-- a code that a character at its place stands for
pub record Reads (v : Reading) (kind byte : ℕ) : Type 0 where
  pub good : is_refused v ≡ false
  pub kind_is : kind_of v ≡ kind
  pub byte_is : byte_of v ≡ byte

pub reads_column : (kind byte : ℕ) (u : Bool) → ValidCode kind byte → Reads (cond u (Unlike (code_with kind byte)) (Like (code_with kind byte))) kind byte
reads_column kind byte true v = record { good = refl; kind_is = number_of_kind kind byte v; byte_is = refl }
reads_column kind byte false v = record { good = refl; kind_is = number_of_kind kind byte v; byte_is = refl }

at_char : (e : ℕ) (l : Ledger) (d n : ℕ) (xs : List ℕ) → ((number (take 7 (bits n)) ≡ 31) × (d ≡ 0)) ⊎ ((number (take 7 (bits n)) ≡ 96) × (d ≡ 1)) →
    said (hunting e l) (bits n ++ xs) ≡ said (at_start d l) (bits n ++ xs)
unfolding bits
at_char e l d n xs c = match e l d (n / 512 % 2) (n / 256 % 2) (n / 128 % 2) (n / 64 % 2) (n / 32 % 2) (n / 16 % 2) (n / 8 % 2) ((n / 4 % 2) ∷ (n / 2 % 2) ∷ (n / 1 % 2) ∷ xs)
    (omega arith, (omega arith, (omega arith, (omega arith, (omega arith, (omega arith, (omega arith, tt))))))) c

pub match_dword : (e d : ℕ) (l : Ledger) (w : Dword) (rest : List ℕ) → K28_5 w → d < 2 →
    said (hunting e l) (dword_bits d w ++ rest) ≡ said (at_start d l) (dword_bits d w ++ rest)
match_dword e d l w rest (k, b) h =
    let comma : ((number (take 7 (bits (c0 d w))) ≡ 31) × (d ≡ 0)) ⊎ ((number (take 7 (bits (c0 d w))) ≡ 96) × (d ≡ 1)) =
    elim (cases_lt d 1) [
      | inl a ↦ let z : d ≡ 0 = omega arith in inl (rw (k, b, z) (comma_minus), z)
      | inr a ↦ let z : d ≡ 1 = omega arith in inr (rw (k, b, z) (comma_plus), z)
    ] in
    rw (dword_then d w rest) (at_char e l d (c0 d w) _ comma)

-- the answer to a dword heard as it was put
pub said_clean : (d : ℕ) (l : Ledger) (w : Dword) (rest : List ℕ) → ValidDword w → d < 2 →
    said (at_start d l) (dword_bits d w ++ rest) ≡
    mores 39 ++ ((close d (c0 d w) (c1 d w) (c2 d w) (c3 d w) l).heard ∷ said (close d (c0 d w) (c1 d w) (c2 d w) (c3 d w) l).state rest)
said_clean d l w rest v h =
    let h₁ : d1 d w < 2 = disparity_fits (c0 d w) d h in
    let h₂ : d2 d w < 2 = disparity_fits (c1 d w) (d1 d w) h₁ in
    let h₃ : d3 d w < 2 = disparity_fits (c2 d w) (d2 d w) h₂ in
    let n₀ = number-bits (c0 d w) (characters_fit w.kind w.b0 d v.first h) in
    let n₁ = number-bits (c1 d w) (characters_fit 0 w.b1 (d1 d w) (valid_data w.b1 v.second) h₁) in
    let n₂ = number-bits (c2 d w) (characters_fit 0 w.b2 (d2 d w) (valid_data w.b2 v.third) h₂) in
    let n₃ = number-bits (c3 d w) (characters_fit 0 w.b3 (d3 d w) (valid_data w.b3 v.fourth) h₃) in
    ap (said (at_start d l)) (dword_then d w rest)
    ∙ said_dword (ten_of (c0 d w)) (ten_of (c1 d w)) (ten_of (c2 d w)) (ten_of (c3 d w)) rest d l
    ∙ (rw (n₀, n₁, n₂, n₃) refl)

-- a character in its own column stands for its code
pub reads_first : (kind byte d : ℕ) → ValidCode kind byte → d < 2 → Reads (reading 0 (encoded kind byte d) d) kind byte
reads_first kind byte d v h = rw (decoding_undoes_encoding kind byte d v h, unlike_with kind byte) (reads_column kind byte (unlike kind byte) v)

pub reads_later : (place byte d : ℕ) → byte < 256 → d < 2 → Reads (reading (suc place) (encoded 0 byte d) d) 0 byte
reads_later place byte d v h = rw (decoding_undoes_encoding 0 byte d (valid_data byte v) h) (rw (lt-ltb 0 (suc place) (omega arith)) (reads_column 0 byte (unlike 0 byte) (valid_data byte v)))

pub judged_clean : (d : ℕ) (w : Dword) → ValidDword w → d < 2 → (is_good (readings_of d (c0 d w) (c1 d w) (c2 d w) (c3 d w)) ≡ true) × (dword (readings_of d (c0 d w) (c1 d w) (c2 d w) (c3 d w)) ≡ w)
judged_clean d w v h =
    let h₁ : d1 d w < 2 = disparity_fits (c0 d w) d h in
    let h₂ : d2 d w < 2 = disparity_fits (c1 d w) (d1 d w) h₁ in
    let h₃ : d3 d w < 2 = disparity_fits (c2 d w) (d2 d w) h₂ in
    let r₀ = reads_first w.kind w.b0 d v.first h in
    let r₁ = reads_later 0 w.b1 (d1 d w) v.second h₁ in
    let r₂ = reads_later 1 w.b2 (d2 d w) v.third h₂ in
    let r₃ = reads_later 2 w.b3 (d3 d w) v.fourth h₃ in
    (rw (r₀.good, r₁.good, r₂.good, r₃.good) refl, rw (r₀.kind_is, r₀.byte_is, r₁.byte_is, r₂.byte_is, r₃.byte_is) refl)
