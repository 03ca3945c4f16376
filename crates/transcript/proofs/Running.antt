-- What a receiver says to a list of bits, cut into characters and dwords.
use Rattle.std.proofs.Common.{◌≡◌, ℕ, zero, suc, ◌+◌, ◌*◌, ◌<◌, false, List, [], ◌∷◌, ◌++◌, length, take, replicate, refl, ap, ◌∙◌, inl, inr, arith}
use Rattle.std.proofs.lemmas.Bool.{lt-ltb, le-ltb, cases_lt}
use Rattle.code.specs.Characters.{after}
use Rattle.link.specs.declared.heard.Heard.{Heard}
use Rattle.link.specs.declared.heard.Heard.TheVariants.{More}
use Rattle.link.specs.declared.reading.Reading.{Reading}
use Rattle.link.specs.declared.reading.Reading.TheVariants.{Refused}
use Rattle.link.specs.declared.reading.Readings.{Readings}
use Rattle.link.specs.declared.state.Ledger.{Ledger}
use Rattle.link.specs.declared.state.State.{State}
use Rattle.link.specs.Hearing.{Hearing, hearing, completed, closing, in_sync, before_sync, after_dword}
use Rattle.link.specs.Readings.{reading}
use Rattle.transcript.specs.Answering.{listened}
use Rattle.transcript.proofs.Bits.{number}

-- the answers to bits, one for each
abbrev pub said : State → List ℕ → List Heard
said s [] = []
said s (b ∷ bs) = (hearing s b).heard ∷ said (hearing s b).state bs

pub said_append : (s : State) (bs cs : List ℕ) → said s (bs ++ cs) ≡ said s bs ++ said (listened s bs) cs
said_append s [] cs = refl
said_append s (b ∷ bs) cs = ap (λ xs. (hearing s b).heard ∷ xs) (said_append (hearing s b).state bs cs)

pub listened-append : (s : State) (bs cs : List ℕ) → listened s (bs ++ cs) ≡ listened (listened s bs) cs
listened-append s [] cs = refl
listened-append s (b ∷ bs) cs = listened-append (hearing s b).state bs cs

pub said_take : (s : State) (n : ℕ) (bs : List ℕ) → said s (take n bs) ≡ take n (said s bs)
said_take s zero bs = refl
said_take s (suc n) [] = refl
said_take s (suc n) (b ∷ bs) = ap (λ xs. (hearing s b).heard ∷ xs) (said_take (hearing s b).state n bs)

pub length_said : (s : State) (bs : List ℕ) → length (said s bs) ≡ length bs
length_said s [] = refl
length_said s (b ∷ bs) = ap suc (length_said (hearing s b).state bs)

abbrev pub mores : ℕ → List Heard
mores n = replicate n More

-- ---- the end of a dword, by its four characters

abbrev pub readings_of : ℕ → ℕ → ℕ → ℕ → ℕ → Readings
readings_of d n₀ n₁ n₂ n₃ = record {
  first = reading 0 n₀ d;
  second = reading 1 n₁ (after n₀ d);
  third = reading 2 n₂ (after n₁ (after n₀ d));
  fourth = reading 3 n₃ (after n₂ (after n₁ (after n₀ d)));
}

abbrev pub after_four : ℕ → ℕ → ℕ → ℕ → ℕ → ℕ
after_four d n₀ n₁ n₂ n₃ = after n₃ (after n₂ (after n₁ (after n₀ d)))

abbrev pub close_synced : ℕ → Readings → Ledger → Hearing
close_synced d r l = after_dword d (in_sync r l)

abbrev pub close_unsynced : ℕ → Readings → Ledger → Hearing
close_unsynced d r l = after_dword d (before_sync r l)

abbrev pub close : ℕ → ℕ → ℕ → ℕ → ℕ → Ledger → Hearing
close d n₀ n₁ n₂ n₃ l = after_dword (after_four d n₀ n₁ n₂ n₃) (closing (readings_of d n₀ n₁ n₂ n₃) l)

-- ---- the way there

-- inside a dword
abbrev pub framed : ℕ → ℕ → ℕ → Reading → Reading → Reading → ℕ → Ledger → State
framed v held place f s t d l =
    record { framing = record { hunting = false; loose = v; held = held; place = place; first = f; second = s; third = t }; disparity = d; ledger = l }

-- at the start of one
abbrev pub at_start : ℕ → Ledger → State
at_start d l = framed 0 0 0 Refused Refused Refused d l

-- fewer than forty bits end no dword
pub said_part : (bs : List ℕ) (v held place : ℕ) (f s t : Reading) (d : ℕ) (l : Ledger) → held < 10 → 10 * place + held + length bs < 40
    → said (framed v held place f s t d l) bs ≡ mores (length bs)
unfolding hearing completed
said_part [] v held place f s t d l h k = refl
said_part (b ∷ bs) v held place f s t d l h k =
    elim (cases_lt held 9) [
      | inl lt ↦ rw (lt-ltb held 9 lt) (ap (λ xs. More ∷ xs) (said_part bs (v * 2 + b) (held + 1) place f s t d l (omega arith) (omega arith)))
      | inr ge ↦
          let lt : place < 3 = omega arith in
          let n = v * 2 + b in
          rw (le-ltb held 9 ge, lt-ltb place 3 lt)
          (ap (λ xs. More ∷ xs) (said_part bs 0 0 (place + 1) s t (reading place n d) (after n d) l (omega arith) (omega arith)))
    ]

-- ten bits are a character
abbrev pub ten : ℕ → ℕ → ℕ → ℕ → ℕ → ℕ → ℕ → ℕ → ℕ → ℕ → List ℕ → List ℕ
ten a b c d e i f g h j xs = a ∷ b ∷ c ∷ d ∷ e ∷ i ∷ f ∷ g ∷ h ∷ j ∷ xs

pub data Ten : List ℕ → Type 0 where
  ten_bits : (a b c d e i f g h j : ℕ) → Ten (ten a b c d e i f g h j [])

said_first : {x : List ℕ} → Ten x → (xs : List ℕ) (d : ℕ) (l : Ledger)
    → said (at_start d l) (x ++ xs) ≡ mores 10 ++ said (framed 0 0 1 Refused Refused (reading 0 (number x) d) (after (number x) d) l) xs
unfolding hearing completed
said_first (ten_bits a b c d e i f g h j) xs dd l = refl

said_second : {x : List ℕ} → Ten x → (xs : List ℕ) (r : Reading) (d : ℕ) (l : Ledger)
    → said (framed 0 0 1 Refused Refused r d l) (x ++ xs)
    ≡ mores 10 ++ said (framed 0 0 2 Refused r (reading 1 (number x) d) (after (number x) d) l) xs
unfolding hearing completed
said_second (ten_bits a b c d e i f g h j) xs r dd l = refl

said_third : {x : List ℕ} → Ten x → (xs : List ℕ) (q r : Reading) (d : ℕ) (l : Ledger)
    → said (framed 0 0 2 Refused q r d l) (x ++ xs)
    ≡ mores 10 ++ said (framed 0 0 3 q r (reading 2 (number x) d) (after (number x) d) l) xs
unfolding hearing completed
said_third (ten_bits a b c d e i f g h j) xs q r dd l = refl

-- the end of a dword whose first three characters are read
abbrev fourth-ends : Reading → Reading → Reading → ℕ → ℕ → Ledger → Hearing
fourth-ends p q r n d l = after_dword (after n d) (closing (record { first = p; second = q; third = r; fourth = reading 3 n d }) l)

said_fourth : {x : List ℕ} → Ten x → (xs : List ℕ) (p q r : Reading) (d : ℕ) (l : Ledger)
    → said (framed 0 0 3 p q r d l) (x ++ xs)
    ≡ mores 9 ++ ((fourth-ends p q r (number x) d l).heard ∷ said (fourth-ends p q r (number x) d l).state xs)
unfolding hearing completed
said_fourth (ten_bits a b c d e i f g h j) xs p q r dd l = refl

-- forty bits are a dword
pub said_dword : {w x y z : List ℕ} → Ten w → Ten x → Ten y → Ten z → (xs : List ℕ) (d : ℕ) (l : Ledger)
    → let c = close d (number w) (number x) (number y) (number z) l in
    said (at_start d l) (w ++ (x ++ (y ++ (z ++ xs)))) ≡ mores 39 ++ (c.heard ∷ said c.state xs)
said_dword {w} {x} {y} {z} tw tx ty tz xs d l =
    let d₁ = after (number w) d in
    let d₂ = after (number x) d₁ in
    let d₃ = after (number y) d₂ in
    said_first tw (x ++ (y ++ (z ++ xs))) d l
    ∙ ap (λ r. mores 10 ++ r) (said_second tx (y ++ (z ++ xs)) (reading 0 (number w) d) d₁ l
    ∙ ap (λ r. mores 10 ++ r) (said_third ty (z ++ xs) (reading 0 (number w) d) (reading 1 (number x) d₁) d₂ l
    ∙ ap (λ r. mores 10 ++ r) (said_fourth tz xs (reading 0 (number w) d) (reading 1 (number x) d₁) (reading 2 (number y) d₂) d₃ l)))
