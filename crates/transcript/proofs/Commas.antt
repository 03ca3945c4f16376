-- In a stream, a comma begins where a K28.5 does, and nowhere else.
use Rattle.std.proofs.Common.{◌≡◌, ℕ, zero, suc, ◌+◌, ◌-◌, ◌<◌, ◌≤◌, List, [], ◌∷◌, ◌++◌, length, take, drop, sym, refl, ap, ◌∙◌, subst, inl, inr, append_assoc, arith, length-append, length-drop, drop-drop}
use lib.Seq.{take-append-le, drop-append-le, drop-append-add}
use Rattle.std.proofs.lemmas.Bool.{cases_lt}
use Rattle.link.specs.declared.dword.Dword.{Dword}
use Rattle.link.specs.declared.state.Ledger.{Ledger}
use Rattle.transcript.proofs.CodeFacts.{valid_data, ValidCode, comma_only}
use Rattle.code.specs.Characters.{encoded, after}
use Rattle.transcript.proofs.Bits.{dword_is, dword_then, bits, Comma, K28_5, length_bits, length_dword}
use Rattle.link.specs.Sending.{ValidDword, dword_bits, stream, disparity_after, c0, c1, c2, d1, d2, d3}
use Rattle.transcript.specs.Laws.{AllValid}
use Rattle.transcript.proofs.Running.{said, mores}
use Rattle.transcript.proofs.Hunting.{Bits, NoComma, hunting, shifts}
use Rattle.code.proofs.Laws.{disparity_fits}

pub BitsAppend : (xs ys : List ℕ) → Bits xs → Bits ys → Bits (xs ++ ys)
BitsAppend [] ys b c = c
BitsAppend (x ∷ xs) ys (b, bs) c = (b, BitsAppend xs ys bs c)

pub BitsDrop : (n : ℕ) (xs : List ℕ) → Bits xs → Bits (drop n xs)
BitsDrop zero xs b = b
BitsDrop (suc n) [] b = tt
BitsDrop (suc n) (x ∷ xs) (b, bs) = BitsDrop n xs bs

pub BitsBits : (n : ℕ) → Bits (bits n)
unfolding bits
BitsBits n = (omega arith, (omega arith, (omega arith, (omega arith, (omega arith, (omega arith, (omega arith, (omega arith, (omega arith, (omega arith, tt))))))))))

pub BitsDword : (d : ℕ) (w : Dword) → Bits (dword_bits d w)
BitsDword d w =
    subst Bits (sym (dword_is d w)) (BitsAppend _ _ (BitsBits _) (BitsAppend _ _ (BitsBits _) (BitsAppend _ _ (BitsBits _) (BitsBits _))))

pub BitsStream : (d : ℕ) (ws : List Dword) → Bits (stream d ws)
BitsStream d [] = tt
BitsStream d (w ∷ ws) = BitsAppend _ _ (BitsDword d w) (BitsStream (disparity_after d w) ws)

-- seven bits that lie in the first of two lists
window : (q : ℕ) (xs ys : List ℕ) → q + 7 ≤ length xs → take 7 (drop q (xs ++ ys)) ≡ take 7 (drop q xs)
window q xs ys h =
    let a : q ≤ length xs = omega arith in
    let b : 7 ≤ length (drop q xs) = omega (arith, length-drop q xs) in
    rw (drop-append-le q xs ys a, take-append-le 7 (drop q xs) ys b) refl

-- what may follow a character: nothing, or another at the disparity that it leaves
pub data Follows (d : ℕ) : List ℕ → Type 0 where
  ends_here : Follows d []
  goes_on : (kind byte : ℕ) → ValidCode kind byte → (more : List ℕ) → Follows d (bits (encoded kind byte d) ++ more)

drop_ten : (n p : ℕ) (xs : List ℕ) → 10 ≤ p → drop p (bits n ++ xs) ≡ drop (p - 10) xs
drop_ten n p xs h =
    let e : p ≡ length (bits n) + (p - 10) = omega (arith, length_bits n) in
    ap (λ k. drop k (bits n ++ xs)) e ∙ drop-append-add (bits n) xs (p - 10)

pub char_no_comma : (kind byte d q : ℕ) {rest : List ℕ} → ValidCode kind byte → d < 2 → q < 10 → Follows (after (encoded kind byte d) d) rest →
    (q ≡ 0 → kind ≡ 1 → byte ≡ 188 → ⊥) → NoComma (drop q (bits (encoded kind byte d) ++ rest))
char_no_comma kind byte d q v h k ends_here none long comma =
    let e = length_bits (encoded kind byte d) in
    let zero-code = valid_data 0 (omega arith) in
    let f : q + 7 ≤ length (bits (encoded kind byte d)) = omega (arith, e, length-append (bits (encoded kind byte d)) [], length-drop q (bits (encoded kind byte d) ++ [])) in
    let w = window q (bits (encoded kind byte d)) [] f in
    let u = window q (bits (encoded kind byte d)) (bits (encoded 0 0 (after (encoded kind byte d) d))) f in
    let o = comma_only kind byte 0 0 d q v zero-code h k (subst Comma (w ∙ sym u) comma) in
    none o.0 o.1 o.2
char_no_comma kind byte d q v h k (goes_on kind' byte' v' more) none long comma =
    let e = length_bits (encoded kind byte d) in
    let e' = length_bits (encoded kind' byte' (after (encoded kind byte d) d)) in
    let f : q + 7 ≤ length (bits (encoded kind byte d) ++ bits (encoded kind' byte' (after (encoded kind byte d) d))) =
    omega (arith, e, e', length-append (bits (encoded kind byte d)) (bits (encoded kind' byte' (after (encoded kind byte d) d)))) in
    let w = window q (bits (encoded kind byte d) ++ bits (encoded kind' byte' (after (encoded kind byte d) d))) more f in
    let o = comma_only kind byte kind' byte' d q v v' h k (subst Comma (ap (λ xs. take 7 (drop q xs)) (sym (append_assoc (bits (encoded kind byte d)) (bits (encoded kind' byte' (after (encoded kind byte d) d))) more)) ∙ w) comma) in
    none o.0 o.1 o.2

-- the same over the forty bits of a dword
pub dword_no_comma : (d p : ℕ) (w : Dword) {rest : List ℕ} → ValidDword w → d < 2 → p < 40 → Follows (disparity_after d w) rest →
    (p ≡ 0 → K28_5 w → ⊥) → NoComma (drop p (dword_bits d w ++ rest))
dword_no_comma d p w {rest} v h k follows none =
    let h₁ : d1 d w < 2 = disparity_fits (c0 d w) d h in
    let h₂ : d2 d w < 2 = disparity_fits (c1 d w) (d1 d w) h₁ in
    let h₃ : d3 d w < 2 = disparity_fits (c2 d w) (d2 d w) h₂ in
    let v₁ : ValidCode 0 w.b1 = valid_data w.b1 v.second in
    let v₂ : ValidCode 0 w.b2 = valid_data w.b2 v.third in
    let v₃ : ValidCode 0 w.b3 = valid_data w.b3 v.fourth in
    let no : (q : ℕ) (byte : ℕ) → q ≡ 0 → ◌≡◌ {A = ℕ} 0 1 → byte ≡ 188 → ⊥ = λ q byte a b c. omega arith in
    subst (λ xs. NoComma (drop p xs)) (sym (dword_then d w rest))
    (elim (cases_lt p 10) [
      | inl a ↦ char_no_comma w.kind w.b0 d p v.first h a (goes_on 0 w.b1 v₁ _) (λ z x y. none z (x, y))
      | inr a ↦ elim (cases_lt p 20) [
        | inl b ↦ subst NoComma (sym (drop_ten (c0 d w) p _ a)) (char_no_comma 0 w.b1 (d1 d w) (p - 10) v₁ h₁ (omega arith) (goes_on 0 w.b2 v₂ _) (no (p - 10) w.b1))
        | inr b ↦ elim (cases_lt p 30) [
          | inl c ↦ subst NoComma (sym (drop_ten (c0 d w) p _ a ∙ drop_ten (c1 d w) (p - 10) _ (omega arith)))
              (char_no_comma 0 w.b2 (d2 d w) (p - 10 - 10) v₂ h₂ (omega arith) (goes_on 0 w.b3 v₃ _) (no (p - 10 - 10) w.b2))
          | inr c ↦ subst NoComma (sym (drop_ten (c0 d w) p _ a ∙ drop_ten (c1 d w) (p - 10) _ (omega arith) ∙ drop_ten (c2 d w) (p - 10 - 10) _ (omega arith)))
              (char_no_comma 0 w.b3 (d3 d w) (p - 10 - 10 - 10) v₃ h₃ (omega arith) follows (no (p - 10 - 10 - 10) w.b3))
        ]
      ]
    ])

-- what follows a dword in a stream
pub follows_stream : (d : ℕ) (ws : List Dword) → AllValid ws → Follows d (stream d ws)
follows_stream d [] v = ends_here
follows_stream d (w ∷ ws) (v, vs) = subst (Follows d) (sym (dword_then d w (stream (disparity_after d w) ws))) (goes_on w.kind w.b0 v.first _)

-- hunting goes over a dword, from its start if it is no K28.5 primitive, or from a later bit
pub hunt_past : (e : ℕ) (l : Ledger) (d k : ℕ) (w : Dword) (rest : List ℕ) → ValidDword w → Follows (disparity_after d w) rest → Bits rest → d < 2 → k < 40
    → (k ≡ 0 → K28_5 w → ⊥) → said (hunting e l) (drop k (dword_bits d w ++ rest)) ≡ mores (40 - k) ++ said (hunting e l) rest
hunt_past e l d k w rest v follows br h lt none =
    let f : length (dword_bits d w) ≡ 40 = length_dword d w in
    let a : k ≤ length (dword_bits d w) = omega arith in
    let g : length (drop k (dword_bits d w)) ≡ 40 - k = length-drop k (dword_bits d w) ∙ ap (λ n. n - k) f in
    ap (said (hunting e l)) (drop-append-le k (dword_bits d w) rest a)
    ∙ shifts e l (drop k (dword_bits d w)) rest (BitsAppend _ _ (BitsDrop k _ (BitsDword d w)) br)
    (λ p lt'. subst NoComma (sym (drop-drop p k _) ∙ ap (drop p) (drop-append-le k (dword_bits d w) rest a))
    (dword_no_comma d (k + p) w v h (omega (arith, g)) follows (λ z. none (omega arith))))
    ∙ ap (λ n. mores n ++ said (hunting e l) rest) g

-- so too where a stream follows
pub hunt_over : (e : ℕ) (l : Ledger) (d k : ℕ) (w : Dword) (ws : List Dword) → ValidDword w → AllValid ws → d < 2 → k < 40 → (k ≡ 0 → K28_5 w → ⊥)
    → let rest = stream (disparity_after d w) ws in
    said (hunting e l) (drop k (dword_bits d w ++ rest)) ≡ mores (40 - k) ++ said (hunting e l) rest
hunt_over e l d k w ws v vs h lt none =
    let d' = disparity_after d w in
    hunt_past e l d k w (stream d' ws) v (follows_stream d' ws vs) (BitsStream d' ws) h lt none
