-- `decoded` gives the code whose character at the disparity is the one given, and nothing where there is none.
use Rattle.std.proofs.Common.{◌≡◌, ℕ, zero, suc, ◌<◌, Bool, true, false, cond, ◌&&◌, T, eqb, List, [], ◌∷◌, Some, None, Option, sym, refl, ap, ◌∙◌, subst, ap₂, inl, inr, not-suc-le-zero, arith}
use Rattle.std.specs.Bool.{then_some}
use Rattle.std.proofs.lemmas.Bool.{cases_lt, eqb-true, eq-eqb, and_from, and_parts, both_ways}
use Rattle.code.specs.Characters.{encoded, valid, OnlyCode, codes, data_codes, first_encoded, decoded}
use Rattle.code.specs.declared.character.Code.{Code}
use Rattle.code.proofs.Computed.{both_left, both_right}
use Rattle.code.specs.Kinds.{kind_number, code_with}
use Rattle.code.proofs.Codes.{true_from, from_true, valid_cases, code_of_number, number_of_kind}

-- what is found is a valid code with that character
abbrev pub Found : ℕ → ℕ → Option Code → Type 0
Found ch d (Some c) = T (valid (kind_number c.kind) c.byte) × (encoded (kind_number c.kind) c.byte d ≡ ch)
Found ch d None = Unit {0}

abbrev all_valid : List Code → Bool
all_valid [] = true
all_valid (c ∷ cs) = valid (kind_number c.kind) c.byte && all_valid cs

found_one : (ch d : ℕ) (c : Code) (rest : Option Code) (t : Bool) → eqb (encoded (kind_number c.kind) c.byte d) ch ≡ t
    → T (valid (kind_number c.kind) c.byte) → Found ch d rest → Found ch d (cond t (Some c) rest)
found_one ch d c rest true e v r = (v, eqb-true (encoded (kind_number c.kind) c.byte d) ch e)
found_one ch d c rest false e v r = r

found_in : (ch d : ℕ) (cs : List Code) → T (all_valid cs) → Found ch d (first_encoded ch d cs)
found_in ch d [] t = tt
found_in ch d (c ∷ cs) t =
    found_one ch d c (first_encoded ch d cs) (eqb (encoded (kind_number c.kind) c.byte d) ch) refl
    (both_left (valid (kind_number c.kind) c.byte) (all_valid cs) t)
    (found_in ch d cs (both_right (valid (kind_number c.kind) c.byte) (all_valid cs) t))

pub found : (ch d : ℕ) → Found ch d (decoded ch d)
unfolding decoded codes
found ch d = found_in ch d codes tt

-- where nothing is found, no code of the list has the character
missed_one : (c : Code) (rest : Option Code) (t : Bool) → cond t (Some c) rest ≡ None → (t ≡ false) × (rest ≡ None)
missed_one c rest true e = let z : ◌≡◌ {A = ℕ} 0 1 = cc in absurd (omega arith)
missed_one c rest false e = (refl, e)

missed_data : (ch d n : ℕ) (others : List Code) → first_encoded ch d (data_codes n others) ≡ None
    → ((b : ℕ) → b < n → eqb (encoded 0 b d) ch ≡ false) × (first_encoded ch d others ≡ None)
missed_data ch d zero others e = (λ b h. absurd (not-suc-le-zero h), e)
missed_data ch d (suc n) others e =
    let m = missed_data ch d n (code_with 0 n ∷ others) e in
    let o = missed_one (code_with 0 n) (first_encoded ch d others) (eqb (encoded 0 n d) ch) m.1 in (
      λ b h. elim (cases_lt b n) [
        | inl lt ↦ m.0 b lt
        | inr ge ↦ let q : n ≡ b = omega arith in subst (λ (x : ℕ). eqb (encoded 0 x d) ch ≡ false) q o.0
      ],
      o.1,
    )

pub missed : (ch d : ℕ) → decoded ch d ≡ None → (k b : ℕ) → T (valid k b) → eqb (encoded k b d) ch ≡ false
unfolding decoded codes
missed ch d e k b v =
    let m = missed_data ch d 256 (code_with 1 0x7C ∷ code_with 1 0xBC ∷ []) e in
    let three = missed_one (code_with 1 0x7C) (first_encoded ch d (code_with 1 0xBC ∷ [])) (eqb (encoded 1 0x7C d) ch) m.1 in
    let five = missed_one (code_with 1 0xBC) None (eqb (encoded 1 0xBC d) ch) three.1 in
    elim (valid_cases k b (true_from (valid k b) v)) [
      | inl p ↦ subst (λ (n : ℕ). eqb (encoded n b d) ch ≡ false) (sym p.0) (m.0 b p.1)
      | inr p ↦ subst (λ (n : ℕ). eqb (encoded n b d) ch ≡ false) (sym p.0) (elim p.1 [
        | inl q ↦ subst (λ (n : ℕ). eqb (encoded 1 n d) ch ≡ false) (sym q) three.0
        | inr q ↦ subst (λ (n : ℕ). eqb (encoded 1 n d) ch ≡ false) (sym q) five.0
      ])
    ]

-- where a character can stand for one code only, decoding is a test of that code
decoded_by : (ch d : ℕ) (c : Code) → d < 2 → OnlyCode ch c → (r : Bool) → (valid (kind_number c.kind) c.byte && eqb (encoded (kind_number c.kind) c.byte d) ch) ≡ r
    → (o : Option Code) → decoded ch d ≡ o → Found ch d o → o ≡ then_some r c
decoded_by ch d c h only r e (Some x) p f =
    let u = only (kind_number x.kind) x.byte d f.0 h f.1 in
    let same : x ≡ c = sym (code_of_number x) ∙ ap₂ code_with u.0 u.1 ∙ code_of_number c in
    let s = and_from (valid (kind_number x.kind) x.byte) (eqb (encoded (kind_number x.kind) x.byte d) ch) (true_from (valid (kind_number x.kind) x.byte) f.0) (eq-eqb (encoded (kind_number x.kind) x.byte d) ch f.1) in
    let t : r ≡ true = sym e ∙ subst (λ (y : Code). (valid (kind_number y.kind) y.byte && eqb (encoded (kind_number y.kind) y.byte d) ch) ≡ true) same s in
    ap Some same ∙ ap (λ (q : Bool). then_some q c) (sym t)
decoded_by ch d c h only true e None p f =
    let parts = and_parts (valid (kind_number c.kind) c.byte) (eqb (encoded (kind_number c.kind) c.byte d) ch) e in
    absurd (both_ways (eqb (encoded (kind_number c.kind) c.byte d) ch) (missed ch d p (kind_number c.kind) c.byte (from_true (valid (kind_number c.kind) c.byte) parts.0)) parts.1)
decoded_by ch d c h only false e None p f = refl

pub decoded_is : (ch d : ℕ) (c : Code) → d < 2 → OnlyCode ch c
    → decoded ch d ≡ then_some (valid (kind_number c.kind) c.byte && eqb (encoded (kind_number c.kind) c.byte d) ch) c
decoded_is ch d c h only = decoded_by ch d c h only (valid (kind_number c.kind) c.byte && eqb (encoded (kind_number c.kind) c.byte d) ch) refl (decoded ch d) refl (found ch d)

pub decoded_with : (ch d k b : ℕ) → T (valid k b) → d < 2 → OnlyCode ch (code_with k b)
    → decoded ch d ≡ then_some (valid k b && eqb (encoded k b d) ch) (code_with k b)
decoded_with ch d k b v h only =
    subst (λ (n : ℕ). decoded ch d ≡ then_some (valid n b && eqb (encoded n b d) ch) (code_with k b)) (number_of_kind k b v)
    (decoded_is ch d (code_with k b) h only)
