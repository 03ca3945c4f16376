-- With no bit turned, what is handed out is what was sent after the third K28.5 primitive begun.
use Rattle.std.proofs.Common.{◌≡◌, ℕ, zero, suc, ◌+◌, ◌-◌, ◌/◌, ◌<◌, ◌≤◌, Bool, true, false, ◌&&◌, eqb, List, [], ◌∷◌, ◌++◌, length, take, drop, sym, refl, ap, ◌∙◌, inl, inr, arith}
use lib.Seq.{drop-append-add}
use Rattle.std.proofs.lemmas.Bool.{cases_lt, cases_Bool, eqb-true, eq-eqb, and_parts, and_from, both_ways, ne_eqb}
use Rattle.link.specs.declared.dword.Dword.{Dword}
use Rattle.link.specs.declared.state.Ledger.{Ledger}
use Rattle.link.specs.declared.heard.Heard.{Heard}
use Rattle.link.specs.Sending.{ValidDword, dword_bits, stream, disparity_after, c0, c1, c2, c3}
use Rattle.transcript.proofs.Bits.{K28_5, length_dword}
use Rattle.transcript.proofs.Running.{readings_of, said, mores, at_start}
use Rattle.link.specs.Readings.{kind_of, byte_of}
use Rattle.link.specs.Hearing.{before_sync}
use Rattle.transcript.specs.Laws.{Numbered, numbered_from, handed, handed_by, beyond, is_k28_5, AllValid}
use Rattle.transcript.proofs.Hunting.{hunting}
use Rattle.transcript.proofs.Commas.{hunt_over}
use Rattle.transcript.proofs.CleanDwords.{match_dword, said_clean, judged_clean}
use Rattle.code.proofs.Laws.{disparity_fits}

take_nil : {X : Type 0} (n : ℕ) → take {A = X} n [] ≡ []
take_nil zero = refl
take_nil (suc n) = refl

drop_nil : {X : Type 0} (n : ℕ) → drop {A = X} n [] ≡ []
drop_nil zero = refl
drop_nil (suc n) = refl

pub handed_skip : (n m : ℕ) (r : List Heard) → handed (take m (mores n ++ r)) ≡ handed (take (m - n) r)
handed_skip zero m r = let e : m ≡ m - 0 = omega arith in ap (λ k. handed (take k r)) e
handed_skip (suc n) zero r = let e : 0 ≡ 0 - suc n = omega arith in ap (λ k. handed (take k r)) e
handed_skip (suc n) (suc m) r = let e : m - n ≡ suc m - suc n = omega arith in handed_skip n m r ∙ ap (λ k. handed (take k r)) e

handed_part : (m : ℕ) (a : Heard) (r : List Heard) → m < 40 → handed (take m (mores 39 ++ (a ∷ r))) ≡ []
handed_part m a r h = let e : m - 39 ≡ 0 = omega arith in handed_skip 39 m (a ∷ r) ∙ ap (λ k. handed (take k (a ∷ r))) e

handed-dword : (m : ℕ) (a : Heard) (r : List Heard) → 40 ≤ m → handed (take m (mores 39 ++ (a ∷ r))) ≡ handed_by a ++ handed (take (m - 40) r)
handed-dword m a r h =
    let e : m - 39 ≡ suc (m - 40) = omega arith in
    handed_skip 39 m (a ∷ r) ∙ ap (λ k. handed (take k (a ∷ r))) e

-- what follows the n-th K28.5 primitive, numbered
abbrev pub numbered-beyond : ℕ → List Dword → List Numbered
numbered-beyond n ws = numbered_from 0 (beyond n ws)

-- a ledger in sync, and one before it
abbrev pub synced : ℕ → ℕ → ℕ → Bool → ℕ → Ledger
synced count number debt single pending = record { synced = true; count = count; number = number; debt = debt; single = single; pending = pending }

abbrev pub early : ℕ → Ledger
early count = record { synced = false; count = count; number = 0; debt = 0; single = false; pending = 0 }

pub dword_small : (d : ℕ) (w : Dword) → d < 2 → disparity_after d w < 2
dword_small d w h = disparity_fits _ _ (disparity_fits _ _ (disparity_fits _ _ (disparity_fits _ _ h)))

pub handed_synced : (ws : List Dword) (m d count number debt : ℕ) (single : Bool) (pending : ℕ) → AllValid ws → d < 2 →
    handed (take m (said (at_start d (synced count number debt single pending)) (stream d ws))) ≡ numbered_from number (take (m / 40) ws)
handed_synced [] m d count number debt single pending v h = ap handed (take_nil m) ∙ sym (ap (numbered_from number) (take_nil (m / 40)))
handed_synced (w ∷ ws) m d count number debt single pending (v, vs) h =
    let l = synced count number debt single pending in
    let j = readings_of d (c0 d w) (c1 d w) (c2 d w) (c3 d w) in
    let good = (judged_clean d w v h).0 in
    let same = (judged_clean d w v h).1 in
    let h' : disparity_after d w < 2 = disparity_fits _ _ (disparity_fits _ _ (disparity_fits _ _ (disparity_fits _ _ h))) in
    ap (λ xs. handed (take m xs)) (said_clean d l w (stream (disparity_after d w) ws) v h)
    ∙ elim (cases_lt m 40) [
      | inl lt ↦ handed_part m _ _ lt ∙ ap (λ k. numbered_from number (take k (w ∷ ws))) (let e : 0 ≡ m / 40 = omega arith in e)
      | inr ge ↦ handed-dword m _ _ ge
          ∙ rw (good, same) (ap (λ xs. record { number = number; dword = w } ∷ xs) (handed_synced ws (m - 40) (disparity_after d w) 0 (number + 1) _ _ _ vs h'))
          ∙ ap (λ k. numbered_from number (take k (w ∷ ws))) (let e : suc ((m - 40) / 40) ≡ m / 40 = omega arith in e)
    ]

-- before sync, with so many K28.5 primitives to come
handed_early : (ws : List Dword) (m d count left : ℕ) → AllValid ws → d < 2 → count + suc left ≡ 3 →
    handed (take m (said (at_start d (early count)) (stream d ws))) ≡ numbered-beyond (suc left) (take (m / 40) ws)
unfolding before_sync
handed_early [] m d count left v h c = ap handed (take_nil m) ∙ ap (numbered-beyond (suc left)) (sym (take_nil (m / 40)))
handed_early (w ∷ ws) m d count zero (v, vs) h c =
    let j = readings_of d (c0 d w) (c1 d w) (c2 d w) (c3 d w) in
    let good = (judged_clean d w v h).0 in
    let same = (judged_clean d w v h).1 in
    let k28·5 : (eqb (kind_of j.first) 1 && eqb (byte_of j.first) 0xBC) ≡ is_k28_5 w = ap is_k28_5 same in
    let h' : disparity_after d w < 2 = dword_small d w h in
    ap (λ xs. handed (take m xs)) (said_clean d (early count) w (stream (disparity_after d w) ws) v h)
    ∙ elim (cases_lt m 40) [
      | inl lt ↦ handed_part m _ _ lt ∙ ap (λ k. numbered-beyond (suc zero) (take k (w ∷ ws))) (let e : 0 ≡ m / 40 = omega arith in e)
      | inr ge ↦ handed-dword m _ _ ge
          ∙ (elim (cases_Bool (is_k28_5 w)) [
            | inl yes-k ↦ let two = eq-eqb count 2 (omega arith) in rw (good, k28·5, yes-k, two) (handed_synced ws (m - 40) (disparity_after d w) 0 0 0 false 0 vs h')
            | inr no-k ↦ rw (good, k28·5, no-k) (handed_early ws (m - 40) (disparity_after d w) count zero vs h' c)
          ])
          ∙ ap (λ k. numbered-beyond (suc zero) (take k (w ∷ ws))) (let e : suc ((m - 40) / 40) ≡ m / 40 = omega arith in e)
    ]
handed_early (w ∷ ws) m d count (suc left) (v, vs) h c =
    let j = readings_of d (c0 d w) (c1 d w) (c2 d w) (c3 d w) in
    let good = (judged_clean d w v h).0 in
    let same = (judged_clean d w v h).1 in
    let k28·5 : (eqb (kind_of j.first) 1 && eqb (byte_of j.first) 0xBC) ≡ is_k28_5 w = ap is_k28_5 same in
    let h' : disparity_after d w < 2 = dword_small d w h in
    ap (λ xs. handed (take m xs)) (said_clean d (early count) w (stream (disparity_after d w) ws) v h)
    ∙ elim (cases_lt m 40) [
      | inl lt ↦ handed_part m _ _ lt ∙ ap (λ k. numbered-beyond (suc (suc left)) (take k (w ∷ ws))) (let e : 0 ≡ m / 40 = omega arith in e)
      | inr ge ↦ handed-dword m _ _ ge
          ∙ (elim (cases_Bool (is_k28_5 w)) [
            | inl yes-k ↦ let few = ne_eqb count 2 (λ e. omega arith) in rw (good, k28·5, yes-k, few) (handed_early ws (m - 40) (disparity_after d w) (count + 1) left vs h' (omega arith))
            | inr no-k ↦ rw (good, k28·5, no-k) (handed_early ws (m - 40) (disparity_after d w) count (suc left) vs h' c)
          ])
          ∙ ap (λ k. numbered-beyond (suc (suc left)) (take k (w ∷ ws))) (let e : suc ((m - 40) / 40) ≡ m / 40 = omega arith in e)
    ]

pub K28_5From : (w : Dword) → is_k28_5 w ≡ true → K28_5 w
K28_5From w e = let p = and_parts _ _ e in (eqb-true w.kind 1 p.0, eqb-true w.b0 0xBC p.1)

pub K28_5To : (w : Dword) → K28_5 w → is_k28_5 w ≡ true
K28_5To w (k, b) = and_from _ _ (eq-eqb w.kind 1 k) (eq-eqb w.b0 0xBC b)

pub drop_dword : (d k : ℕ) (w : Dword) (xs : List ℕ) → 40 ≤ k → drop k (dword_bits d w ++ xs) ≡ drop (k - 40) xs
drop_dword d k w xs h =
    let e : k ≡ length (dword_bits d w) + (k - 40) = omega (arith, length_dword d w) in
    ap (λ n. drop n (dword_bits d w ++ xs)) e ∙ drop-append-add (dword_bits d w) xs (k - 40)

partly : (w : Dword) (ws : List Dword) (m k : ℕ) → k < 40 → 0 < k →
    numbered-beyond 3 (take ((0 + (m - (40 - k))) / 40) ws) ≡ numbered-beyond 3 (drop ((k + 39) / 40) (take ((k + m) / 40) (w ∷ ws)))
partly w ws m k h g =
    let one : (k + 39) / 40 ≡ 1 = omega arith in
    elim (cases_lt (k + m) 40) [
      | inl lt ↦ let a : (k + m) / 40 ≡ 0 = omega arith in let b : (0 + (m - (40 - k))) / 40 ≡ 0 = omega arith in rw (a, b, one) refl
      | inr ge ↦ let a : (k + m) / 40 ≡ suc ((0 + (m - (40 - k))) / 40) = omega arith in rw (a, one) refl
    ]

wholly : (w : Dword) (ws : List Dword) (m d e : ℕ) → ValidDword w → AllValid ws → d < 2 →
    handed (take (m - 40) (said (hunting e (early 0)) (stream (disparity_after d w) ws))) ≡ numbered-beyond 3 (take ((0 + (m - 40)) / 40) ws) →
    handed (take m (said (hunting e (early 0)) (dword_bits d w ++ stream (disparity_after d w) ws))) ≡ numbered-beyond 3 (take ((0 + m) / 40) (w ∷ ws))
wholly w ws m d e v vs h ih = elim (cases_Bool (is_k28_5 w)) [
  | inl yes-k ↦ ap (λ xs. handed (take m xs)) (match_dword e d (early 0) w (stream (disparity_after d w) ws) (K28_5From w yes-k) h)
      ∙ handed_early (w ∷ ws) m d 0 2 (v, vs) h refl
      ∙ ap (λ k. numbered-beyond 3 (take k (w ∷ ws))) (let q : m / 40 ≡ (0 + m) / 40 = omega arith in q)
  | inr no-k ↦ ap (λ xs. handed (take m xs)) (hunt_over e (early 0) d 0 w ws v vs h (omega arith) (λ z k. both_ways (is_k28_5 w) no-k (K28_5To w k)))
      ∙ handed_skip 40 m _ ∙ ih
      ∙ elim (cases_lt m 40) [
        | inl lt ↦ let a : (0 + m) / 40 ≡ 0 = omega arith in let b : (0 + (m - 40)) / 40 ≡ 0 = omega arith in rw (a, b) refl
        | inr ge ↦ let a : (0 + m) / 40 ≡ suc ((0 + (m - 40)) / 40) = omega arith in rw (a, no-k) refl
      ]
]

-- from wherever hearing begins
pub handed_hunting : (ws : List Dword) (m k d e : ℕ) → AllValid ws → d < 2 →
    handed (take m (said (hunting e (early 0)) (drop k (stream d ws)))) ≡ numbered-beyond 3 (drop ((k + 39) / 40) (take ((k + m) / 40) ws))
handed_hunting [] m k d e v h =
    ap (λ xs. handed (take m (said (hunting e (early 0)) xs))) (drop_nil k) ∙ ap handed (take_nil m)
    ∙ sym (ap (λ xs. numbered-beyond 3 (drop ((k + 39) / 40) xs)) (take_nil ((k + m) / 40)) ∙ ap (numbered-beyond 3) (drop_nil ((k + 39) / 40)))
handed_hunting (w ∷ ws) m k d e (v, vs) h =
    let h' : disparity_after d w < 2 = dword_small d w h in
    let later = handed_hunting ws m (k - 40) (disparity_after d w) e vs h' in
    let next_dword = handed_hunting ws (m - (40 - k)) 0 (disparity_after d w) e vs h' in
    elim (cases_lt k 40) [
      | inr past ↦
          let a : (k + 39) / 40 ≡ suc ((k - 40 + 39) / 40) = omega arith in
          let b : (k + m) / 40 ≡ suc ((k - 40 + m) / 40) = omega arith in
          ap (λ xs. handed (take m (said (hunting e (early 0)) xs))) (drop_dword d k w (stream (disparity_after d w) ws) past)
          ∙ later ∙ sym (rw (a, b) refl)
      | inl inside ↦ elim (cases_lt 0 k) [
        | inl cut ↦ ap (λ xs. handed (take m xs)) (hunt_over e (early 0) d k w ws v vs h inside (λ z. absurd (omega arith)))
            ∙ handed_skip (40 - k) m _ ∙ next_dword ∙ partly w ws m k inside cut
        | inr whole ↦ let z : k ≡ 0 = omega arith in rw z (wholly w ws m d e v vs h (handed_hunting ws (m - 40) 0 (disparity_after d w) e vs h'))
      ]
    ]
