-- The answers in sync, one dword every forty bits.
use Rattle.std.proofs.Common.{◌≡◌, ℕ, zero, suc, ◌+◌, ◌*◌, ◌<◌, ◌≤◌, true, false, cond, ◌⊎◌, List, [], ◌∷◌, ◌++◌, length, take, drop, sym, refl, ap, ◌∙◌, subst, inl, inr, append-nil, arith, length-append, length-drop, take-append-drop}
use lib.ListN.{length-replicate}
use Rattle.link.specs.declared.dword.Dword.{Dword}
use Rattle.link.specs.declared.state.Ledger.{Ledger}
use Rattle.link.specs.Hearing.{Closing, in_sync, handed_out, reported, after_dword}
use Rattle.link.specs.declared.heard.Heard.{Heard}
use Rattle.link.specs.declared.heard.Heard.TheVariants.{More}
use Rattle.transcript.proofs.Bits.{number}
use Rattle.link.specs.declared.reading.Readings.{Readings}
use Rattle.transcript.proofs.Running.{readings_of, after_four, said, mores, at_start, Ten, ten_bits, said_part, said_dword}
use Rattle.transcript.specs.Laws.{until_lost}
use Rattle.link.specs.declared.reading.Reading.TheVariants.{Refused}
use Rattle.transcript.proofs.Track.{Nth, here, there}
use Rattle.transcript.proofs.Vouching.{replies, ending, ends_good, ends_lost, ends_bad}
use Rattle.transcript.proofs.Spacing.{e_end}
use Rattle.transcript.proofs.Dwords.{syms, drop4, length_drop4, pairs}

ten_take : (x : List ℕ) → 10 ≤ length x → Ten (take 10 x)
ten_take (a ∷ b ∷ c ∷ d ∷ e ∷ i ∷ f ∷ g ∷ h ∷ j ∷ x) l = ten_bits a b c d e i f g h j
ten_take [] l = absurd (omega arith)
ten_take (a ∷ []) l = absurd (omega arith)
ten_take (a ∷ b ∷ []) l = absurd (omega arith)
ten_take (a ∷ b ∷ c ∷ []) l = absurd (omega arith)
ten_take (a ∷ b ∷ c ∷ d ∷ []) l = absurd (omega arith)
ten_take (a ∷ b ∷ c ∷ d ∷ e ∷ []) l = absurd (omega arith)
ten_take (a ∷ b ∷ c ∷ d ∷ e ∷ i ∷ []) l = absurd (omega arith)
ten_take (a ∷ b ∷ c ∷ d ∷ e ∷ i ∷ f ∷ []) l = absurd (omega arith)
ten_take (a ∷ b ∷ c ∷ d ∷ e ∷ i ∷ f ∷ g ∷ []) l = absurd (omega arith)
ten_take (a ∷ b ∷ c ∷ d ∷ e ∷ i ∷ f ∷ g ∷ h ∷ []) l = absurd (omega arith)

-- the readings of forty bits, and the disparity after them
abbrev readings_at : ℕ → List ℕ → Readings
readings_at e x =
    readings_of e (number (take 10 x)) (number (take 10 (drop 10 x))) (number (take 10 (drop 10 (drop 10 x)))) (number (take 10 (drop 10 (drop 10 (drop 10 x)))))

abbrev e_after : ℕ → List ℕ → ℕ
e_after e x =
    after_four e (number (take 10 x)) (number (take 10 (drop 10 x))) (number (take 10 (drop 10 (drop 10 x)))) (number (take 10 (drop 10 (drop 10 (drop 10 x)))))

said_next : (e : ℕ) (l : Ledger) (x : List ℕ) → l.synced ≡ true → 40 ≤ length x
    → let c = in_sync (readings_at e x) l in
    said (at_start e l) x ≡ mores 39 ++ (c.heard ∷ said (after_dword (e_after e x) c).state (drop4 x))
said_next e l x sy h =
    let x₁ = drop 10 x in let x₂ = drop 10 x₁ in let x₃ = drop 10 x₂ in
    let l₁ = length-drop 10 x in let l₂ = length-drop 10 x₁ in let l₃ = length-drop 10 x₂ in
    let parts : x ≡ take 10 x ++ (take 10 x₁ ++ (take 10 x₂ ++ (take 10 x₃ ++ drop4 x))) =
    sym (ap (λ r. take 10 x ++ r) (ap (λ r. take 10 x₁ ++ r) (ap (λ r. take 10 x₂ ++ r) (take-append-drop 10 x₃) ∙ take-append-drop 10 x₂) ∙ take-append-drop 10 x₁) ∙ take-append-drop 10 x) in
    ap (said (at_start e l)) parts
    ∙ said_dword (ten_take x (omega arith)) (ten_take x₁ (omega (arith, l₁))) (ten_take x₂ (omega (arith, l₁, l₂))) (ten_take x₃ (omega (arith, l₁, l₂, l₃))) (drop4 x) e l
    ∙ rw sy refl

pub nth_mores : (n i : ℕ) (r : List Heard) (a : Heard) → Nth (mores n ++ r) i a → (a ≡ More) ⊎ ((k : ℕ) × ((i ≡ n + k) × Nth r k a))
nth_mores zero i r a nth = inr (i, (omega arith, nth))
nth_mores (suc n) zero r a here = inl refl
nth_mores (suc n) (suc i) r a (there nth) = elim (nth_mores n i r a nth) [
  | inl e ↦ inl e
  | inr q ↦ inr (q.0, (omega (arith, q.1.0), q.1.1))
]

pub past_mores : (n k : ℕ) (r : List Heard) (a : Heard) → Nth r k a → Nth (mores n ++ r) (n + k) a
past_mores zero k r a nth = subst (λ i. Nth r i a) (let z : k ≡ 0 + k = omega arith in z) nth
past_mores (suc n) k r a nth = subst (λ i. Nth (mores (suc n) ++ r) i a) (let z : suc (n + k) ≡ suc n + k = omega arith in z) (there (past_mores n k r a nth))

pub lost_mores : (n : ℕ) (r : List Heard) → until_lost (mores n ++ r) ≡ mores n ++ until_lost r
lost_mores zero r = refl
lost_mores (suc n) r = ap (λ xs. More ∷ xs) (lost_mores n r)

all_mores : (n i : ℕ) (a : Heard) → Nth (mores n) i a → a ≡ More
all_mores (suc n) zero a here = refl
all_mores (suc n) (suc i) a (there nth) = all_mores n i a nth
all_mores zero i a nth = elim nth [ ]

-- the answers to a dword and what follows, until sync is lost
pub data NextDword (e : ℕ) (l : Ledger) (w : Dword) (ws : List Dword) (x : List ℕ) : Type 0 where
  goes : (a : Heard) (l' : Ledger) → l'.synced ≡ true → until_lost (said (at_start e l) x) ≡ mores 39 ++ (a ∷ until_lost (said (at_start (e_end e (syms w) x) l') (drop4 x))) →
      replies l (pairs e (w ∷ ws) x) ≡ a ∷ replies l' (pairs (e_end e (syms w) x) ws (drop4 x)) → NextDword e l w ws x
  stops : (a : Heard) → until_lost (said (at_start e l) x) ≡ mores 39 ++ (a ∷ []) → replies l (pairs e (w ∷ ws) x) ≡ a ∷ [] → NextDword e l w ws x

pub next_dword : (e : ℕ) (l : Ledger) (w : Dword) (ws : List Dword) (x : List ℕ) → l.synced ≡ true → 40 ≤ length x → NextDword e l w ws x
next_dword e l w ws x sy h =
    let j = readings_at e x in
    let ps = pairs (e_end e (syms w) x) ws (drop4 x) in
    let heard_by : Closing → List Heard = λ c. mores 39 ++ until_lost (c.heard ∷ said (after_dword (e_after e x) c).state (drop4 x)) in
    let s : until_lost (said (at_start e l) x) ≡ heard_by (in_sync j l) =
    ap until_lost (said_next e l x sy h) ∙ lost_mores 39 ((in_sync j l).heard ∷ said (after_dword (e_after e x) (in_sync j l)).state (drop4 x)) in
    let on : Closing → List Heard = λ c. c.heard ∷ cond c.ledger.synced (replies c.ledger ps) [] in
    elim (ending j l) [
      | ends_good g z ↦ goes (handed_out j l).heard (handed_out j l).ledger refl (s ∙ ap heard_by z) (ap on z)
      | ends_lost z ↦ stops (reported j l true).heard (s ∙ ap heard_by z) (ap on z)
      | ends_bad z ↦ goes (reported j l false).heard (reported j l false).ledger refl (s ∙ ap heard_by z) (ap on z)
    ]

pub nth_cons : {X : Type 0} {b : X} {later : List X} {k : ℕ} {a : X} → Nth (b ∷ later) k a → ((k ≡ 0) × (a ≡ b)) ⊎ ((n : ℕ) × ((k ≡ suc n) × Nth later n a))
nth_cons here = inl (refl, refl)
nth_cons (there n) = inr (_, (refl, n))

module _ (all : List Heard) (b : Heard) (later : List Heard) (rs rs' : List Heard) (s : all ≡ mores 39 ++ (b ∷ later)) (r : rs ≡ b ∷ rs') where
  block_from : ((i : ℕ) (a : Heard) → Nth later i a → (a ≡ More) ⊎ ((j : ℕ) × ((i ≡ 40 * j + 39) × Nth rs' j a))) →
      (i : ℕ) (a : Heard) → Nth all i a → (a ≡ More) ⊎ ((j : ℕ) × ((i ≡ 40 * j + 39) × Nth rs j a))
  block_from ih i a nth = by_place (nth_mores 39 i (b ∷ later) a (subst (λ xs. Nth xs i a) s nth))
    where
      reply : (k : ℕ) → i ≡ 39 + k → ((k ≡ 0) × (a ≡ b)) ⊎ ((n : ℕ) × ((k ≡ suc n) × Nth later n a)) → (a ≡ More) ⊎ ((j : ℕ) × ((i ≡ 40 * j + 39) × Nth rs j a))
      reply k z (inl (o, same)) = inr (0, (omega arith, subst (λ xs. Nth xs 0 a) (sym r) (subst (λ c. Nth (b ∷ rs') 0 c) (sym same) here)))
      reply k z (inr (n, (o, nth))) = elim (ih n a nth) [
        | inl e ↦ inl e
        | inr q ↦ inr (suc q.0, (omega (arith, q.1.0), subst (λ xs. Nth xs (suc q.0) a) (sym r) (there q.1.1)))
      ]

      by_place : (a ≡ More) ⊎ ((k : ℕ) × ((i ≡ 39 + k) × Nth (b ∷ later) k a)) → (a ≡ More) ⊎ ((j : ℕ) × ((i ≡ 40 * j + 39) × Nth rs j a))
      by_place (inl e) = inl e
      by_place (inr (k, (z, n))) = reply k z (nth_cons n)

  block_to : ((j : ℕ) (a : Heard) → Nth rs' j a → Nth later (40 * j + 39) a) → (j : ℕ) (a : Heard) → Nth rs j a → Nth all (40 * j + 39) a
  block_to ih j a nth = subst (λ xs. Nth xs (40 * j + 39) a) (sym s) (elim (nth_cons (subst (λ xs. Nth xs j a) r nth)) [
    | inl q ↦ subst (λ k. Nth (mores 39 ++ (b ∷ later)) k a) (let z : 39 + 0 ≡ 40 * j + 39 = omega (arith, q.0) in z) (past_mores 39 0 (b ∷ later) a (subst (λ c. Nth (b ∷ later) 0 c) (sym q.1) here))
    | inr q ↦ subst (λ k. Nth (mores 39 ++ (b ∷ later)) k a) (let z : 39 + suc (40 * q.0 + 39) ≡ 40 * j + 39 = omega (arith, q.1.0) in z)
        (past_mores 39 (suc (40 * q.0 + 39)) (b ∷ later) a (there (ih q.0 a q.1.1)))
  ])

  block_has : ((j : ℕ) → 40 * j + 40 ≤ length later → (a : Heard) × Nth rs' j a) → (j : ℕ) → 40 * j + 40 ≤ length all → (a : Heard) × Nth rs j a
  block_has ih zero h = (b, subst (λ xs. Nth xs 0 b) (sym r) here)
  block_has ih (suc j) h =
      let e : length all ≡ 40 + length later = ap length s ∙ length-append (mores 39) (b ∷ later) ∙ (let z : 39 + suc (length later) ≡ 40 + length later = omega arith in z) in
      let q = ih j (omega arith) in
      (q.0, subst (λ xs. Nth xs (suc j) q.0) (sym r) (there q.1))

-- each answer but more is the reply to a dword
pub from_answer : (ws : List Dword) (e : ℕ) (l : Ledger) (x : List ℕ) → l.synced ≡ true → 40 * length ws ≤ length x → length x < 40 * length ws + 40 →
    (i : ℕ) (a : Heard) → Nth (until_lost (said (at_start e l) x)) i a → (a ≡ More) ⊎ ((j : ℕ) × ((i ≡ 40 * j + 39) × Nth (replies l (pairs e ws x)) j a))
from_answer [] e l x sy lo hi i a nth =
    inl (all_mores (length x) i a (subst (λ xs. Nth xs i a) (ap until_lost (said_part x 0 0 0 Refused Refused Refused e l (omega arith) (omega arith) ∙ sym (append-nil (mores (length x)))) ∙ lost_mores (length x) [] ∙ append-nil (mores (length x))) nth))
from_answer (w ∷ ws) e l x sy lo hi i a nth = elim (next_dword e l w ws x sy (omega arith)) [
  | goes b l' sy' s r ↦ block_from _ b _ _ _ s r (from_answer ws _ l' (drop4 x) sy' (omega (arith, length_drop4 x)) (omega (arith, length_drop4 x))) i a nth
  | stops b s r ↦ block_from _ b [] _ [] s r (λ i a n. elim n [ ]) i a nth
]

-- the reply to each dword is an answer
pub to_answer : (ws : List Dword) (e : ℕ) (l : Ledger) (x : List ℕ) → l.synced ≡ true → 40 * length ws ≤ length x →
    (j : ℕ) (a : Heard) → Nth (replies l (pairs e ws x)) j a → Nth (until_lost (said (at_start e l) x)) (40 * j + 39) a
to_answer [] e l x sy lo j a nth = elim nth [ ]
to_answer (w ∷ ws) e l x sy lo j a nth = elim (next_dword e l w ws x sy (omega arith)) [
  | goes b l' sy' s r ↦ block_to _ b _ _ _ s r (to_answer ws _ l' (drop4 x) sy' (omega (arith, length_drop4 x))) j a nth
  | stops b s r ↦ block_to _ b [] _ [] s r (λ j a n. elim n [ ]) j a nth
]

-- and there is one for each dword that ends before sync is lost
pub has_reply : (ws : List Dword) (e : ℕ) (l : Ledger) (x : List ℕ) → l.synced ≡ true → 40 * length ws ≤ length x → length x < 40 * length ws + 40 →
    (j : ℕ) → 40 * j + 40 ≤ length (until_lost (said (at_start e l) x)) → (a : Heard) × Nth (replies l (pairs e ws x)) j a
has_reply [] e l x sy lo hi j h =
    let z = ap length (ap until_lost (said_part x 0 0 0 Refused Refused Refused e l (omega arith) (omega arith) ∙ sym (append-nil (mores (length x)))) ∙ lost_mores (length x) [] ∙ append-nil (mores (length x))) ∙ length-replicate (length x) More in
    absurd (omega (arith, z))
has_reply (w ∷ ws) e l x sy lo hi j h = elim (next_dword e l w ws x sy (omega arith)) [
  | goes b l' sy' s r ↦ block_has _ b _ _ _ s r (has_reply ws _ l' (drop4 x) sy' (omega (arith, length_drop4 x)) (omega (arith, length_drop4 x))) j h
  | stops b s r ↦ block_has _ b [] _ [] s r (λ j h. absurd (omega arith)) j h
]
