-- After sync is gained a dword ends every forty bits, whatever the bits.
use Rattle.std.proofs.Common.{◌≡◌, ℕ, suc, ◌+◌, ◌*◌, ◌%◌, ◌<◌, ◌≤◌, min, Bool, true, false, ◌&&◌, eqb, ltb, ◌⊎◌, List, [], ◌∷◌, length, get_or, sym, refl, ap, ◌∙◌, subst, inl, inr, arith}
use Rattle.std.proofs.lemmas.Bool.{cases_lt, lt-ltb, le-ltb, cond-true, cond-false}
use Rattle.link.specs.declared.heard.Heard.{Heard}
use Rattle.link.specs.declared.heard.Heard.TheVariants.{Dry, More, Gained}
use Rattle.link.specs.declared.reading.Readings.{Readings}
use Rattle.link.specs.declared.state.Ledger.{Ledger}
use Rattle.link.specs.declared.state.State.{State}
use Rattle.link.specs.Hearing.{Hearing, Closing, hearing, completed, fresh, in_sync, handed_out, reported, closing, before_sync, is_k28_5, readings_with, after_dword}
use Rattle.link.specs.Readings.{is_good}
use Rattle.code.specs.Characters.{after}
use Rattle.transcript.specs.Answering.{numbers_by, heard}
use Rattle.transcript.specs.Laws.{until_lost, EveryFortyBits, kept}
use Rattle.transcript.specs.History.{History}
use Rattle.transcript.proofs.Running.{said}
use Rattle.transcript.proofs.Runs.{Run}
use Rattle.transcript.proofs.OneHearing.{either_way}
use Rattle.transcript.proofs.Exactness.{listened_to}
use Rattle.transcript.proofs.Track.{Nth}
use Rattle.transcript.proofs.DwordAnswers.{nth_cons}
use Rattle.transcript.proofs.Places.{get_nth}

-- ---- in sync

-- a receiver in sync, so many bits into a dword
record InSync (s : State) (bits number : ℕ) : Type 0 where
  frames : s.framing.hunting ≡ false
  synced : s.ledger.synced ≡ true
  few : s.framing.held ≤ 9
  place : s.framing.place ≤ 3
  into : 10 * s.framing.place + s.framing.held ≡ bits
  numbers : s.ledger.number ≡ number

-- a hearing in sync: a bit more of the dword, or its end with the next number, which may lose sync
data Beat (bits number : ℕ) (x : Hearing) : Type 0 where
  on : x.heard ≡ More → InSync x.state (bits + 1) number → Beat bits number x
  ends : bits ≡ 39 → (x.heard ≡ Gained → ⊥) → numbers_by x.heard ≡ number ∷ []
      → ((later : List Heard) → until_lost (x.heard ∷ later) ≡ x.heard ∷ until_lost later) → InSync x.state 0 (number + 1) → Beat bits number x
  loses : bits ≡ 39 → (x.heard ≡ Gained → ⊥) → numbers_by x.heard ≡ number ∷ []
      → ((later : List Heard) → until_lost (x.heard ∷ later) ≡ x.heard ∷ []) → Beat bits number x

module _ (d : ℕ) (r : Readings) (l : Ledger) (bits number : ℕ) (full : bits ≡ 39) (next : l.number ≡ number) where
  -- a dword that ends, good or bad, has the next number
  ended : (c : Closing) → (c.heard ≡ Gained → ⊥) → numbers_by c.heard ≡ l.number ∷ []
      → ((later : List Heard) → until_lost (c.heard ∷ later) ≡ c.heard ∷ until_lost later)
      → c.hunting ≡ false → c.ledger.synced ≡ true → c.ledger.number ≡ l.number + 1 → Beat bits number (after_dword d c)
  ended c none num keeps frames synced up =
      ends full none (num ∙ ap (λ n. n ∷ []) next) keeps
      (record { frames = frames; synced = synced; few = omega arith; place = omega arith; into = refl; numbers = up ∙ ap (λ n. n + 1) next })

  -- a bad dword, by whether it loses sync
  reported_beat : (lost : Bool) → Beat bits number (after_dword d (reported r l lost))
  reported_beat true = loses full (λ e. cc) (ap (λ n. n ∷ []) next) (λ later. refl)
  reported_beat false = ended (reported r l false) (λ e. cc) refl (λ later. refl) refl refl refl

  closed_beat : l.synced ≡ true → Beat bits number (after_dword d (closing r l))
  closed_beat synced =
      let P : Closing → Type 0 = λ c. Beat bits number (after_dword d c) in
      subst P (sym (cond-true l.synced (in_sync r l) (before_sync r l) synced))
      (either_way P (is_good r) _ _
      (ended (handed_out r l) (λ e. cc) refl (λ later. refl) refl refl refl)
      (reported_beat (eqb l.debt 3)))

hearing_beat : (s : State) (bits number b : ℕ) → InSync s bits number → Beat bits number (hearing s b)
unfolding hearing completed
hearing_beat s bits number b i =
    let n = s.framing.loose * 2 + b in
    let frames = i.frames in
    let into = i.into in
    let few = i.few in
    let place = i.place in
    elim (cases_lt s.framing.held 9) [
      | inl lt ↦ rw (frames, lt-ltb s.framing.held 9 lt)
          (on refl (record { frames = refl; synced = i.synced; few = omega arith; place = place; into = omega arith; numbers = i.numbers }))
      | inr ge ↦ elim (cases_lt s.framing.place 3) [
        | inl lt ↦ rw (frames, le-ltb s.framing.held 9 ge, lt-ltb s.framing.place 3 lt)
            (on refl (record { frames = refl; synced = i.synced; few = omega arith; place = omega arith; into = omega arith; numbers = i.numbers }))
        | inr last ↦
            let full : bits ≡ 39 = omega arith in
            rw (frames, le-ltb s.framing.held 9 ge, le-ltb s.framing.place 3 last)
            (closed_beat (after n s.disparity) (readings_with s n) s.ledger bits number full i.numbers i.synced)
      ]
    ]

-- an answer that gives no number is no dword's
no_number : (a : Heard) (n : ℕ) → numbers_by a ≡ [] → numbers_by a ≡ n ∷ [] → ⊥
no_number a n none some = let e = ap length (sym none ∙ some) in omega (arith, e)

-- in sync, an answer that gives number n comes at the end of a dword, and sync is not gained again
module _ (i : ℕ) (a : Heard) where
  abbrev InStep : ℕ → Type 0
  InStep start = (a ≡ Gained → ⊥) × ((n : ℕ) → numbers_by a ≡ n ∷ [] → i + 1 + start ≡ 40 * (n + 1))

in_step : (bits : List ℕ) (s : State) (k number : ℕ) → InSync s k number → (i : ℕ) (a : Heard) → Nth (until_lost (said s bits)) i a
    → InStep i a (k + 40 * number)
in_step [] s k number sync i a nth = elim nth [ ]
in_step (b ∷ bits) s k number sync i a nth =
    let x = hearing s b in
    let rest = said x.state bits in
    elim (hearing_beat s k number b sync) [
      | on more next ↦ elim (nth_cons (subst (λ y. Nth (until_lost (y ∷ rest)) i a) more nth)) [
        | inl z ↦
            (λ g. (let e = z.1 in cc), λ n num. absurd (no_number a n (ap numbers_by z.1) num))
        | inr z ↦
            let later = in_step bits x.state (k + 1) number next z.0 a z.1.1 in
            (later.0, λ n num. omega (arith, z.1.0, later.1 n num))
      ]
      | ends full none num keeps next ↦ elim (nth_cons (subst (λ ys. Nth ys i a) (keeps rest) nth)) [
        | inl z ↦
            (λ g. none (sym z.1 ∙ g), λ n has. (let e = sym num ∙ ap numbers_by (sym z.1) ∙ has in let same : number ≡ n = cc in omega (arith, z.0)))
        | inr z ↦
            let later = in_step bits x.state 0 (number + 1) next z.0 a z.1.1 in
            (later.0, λ n has. omega (arith, z.1.0, later.1 n has))
      ]
      | loses full none num stops ↦ elim (nth_cons (subst (λ ys. Nth ys i a) (stops rest) nth)) [
        | inl z ↦
            (λ g. none (sym z.1 ∙ g), λ n has. (let e = sym num ∙ ap numbers_by (sym z.1) ∙ has in let same : number ≡ n = cc in omega (arith, z.0)))
        | inr z ↦ elim z.1.1 [ ]
      ]
    ]

-- ---- before sync

-- a receiver that has given no number
record Early (s : State) : Type 0 where
  unsynced : s.ledger.synced ≡ false
  none : s.ledger.number ≡ 0

-- a hearing before sync: nothing to tell of, or sync is gained
data Waits (x : Hearing) : Type 0 where
  waits : (x.heard ≡ Gained → ⊥) → numbers_by x.heard ≡ [] → ((later : List Heard) → until_lost (x.heard ∷ later) ≡ x.heard ∷ until_lost later)
      → Early x.state → Waits x
  gains : x.heard ≡ Gained → InSync x.state 0 0 → Waits x

-- more, with the ledger as it was
quiet : (t : State) → Early t → Waits (record { state = t; heard = More })
quiet t e = waits (λ g. cc) refl (λ later. refl) e

closed_early : (d : ℕ) (r : Readings) (l : Ledger) → l.synced ≡ false → l.number ≡ 0 → Waits (after_dword d (closing r l))
unfolding before_sync
closed_early d r l un none =
    let P : Closing → Type 0 = λ c. Waits (after_dword d c) in
    subst P (sym (cond-false l.synced (in_sync r l) (before_sync r l) un))
    (either_way P (is_good r) _ _
    (either_way P (is_k28_5 r) _ _
    (either_way P (eqb l.count 2) _ _
    (gains refl (record { frames = refl; synced = refl; few = omega arith; place = omega arith; into = refl; numbers = none }))
    (quiet _ (record { unsynced = refl; none = none })))
    (quiet _ (record { unsynced = un; none = none })))
    (waits (λ g. cc) refl (λ later. refl) (record { unsynced = refl; none = none })))

early_hearing : (s : State) (b : ℕ) → Early s → Waits (hearing s b)
unfolding hearing completed
early_hearing s b e =
    let n = s.framing.loose * 2 + b in
    let window = n % 128 in
    let held = min 7 (s.framing.held + 1) in
    let P : State → Type 0 = λ t. Waits (record { state = t; heard = More }) in
    let un = e.unsynced in
    either_way Waits s.framing.hunting _ _
    (either_way P (eqb held 7 && eqb window 0b0011111) _ _ (quiet _ (record { unsynced = un; none = e.none })) (either_way P (eqb held 7 && eqb window 0b1100000) _ _ (quiet _ (record { unsynced = un; none = e.none })) (quiet _ (record { unsynced = un; none = e.none }))))
    (either_way Waits (ltb s.framing.held 9) _ _ (quiet _ (record { unsynced = un; none = e.none }))
    (either_way Waits (ltb s.framing.place 3) _ _ (quiet _ (record { unsynced = un; none = e.none }))
    (closed_early (after n s.disparity) (readings_with s n) s.ledger un e.none)))

gained_step : (bits : List ℕ) (s : State) → Early s → (g i n : ℕ) (c a : Heard) → Nth (until_lost (said s bits)) g c → c ≡ Gained
    → Nth (until_lost (said s bits)) i a → numbers_by a ≡ n ∷ [] → i ≡ g + 40 * (n + 1)
gained_step [] s e g i n c a nth-g is nth-i num = elim nth-g [ ]
gained_step (b ∷ bits) s e g i n c a nth-g is nth-i num =
    let x = hearing s b in
    let rest = said x.state bits in
    elim (early_hearing s b e) [
      | waits none quiet-answer keeps next ↦
          let at : (j : ℕ) (y : Heard) → Nth (until_lost (x.heard ∷ rest)) j y → ((j ≡ 0) × (y ≡ x.heard)) ⊎ ((m : ℕ) × ((j ≡ suc m) × Nth (until_lost rest) m y)) =
          λ j y nth. nth_cons (subst (λ ys. Nth ys j y) (keeps rest) nth) in
          elim (at g c nth-g) [
            | inl z ↦ absurd (none (sym z.1 ∙ is))
            | inr z ↦ elim (at i a nth-i) [
              | inl y ↦ absurd (no_number a n (ap numbers_by y.1 ∙ quiet-answer) num)
              | inr y ↦ let later = gained_step bits x.state next z.0 y.0 n c a z.1.1 is y.1.1 num in omega (arith, z.1.0, y.1.0)
            ]
          ]
      | gains gain sync ↦
          let at : (j : ℕ) (y : Heard) → Nth (until_lost (x.heard ∷ rest)) j y → ((j ≡ 0) × (y ≡ Gained)) ⊎ ((m : ℕ) × ((j ≡ suc m) × Nth (until_lost rest) m y)) =
          λ j y nth. nth_cons (subst (λ z. Nth (until_lost (z ∷ rest)) j y) gain nth) in
          elim (at g c nth-g) [
            | inr z ↦ absurd ((in_step bits x.state 0 0 sync z.0 c z.1.1).0 is)
            | inl z ↦ elim (at i a nth-i) [
              | inl y ↦ absurd (no_number a n (ap numbers_by y.1) num)
              | inr y ↦ let later = (in_step bits x.state 0 0 sync y.0 a y.1.1).1 n num in omega (arith, z.0, y.1.0)
            ]
          ]
    ]

pub every_forty_bits : (d₀ : ℕ) → d₀ < 2 → {h : History} {q : List ℕ} {d : ℕ} {r : State} → Run d₀ h q d r → EveryFortyBits h
every_forty_bits d₀ small {h} run g i n a (lg, gained) (li, is) num =
    let same : kept h ≡ until_lost (said fresh (heard d₀ h)) = ap until_lost (listened_to d₀ small run).says in
    let at : (j : ℕ) (y : Heard) → j < length (kept h) → get_or (kept h) j Dry ≡ y → Nth (until_lost (said fresh (heard d₀ h))) j y =
    λ j y lt e. subst (λ xs. Nth xs j y) same (get_nth Dry (kept h) j lt e) in
    gained_step (heard d₀ h) fresh (record { unsynced = refl; none = refl }) g i n Gained a (at g Gained lg gained) refl (at i a li is) num
