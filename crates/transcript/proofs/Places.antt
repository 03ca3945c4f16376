-- What stands at a place, and the answers until sync is lost.
use Rattle.std.proofs.Common.{◌≡◌, ℕ, zero, suc, ◌+◌, ◌<◌, ◌≤◌, Bool, true, false, cond, List, [], ◌∷◌, ◌++◌, length, get_or, take, sym, refl, ap, subst, inl, inr, arith, length-take}
use Rattle.link.specs.declared.dword.Dword.{Dword}
use Rattle.link.specs.declared.state.Ledger.{Ledger}
use Rattle.link.specs.Hearing.{Closing, settlement, handed_out, reported}
use Rattle.link.specs.declared.heard.Heard.{Heard}
use Rattle.link.specs.declared.heard.Heard.TheVariants.{Dry, More, Slip, Gained, Good, Bad}
use Rattle.link.specs.Readings.{dword, verdict}
use Rattle.link.specs.declared.heard.GoodDword.{GoodDword}
use Rattle.transcript.specs.Laws.{until_lost}
use Rattle.transcript.proofs.Track.{Nth, here, there}
use Rattle.transcript.proofs.Vouching.{Pair, replies, ending, ends_good, ends_lost, ends_bad}
use Rattle.transcript.proofs.Spacing.{e_end}
use Rattle.transcript.proofs.Dwords.{syms, drop4, pairs}
use Rattle.transcript.proofs.DwordAnswers.{nth_cons}

pub nth_get : {X : Type 0} (z : X) {xs : List X} {i : ℕ} {a : X} → Nth xs i a → (i < length xs) × (get_or xs i z ≡ a)
nth_get z here = (omega arith, refl)
nth_get z (there n) = let q = nth_get z n in (omega (arith, q.0), q.1)

pub get_nth : {X : Type 0} (z : X) (xs : List X) (i : ℕ) {a : X} → i < length xs → get_or xs i z ≡ a → Nth xs i a
get_nth z [] i h e = absurd (omega arith)
get_nth z (x ∷ xs) zero h e = subst (λ a. Nth (x ∷ xs) 0 a) e here
get_nth z (x ∷ xs) (suc i) h e = there (get_nth z xs i (omega arith) e)

pub nth_take : {X : Type 0} (n : ℕ) {xs : List X} {i : ℕ} {a : X} → Nth (take n xs) i a → Nth xs i a
nth_take zero nth = elim nth [ ]
nth_take (suc n) {xs = []} nth = elim nth [ ]
nth_take (suc n) {xs = x ∷ xs} here = here
nth_take (suc n) {xs = x ∷ xs} (there nth) = there (nth_take n nth)

pub nth_after : {X : Type 0} (ys : List X) {xs : List X} {i : ℕ} {a : X} → Nth xs i a → Nth (ys ++ xs) (length ys + i) a
nth_after [] {xs} {i} {a} nth = subst (λ k. Nth xs k a) (let z : i ≡ 0 + i = omega arith in z) nth
nth_after (y ∷ ys) {xs} {i} {a} nth = subst (λ k. Nth (y ∷ (ys ++ xs)) k a) (let z : suc (length ys + i) ≡ suc (length ys) + i = omega arith in z) (there (nth_after ys nth))

pub nth_same : {X : Type 0} {xs : List X} {i : ℕ} {a b : X} → Nth xs i a → Nth xs i b → a ≡ b
nth_same here here = refl
nth_same (there n) (there m) = nth_same n m

pub nth_pairs : (e : ℕ) (ws : List Dword) (x : List ℕ) {j : ℕ} {y : Pair} → Nth (pairs e ws x) j y → Nth ws j y.sent_as
nth_pairs e [] x nth = elim nth [ ]
nth_pairs e (w ∷ ws) x here = here
nth_pairs e (w ∷ ws) x (there nth) = there (nth_pairs (e_end e (syms w) x) ws (drop4 x) nth)

-- until sync is lost: a front of the answers
stop-front : (lost : Bool) (us rest : List Heard) → us ≡ take (length us) rest → cond lost [] us ≡ take (length (cond lost [] us)) rest
stop-front true us rest e = refl
stop-front false us rest e = e

pub lost_front : (xs : List Heard) → until_lost xs ≡ take (length (until_lost xs)) xs
lost_front [] = refl
lost_front (Dry ∷ rest) = ap (λ r. Dry ∷ r) (lost_front rest)
lost_front (More ∷ rest) = ap (λ r. More ∷ r) (lost_front rest)
lost_front (Slip ∷ rest) = ap (λ r. Slip ∷ r) (lost_front rest)
lost_front (Gained ∷ rest) = ap (λ r. Gained ∷ r) (lost_front rest)
lost_front (Good g ∷ rest) = ap (λ r. Good g ∷ r) (lost_front rest)
lost_front (Bad b ∷ rest) = ap (λ r. Bad b ∷ r) (stop-front b.lost (until_lost rest) rest (lost_front rest))

pub lost_short : (xs : List Heard) → length (until_lost xs) ≤ length xs
lost_short xs = omega (arith, ap length (lost_front xs), length-take (length (until_lost xs)) xs)

-- and the same again
stop_again : (lost : Bool) (us : List Heard) → until_lost us ≡ us → cond lost [] (until_lost (cond lost [] us)) ≡ cond lost [] us
stop_again true us e = refl
stop_again false us e = e

pub lost_again : (xs : List Heard) → until_lost (until_lost xs) ≡ until_lost xs
lost_again [] = refl
lost_again (Dry ∷ rest) = ap (λ r. Dry ∷ r) (lost_again rest)
lost_again (More ∷ rest) = ap (λ r. More ∷ r) (lost_again rest)
lost_again (Slip ∷ rest) = ap (λ r. Slip ∷ r) (lost_again rest)
lost_again (Gained ∷ rest) = ap (λ r. Gained ∷ r) (lost_again rest)
lost_again (Good g ∷ rest) = ap (λ r. Good g ∷ r) (lost_again rest)
lost_again (Bad b ∷ rest) = ap (λ r. Bad b ∷ r) (stop_again b.lost (until_lost rest) (lost_again rest))

-- a dword handed out in sync has the number of its place
pub reply_good : (ps : List Pair) (l : Ledger) {j : ℕ} {g : GoodDword} → Nth (replies l ps) j (Good g)
    → (g.number ≡ l.number + j) × ((y : Pair) × (Nth ps j y × (dword y.judged_as ≡ g.dword)))
reply_good [] l nth = elim nth [ ]
reply_good (y ∷ ps) l {j} {g} nth =
    let r = y.judged_as in
    let on : Closing → Type 0 = λ c. Nth (c.heard ∷ cond c.ledger.synced (replies c.ledger ps) []) j (Good g) in
    elim (ending r l) [
      | ends_good g' e ↦ elim (nth_cons (subst on e nth)) [
        | inl z ↦
            let e = z.1 in
            let same : g ≡ record { settlement = settlement (verdict r) l; number = l.number; dword = dword r } = cc in
            let n = ap (λ x. x.number) same in
            (omega (arith, z.0, n), (y, (subst (λ i. Nth (y ∷ ps) i y) (sym z.0) here, sym (ap (λ x. x.dword) same))))
        | inr z ↦
            let q = reply_good ps (handed_out r l).ledger z.1.1 in
            (omega (arith, z.1.0, q.0), (q.1.0, (subst (λ i. Nth (y ∷ ps) i q.1.0) (sym z.1.0) (there q.1.1.0), q.1.1.1)))
      ]
      | ends_lost e ↦ elim (nth_cons (subst on e nth)) [
        | inl z ↦ absurd (cc z.1)
        | inr z ↦ elim z.1.1 [ ]
      ]
      | ends_bad e ↦ elim (nth_cons (subst on e nth)) [
        | inl z ↦ absurd (cc z.1)
        | inr z ↦
            let q = reply_good ps (reported r l false).ledger z.1.1 in
            (omega (arith, z.1.0, q.0), (q.1.0, (subst (λ i. Nth (y ∷ ps) i q.1.0) (sym z.1.0) (there q.1.1.0), q.1.1.1)))
      ]
    ]
