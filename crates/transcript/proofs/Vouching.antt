-- What is vouched for in sync was sent so.
use Rattle.std.proofs.Common.{◌≡◌, ℕ, zero, suc, ◌+◌, ◌-◌, ◌<◌, ◌≤◌, Bool, true, false, cond, eqb, List, [], ◌∷◌, Some, None, Option, refl, ap, ◌∙◌, subst, inl, inr, arith}
use Rattle.std.specs.Option.{option_map, option_or}
use Rattle.std.proofs.lemmas.Bool.{cases_lt, cases_Bool, and_parts, eqb-false, not-true, cond-true, cond-false}
use Rattle.link.specs.declared.dword.Dword.{Dword}
use Rattle.link.specs.declared.state.Ledger.{Ledger}
use Rattle.link.specs.Hearing.{Closing, settlement, settled_by, stretch, still_pending, in_sync, handed_out, reported}
use Rattle.link.specs.declared.heard.Heard.{Heard}
use Rattle.link.specs.declared.reading.Readings.{Readings}
use Rattle.link.specs.Readings.{is_refused, is_good, dword, own_verdict, verdict}
use Rattle.link.specs.declared.reading.Verdict.{Verdict}
use Rattle.link.specs.declared.reading.Verdict.TheVariants.{Vouches, Doubts}
use Rattle.transcript.proofs.OneHearing.{either_way}
use Rattle.transcript.specs.Laws.{VouchedBy, vouched_in}
use Rattle.transcript.proofs.Track.{Cell, Steps, Status, Goods, AllRead, verdict_of, none_vouches, good_run, Nth, here, there}

-- a dword in sync: what was sent, and how it was judged
pub record Pair : Type 0 where
  pub sent_as : Dword
  pub judged_as : Readings

abbrev pub four : Bool → Bool → Bool → Bool → Pair → List Cell
four t₀ t₁ t₂ t₃ x =
    record { struck_bit = t₀; kind = x.sent_as.kind; byte = x.sent_as.b0; judged_as = x.judged_as.first }
    ∷ record { struck_bit = t₁; kind = 0; byte = x.sent_as.b1; judged_as = x.judged_as.second }
    ∷ record { struck_bit = t₂; kind = 0; byte = x.sent_as.b2; judged_as = x.judged_as.third }
    ∷ record { struck_bit = t₃; kind = 0; byte = x.sent_as.b3; judged_as = x.judged_as.fourth } ∷ []

-- dwords in sync, one after another
pub data Track : ℕ → ℕ → Bool → List Pair → Type 0 where
  rests : {d e : ℕ} {p : Bool} → Track d e p []
  hears : {d e d'' e'' : ℕ} {p p'' : Bool} {x : Pair} {xs : List Pair} (t₀ t₁ t₂ t₃ : Bool) → Status d e p → d'' < 2 → Steps d e p d'' e'' p'' (four t₀ t₁ t₂ t₃ x) → Track d'' e'' p'' xs → Track d e p (x ∷ xs)

-- the answers to the dwords until sync is lost
abbrev pub replies : Ledger → List Pair → List Heard
replies l [] = []
replies l (x ∷ xs) =
    let c = in_sync x.judged_as l in
    c.heard ∷ cond c.ledger.synced (replies c.ledger xs) []

-- whichever way a dword ends, its answer has the settlement of its verdict
answer_vouches : (j : Readings) (l : Ledger) (n : ℕ) → VouchedBy (in_sync j l).heard n → vouched_in (settlement (verdict j) l) n
answer_vouches j l n =
    let P : Closing → Type 0 = λ c. VouchedBy c.heard n → vouched_in (settlement (verdict j) l) n in
    either_way P (is_good j) _ _ (λ h. h) (λ h. h)

-- what is vouched for lies in an open stretch
abbrev InStretch : Ledger → ℕ → Type 0
InStretch l n = (l.pending ≡ 0 → ⊥) × (l.number - l.pending ≤ n) × (n ≤ l.number - 1)

pub settle_vouches : (v : Option Verdict) (l : Ledger) (n : ℕ) → vouched_in (settlement v l) n → (v ≡ Some Vouches) × InStretch l n
settle_vouches v l n = by_stretch (eqb l.pending 0) refl v
  where
    by_stretch : (b : Bool) → eqb l.pending 0 ≡ b → (v : Option Verdict) → vouched_in (cond b None (option_map (λ w. settled_by w (stretch l)) v)) n → (v ≡ Some Vouches) × InStretch l n
    by_stretch true e v h = absurd h
    by_stretch false e None h = absurd h
    by_stretch false e (Some Vouches) h = (refl, (eqb-false _ _ e, h.0, h.1))
    by_stretch false e (Some Doubts) h = absurd h

pub still_le : (v : Option Verdict) (n : ℕ) → still_pending v n ≤ n
still_le None n = omega arith
still_le (Some v) n = omega arith

or_none : (v : Option Verdict) → option_or v None ≡ v
or_none None = refl
or_none (Some v) = refl

-- the verdict of four characters is that of the run of them
run_verdict : (t₀ t₁ t₂ t₃ : Bool) (x : Pair) → verdict_of (four t₀ t₁ t₂ t₃ x) ≡ verdict x.judged_as
run_verdict t₀ t₁ t₂ t₃ x =
    let j = x.judged_as in
    ap (λ v. option_or (own_verdict j.first) (option_or (own_verdict j.second) (option_or (own_verdict j.third) v))) (or_none (own_verdict j.fourth))

-- a good dword has no refused character
pub good_parts : (r : Readings) → is_good r ≡ true
    → (is_refused r.first ≡ false) × (is_refused r.second ≡ false) × (is_refused r.third ≡ false) × (is_refused r.fourth ≡ false)
good_parts r g =
    let a = and_parts _ _ g in
    let b = and_parts _ _ a.0 in
    let c = and_parts _ _ b.0 in
    (not-true _ c.0, not-true _ c.1, not-true _ b.1, not-true _ a.1)

goods_from : (t₀ t₁ t₂ t₃ : Bool) (x : Pair) → is_good x.judged_as ≡ true → Goods (four t₀ t₁ t₂ t₃ x)
goods_from t₀ t₁ t₂ t₃ x g = let p = good_parts x.judged_as g in (p.0, (p.1, (p.2, (p.3, tt))))

dword_from : (t₀ t₁ t₂ t₃ : Bool) (x : Pair) → AllRead (four t₀ t₁ t₂ t₃ x) → dword x.judged_as ≡ x.sent_as
dword_from t₀ t₁ t₂ t₃ x (r₀, (r₁, (r₂, (r₃, _)))) = rw (r₀.kind_is, r₀.byte_is, r₁.byte_is, r₂.byte_is, r₃.byte_is) refl

closes_good : (j : Readings) (l : Ledger) → is_good j ≡ true → in_sync j l ≡ handed_out j l
closes_good j l good = cond-true (is_good j) (handed_out j l) (reported j l (eqb l.debt 3)) good

pub closes_bad : (j : Readings) (l : Ledger) (lost : Bool) → is_good j ≡ false → eqb l.debt 3 ≡ lost → in_sync j l ≡ reported j l lost
closes_bad j l lost bad debt = cond-false (is_good j) (handed_out j l) (reported j l (eqb l.debt 3)) bad ∙ ap (reported j l) debt

-- a dword's end in sync is one of three
pub data End (j : Readings) (l : Ledger) : Type 0 where
  ends_good : is_good j ≡ true → in_sync j l ≡ handed_out j l → End j l
  ends_lost : in_sync j l ≡ reported j l true → End j l
  ends_bad : in_sync j l ≡ reported j l false → End j l

pub ending : (j : Readings) (l : Ledger) → End j l
ending j l = elim (cases_Bool (is_good j)) [
  | inl g ↦ ends_good g (closes_good j l g)
  | inr b ↦ elim (cases_Bool (eqb l.debt 3)) [ inl f ↦ ends_lost (closes_bad j l true b f) | inr f ↦ ends_bad (closes_bad j l false b f) ]
]

module _ (R : ℕ → Type 0) where
  -- every number vouched for satisfies R, if each dword heard as it was sent does
  pub vouched_right : (xs : List Pair) (l : Ledger) {d e : ℕ} {p : Bool} → Track d e p xs → d < 2 → l.pending ≤ l.number →
      (e ≡ d → (n : ℕ) → l.number ≤ n + l.pending → n < l.number → R n) →
      ((i : ℕ) (x : Pair) → Nth xs i x → dword x.judged_as ≡ x.sent_as → R (l.number + i)) →
      (i n : ℕ) (a : Heard) → Nth (replies l xs) i a → VouchedBy a n → R n
  vouched_right [] l rests h few stretch all i n a nth vouch = elim nth [ ]
  vouched_right (x ∷ xs) l {d} {e} (hears t₀ t₁ t₂ t₃ status h'' steps track) h few stretch-right all zero n a here vouch =
      let q = settle_vouches (verdict x.judged_as) l n (answer_vouches x.judged_as l n vouch) in
      let some : 0 < l.pending = elim (cases_lt 0 l.pending) [ inl y ↦ y | inr z ↦ absurd (q.1.0 (omega arith)) ] in
      elim status [
        | inl right ↦ stretch-right right n (omega (arith, q.1.1)) (omega (arith, q.1.2))
        | inr wrong ↦ absurd (none_vouches steps wrong.0 (run_verdict t₀ t₁ t₂ t₃ x ∙ q.0))
      ]
  vouched_right (x ∷ xs) l {d} {e} (hears t₀ t₁ t₂ t₃ status h'' steps track) h few stretch-right all (suc i) n a (there nth) vouch =
      let j = x.judged_as in
      let on-from : Closing → Type 0 = λ c. Nth (cond c.ledger.synced (replies c.ledger xs) []) i a in
      let later : (i : ℕ) (y : Pair) → Nth xs i y → dword y.judged_as ≡ y.sent_as → R (l.number + 1 + i) =
      λ i y ny same. subst R (let s : l.number + suc i ≡ l.number + 1 + i = omega arith in s) (all (suc i) y (there ny) same) in
      elim (ending j l) [
        | ends_good g e ↦
            let w = verdict j in
            let le = still_le w l.pending in
            vouched_right xs (handed_out j l).ledger track h'' (omega (arith, le))
            (λ right m lo hi.
            let run = good_run steps h'' (goods_from t₀ t₁ t₂ t₃ x g) right in
            elim (cases_lt m l.number) [
              | inl lt ↦ stretch-right run.0 m (omega (arith, le)) lt
              | inr ge ↦ subst R (let s : l.number + 0 ≡ m = omega arith in s) (all 0 x here (dword_from t₀ t₁ t₂ t₃ x run.1))
            ])
            later i n a (subst on-from e nth) vouch
        | ends_lost e ↦ let none = subst on-from e nth in elim none [ ]
        | ends_bad e ↦ vouched_right xs (reported j l false).ledger track h'' (omega arith) (λ right m lo hi. absurd (omega arith)) later i n a (subst on-from e nth) vouch
      ]
