-- What one hearing can do, whichever way it goes.
use Rattle.std.proofs.Common.{◌≡◌, ℕ, ◌+◌, ◌*◌, ◌%◌, ◌≤◌, min, Bool, true, false, cond, ◌&&◌, eqb, ltb, [], Option, refl, arith}
use Rattle.link.specs.declared.heard.GoodDword.{GoodDword}
use Rattle.link.specs.declared.heard.BadDword.{BadDword}
use Rattle.link.specs.declared.heard.Heard.{Heard}
use Rattle.link.specs.declared.heard.Heard.TheVariants.{Dry, More, Slip, Gained, Good, Bad}
use Rattle.link.specs.declared.reading.Verdict.{Verdict}
use Rattle.link.specs.declared.reading.Readings.{Readings}
use Rattle.link.specs.declared.state.Ledger.{Ledger}
use Rattle.link.specs.declared.state.State.{State}
use Rattle.link.specs.Hearing.{Hearing, Closing, hearing, completed, closing, before_sync, is_k28_5, readings_with, settlement, still_pending}
use Rattle.link.specs.Readings.{is_good, verdict}
use Rattle.link.proofs.Hearings.{never_dry}
use Rattle.transcript.specs.History.{heard_deed, hearing_deed}
use Rattle.transcript.specs.Answering.{numbers_by}
use Rattle.transcript.specs.Laws.{VouchedBy}

-- what holds of both ways holds of the one taken
pub either_way : {X : Type 0} (P : X → Type 0) (b : Bool) (x y : X) → P x → P y → P (cond b x y)
either_way P true x y p q = p
either_way P false x y p q = q

-- a hearing that took a bit does not answer dry
abbrev Tells : Heard → Type 0
Tells a = heard_deed a ≡ hearing_deed a

by_answer : (a : Heard) → (a ≡ Dry → ⊥) → Tells a
by_answer Dry told = absurd (told refl)
by_answer More told = refl
by_answer Slip told = refl
by_answer Gained told = refl
by_answer (Good g) told = refl
by_answer (Bad b) told = refl

pub hearing_tells : (s : State) (b : ℕ) → Tells (hearing s b).heard
hearing_tells s b = by_answer (hearing s b).heard (never_dry s b)

-- ---- numbers and the open stretch

-- what a hearing with this answer makes of a ledger: it gives no number, hands a dword out, or reports one
pub data Moves (l : Ledger) (a : Heard) (m : Ledger) : Type 0 where
  quiet : numbers_by a ≡ [] → ((n : ℕ) → VouchedBy a n → ⊥) → m.number ≡ l.number → m.pending ≤ l.pending → Moves l a m
  good : (g : GoodDword) (v : Option Verdict) → a ≡ Good g → g.settlement ≡ settlement v l → g.number ≡ l.number
      → m.number ≡ l.number + 1 → m.pending ≡ still_pending v l.pending + 1 → Moves l a m
  bad : (b : BadDword) (v : Option Verdict) → a ≡ Bad b → b.settlement ≡ settlement v l → b.number ≡ l.number
      → m.number ≡ l.number + 1 → m.pending ≡ 0 → Moves l a m

closing_moves : (r : Readings) (l : Ledger) → Moves l (closing r l).heard (closing r l).ledger
unfolding before_sync
closing_moves r l =
    let P : Closing → Type 0 = λ c. Moves l c.heard c.ledger in
    let silent : Moves l More l = quiet refl (λ n v. v) refl (omega arith) in
    either_way P l.synced _ _
    (either_way P (is_good r) _ _ (good _ (verdict r) refl refl refl refl refl) (bad _ (verdict r) refl refl refl refl refl))
    (either_way P (is_good r) _ _
    (either_way P (is_k28_5 r) _ _
    (either_way P (eqb l.count 2) _ _ (quiet refl (λ n v. v) refl (omega arith)) (quiet refl (λ n v. v) refl (omega arith)))
    silent)
    (quiet refl (λ n v. v) refl (omega arith)))

pub hearing_moves : (s : State) (b : ℕ) → Moves s.ledger (hearing s b).heard (hearing s b).state.ledger
unfolding hearing completed
hearing_moves s b =
    let l = s.ledger in
    let window = (s.framing.loose * 2 + b) % 128 in
    let held = min 7 (s.framing.held + 1) in
    let P : Hearing → Type 0 = λ x. Moves l x.heard x.state.ledger in
    let Q : State → Type 0 = λ t. Moves l More t.ledger in
    let silent : Moves l More l = quiet refl (λ n v. v) refl (omega arith) in
    either_way P s.framing.hunting _ _
    (either_way Q (eqb held 7 && eqb window 0b0011111) _ _ silent (either_way Q (eqb held 7 && eqb window 0b1100000) _ _ silent silent))
    (either_way P (ltb s.framing.held 9) _ _ silent
    (either_way P (ltb s.framing.place 3) _ _ silent (closing_moves (readings_with s (s.framing.loose * 2 + b)) l)))
