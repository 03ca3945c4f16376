-- Collecting with room for one dword and three reports stops after each answer that is told; so what is collected, the
-- reports before the dword, are the next lines of the whole.
use Rattle.std.proofs.Common.{◌≡◌, ℕ, ◌+◌, ◌-◌, ◌<◌, Bool, true, false, cond, eqb, ltb, ◌⊎◌, Some, None, Option, List, [], ◌∷◌, ◌++◌, length, sym, refl, ap, ◌∙◌, subst, ap₂, inl, inr, append-nil, arith, length-append}
use Rattle.std.proofs.lemmas.Bool.{both_ways, eq-eqb, lt-ltb, eqb-true, cond-true, cond-false, ne_eqb}
use Rattle.link.specs.declared.heard.Settlement.{Settlement}
use Rattle.link.specs.declared.heard.BadDword.{BadDword}
use Rattle.link.specs.declared.heard.Heard.{Heard}
use Rattle.link.specs.declared.heard.Heard.TheVariants.{Dry, More, Slip, Gained, Good, Bad}
use Rattle.link.specs.declared.receiver.hearing.HearRefusal.TheVariants.{NumbersSpent}
use Rattle.link.specs.declared.state.State.{State}
use Rattle.link.specs.Hearing.{hearing}
use Rattle.link.specs.Receiving.{most_numbers}
use Rattle.reports.specs.declared.report.Report.TheVariants as report
use Rattle.reports.specs.declared.collecting.Stop.{Stop}
use Rattle.reports.specs.declared.collecting.Stop.TheVariants as stop
use Rattle.reports.specs.Shown.{dword_record, bad_report, settlement_report, heard_lines, settlement_lines, lost_lines, line, dword_text, report_text}
use Rattle.reports.specs.Collecting.{dwords_of, reports_of, settlement_reports, lost_reports, bad_reports, Collection, stopped, after_one, collected}
use Rattle.listening.specs.Listening.{report_lines, dword_lines, told, taken}
use Rattle.listening.proofs.Texts.{report_lines-append}

-- ---- the lines of one answer

settled_lines : (s : Option Settlement) → report_lines (settlement_reports s) ≡ settlement_lines s
settled_lines None = refl
settled_lines (Some settlement) = append-nil (line (report_text (settlement_report settlement)))

lost_told : (lost : Bool) → report_lines (lost_reports lost) ≡ lost_lines lost
lost_told true = append-nil (line (report_text report.Lost))
lost_told false = refl

bad_told : (b : BadDword) → report_lines (bad_reports b) ≡ heard_lines (Bad b)
bad_told b =
    let own = line (report_text (report.Bad (bad_report b))) in
    report_lines-append (settlement_reports b.settlement) (report.Bad (bad_report b) ∷ lost_reports b.lost)
    ∙ ap₂ (λ (x y : List ℕ). x ++ (own ++ y)) (settled_lines b.settlement) (lost_told b.lost)

one_told : (h : Heard) → heard_lines h ≡ report_lines (reports_of h) ++ dword_lines (dwords_of h)
one_told Dry = refl
one_told More = refl
one_told Slip = sym (append-nil (report_lines (report.Slip ∷ [])) ∙ append-nil (line (report_text report.Slip)))
one_told Gained = sym (append-nil (report_lines (report.Gained ∷ [])) ∙ append-nil (line (report_text report.Gained)))
one_told (Good g) =
    sym (ap₂ (λ (x y : List ℕ). x ++ y) (settled_lines g.settlement) (append-nil (line (dword_text (dword_record g)))))
one_told (Bad b) = sym (append-nil (report_lines (bad_reports b)) ∙ bad_told b)

-- ---- what is collected, and what is told after it

pub record Told (s : State) (bits : List ℕ) (c : Collection) : Type 0 where
  pub text : told s bits ≡ (report_lines c.reports ++ dword_lines c.dwords) ++ told c.state c.waiting
  pub count : taken s bits ≡ c.bits + taken c.state c.waiting

-- with no room for a dword, or fewer than three places, collecting stops at once
halts_by : (s : State) (bits : List ℕ) (m r p : Bool) (x : Collection) → (r ≡ true) ⊎ (p ≡ true)
    → (why : Stop) × (cond m (stopped stop.Spent s bits) (cond r (stopped stop.DwordsFull s bits) (cond p (stopped stop.ReportsFull s bits) x)) ≡ stopped why s bits)
halts_by s bits true r p x e = (stop.Spent, refl)
halts_by s bits false true p x e = (stop.DwordsFull, refl)
halts_by s bits false false true x e = (stop.ReportsFull, refl)
halts_by s bits false false false x (inl e) = absurd (both_ways false refl e)
halts_by s bits false false false x (inr e) = absurd (both_ways false refl e)

halts : (most room places : ℕ) (s : State) (bits : List ℕ) → (room ≡ 0) ⊎ (places < 3) → (why : Stop) × (collected most room places s bits ≡ stopped why s bits)
halts most room places s [] h = (stop.Dry, refl)
halts most room places s (bit ∷ bits) (inl h) = halts_by s (bit ∷ bits) (eqb most 0) (eqb room 0) (ltb places 3) _ (inl (eq-eqb room 0 h))
halts most room places s (bit ∷ bits) (inr h) = halts_by s (bit ∷ bits) (eqb most 0) (eqb room 0) (ltb places 3) _ (inr (lt-ltb places 3 h))

-- an answer, and what is collected after it
abbrev After : Heard → State → List ℕ → Collection → Type 0
After heard next bits c =
    (heard_lines heard ++ told next bits ≡ (report_lines (reports_of heard ++ c.reports) ++ dword_lines (dwords_of heard ++ c.dwords)) ++ told c.state c.waiting)
    × (taken next bits ≡ c.bits + taken c.state c.waiting)

after_telling : (heard : Heard) (next : State) (bits : List ℕ) (why : Stop) → After heard next bits (stopped why next bits)
after_telling heard next bits why = (
  ap (λ (x : List ℕ). x ++ told next bits)
      (one_told heard ∙ sym (ap₂ (λ xs ys. report_lines xs ++ dword_lines ys) (append-nil (reports_of heard)) (append-nil (dwords_of heard)))),
  omega arith,
)

after_halt : (most : ℕ) (heard : Heard) (next : State) (bits : List ℕ) → (1 - length (dwords_of heard) ≡ 0) ⊎ (3 - length (reports_of heard) < 3)
    → After heard next bits (collected most (1 - length (dwords_of heard)) (3 - length (reports_of heard)) next bits)
after_halt most heard next bits h =
    let stops = halts most (1 - length (dwords_of heard)) (3 - length (reports_of heard)) next bits h in
    subst (After heard next bits) (sym stops.1) (after_telling heard next bits stops.0)

-- silent answers go on, all others stop
after_one_answer : (heard : Heard) (next : State) (bits : List ℕ) (most : ℕ) → Told next bits (collected most 1 3 next bits)
    → After heard next bits (collected most (1 - length (dwords_of heard)) (3 - length (reports_of heard)) next bits)
after_one_answer Dry next bits most t = (t.text, t.count)
after_one_answer More next bits most t = (t.text, t.count)
after_one_answer Slip next bits most t = after_halt most Slip next bits (inr (omega arith))
after_one_answer Gained next bits most t = after_halt most Gained next bits (inr (omega arith))
after_one_answer (Good g) next bits most t = after_halt most (Good g) next bits (inl (omega arith))
after_one_answer (Bad b) next bits most t =
    let one = report.Bad (bad_report b) ∷ lost_reports b.lost in
    after_halt most (Bad b) next bits (inr (omega (arith, length-append (settlement_reports b.settlement) one)))

told_by : (m n : Bool) (s : State) (bit : ℕ) (bits : List ℕ) (c : Collection) → eqb s.ledger.number most_numbers ≡ n
    → After (hearing s bit).heard (hearing s bit).state bits c
    → Told s (bit ∷ bits) (cond m (stopped stop.Spent s (bit ∷ bits)) (cond n (stopped (stop.Declined NumbersSpent) s (bit ∷ bits)) (after_one (hearing s bit).heard c)))
told_by true n s bit bits c e a = record { text = refl; count = omega arith }
told_by false true s bit bits c e a = record { text = refl; count = omega arith }
told_by false false s bit bits c e a = record {
  text = cond-false (eqb s.ledger.number most_numbers) [] (heard_lines (hearing s bit).heard ++ told (hearing s bit).state bits) e ∙ a.0;
  count = cond-false (eqb s.ledger.number most_numbers) 0 (taken (hearing s bit).state bits + 1) e ∙ omega (arith, a.1);
}

pub told-after : (bits : List ℕ) (most : ℕ) (s : State) → Told s bits (collected most 1 3 s bits)
told-after [] most s = record { text = refl; count = refl }
told-after (bit ∷ bits) most s =
    let h = hearing s bit in
    told_by (eqb most 0) (eqb s.ledger.number most_numbers) s bit bits _ refl
    (after_one_answer h.heard h.state bits (most - 1) (told-after bits (most - 1) h.state))

-- ---- why collecting stopped

-- a dry tap has no bits, and a declined hearing no numbers
abbrev Over : Stop → List ℕ → State → Type 0
Over stop.Dry waiting s = waiting ≡ []
Over stop.Spent waiting s = Unit {0}
Over stop.DwordsFull waiting s = Unit {0}
Over stop.ReportsFull waiting s = Unit {0}
Over (stop.Declined refusal) waiting s = s.ledger.number ≡ most_numbers

abbrev OverAt : Collection → Type 0
OverAt c = Over c.stop c.waiting c.state

over_by : (m r p n : Bool) (s : State) (bits : List ℕ) (heard : Heard) (c : Collection) → eqb s.ledger.number most_numbers ≡ n → OverAt c
    → OverAt (cond m (stopped stop.Spent s bits) (cond r (stopped stop.DwordsFull s bits) (cond p (stopped stop.ReportsFull s bits)
    (cond n (stopped (stop.Declined NumbersSpent) s bits) (after_one heard c)))))
over_by true r p n s bits heard c e o = tt
over_by false true p n s bits heard c e o = tt
over_by false false true n s bits heard c e o = tt
over_by false false false true s bits heard c e o = eqb-true s.ledger.number most_numbers e
over_by false false false false s bits heard c e o = o

over : (bits : List ℕ) (most room places : ℕ) (s : State) → OverAt (collected most room places s bits)
over [] most room places s = refl
over (bit ∷ bits) most room places s =
    let h = hearing s bit in
    over_by (eqb most 0) (eqb room 0) (ltb places 3) (eqb s.ledger.number most_numbers) s (bit ∷ bits) h.heard _ refl
    (over bits (most - 1) (room - length (dwords_of h.heard)) (places - length (reports_of h.heard)) h.state)

-- with room at the start, any other reason comes after a bit
abbrev pub Ends : Stop → Collection → Type 0
Ends stop.Dry c = c.waiting ≡ []
Ends stop.Spent c = 0 < c.bits
Ends stop.DwordsFull c = 0 < c.bits
Ends stop.ReportsFull c = 0 < c.bits
Ends (stop.Declined refusal) c = c.state.ledger.number ≡ most_numbers

ends-later : (why : Stop) (c : Collection) (heard : Heard) → Over why c.waiting c.state → Ends why (after_one heard c)
ends-later stop.Dry c heard o = o
ends-later stop.Spent c heard o = omega arith
ends-later stop.DwordsFull c heard o = omega arith
ends-later stop.ReportsFull c heard o = omega arith
ends-later (stop.Declined refusal) c heard o = o

ends_by : (n : Bool) (s : State) (bits : List ℕ) (heard : Heard) (c : Collection) → eqb s.ledger.number most_numbers ≡ n → OverAt c
    → let all = cond n (stopped (stop.Declined NumbersSpent) s bits) (after_one heard c) in Ends all.stop all
ends_by true s bits heard c e o = eqb-true s.ledger.number most_numbers e
ends_by false s bits heard c e o = ends-later c.stop c heard o

pub ends : (bits : List ℕ) (most : ℕ) (s : State) → 0 < most → let c = collected most 1 3 s bits in Ends c.stop c
ends [] most s h = refl
ends (bit ∷ bits) most s h =
    let heard = (hearing s bit).heard in
    let later = collected (most - 1) (1 - length (dwords_of heard)) (3 - length (reports_of heard)) (hearing s bit).state bits in
    let all = cond (eqb s.ledger.number most_numbers) (stopped (stop.Declined NumbersSpent) s (bit ∷ bits)) (after_one heard later) in
    subst (λ (c : Collection). Ends c.stop c)
    (sym (cond-false (eqb most 0) (stopped stop.Spent s (bit ∷ bits)) all (ne_eqb most 0 (omega arith))))
    (ends_by (eqb s.ledger.number most_numbers) s (bit ∷ bits) heard later refl (over bits (most - 1) (1 - length (dwords_of heard)) (3 - length (reports_of heard)) (hearing s bit).state))

-- nothing more is told where no bit waits or the numbers are spent
pub told_none : (s : State) (bits : List ℕ) → s.ledger.number ≡ most_numbers → (told s bits ≡ []) × (taken s bits ≡ 0)
told_none s [] n = (refl, refl)
told_none s (bit ∷ bits) n =
    let e = eq-eqb s.ledger.number most_numbers n in
    (cond-true (eqb s.ledger.number most_numbers) _ _ e, cond-true (eqb s.ledger.number most_numbers) _ _ e)
