-- Collecting, one hearing after the other: whatever is collected from here on completes the whole.
use Rattle.std.proofs.Common.{◌≡◌, ℕ, ◌+◌, ◌-◌, ◌<◌, ◌≤◌, cond, eqb, ltb, List, [], ◌∷◌, ◌++◌, length, Option, Some, None, sym, refl, ap, ◌∙◌, subst, ap₂, arith, length-append}
use Rattle.std.proofs.lemmas.Bool.{cond-true, cond-false, ne_eqb, eq-eqb, lt-ltb, le-ltb}
use Rattle.line.specs.Waiting.{Meaning}
use Rattle.std.specs.Bool.{then_some}
use Rattle.std.specs.Option.{option_map, option_to_list}
use Rattle.link.specs.declared.heard.Heard.{Heard}
use Rattle.link.specs.declared.heard.Heard.TheVariants as heard
use Rattle.link.specs.declared.receiver.hearing.HearRefusal.{HearRefusal}
use Rattle.link.specs.declared.receiver.hearing.HearRefusal.TheVariants.{NumbersSpent}
use Rattle.link.specs.declared.state.State.{State}
use Rattle.link.specs.Receiving.{most_numbers}
use Rattle.link.proofs.Hearings.{TookBit}
use Rattle.reports.specs.declared.queue.Queue.{Queue}
use Rattle.reports.specs.declared.record.DwordRecord.{DwordRecord}
use Rattle.reports.specs.declared.report.Report.{Report}
use Rattle.reports.specs.declared.report.Report.TheVariants.{Bad, Lost}
use Rattle.reports.specs.declared.collecting.Stop.{Stop}
use Rattle.reports.specs.declared.collecting.Stop.TheVariants.{Dry, Spent, DwordsFull, ReportsFull, Declined}
use Rattle.reports.specs.Queues.{Kept}
use Rattle.reports.specs.Collecting.{dwords_of, settlement_reports, lost_reports, reports_of, Collection, stopped, after_one, collected, Collects}
use Rattle.reports.specs.Shown.{bad_report, settlement_report}
use Rattle.reports.proofs.Keeping.{kept_none, kept_then}

-- ---- what a collection comes to, by its first test that applies

module _ (most room places : ℕ) (s : State) where
  -- a dry tap comes before every other reason
  pub or_dry : (stop : Stop) (bits : List ℕ) → (0 < length bits → collected most room places s bits ≡ stopped stop s bits)
      → collected most room places s bits ≡ stopped (cond (eqb (length bits) 0) Dry stop) s bits
  or_dry stop [] f = refl
  or_dry stop (bit ∷ bits) f =
      f (omega arith) ∙ ap (λ (x : Stop). stopped x s (bit ∷ bits)) (sym (cond-false (eqb (length (bit ∷ bits)) 0) Dry stop (ne_eqb (length (bit ∷ bits)) 0 (λ z. omega arith))))

  pub at_most : (bits : List ℕ) → 0 < length bits → most ≡ 0 → collected most room places s bits ≡ stopped Spent s bits
  at_most [] h m = absurd (omega arith)
  at_most (bit ∷ bits) h m = cond-true (eqb most 0) _ _ (eq-eqb most 0 m)

  pub dwords_full : (bits : List ℕ) → 0 < length bits → 0 < most → room ≡ 0 → collected most room places s bits ≡ stopped DwordsFull s bits
  dwords_full [] h m r = absurd (omega arith)
  dwords_full (bit ∷ bits) h m r = cond-false (eqb most 0) _ _ (ne_eqb most 0 (omega arith)) ∙ cond-true (eqb room 0) _ _ (eq-eqb room 0 r)

  pub reports_full : (bits : List ℕ) → 0 < length bits → 0 < most → 0 < room → places < 3 → collected most room places s bits ≡ stopped ReportsFull s bits
  reports_full [] h m r p = absurd (omega arith)
  reports_full (bit ∷ bits) h m r p =
      cond-false (eqb most 0) _ _ (ne_eqb most 0 (omega arith))
      ∙ (cond-false (eqb room 0) _ _ (ne_eqb room 0 (omega arith)) ∙ cond-true (ltb places 3) _ _ (lt-ltb places 3 p))

  -- whichever refusal it is, there is only one
  pub declined : (refusal : HearRefusal) (bits : List ℕ) → 0 < length bits → 0 < most → 0 < room → 3 ≤ places → s.ledger.number ≡ most_numbers
      → collected most room places s bits ≡ stopped (Declined refusal) s bits
  declined NumbersSpent [] h m r p n = absurd (omega arith)
  declined NumbersSpent (bit ∷ bits) h m r p n =
      cond-false (eqb most 0) _ _ (ne_eqb most 0 (omega arith))
      ∙ (cond-false (eqb room 0) _ _ (ne_eqb room 0 (omega arith))
      ∙ (cond-false (ltb places 3) _ _ (le-ltb places 3 p) ∙ cond-true (eqb s.ledger.number most_numbers) _ _ (eq-eqb s.ledger.number most_numbers n)))

  pub one_more : (tap : Meaning) (heard : Heard) (next : State) (rest : Meaning) (most' room' places' : ℕ) → TookBit s tap heard next rest → 0 < most → 0 < room → 3 ≤ places
      → most' ≡ most - 1 → room' ≡ room - length (dwords_of heard) → places' ≡ places - length (reports_of heard)
      → collected most room places s tap.waiting ≡ after_one heard (collected most' room' places' next rest.waiting)
  one_more tap heard next rest most' room' places' t m r p a b c =
      ap (λ (x : Meaning). collected most room places s x.waiting) t.tap_was
      ∙ (cond-false (eqb most 0) _ _ (ne_eqb most 0 (omega arith))
      ∙ (cond-false (eqb room 0) _ _ (ne_eqb room 0 (omega arith))
      ∙ (cond-false (ltb places 3) _ _ (le-ltb places 3 p)
      ∙ (cond-false (eqb s.ledger.number most_numbers) _ _ (ne_eqb s.ledger.number most_numbers t.unspent)
      ∙ (ap₂ (λ (h : Heard) (x : State). after_one h (collected (most - 1) (room - length (dwords_of h)) (places - length (reports_of h)) x rest.waiting)) (sym t.heard_is) (sym t.next_is)
      ∙ (ap (λ (x : ℕ). after_one heard (collected x (room - length (dwords_of heard)) (places - length (reports_of heard)) next rest.waiting)) (sym a)
      ∙ (ap (λ (x : ℕ). after_one heard (collected most' x (places - length (reports_of heard)) next rest.waiting)) (sym b)
      ∙ ap (λ (x : ℕ). after_one heard (collected most' room' x next rest.waiting)) (sym c))))))))

-- ---- collecting that goes on

-- Of the whole, i bits are taken; c is what is left to collect from the queues as they are now.
abbrev pub Completes : Collection → Collection → ℕ → Queue DwordRecord → Queue DwordRecord → Queue Report → Queue Report → Type 0
Completes c whole i d₀ d p₀ p =
    (n : ℕ) (stop : Stop) (state : State) (waiting : List ℕ) (d' : Queue DwordRecord) (p' : Queue Report)
    → Collects c n stop state waiting d d' p p' → Collects whole (i + n) stop state waiting d₀ d' p₀ p'

-- the same with another count of bits
counted : {c : Collection} {n m : ℕ} {stop : Stop} {state : State} {waiting : List ℕ} {d d' : Queue DwordRecord} {p p' : Queue Report}
    → Collects c n stop state waiting d d' p p' → m ≡ n → Collects c m stop state waiting d d' p p'
counted x e = record
    { taken = e ∙ x.taken; because = x.because; after = x.after; left = x.left; kept_dwords = x.kept_dwords; kept_reports = x.kept_reports }

pub completes_more : (c c₁ whole : Collection) (i : ℕ) (d₀ d d₁ : Queue DwordRecord) (p₀ p p₁ : Queue Report) (heard : Heard)
    → Completes c whole i d₀ d p₀ p → c ≡ after_one heard c₁ → Kept d (dwords_of heard) d₁ → Kept p (reports_of heard) p₁
    → Completes c₁ whole (i + 1) d₀ d₁ p₀ p₁
completes_more c c₁ whole i d₀ d d₁ p₀ p p₁ heard f e kd kp n stop state waiting d' p' x =
    let y : Collects (after_one heard c₁) (n + 1) stop state waiting d d' p p' = record {
      taken = ap (λ (k : ℕ). k + 1) x.taken;
      because = x.because;
      after = x.after;
      left = x.left;
      kept_dwords = kept_then d d₁ d' (dwords_of heard) c₁.dwords kd x.kept_dwords;
      kept_reports = kept_then p p₁ p' (reports_of heard) c₁.reports kp x.kept_reports;
    } in
    counted (f (n + 1) stop state waiting d' p' (subst (λ (k : Collection). Collects k (n + 1) stop state waiting d d' p p') (sym e) y)) (omega arith)

pub completes_last : (c whole : Collection) (i j : ℕ) (d₀ d : Queue DwordRecord) (p₀ p : Queue Report) (stop stop' : Stop) (s : State) (bits : List ℕ)
    → Completes c whole i d₀ d p₀ p → c ≡ stopped stop s bits → j ≡ i → stop' ≡ stop → Collects whole j stop' s bits d₀ d p₀ p
completes_last c whole i j d₀ d p₀ p stop stop' s bits f e h r =
    let y : Collects (stopped stop s bits) 0 stop' s bits d d p p = record
    { taken = refl; because = r; after = refl; left = refl; kept_dwords = kept_none d; kept_reports = kept_none p } in
    counted (f 0 stop' s bits d p (subst (λ (k : Collection). Collects k 0 stop' s bits d d p p) (sym e) y)) (omega arith)

-- where collecting stops for a reason, but for the dry tap that comes before it
pub stops_here : (most room places : ℕ) (whole : Collection) (i j : ℕ) (d₀ d : Queue DwordRecord) (p₀ p : Queue Report) (why stop : Stop) (s s' : State) (tap tap' : Meaning)
    → Completes (collected most room places s tap.waiting) whole i d₀ d p₀ p
    → (0 < length tap.waiting → collected most room places s tap.waiting ≡ stopped why s tap.waiting)
    → s' ≡ s → tap' ≡ tap → j ≡ i → stop ≡ cond (eqb (length tap'.waiting) 0) Dry why
    → Collects whole j stop s' tap'.waiting d₀ d p₀ p
stops_here most room places whole i j d₀ d p₀ p why stop s s' tap tap' f reason same left n r =
    let e = or_dry most room places s why tap.waiting reason in
    let now = ap₂ (λ (x : State) (m : Meaning). stopped (cond (eqb (length m.waiting) 0) Dry why) x m.waiting) (sym same) (sym left) in
    completes_last _ whole i j d₀ d p₀ p (cond (eqb (length tap'.waiting) 0) Dry why) stop s' tap'.waiting f (e ∙ now) n r

-- an answer hands out one dword and three reports at most, so what is kept of it is all of it
length_listed : {X : Type 0} (o : Option X) → length (option_to_list o) ≤ 1
length_listed None = omega arith
length_listed (Some x) = omega arith

pub few_dwords : (heard : Heard) → length (dwords_of heard) ≤ 1
few_dwords heard.Dry = omega arith
few_dwords heard.More = omega arith
few_dwords heard.Slip = omega arith
few_dwords heard.Gained = omega arith
few_dwords (heard.Good g) = omega arith
few_dwords (heard.Bad b) = omega arith

pub few_reports : (heard : Heard) → length (reports_of heard) ≤ 3
few_reports heard.Dry = omega arith
few_reports heard.More = omega arith
few_reports heard.Slip = omega arith
few_reports heard.Gained = omega arith
few_reports (heard.Good g) = omega (arith, length_listed (option_map settlement_report g.settlement))
few_reports (heard.Bad b) =
    let own = Bad (bad_report b) ∷ [] in
    let lost = lost_reports b.lost in
    omega (arith, length_listed (option_map settlement_report b.settlement), length_listed (then_some b.lost Lost), length-append (settlement_reports b.settlement) (own ++ lost), length-append own lost)
