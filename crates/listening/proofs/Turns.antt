-- One turn of listening: a collection into empty queues with room for one dword and three reports, and the lines of it.
use Rattle.std.proofs.Common.{◌≡◌, ℕ, ◌+◌, ◌<◌, ◌⊎◌, List, [], ◌++◌, length, sym, refl, ap, ◌∙◌, ⊎_elim, subst, ap₂, append_assoc, arith}
use Rattle.link.specs.declared.receiver.hearing.HearRefusal.{HearRefusal}
use Rattle.link.specs.declared.state.State.{State}
use Rattle.reports.specs.declared.queue.Queue.{Queue}
use Rattle.reports.specs.declared.record.DwordRecord.{DwordRecord}
use Rattle.reports.specs.declared.report.Report.{Report}
use Rattle.reports.specs.declared.collecting.Stop.{Stop}
use Rattle.reports.specs.declared.collecting.Stop.TheVariants as stop
use Rattle.reports.specs.Queues.{elements, memory_of, room_of, Kept}
use Rattle.reports.specs.Collecting.{Collection, Collects, collected}
use Rattle.reports.proofs.QueueLaws.{length_elements}
use Rattle.listening.specs.Listening.{report_lines, dword_lines, told, taken}
use Rattle.listening.proofs.Tellings.{told-after, told_none, Ends, ends}

-- an empty queue has room for all its places
room_empty : {T : Type 0} (q : Queue T) (n : ℕ) → elements q ≡ [] → length (memory_of q) ≡ n → room_of q ≡ n
room_empty q n e m = omega (arith, length_elements q, ap length e, m)

-- what was pushed into an empty queue is all that it holds
all_kept : {T : Type 0} (q q' : Queue T) (xs : List T) → elements q ≡ [] → Kept q xs q' → elements q' ≡ xs
all_kept q q' xs e k = k.appended ∙ ap (λ ys. ys ++ xs) e

-- a reason that is neither a dry tap nor a declined hearing comes after a bit
progress : (why : Stop) (c : Collection) → Ends why c → (why ≡ stop.Dry → ⊥) → ((r : HearRefusal) → why ≡ stop.Declined r → ⊥) → 0 < c.bits
progress stop.Dry c e d r = absurd (d refl)
progress stop.Spent c e d r = e
progress stop.DwordsFull c e d r = e
progress stop.ReportsFull c e d r = e
progress (stop.Declined refusal) c e d r = absurd (r refusal refl)

pub record Turn (s s' : State) (bits bits' : List ℕ) (n : ℕ) (why : Stop) (text text' : List ℕ) : Type 0 where
  pub lines : text' ++ told s' bits' ≡ text ++ told s bits
  pub count : length bits + taken s' bits' ≡ length bits' + taken s bits
  pub over : (why ≡ stop.Dry) ⊎ ((r : HearRefusal) × (why ≡ stop.Declined r)) → (told s' bits' ≡ []) × (taken s' bits' ≡ 0)
  pub shorter : length bits' + n ≡ length bits
  pub more : (why ≡ stop.Dry → ⊥) → ((r : HearRefusal) → why ≡ stop.Declined r → ⊥) → 0 < n

module _
    (s s' : State) (bits bits' : List ℕ) (most n : ℕ) (why : Stop) (text text₁ text' : List ℕ)
    (d d' : Queue DwordRecord) (p p' : Queue Report)
    (no-dwords : elements d ≡ []) (one_place : length (memory_of d) ≡ 1) (no-reports : elements p ≡ []) (three-places : length (memory_of p) ≡ 3)
  where
    abbrev whole : Collection
    whole = collected most 1 3 s bits

    turned : 0 < most → Collects whole n why s' bits' d d' p p' → n + length bits' ≡ length bits
        → text₁ ≡ text ++ report_lines (elements p') → text' ≡ text₁ ++ dword_lines (elements d')
        → Turn s s' bits bits' n why text text'
    turned h x gone t₁ t₂ =
        let t = told-after bits most s in
        let e = subst (λ (w : Stop). Ends w whole) (sym x.because) (ends bits most s h) in
        let reports = report_lines (elements p') in
        let dwords = dword_lines (elements d') in
        let now : told s bits ≡ (reports ++ dwords) ++ told s' bits' =
        t.text
        ∙ (ap₂ (λ xs ys. (report_lines xs ++ dword_lines ys) ++ told whole.state whole.waiting) (sym (all_kept p p' whole.reports no-reports x.kept_reports)) (sym (all_kept d d' whole.dwords no-dwords x.kept_dwords))
        ∙ ap₂ (λ (y : State) (ys : List ℕ). (reports ++ dwords) ++ told y ys) (sym x.after) (sym x.left)) in
        record {
          lines =
              ap (λ (y : List ℕ). y ++ told s' bits') (t₂ ∙ (ap (λ (y : List ℕ). y ++ dwords) t₁ ∙ append_assoc text reports dwords))
              ∙ (append_assoc text (reports ++ dwords) (told s' bits') ∙ ap (λ (y : List ℕ). text ++ y) (sym now));
          count = omega (arith, t.count, gone, x.taken, ap₂ (λ (y : State) (ys : List ℕ). taken y ys) x.after x.left);
          over =
              ⊎_elim
              (λ w. let none : bits' ≡ [] = x.left ∙ subst (λ (y : Stop). Ends y whole) w e in (ap (told s') none, ap (taken s') none))
              (λ w. told_none s' bits' (ap (λ (y : State). y.ledger.number) x.after ∙ subst (λ (y : Stop). Ends y whole) w.1 e));
          shorter = omega (arith, gone);
          more = λ dry declined. omega (arith, x.taken, progress why whole e dry declined);
        }

    pub turn : 0 < most → Collects (collected most (room_of d) (room_of p) s bits) n why s' bits' d d' p p' → n + length bits' ≡ length bits
        → text₁ ≡ text ++ report_lines (elements p') → text' ≡ text₁ ++ dword_lines (elements d')
        → Turn s s' bits bits' n why text text'
    turn h x =
        let rooms = ap₂ (λ (a b : ℕ). collected most a b s bits) (room_empty d 1 no-dwords one_place) (room_empty p 3 no-reports three-places) in
        turned h (subst (λ (c : Collection). Collects c n why s' bits' d d' p p') rooms x)
