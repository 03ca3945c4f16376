-- Every event has the answer that its call gives after the history.
use Rattle.std.proofs.Common.{◌≡◌, ℕ, ◌<◌, Bool, true, false, cond, eqb, List, [], ◌∷◌, ◌++◌, length, take, Some, None, Ok, Err, sym, refl, ap, ◌∙◌, ap₂, append-nil}
use Rattle.line.specs.Waiting.{Meaning}
use Rattle.line.specs.Writing.{turning}
use Rattle.link.specs.declared.receiver.hearing.HearRefusal.TheVariants.{NumbersSpent}
use Rattle.link.specs.declared.state.State.{State}
use Rattle.link.specs.Hearing.{fresh, hearing}
use Rattle.link.specs.Receiving.{hear_refusal, most_numbers, heard_from}
use Rattle.link.specs.Sending.{sending, disparity_after_all}
use Rattle.transcript.specs.declared.call.LinkEvent.{LinkEvent}
use Rattle.transcript.specs.declared.call.LinkEvent.TheVariants as event
use Rattle.transcript.specs.History.{History, deed, sent, answers, waits}
use Rattle.transcript.specs.Answering.{numbers, heard, listened, first_of, heard_first, line_after, Answers, Exact}
use Rattle.transcript.specs.Reaching.{Link, Reached, start, makes, Makes}
use Rattle.transcript.proofs.Running.{said, said_append, listened-append}
use Rattle.transcript.proofs.Runs as runs
use Rattle.transcript.proofs.Runs.{Run}
use Rattle.transcript.proofs.Reachings.{as_run}
use Rattle.transcript.proofs.Told.{told}
use Rattle.transcript.proofs.Numbers.{numbers_given}

-- the receiver has answered and become what the bits heard make of a fresh one
pub record Listened (d : ℕ) (h : History) (r : State) : Type 0 where
  pub says : answers h ≡ said fresh (heard d h)
  pub is : r ≡ listened fresh (heard d h)

-- an event by which no bit was heard
unheard : (d : ℕ) (h : History) (r : State) (e : LinkEvent) → (deed e).answers ≡ [] → Listened d h r → Listened d (e ∷ h) r
unheard d h r e none l =
    let same : heard d (e ∷ h) ≡ heard d h =
    ap (λ xs. heard d h ++ take (length xs) (waits d h)) none ∙ append-nil (heard d h) in
    record {
      says = ap (λ xs. answers h ++ xs) none ∙ append-nil (answers h) ∙ l.says ∙ ap (said fresh) (sym same);
      is = l.is ∙ ap (listened fresh) (sym same);
    }

-- one by which bit b was
heard_one : (d : ℕ) (h : History) (r : State) (e : LinkEvent) (b : ℕ) (q : List ℕ) → (deed e).answers ≡ (hearing r b).heard ∷ [] → waits d h ≡ b ∷ q
    → Listened d h r → Listened d (e ∷ h) (hearing r b).state
heard_one d h r e b q one first l =
    let bits = heard d h in
    let more : heard d (e ∷ h) ≡ bits ++ (b ∷ []) = ap₂ (λ xs ys. bits ++ take (length xs) ys) one first in
    record {
      says = ap (λ xs. answers h ++ xs) one
          ∙ ap₂ (λ xs s. xs ++ ((hearing s b).heard ∷ [])) l.says l.is
          ∙ sym (said_append fresh bits (b ∷ [])) ∙ ap (said fresh) (sym more);
      is = ap (λ s. (hearing s b).state) l.is ∙ sym (listened-append fresh bits (b ∷ [])) ∙ ap (listened fresh) (sym more);
    }

module _ (d₀ : ℕ) (small₀ : d₀ < 2) where
  pub listened_to : {h : History} {q : List ℕ} {d : ℕ} {r : State} → Run d₀ h q d r → Listened d₀ h r
  listened_to runs.starts = record { says = refl; is = refl }
  listened_to (runs.sends {h = h} {r = r} e w is v run) = unheard d₀ h r e (ap (λ y. y.answers) is) (listened_to run)
  listened_to (runs.turns {h = h} {r = r} e place is run) = unheard d₀ h r e (ap (λ y. y.answers) is) (listened_to run)
  listened_to (runs.takes {h = h} {r = r} e b is run) = unheard d₀ h r e (ap (λ y. y.answers) is) (listened_to run)
  listened_to (runs.idles {h = h} {r = r} e is run) = unheard d₀ h r e (ap (λ y. y.answers) is) (listened_to run)
  listened_to (runs.hears {h = h} {q = q} {r = r} e b is run) =
      heard_one d₀ h r e b q (ap (λ y. y.answers) is) (sym (told d₀ small₀ run).waits) (listened_to run)

-- ---- the link after a history, and what it answers

-- the line, the sender and the receiver are what the history tells
record Tells (capacity d : ℕ) (h : History) (a : Link) : Type 0 where
  line : a.line ≡ line_after capacity d h
  disparity : a.disparity ≡ disparity_after_all d (sent h)
  receiver : a.receiver ≡ listened fresh (heard d h)
  numbered : a.receiver.ledger.number ≡ length (numbers (answers h))

history_tells : (capacity d : ℕ) → d < 2 → {h : History} {a : Link} → Reached capacity d h a → Tells capacity d h a
history_tells capacity d small {h} reached =
    let ran = as_run reached in
    let t = told d small ran.0 in
    record {
      line = ap₂ (λ (w : List ℕ) (c : ℕ). record { waiting = w; capacity = c }) t.waits ran.1;
      disparity = t.disparity;
      receiver = (listened_to d small ran.0).is;
      numbered = sym (numbers_given ran.0);
    }

-- what hearing from a tap answers
answer-first : (s : State) (b : Bool) (capacity : ℕ) (waiting : List ℕ) → eqb s.ledger.number most_numbers ≡ b
    → (heard_from s (record { waiting = waiting; capacity = capacity })).answer ≡ cond b (Err (hear_refusal NumbersSpent)) (Ok (heard_first s waiting))
answer-first s true capacity waiting e = rw e refl
answer-first s false capacity [] e = rw e refl
answer-first s false capacity (bit ∷ bits) e = rw e refl

answers_made : (capacity d : ℕ) {h : History} {a : Link} (b : Link) (e : LinkEvent) → Tells capacity d h a → Makes a e b → Answers capacity d h e
answers_made capacity d b (event.Send w r) t (answer, _, _) =
    answer ∙ ap₂ (λ (n : ℕ) (l : Meaning). (sending n l w).answer) t.disparity t.line
answers_made capacity d b (event.Turn place r) t (answer, _) = answer ∙ ap (λ l. (turning l place).answer) t.line
answers_made capacity d b (event.Take (Some bit)) t (taken, _, _) =
    sym (ap first_of (sym (ap (λ l. l.waiting) t.line) ∙ ap (λ l. l.waiting) taken))
answers_made capacity d b (event.Take None) t (taken, _, _) =
    sym (ap first_of (sym (ap (λ l. l.waiting) t.line) ∙ taken.0))
answers_made capacity d {h} {a} b (event.Hear r) t (answer, _) =
    answer
    ∙ answer-first a.receiver (eqb a.receiver.ledger.number most_numbers) a.line.capacity a.line.waiting refl
    ∙ ap (λ n. cond (eqb n most_numbers) (Err (hear_refusal NumbersSpent)) (Ok (heard_first a.receiver a.line.waiting))) t.numbered
    ∙ ap₂ (λ (s : State) (l : Meaning). cond (eqb (length (numbers (answers h))) most_numbers) (Err (hear_refusal NumbersSpent)) (Ok (heard_first s l.waiting))) t.receiver t.line

pub exact : (capacity d : ℕ) → d < 2 → {h : History} {a : Link} → Reached capacity d h a → Exact capacity d h
exact capacity d small start = tt
exact capacity d small (makes {b = b} e made reached) = (answers_made capacity d b e (history_tells capacity d small reached) made, exact capacity d small reached)

-- the line and the sender after the history
pub line_left : (capacity d : ℕ) → d < 2 → {h : History} {a : Link} → Reached capacity d h a → a.line ≡ line_after capacity d h
line_left capacity d small reached = (history_tells capacity d small reached).line

pub disparity_left : (capacity d : ℕ) → d < 2 → {h : History} {a : Link} → Reached capacity d h a → a.disparity ≡ disparity_after_all d (sent h)
disparity_left capacity d small reached = (history_tells capacity d small reached).disparity
