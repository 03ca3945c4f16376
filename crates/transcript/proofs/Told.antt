-- What a history tells of the line, the sender and the receiver that it reached.
use Rattle.std.proofs.Common.{◌≡◌, ℕ, zero, suc, ◌+◌, ◌-◌, ◌<◌, ◌≤◌, List, [], ◌∷◌, ◌++◌, length, get_or, take, drop, set, sym, refl, ap, ◌∙◌, inl, inr, append_assoc, append-nil, add-zero, arith, length-append, length-drop, length-set, drop_of_length-le, length-take, get_or-drop, drop-drop}
use lib.Seq.{take-append-le, drop-append-le, take-set-le, drop-set-add}
use Rattle.link.specs.declared.dword.Dword.{Dword}
use Rattle.link.specs.declared.heard.Heard.{Heard}
use Rattle.link.specs.declared.state.State.{State}
use Rattle.transcript.specs.Answering.{listened}
use Rattle.transcript.proofs.Bits.{turn}
use Rattle.link.specs.Sending.{ValidDword, dword_bits, stream, disparity_after, disparity_after_all}
use Rattle.link.specs.Hearing.{hearing, fresh}
use Rattle.transcript.proofs.Running.{said, said_append, listened-append}
use Rattle.transcript.specs.History.{History, sent, skipped, answers, removed, carried, HearsAlone}
use Rattle.transcript.proofs.Runs.{Run, starts, sends, turns, takes, hears, idles}
use Rattle.transcript.proofs.Hunting.{Bits}
use Rattle.transcript.proofs.Commas.{BitsAppend, BitsDword}
use Rattle.transcript.specs.Laws.{AllValid}
use Rattle.transcript.proofs.InOrder.{dword_small}

-- the bits heard, of those carried
abbrev pub heard-bits : List ℕ → ℕ → ℕ → List ℕ
heard-bits c k m = drop k (take (k + m) c)

pub record Told (d₀ : ℕ) (ws : List Dword) (k : ℕ) (said-so : List Heard) (c q : List ℕ) (d : ℕ) : Type 0 where
  pub waits : q ≡ drop (k + length said-so) c
  pub within : k + length said-so ≤ length c
  pub same_length : length c ≡ length (stream d₀ ws)
  pub disparity : d ≡ disparity_after_all d₀ ws
  pub small : d < 2
  pub valid : AllValid ws
  pub binary : Bits c

BitsSet : (xs : List ℕ) (i v : ℕ) → Bits xs → v < 2 → Bits (set xs i v)
BitsSet [] i v b h = tt
BitsSet (x ∷ xs) zero v (b, bs) h = (h, bs)
BitsSet (x ∷ xs) (suc i) v (b, bs) h = (b, BitsSet xs i v bs h)

valid_push : (ws : List Dword) (w : Dword) → AllValid ws → ValidDword w → AllValid (ws ++ (w ∷ []))
valid_push [] w vs v = (v, tt)
valid_push (x ∷ ws) w (y, vs) v = (y, valid_push ws w vs v)

pub stream_push : (d : ℕ) (ws : List Dword) (w : Dword) → stream d (ws ++ (w ∷ [])) ≡ stream d ws ++ dword_bits (disparity_after_all d ws) w
stream_push d [] w = append-nil (dword_bits d w)
stream_push d (x ∷ ws) w = ap (λ r. dword_bits d x ++ r) (stream_push (disparity_after d x) ws w) ∙ sym (append_assoc (dword_bits d x) (stream (disparity_after d x) ws) (dword_bits (disparity_after_all (disparity_after d x) ws) w))

pub disparity_push : (d : ℕ) (ws : List Dword) (w : Dword) → disparity_after_all d (ws ++ (w ∷ [])) ≡ disparity_after (disparity_after_all d ws) w
disparity_push d [] w = refl
disparity_push d (x ∷ ws) w = disparity_push (disparity_after d x) ws w

tail_waits : (c : List ℕ) {q : List ℕ} {b : ℕ} (n : ℕ) → b ∷ q ≡ drop n c → (q ≡ drop (n + 1) c) × (n < length c)
tail_waits c {q} {b} n e =
    let l : suc (length q) ≡ length c - n = ap length e ∙ length-drop n c in
    (ap (drop 1) e ∙ drop-drop 1 n c, omega arith)

module _ {d₀ : ℕ} {ws : List Dword} {k : ℕ} {said-so : List Heard} {c : List ℕ} {d : ℕ} where
  tell_send : {q : List ℕ} → Told d₀ ws k said-so c q d → (w : Dword) → ValidDword w →
      Told d₀ (ws ++ (w ∷ [])) k said-so (c ++ dword_bits (disparity_after_all d₀ ws) w) (q ++ dword_bits d w) (disparity_after d w)
  tell_send {q} t w v =
      let x = dword_bits (disparity_after_all d₀ ws) w in
      let e = drop-append-le (k + length said-so) c x t.within in
      let f : dword_bits d w ≡ x = ap (λ n. dword_bits n w) t.disparity in
      record {
        waits = ap (λ r. q ++ r) f ∙ ap (λ r. r ++ x) t.waits ∙ sym e;
        within = omega (arith, length-append c x, t.within);
        same_length = rw (stream_push d₀ ws w, length-append c x, length-append (stream d₀ ws) x, t.same_length) refl;
        disparity = ap (λ n. disparity_after n w) t.disparity ∙ sym (disparity_push d₀ ws w);
        small = dword_small d w t.small;
        valid = valid_push ws w t.valid v;
        binary = BitsAppend c x t.binary (BitsDword _ w);
      }

  tell_turn : {q : List ℕ} → Told d₀ ws k said-so c q d → (place : ℕ) → Told d₀ ws k said-so (turn (k + length said-so + place) c) (turn place q) d
  tell_turn {q} t place =
      let n = k + length said-so in
      let v = 1 - get_or c (n + place) 0 in
      record {
        waits = ap (turn place) t.waits ∙ ap (λ x. set (drop n c) place (1 - x)) (get_or-drop n c place 0) ∙ sym (drop-set-add n c place v);
        within = omega (arith, length-set c (n + place) v, t.within);
        same_length = length-set c (n + place) v ∙ t.same_length;
        disparity = t.disparity;
        small = t.small;
        valid = t.valid;
        binary = BitsSet c (n + place) v t.binary (omega arith);
      }

  tell_take : {q : List ℕ} {b : ℕ} → Told d₀ ws k said-so c (b ∷ q) d → Told d₀ ws (k + 1) said-so c q d
  tell_take {q} {b} t =
      let w = tail_waits c (k + length said-so) t.waits in
      let e : k + length said-so + 1 ≡ k + 1 + length said-so = omega arith in
      record { waits = w.0 ∙ ap (λ n. drop n c) e; within = omega (arith, w.1); same_length = t.same_length; disparity = t.disparity; small = t.small; valid = t.valid; binary = t.binary }

  tell_hear : {q : List ℕ} {b : ℕ} → Told d₀ ws k said-so c (b ∷ q) d → (a : Heard) → Told d₀ ws k (said-so ++ (a ∷ [])) c q d
  tell_hear {q} {b} t a =
      let w = tail_waits c (k + length said-so) t.waits in
      let l = length-append said-so (a ∷ []) in
      let e : k + length said-so + 1 ≡ k + length (said-so ++ (a ∷ [])) = omega (arith, l) in
      record { waits = w.0 ∙ ap (λ n. drop n c) e; within = omega (arith, w.1, l); same_length = t.same_length; disparity = t.disparity; small = t.small; valid = t.valid; binary = t.binary }

module _ (d₀ : ℕ) (small₀ : d₀ < 2) where
  pub told : {h : History} {q : List ℕ} {d : ℕ} {r : State} → Run d₀ h q d r → Told d₀ (sent h) (skipped h) (answers h) (carried d₀ h) q d
  told starts = record { waits = refl; within = omega arith; same_length = refl; disparity = refl; small = small₀; valid = tt; binary = tt }
  told (sends e w is v run) = simp (is, append-nil, add-zero) (tell_send (told run) w v)
  told (turns e place is run) = simp (is, append-nil, add-zero) (tell_turn (told run) place)
  told (takes e b is run) = simp (is, append-nil, add-zero) (tell_take (told run))
  told (hears {r = r} e b is run) = simp (is, append-nil, add-zero) (tell_hear (told run) (hearing r b).heard)
  told (idles e is run) = simp (is, append-nil, add-zero) (told run)

take_one : (c : List ℕ) {q : List ℕ} {b : ℕ} (n : ℕ) → b ∷ q ≡ drop n c → take (suc n) c ≡ take n c ++ (b ∷ [])
take_one [] zero e = absurd (let z : suc (length _) ≡ 0 = ap length e in omega arith)
take_one (x ∷ c) zero e = let z : x ≡ _ = cc in ap (λ y. y ∷ []) z
take_one [] (suc n) e = absurd (let z : suc (length _) ≡ 0 = ap length e in omega arith)
take_one (x ∷ c) (suc n) e = ap (λ r. x ∷ r) (take_one c n e)

-- a list taken as far as it is heard, and one more
heard-more : (c : List ℕ) {q : List ℕ} {b : ℕ} (k m : ℕ) → b ∷ q ≡ drop (k + m) c → heard-bits c k (m + 1) ≡ heard-bits c k m ++ (b ∷ [])
heard-more c {q} {b} k m e =
    let n = k + m in
    let w = tail_waits c n e in
    let f : take (k + (m + 1)) c ≡ take n c ++ (b ∷ []) = ap (λ x. take x c) (let a : k + (m + 1) ≡ suc (k + m) = omega arith in a) ∙ take_one c n e in
    let l : k ≤ length (take n c) = omega (arith, length-take n c, w.1) in
    ap (drop k) f ∙ drop-append-le k (take n c) (b ∷ []) l

-- the receiver has said and become what those bits make of a fresh one
pub record HeardAs (k : ℕ) (said-so : List Heard) (c : List ℕ) (r : State) : Type 0 where
  pub says : said-so ≡ said fresh (heard-bits c k (length said-so))
  pub is : r ≡ listened fresh (heard-bits c k (length said-so))

heard_none : (c : List ℕ) (k : ℕ) → heard-bits c k 0 ≡ []
heard_none c k = let l : length (take (k + 0) c) ≤ k = omega (arith, length-take (k + 0) c) in drop_of_length-le (take (k + 0) c) l

take_heard : {k : ℕ} {said-so : List Heard} {c : List ℕ} {r : State} → HeardAs k said-so c r → said-so ≡ [] → HeardAs (k + 1) said-so c r
take_heard {k} {said-so} {c} i e =
    let none : (n : ℕ) → heard-bits c n (length said-so) ≡ [] = λ n. ap (λ xs. heard-bits c n (length xs)) e ∙ heard_none c n in
    record { says = e ∙ sym (ap (said fresh) (none (k + 1))); is = i.is ∙ ap (listened fresh) (none k) ∙ sym (ap (listened fresh) (none (k + 1))) }

hear_heard : {k : ℕ} {said-so : List Heard} {c q : List ℕ} {b : ℕ} {r : State} → HeardAs k said-so c r → b ∷ q ≡ drop (k + length said-so) c →
    HeardAs k (said-so ++ ((hearing r b).heard ∷ [])) c (hearing r b).state
hear_heard {k} {said-so} {c} {q} {b} {r} i e =
    let a = (hearing r b).heard in
    let hb = heard-bits c k (length said-so) in
    let more : heard-bits c k (length (said-so ++ (a ∷ []))) ≡ hb ++ (b ∷ []) =
    ap (heard-bits c k) (length-append said-so (a ∷ [])) ∙ heard-more c k (length said-so) e in
    record {
      says = sym (ap (said fresh) more ∙ said_append fresh hb (b ∷ []) ∙ ap (λ xs. xs ++ said (listened fresh hb) (b ∷ [])) (sym i.says) ∙ ap (λ s. said-so ++ ((hearing s b).heard ∷ [])) (sym i.is));
      is = sym (ap (listened fresh) more ∙ listened-append fresh hb (b ∷ []) ∙ ap (λ s. (hearing s b).state) (sym i.is));
    }

module _ (d₀ : ℕ) (small₀ : d₀ < 2) where
  pub heard_as : {h : History} {q : List ℕ} {d : ℕ} {r : State} → Run d₀ h q d r → HearsAlone h → HeardAs (skipped h) (answers h) (carried d₀ h) r
  heard_as starts alone = record { says = refl; is = refl }
  heard_as (sends {h = h} e w is v run) (alone, _) =
      let t = told d₀ small₀ run in
      let i = heard_as run alone in
      let f = take-append-le (removed h) (carried d₀ h) (dword_bits (disparity_after_all d₀ (sent h)) w) t.within in
      simp (is, append-nil, add-zero) (record { says = rw f i.says; is = rw f i.is })
  heard_as (turns {h = h} e place is run) (alone, _) =
      let i = heard_as run alone in
      let f = take-set-le (removed h) (carried d₀ h) (removed h + place) (1 - get_or (carried d₀ h) (removed h + place) 0) (omega arith) in
      simp (is, append-nil, add-zero) (record { says = rw f i.says; is = rw f i.is })
  heard_as (takes e b is run) (alone, inl wrong) =
      let one = ap (λ x. x.takings) is in absurd (omega (arith, one, wrong))
  heard_as (takes e b is run) (alone, inr none) = simp (is, append-nil, add-zero) (take_heard (heard_as run alone) none)
  heard_as (hears e b is run) (alone, _) =
      let t = told d₀ small₀ run in
      let i = heard_as run alone in
      simp (is, append-nil, add-zero) (hear_heard i t.waits)
  heard_as (idles e is run) (alone, _) = simp (is, append-nil, add-zero) (heard_as run alone)
