-- Numbers run on over a whole history, and a stretch holds only what was handed out.
use Rattle.std.proofs.Common.{◌≡◌, ℕ, suc, ◌+◌, ◌<◌, ◌≤◌, List, [], ◌∷◌, ◌++◌, length, get_or, Option, sym, refl, ap, ◌∙◌, subst, inl, inr, append_assoc, append-nil, arith, length-append, get_or-take}
use lib.ListN.{get_or-append}
use Rattle.std.proofs.lemmas.Bool.{cases_lt}
use Rattle.link.specs.declared.state.Ledger.{Ledger}
use Rattle.link.specs.declared.heard.Settlement.{Settlement}
use Rattle.link.specs.declared.heard.GoodDword.{GoodDword}
use Rattle.link.specs.declared.heard.Heard.{Heard}
use Rattle.link.specs.declared.heard.Heard.TheVariants.{Dry, Good}
use Rattle.link.specs.declared.state.State.{State}
use Rattle.transcript.specs.declared.call.LinkEvent.{LinkEvent}
use Rattle.link.specs.Hearing.{hearing, settlement}
use Rattle.link.specs.declared.reading.Verdict.{Verdict}
use Rattle.transcript.specs.History.{History, deed, answers}
use Rattle.transcript.proofs.Runs.{Run, starts, sends, turns, takes, hears, idles}
use Rattle.transcript.specs.Laws.{VouchedBy, vouched_in, VouchedWasHanded, NumberedInOrder, kept}
use Rattle.transcript.specs.Answering.{numbers_by, numbers}
use Rattle.transcript.proofs.OneHearing.{Moves, quiet, good, bad, hearing_moves}
use Rattle.transcript.proofs.Vouching.{settle_vouches, still_le}
use Rattle.transcript.proofs.Places.{lost_front, lost_short}

-- a number handed out by one of the first j answers
abbrev HandedBefore : ℕ → List Heard → ℕ → Type 0
HandedBefore j rs n = (i : ℕ) × ((g : GoodDword) × ((i < j) × (g.number ≡ n) × (get_or rs i Dry ≡ Good g)))

record Kept (rs : List Heard) (l : Ledger) : Type 0 where
  count : length (numbers rs) ≡ l.number
  in_order : (i : ℕ) → i < l.number → get_or (numbers rs) i 0 ≡ i
  within : l.pending ≤ l.number
  stretch : (n : ℕ) → l.number ≤ n + l.pending → n < l.number → HandedBefore (length rs) rs n
  vouched : (j n : ℕ) → j < length rs → VouchedBy (get_or rs j Dry) n → HandedBefore j rs n

numbers-append : (rs : List Heard) (a : Heard) → numbers (rs ++ (a ∷ [])) ≡ numbers rs ++ numbers_by a
numbers-append [] a = append-nil (numbers_by a)
numbers-append (x ∷ rs) a = ap (λ r. numbers_by x ++ r) (numbers-append rs a) ∙ sym (append_assoc (numbers_by x) (numbers rs) (numbers_by a))

last_at : {A : Type 0} (xs : List A) (a z : A) → get_or (xs ++ (a ∷ [])) (length xs) z ≡ a
last_at [] a z = refl
last_at (x ∷ xs) a z = last_at xs a z

one_longer : (rs : List Heard) (a : Heard) → length (rs ++ (a ∷ [])) ≡ suc (length rs)
one_longer rs a = length-append rs (a ∷ []) ∙ (let e : length rs + 1 ≡ suc (length rs) = omega arith in e)

-- handed out stays handed out
still : (rs : List Heard) (a : Heard) (j k n : ℕ) → j ≤ length rs → j ≤ k → HandedBefore j rs n → HandedBefore k (rs ++ (a ∷ [])) n
still rs a j k n le lk (i, (g, (lt, num, is))) = (i, (g, (omega arith, num, get_or-append rs (a ∷ []) Dry i (omega arith) ∙ is)))

-- an answer more, that vouches only for what was handed out before it
vouched_more : (rs : List Heard) (a : Heard) → ((j n : ℕ) → j < length rs → VouchedBy (get_or rs j Dry) n → HandedBefore j rs n)
    → ((n : ℕ) → VouchedBy a n → HandedBefore (length rs) rs n)
    → (j n : ℕ) → j < length (rs ++ (a ∷ [])) → VouchedBy (get_or (rs ++ (a ∷ [])) j Dry) n → HandedBefore j (rs ++ (a ∷ [])) n
vouched_more rs a old new j n lt v = elim (cases_lt j (length rs)) [
  | inl earlier ↦ still rs a j j n (omega arith) (omega arith) (old j n earlier (subst (λ x. VouchedBy x n) (get_or-append rs (a ∷ []) Dry j earlier) v))
  | inr ge ↦
      let len = one_longer rs a in
      let here : j ≡ length rs = omega (arith, len) in
      subst (λ k. HandedBefore k (rs ++ (a ∷ [])) n) (sym here)
      (still rs a (length rs) (length rs) n (omega arith) (omega arith)
      (new n (subst (λ x. VouchedBy x n) (ap (λ k. get_or (rs ++ (a ∷ [])) k Dry) here ∙ last_at rs a Dry) v)))
]

numbered_more : (xs : List ℕ) (m : ℕ) → length xs ≡ m → ((i : ℕ) → i < m → get_or xs i 0 ≡ i) → (i : ℕ) → i < m + 1 → get_or (xs ++ (m ∷ [])) i 0 ≡ i
numbered_more xs m len old i lt = elim (cases_lt i m) [
  | inl earlier ↦ get_or-append xs (m ∷ []) 0 i (omega arith) ∙ old i earlier
  | inr ge ↦ let here : i ≡ length xs = omega arith in ap (λ k. get_or (xs ++ (m ∷ [])) k 0) here ∙ last_at xs m 0 ∙ (let e : m ≡ i = omega arith in e)
]

in_stretch : (l : Ledger) (v : Option Verdict) (n : ℕ) → l.pending ≤ l.number → vouched_in (settlement v l) n → (l.number ≤ n + l.pending) × (n < l.number)
in_stretch l v n fits h = let q = settle_vouches v l n h in
    let some : 0 < l.pending = elim (cases_lt 0 l.pending) [ inl y ↦ y | inr z ↦ absurd (q.1.0 (omega arith)) ] in
    (omega (arith, q.1.1), omega (arith, q.1.2))

-- the same numbers, or the next one more
same_numbers : (rs : List Heard) (a : Heard) → numbers_by a ≡ [] → numbers (rs ++ (a ∷ [])) ≡ numbers rs
same_numbers rs a none = numbers-append rs a ∙ ap (λ r. numbers rs ++ r) none ∙ append-nil (numbers rs)

next_number : (rs : List Heard) (a : Heard) (m : ℕ) → numbers_by a ≡ m ∷ [] → numbers (rs ++ (a ∷ [])) ≡ numbers rs ++ (m ∷ [])
next_number rs a m is = numbers-append rs a ∙ ap (λ r. numbers rs ++ r) is

module _ (rs : List Heard) (l : Ledger) (k : Kept rs l) (a : Heard) (m : Ledger) where
  settled : (v : Option Verdict) (n : ℕ) → vouched_in (settlement v l) n → HandedBefore (length rs) rs n
  settled v n h = let b = in_stretch l v n k.within h in k.stretch n b.0 b.1

  counted : numbers_by a ≡ l.number ∷ [] → m.number ≡ l.number + 1 → (length (numbers (rs ++ (a ∷ []))) ≡ m.number) × ((i : ℕ) → i < m.number → get_or (numbers (rs ++ (a ∷ []))) i 0 ≡ i)
  counted is up =
      let e = next_number rs a l.number is in
      let len = length-append (numbers rs) (l.number ∷ []) in
      let c = k.count in (
        ap length e ∙ len ∙ (let z : length (numbers rs) + 1 ≡ m.number = omega (arith, c, up) in z),
        λ i lt. ap (λ r. get_or r i 0) e ∙ numbered_more (numbers rs) l.number c k.in_order i (omega (arith, up)),
      )

  -- what an answer vouches for was handed out before it
  vouches_old : (v : Option Verdict) (s : Option Settlement) (n : ℕ) → s ≡ settlement v l → vouched_in s n → HandedBefore (length rs) rs n
  vouches_old v s n e h = settled v n (subst (λ y. vouched_in y n) e h)

  kept_on : Moves l a m → Kept (rs ++ (a ∷ [])) m
  kept_on (quiet none silent same fewer) =
      let e = same_numbers rs a none in
      let w = k.within in
      record {
        count = ap length e ∙ k.count ∙ sym same;
        in_order = λ i lt. ap (λ r. get_or r i 0) e ∙ k.in_order i (omega (arith, same));
        within = omega (arith, same, fewer, w);
        stretch = λ n lo hi. still rs a (length rs) _ n (omega arith) (let len = one_longer rs a in omega (arith, len)) (k.stretch n (omega (arith, same, fewer)) (omega (arith, same)));
        vouched = vouched_more rs a k.vouched (λ n v. absurd (silent n v));
      }
  kept_on (good g v is settles num up pend) =
      let c = counted (ap numbers_by is ∙ ap (λ i. i ∷ []) num) up in
      let fits = k.within in
      let le = still_le v l.pending in
      let len = one_longer rs a in
      record {
        count = c.0;
        in_order = c.1;
        within = omega (arith, up, pend, le, fits);
        stretch = λ n lo hi. elim (cases_lt n l.number) [
          | inl earlier ↦ still rs a (length rs) _ n (omega arith) (omega (arith, len)) (k.stretch n (omega (arith, up, pend, le)) earlier)
          | inr ge ↦ (length rs, (g, (omega (arith, len), omega (arith, up, num), last_at rs a Dry ∙ is)))
        ];
        vouched = vouched_more rs a k.vouched (λ n h. vouches_old v g.settlement n settles (subst (λ y. VouchedBy y n) is h));
      }
  kept_on (bad b v is settles num up pend) =
      let c = counted (ap numbers_by is ∙ ap (λ i. i ∷ []) num) up in
      record {
        count = c.0;
        in_order = c.1;
        within = omega (arith, pend);
        stretch = λ n lo hi. absurd (omega (arith, pend));
        vouched = vouched_more rs a k.vouched (λ n h. vouches_old v b.settlement n settles (subst (λ y. VouchedBy y n) is h));
      }

-- an event by which no bit was heard
unheard : (h : History) (r : State) (e : LinkEvent) → (deed e).answers ≡ [] → Kept (answers h) r.ledger → Kept (answers (e ∷ h)) r.ledger
unheard h r e none k = subst (λ xs. Kept xs r.ledger) (sym (ap (λ xs. answers h ++ xs) none ∙ append-nil (answers h))) k

kept-over : {d₀ : ℕ} {h : History} {q : List ℕ} {d : ℕ} {r : State} → Run d₀ h q d r → Kept (answers h) r.ledger
kept-over starts = record {
  count = refl;
  in_order = λ i lt. absurd (omega arith);
  within = omega arith;
  stretch = λ n lo hi. absurd (omega arith);
  vouched = λ j n lt v. absurd (omega arith);
}
kept-over (sends {h} {q} {d} {r} e w is v run) = unheard h r e (ap (λ y. y.answers) is) (kept-over run)
kept-over (turns {h} {q} {d} {r} e place is run) = unheard h r e (ap (λ y. y.answers) is) (kept-over run)
kept-over (takes {h} {q} {d} {r} e b is run) = unheard h r e (ap (λ y. y.answers) is) (kept-over run)
kept-over (idles {h} {q} {d} {r} e is run) = unheard h r e (ap (λ y. y.answers) is) (kept-over run)
kept-over (hears {h} {q} {d} {r} e b is run) =
    subst (λ xs. Kept (answers h ++ xs) (hearing r b).state.ledger) (sym (ap (λ y. y.answers) is))
    (kept_on (answers h) r.ledger (kept-over run) (hearing r b).heard (hearing r b).state.ledger (hearing_moves r b))

-- the receiver has given as many numbers as the history tells
pub numbers_given : {d₀ : ℕ} {h : History} {q : List ℕ} {d : ℕ} {r : State} → Run d₀ h q d r → length (numbers (answers h)) ≡ r.ledger.number
numbers_given run = (kept-over run).count

pub numbered_in_order : {d₀ : ℕ} {h : History} {q : List ℕ} {d : ℕ} {r : State} → Run d₀ h q d r → NumberedInOrder h
numbered_in_order run i lt = let k = kept-over run in k.in_order i (let c = k.count in omega (arith, c))

-- the answers until sync is lost are the first of all
kept_get : (h : History) (i : ℕ) → i < length (kept h) → get_or (kept h) i Dry ≡ get_or (answers h) i Dry
kept_get h i lt = ap (λ r. get_or r i Dry) (lost_front (answers h)) ∙ get_or-take (length (kept h)) (answers h) i Dry lt

pub vouched_was_handed : {d₀ : ℕ} {h : History} {q : List ℕ} {d : ℕ} {r : State} → Run d₀ h q d r → VouchedWasHanded h
vouched_was_handed {h = h} run j n a (lt, is) v =
    let short = lost_short (answers h) in
    let found = (kept-over run).vouched j n (omega (arith, short)) (subst (λ y. VouchedBy y n) (sym (sym (kept_get h j lt) ∙ is)) v) in
    let i = found.0 in
    let before = found.1.1.0 in
    let inside : i < length (kept h) = omega (arith, before) in
    (i, (found.1.0, (before, found.1.1.1, (inside, kept_get h i inside ∙ found.1.1.2))))
