-- The laws of turned bits.
use Rattle.std.proofs.Common.{◌≡◌, ℕ, zero, suc, ◌+◌, ◌-◌, ◌*◌, ◌/◌, ◌%◌, ◌^◌, ◌<◌, ◌≤◌, min, true, false, ◌⊎◌, List, ◌∷◌, ◌++◌, length, get_or, take, drop, sym, refl, ap, ◌∙◌, subst, inl, inr, arith, length-append, length-drop, take-append-drop, length-take, get_or-drop, get_or-take, take-take}
use lib.ListN.{get_or-append}
use Rattle.std.proofs.lemmas.List.{drop-take}
use Rattle.std.proofs.lemmas.Bool.{cases_lt, cases_eq, both_ways}
use borrow.Author.Tests.{clash}
use Rattle.link.specs.declared.dword.Dword.{Dword}
use Rattle.link.specs.declared.heard.GoodDword.{GoodDword}
use Rattle.link.specs.declared.heard.Heard.{Heard}
use Rattle.link.specs.declared.heard.Heard.TheVariants.{Dry, More, Gained, Good}
use Rattle.link.specs.declared.state.State.{State}
use Rattle.code.specs.Characters.{unlike}
use Rattle.link.specs.Sending.{stream, disparity_after_all}
use Rattle.link.specs.Hearing.{fresh}
use Rattle.link.specs.Readings.{dword, mask}
use Rattle.link.specs.declared.reading.Reading.TheVariants.{Refused}
use Rattle.transcript.specs.History.{History, sent, skipped, answers, put, carried, HearsAlone}
use Rattle.transcript.proofs.Runs.{Run}
use Rattle.transcript.specs.Laws.{TurnedBit, until_lost, kept, kept_end, AnswerAt, Spaced, Clean, UnlikeAt, VouchedBy, VouchedIsSent, SentAt, RefusedAt, NextUnlike, TurnedIsRefused, no_dword, kind_at, byte_at, AllValid}
use Rattle.transcript.proofs.Bits.{get_d_past}
use Rattle.transcript.proofs.Running.{said, said_take, length_said, mores, at_start}
use Rattle.transcript.proofs.Hunting.{Bits}
use Rattle.transcript.proofs.Commas.{BitsDrop, BitsStream}
use Rattle.transcript.proofs.InOrder.{synced}
use Rattle.transcript.proofs.Told.{told, heard_as}
use Rattle.transcript.proofs.HandedOut.{alike_take}
use Rattle.transcript.proofs.Track.{Nth, there, Telling, refused_at}
use Rattle.transcript.proofs.Vouching.{Pair, replies, vouched_right}
use Rattle.transcript.proofs.Spacing.{Sym, Differ, BitsTake}
use Rattle.transcript.proofs.Dwords.{syms, all_cells, pairs, Tracked, tracked}
use Rattle.transcript.proofs.DwordAnswers.{nth_cons, nth_mores, lost_mores, past_mores, from_answer, to_answer, has_reply}
use Rattle.transcript.proofs.GainingSync.{Hunts, hunting_shape}
use Rattle.transcript.proofs.NoSync.{Lacks, hunts?, never_shape}
use Rattle.transcript.proofs.Cells.{CellAt, cell_at, mask_bit, refused_bad, reply_bad}
use Rattle.transcript.proofs.Places.{nth_get, get_nth, nth_take, nth_after, nth_same, nth_pairs, lost_front, lost_short, lost_again, reply_good}
use Rattle.transcript.proofs.Streams.{length_stream, stream-append, same_answer, more_at, all_small, sym_at, drop_alike, cancel, valid-left, valid_right, valid-take, mores_at, no_gain}

module _ (d₀ : ℕ) (small₀ : d₀ < 2) (h : History) (q₀ : List ℕ) (d₉ : ℕ) (r₀ : State) (run : Run d₀ h q₀ d₉ r₀) (alone : HearsAlone h) where
  abbrev k : ℕ
  k = skipped h

  abbrev L : ℕ
  L = length (kept h)

  -- the answers kept are those of a fresh receiver to the bits heard by then
  pub kept_said : kept h ≡ said fresh (take L (drop k (carried d₀ h)))
  kept_said =
      let i = heard_as d₀ small₀ run alone in
      let m = length (answers h) in
      lost_front (answers h)
      ∙ ap (take L) (i.says ∙ ap (said fresh) (drop-take k m (carried d₀ h)))
      ∙ sym (said_take fresh L (take m (drop k (carried d₀ h))))
      ∙ ap (said fresh) (take-take L m (drop k (carried d₀ h)) (lost_short (answers h)))

  kept_at : (i : ℕ) → i < L → get_or (kept h) i Dry ≡ get_or (said fresh (drop k (carried d₀ h))) i Dry
  kept_at i lt = ap (λ xs. get_or xs i Dry) (kept_said ∙ said_take fresh L (drop k (carried d₀ h))) ∙ get_or-take L (said fresh (drop k (carried d₀ h))) i Dry lt

  abbrev pub T : ℕ → Type 0
  T p = TurnedBit d₀ h p × (p < kept_end h)

  -- where nothing is turned, the answers kept are those to the bits as put
  pub kept_quiet : (end : ℕ) → ((p : ℕ) → p < end → T p → ⊥) → (i : ℕ) → i < L → k + i + 1 ≤ end → get_or (kept h) i Dry ≡ get_or (said fresh (drop k (put d₀ h))) i Dry
  kept_quiet end none i lt within =
      let s = (told d₀ small₀ run).same_length in
      let short = lost_short (answers h) in
      kept_at i lt ∙ same_answer fresh (drop k (carried d₀ h)) (drop k (put d₀ h)) i
      (alike_take (suc i) (drop k (carried d₀ h)) (drop k (put d₀ h)) (length-drop k (carried d₀ h) ∙ ap (λ n. n - k) s ∙ sym (length-drop k (put d₀ h)))
      (λ j lj. get_or-drop k (carried d₀ h) j 0 ∙ elim (cases_eq (get_or (carried d₀ h) (k + j) 0) (get_or (put d₀ h) (k + j) 0)) [
        | inl e ↦ e
        | inr ne ↦ absurd (none (k + j) (omega arith) ((omega arith, omega (arith, short), ne), omega arith))
      ]
      ∙ sym (get_or-drop k (put d₀ h) j 0)))

  -- no bit is turned before sync is gained, wherever the stream as put would gain it
  pub early_clean : Spaced d₀ h → (end : ℕ) → ((i : ℕ) → k + i + 1 < end → get_or (said fresh (drop k (put d₀ h))) i Dry ≡ Gained → ⊥)
      → (b p : ℕ) → p < b → p < end → T p → ⊥
  early_clean spaced end quiet zero p lt within t = absurd (omega arith)
  early_clean spaced end quiet (suc b) p lt within (turned, inside) =
      let g = spaced.in_sync p turned inside in
      let i = g.0 in
      let at = g.1.0 in
      let before = g.1.1 in
      let clean : (q : ℕ) → q < k + i + 1 → T q → ⊥ = λ q lq. early_clean spaced end quiet b q (omega arith) (omega arith) in
      quiet i (omega arith) (sym (kept_quiet (k + i + 1) clean i at.0 (omega arith)) ∙ at.1)

  -- a stream that brings no three K28.5 primitives: nothing is turned, and nothing but more is answered
  module _ (spaced : Spaced d₀ h) (lacks : Lacks k (sent h)) where
    pub never_turned : (p : ℕ) → T p → ⊥
    never_turned p t =
        let sh = never_shape lacks 0 d₀ (told d₀ small₀ run).valid small₀ in
        early_clean spaced (suc p) (λ i w gained. no_gain sh.0 i (sym (ap (λ r. get_or r i Dry) sh.1) ∙ gained)) (suc p) p (omega arith) (omega arith) t

    pub never_answers : (i : ℕ) (a : Heard) → AnswerAt h i a → (a ≡ More) ⊎ (a ≡ Dry)
    never_answers i a (lt, is) =
        let sh = never_shape lacks 0 d₀ (told d₀ small₀ run).valid small₀ in
        let e = sym is ∙ kept_quiet (k + i + 1) (λ p w. never_turned p) i lt (omega arith) ∙ ap (λ r. get_or r i Dry) sh.1 in
        elim (mores_at sh.0 i) [ inl m ↦ inl (e ∙ m) | inr m ↦ inr (e ∙ m) ]

  module _ (spaced : Spaced d₀ h) (ws₁ ws₂ : List Dword) (split : sent h ≡ ws₁ ++ ws₂) (hunts : Hunts k ws₁) where
    abbrev N : ℕ
    N = 40 * length ws₁

    abbrev d₁ : ℕ
    d₁ = disparity_after_all d₀ ws₁

    abbrev C : List ℕ
    C = carried d₀ h

    valid₁ : AllValid ws₁
    valid₁ = valid-left ws₁ ws₂ (subst AllValid split (told d₀ small₀ run).valid)

    valid₂ : AllValid ws₂
    valid₂ = valid_right ws₁ ws₂ (subst AllValid split (told d₀ small₀ run).valid)

    put_split : put d₀ h ≡ stream d₀ ws₁ ++ stream d₁ ws₂
    put_split = ap (stream d₀) split ∙ stream-append d₀ ws₁ ws₂

    -- up to the third K28.5 primitive nothing is turned
    pub clean_below : (p : ℕ) → p < N → T p → ⊥
    clean_below p lt t =
        let sh = hunting_shape hunts 0 d₀ valid₁ small₀ (stream d₁ ws₂) (BitsStream d₁ ws₂) in
        early_clean spaced N
        (λ i w gained.
        let e : get_or (said fresh (drop k (put d₀ h))) i Dry ≡ More =
        ap (λ b. get_or (said fresh (drop k b)) i Dry) put_split ∙ ap (λ r. get_or r i Dry) sh.1.1 ∙ more_at sh.0 i _ (omega (arith, sh.1.0)) in
        cc)
        (suc p) p (omega arith) lt t

    -- while the third has not ended, nothing but more is answered
    pub near_answers : kept_end h < N → (i : ℕ) (a : Heard) → AnswerAt h i a → a ≡ More
    near_answers near i a (lt, is) =
        let sh = hunting_shape hunts 0 d₀ valid₁ small₀ (stream d₁ ws₂) (BitsStream d₁ ws₂) in
        sym is ∙ kept_quiet N clean_below i lt (omega arith) ∙ ap (λ b. get_or (said fresh (drop k b)) i Dry) put_split ∙ ap (λ r. get_or r i Dry) sh.1.1 ∙ more_at sh.0 i _ (omega (arith, sh.1.0))

    module _ (far : N ≤ kept_end h) where
      abbrev x : List ℕ
      x = drop N (take (k + L) C)

      abbrev S : List Heard
      S = said (at_start d₁ (synced 0 0 0 false 0)) x

      inside : k + L ≤ length C
      inside = let t = (told d₀ small₀ run).within in let s = lost_short (answers h) in omega arith

      length_x : length x ≡ k + L - N
      length_x = length-drop N (take (k + L) C) ∙ ap (λ n. n - N) (length-take (k + L) C ∙ (let z : min (k + L) (length C) ≡ k + L = omega (arith, inside) in z))

      bits_are : take L (drop k C) ≡ drop k (stream d₀ ws₁ ++ x)
      bits_are =
          let la : length (take (k + L) C) ≡ k + L = length-take (k + L) C ∙ (let z : min (k + L) (length C) ≡ k + L = omega (arith, inside) in z) in
          let ls = length_stream d₀ ws₁ in
          let short = lost_short (answers h) in
          sym (drop-take k L C)
          ∙ drop_alike k (take (k + L) C) (stream d₀ ws₁ ++ x) (la ∙ sym (length-append (stream d₀ ws₁) x ∙ (let z : length (stream d₀ ws₁) + length x ≡ k + L = omega (arith, ls, length_x) in z)))
          (λ i lo hi. elim (cases_lt i N) [
            | inl lt ↦ get_or-take (k + L) C i 0 (omega (arith, la))
                ∙ elim (cases_eq (get_or C i 0) (get_or (put d₀ h) i 0)) [ inl e ↦ e | inr ne ↦ absurd (clean_below i lt ((lo, omega (arith, la, short), ne), omega (arith, la))) ]
                ∙ ap (λ b. get_or b i 0) put_split
                ∙ get_or-append (stream d₀ ws₁) (stream d₁ ws₂) 0 i (omega (arith, ls))
                ∙ sym (get_or-append (stream d₀ ws₁) x 0 i (omega (arith, ls)))
            | inr ge ↦ let z : i ≡ N + (i - N) = omega arith in
                ap (λ n. get_or (take (k + L) C) n 0) z
                ∙ sym (get_or-drop N (take (k + L) C) (i - N) 0)
                ∙ sym (get_d_past (stream d₀ ws₁) x (i - N) N ls)
                ∙ ap (λ n. get_or (stream d₀ ws₁ ++ x) n 0) (sym z)
          ])

      bits_x : Bits x
      bits_x = BitsDrop N _ (BitsTake (k + L) C (told d₀ small₀ run).binary)

      pub shape : (n : ℕ) × ((n + 1 + k ≡ N) × (kept h ≡ mores n ++ (Gained ∷ S)))
      shape = let sh = hunting_shape hunts 0 d₀ valid₁ small₀ x bits_x in
          (sh.0, (sh.1.0, kept_said ∙ ap (said fresh) bits_are ∙ sh.1.1))

      lost_s : until_lost S ≡ S
      lost_s = let n = shape.0 in let e = shape.1.1 in
          ap (drop 1) (cancel n (Gained ∷ until_lost S) (Gained ∷ S) (sym (lost_mores n (Gained ∷ S)) ∙ ap until_lost (sym e) ∙ lost_again (answers h) ∙ e))

      -- the dwords heard whole in sync
      abbrev vs : List Dword
      vs = take (length x / 40) ws₂

      length_vs : length vs ≡ length x / 40
      length_vs =
          let a = (told d₀ small₀ run).same_length in
          let b = length_stream d₀ (sent h) in
          let c = ap length split ∙ length-append ws₁ ws₂ in
          length-take (length x / 40) ws₂ ∙ (let z : min (length x / 40) (length ws₂) ≡ length x / 40 = omega (arith, a, b, c, inside, length_x) in z)

      abbrev pub U : ℕ → Type 0
      U c = UnlikeAt h c × Clean d₀ h c

      pub between : (p q : ℕ) → T p → T q → p < q → (c : ℕ) × ((p < 10 * c) × (10 * c + 10 ≤ q) × U c)
      between p q (tp, ip) (tq, iq) lt = let r = spaced.between p q tp tq lt iq in (r.0, (r.1.0, r.1.1, (r.1.2, r.1.3)))

      -- a dword heard whole in sync, among those sent
      pub nth_sent : {j : ℕ} {w : Dword} → Nth vs j w → (length ws₁ + j < length (sent h)) × (get_or (sent h) (length ws₁ + j) no_dword ≡ w)
      nth_sent {j} {w} nth = nth_get no_dword (subst (λ ds. Nth ds (length ws₁ + j) w) (sym split) (nth_after ws₁ (nth_take (length x / 40) nth)))

      tells : (j : ℕ) (w : Dword) (r : ℕ) (s : Sym) → Nth vs j w → Nth (syms w) r s → U (4 * (length ws₁ + j) + r) → unlike s.kind s.byte ≡ true
      tells j w r s nj nr (un, cl) =
          let y = sym_at w nr in
          let g = (nth_sent nj).1 in
          let e₁ : (4 * (length ws₁ + j) + r) / 4 ≡ length ws₁ + j = omega (arith, y.0) in
          let e₂ : (4 * (length ws₁ + j) + r) % 4 ≡ r = omega (arith, y.0) in
          cc (un.1, y.1, y.2)

      -- a bit heard in sync is a bit carried, and of the stream it is a bit put
      heard_bit : (i : ℕ) → i < 40 * length vs → get_or x i 0 ≡ get_or C (N + i) 0
      heard_bit i lt =
          let lv = length_vs in
          let lx = length_x in
          get_or-drop N (take (k + L) C) i 0 ∙ get_or-take (k + L) C (N + i) 0 (omega arith)

      put_bit : (i : ℕ) → i < 40 * length vs → get_or (put d₀ h) (N + i) 0 ≡ get_or (stream d₁ vs) i 0
      put_bit i lt =
          let behind = drop (length x / 40) ws₂ in
          let later : stream d₁ ws₂ ≡ stream d₁ vs ++ stream (disparity_after_all d₁ vs) behind =
          ap (stream d₁) (sym (take-append-drop (length x / 40) ws₂)) ∙ stream-append d₁ vs behind in
          ap (λ b. get_or b (N + i) 0) put_split ∙ get_d_past (stream d₀ ws₁) (stream d₁ ws₂) i N (length_stream d₀ ws₁)
          ∙ ap (λ b. get_or b i 0) later
          ∙ get_or-append (stream d₁ vs) (stream (disparity_after_all d₁ vs) behind) 0 i (omega (arith, length_stream d₁ vs))

      turns : (i : ℕ) → i < 40 * length vs → Differ x (stream d₁ vs) i → T (40 * length ws₁ + i)
      turns i lt df =
          let lv = length_vs in
          let lx = length_x in
          let short = lost_short (answers h) in
          let before = shape.1.0 in
          ((omega (arith, before), omega (arith, short), λ e. df (heard_bit i lt ∙ e ∙ put_bit i lt)), omega arith)

      d₁_small : d₁ < 2
      d₁_small = all_small d₀ ws₁ small₀

      pub in_track : Tracked T U between d₁ d₁ false vs x
      in_track = tracked T U between vs (length ws₁) d₁ d₁ false x (valid-take (length x / 40) ws₂ valid₂) d₁_small (omega (arith, length_vs)) bits_x turns tells (inl refl) (λ e. absurd (clash e))

      abbrev ps : List Pair
      ps = pairs d₁ vs x

      -- an answer in sync is more, gained, or the reply to a dword
      pub sync_answer : (i : ℕ) (a : Heard) → AnswerAt h i a →
          ((a ≡ More) ⊎ (a ≡ Gained)) ⊎ ((j : ℕ) × ((k + i + 1 ≡ 40 * (length ws₁ + j) + 40) × Nth (replies (synced 0 0 0 false 0) ps) j a))
      sync_answer i a (lt, is) =
          let n = shape.0 in
          let e = shape.1.0 in
          elim (nth_mores n i (Gained ∷ S) a (subst (λ xs. Nth xs i a) shape.1.1 (get_nth Dry (kept h) i lt is))) [
            | inl more ↦ inl (inl more)
            | inr r ↦ elim (nth_cons r.1.1) [
              | inl z ↦ inl (inr z.1)
              | inr z ↦ elim (from_answer vs d₁ (synced 0 0 0 false 0) x refl (omega (arith, length_vs)) (omega (arith, length_vs)) z.0 a (subst (λ xs. Nth xs z.0 a) (sym lost_s) z.1.1)) [
                | inl more ↦ inl (inl more)
                | inr y ↦ inr (y.0, (omega (arith, e, r.1.0, z.1.0, y.1.0), y.1.1))
              ]
            ]
          ]

      -- what is vouched for is what was sent there
      pub vouched_far : (i j : ℕ) (g : GoodDword) (a : Heard) → AnswerAt h i (Good g) → AnswerAt h j a → VouchedBy a g.number → SentAt h (k + i + 1) g.dword
      vouched_far i j g a at_i at_j vouch =
          let n = g.number in
          let l = synced 0 0 0 false 0 in
          let R : ℕ → Type 0 = λ q. (y : Pair) → Nth ps q y → dword y.judged_as ≡ y.sent_as in
          let right : (jj : ℕ) → Nth (replies l ps) jj a → R n = λ jj nj.
          vouched_right R ps l in_track.track d₁_small (omega arith) (λ e m lo hi. absurd (omega arith))
          (λ t y nt same y' nt'. let e : y ≡ y' = nth_same nt (subst (λ o. Nth ps o y') (let z : 0 + t ≡ t = omega arith in z) nt') in subst (λ v. dword v.judged_as ≡ v.sent_as) e same)
          jj n a nj vouch in
          elim (sync_answer i (Good g) at_i) [
            | inl no-dword-here ↦ absurd (elim no-dword-here [ inl e ↦ cc | inr e ↦ cc ])
            | inr at ↦
                let got = reply_good ps l at.1.1 in
                let y = got.1.0 in
                let ny = got.1.1.0 in
                let rn : R n = elim (sync_answer j a at_j) [
                  | inl none ↦ elim none [ inl e ↦ absurd (subst (λ b. VouchedBy b n) e vouch) | inr e ↦ absurd (subst (λ b. VouchedBy b n) e vouch) ]
                  | inr other ↦ right other.0 other.1.1
                ] in
                let same : dword y.judged_as ≡ y.sent_as = rn y (subst (λ o. Nth ps o y) (let z : at.0 ≡ n = omega (arith, got.0) in z) ny) in
                let sn = nth_sent (nth_pairs d₁ vs x ny) in
                (length ws₁ + at.0, (at.1.0, sn.0, sn.1 ∙ sym same ∙ got.1.1.1))
          ]

      heard_as_put : (i : ℕ) → i < 40 * length vs → TurnedBit d₀ h (N + i) → Differ x (stream d₁ vs) i
      heard_as_put i lt t same =
          t.2 (sym (heard_bit i lt) ∙ same ∙ sym (put_bit i lt))

      abbrev a : ℕ
      a = length ws₁

      char_cell : (j r : ℕ) → j < length vs → r < 4 → CellAt d₁ d₁ vs x j r
      char_cell j r lj lr = cell_at vs d₁ d₁ x j r lj lr (omega (arith, length_vs))

      -- a refused character of a dword that ended in sync is reported
      reported : (j r : ℕ) (lj : j < length vs) (lr : r < 4) → (char_cell j r lj lr).cell.judged_as ≡ Refused → RefusedAt h (4 * (a + j) + r)
      reported j r lj lr is =
          let cc₀ = char_cell j r lj lr in
          let l = synced 0 0 0 false 0 in
          let lv = length_vs in
          let v = sym cc₀.judged_is ∙ is in
          let ln : length (until_lost S) ≡ length x = ap length lost_s ∙ length_said _ x in
          let rep = has_reply vs d₁ l x refl (omega arith) (omega arith) j (omega (arith, ln)) in
          let told-bad = reply_bad ps l rep.1 cc₀.nth_pair (refused_bad cc₀.in_pair.judged_as r v) in
          let n = shape.0 in
          let e = shape.1.0 in
          let at-S : Nth S (40 * j + 39) rep.0 = subst (λ xs. Nth xs (40 * j + 39) rep.0) lost_s (to_answer vs d₁ l x refl (omega arith) j rep.0 rep.1) in
          let at-kept : Nth (kept h) (n + suc (40 * j + 39)) rep.0 = subst (λ xs. Nth xs (n + suc (40 * j + 39)) rep.0) (sym shape.1.1) (past_mores n (suc (40 * j + 39)) (Gained ∷ S) rep.0 (there at-S)) in
          let got = nth_get Dry at-kept in
          let e₁ : (4 * (a + j) + r) / 4 ≡ a + j = omega arith in
          let e₂ : (4 * (a + j) + r) % 4 ≡ r = omega arith in
          let place : mask cc₀.in_pair.judged_as / 2 ^ ((4 * (a + j) + r) % 4) % 2 ≡ 1 =
          subst (λ i. mask cc₀.in_pair.judged_as / 2 ^ i % 2 ≡ 1) (sym e₂) (mask_bit cc₀.in_pair.judged_as r lr v) in (
            n + suc (40 * j + 39),
            (
              told-bad.report,
              ((got.0, got.1 ∙ told-bad.is), omega (arith, e, e₁), subst (λ m. m / 2 ^ ((4 * (a + j) + r) % 4) % 2 ≡ 1) (sym told-bad.mask_is) place),
            ),
          )

      -- the columns of a character in sync
      columns_at : (j r : ℕ) (lj : j < length vs) (lr : r < 4) →
          (unlike (kind_at ((4 * (a + j) + r) % 4) (get_or (sent h) ((4 * (a + j) + r) / 4) no_dword)) (byte_at ((4 * (a + j) + r) % 4) (get_or (sent h) ((4 * (a + j) + r) / 4) no_dword))
          ≡ unlike (char_cell j r lj lr).cell.kind (char_cell j r lj lr).cell.byte) × ((4 * (a + j) + r) / 4 < length (sent h))
      columns_at j r lj lr =
          let c = char_cell j r lj lr in
          let s = nth_sent c.nth_w in
          let e₁ : (4 * (a + j) + r) / 4 ≡ a + j = omega arith in
          let e₂ : (4 * (a + j) + r) % 4 ≡ r = omega arith in
          (cc (s.1, c.kind_is, c.byte_is), omega (arith, e₁, s.0))

      clean_cell : (j r : ℕ) (lj : j < length vs) (lr : r < 4) → Clean d₀ h (4 * (a + j) + r) → (char_cell j r lj lr).cell.struck_bit ≡ false
      clean_cell j r lj lr cl = (char_cell j r lj lr).says.if_clean
          (λ i lt df. let t = turns (40 * j + 10 * r + i) (omega arith) df in cl (N + (40 * j + 10 * r + i)) (omega arith) (omega arith) t.0)

      struck_cell : (j r : ℕ) (lj : j < length vs) (lr : r < 4) (q : ℕ) → 10 * (4 * (a + j) + r) ≤ q → q < 10 * (4 * (a + j) + r) + 10 → TurnedBit d₀ h q → (char_cell j r lj lr).cell.struck_bit ≡ true
      struck_cell j r lj lr q lo hi t =
          let i = q - 10 * (4 * (a + j) + r) in
          let z : q ≡ N + (40 * j + 10 * r + i) = omega arith in
          (char_cell j r lj lr).says.if_turned i (omega arith) (heard_as_put (40 * j + 10 * r + i) (omega arith) (subst (TurnedBit d₀ h) z t))

      pub refused_far : (j₀ r₀ jᵤ rᵤ p : ℕ) → j₀ < length vs → r₀ < 4 → jᵤ < length vs → rᵤ < 4 → 10 * (4 * (a + j₀) + r₀) ≤ p → p < 10 * (4 * (a + j₀) + r₀) + 10 →
          TurnedBit d₀ h p → NextUnlike d₀ h (4 * (a + j₀) + r₀) (4 * (a + jᵤ) + rᵤ) → RefusedAt h (4 * (a + j₀) + r₀) ⊎ RefusedAt h (4 * (a + jᵤ) + rᵤ)
      refused_far j₀ r₀ jᵤ rᵤ p l₀ m₀ lᵤ mᵤ lo hi t nx =
          let c₀ = char_cell j₀ r₀ l₀ m₀ in
          let cᵤ = char_cell jᵤ rᵤ lᵤ mᵤ in
          let telling : Telling cᵤ.cell = (clean_cell jᵤ rᵤ lᵤ mᵤ nx.clean, sym (columns_at jᵤ rᵤ lᵤ mᵤ).0 ∙ nx.columns.1) in
          let after-it = nx.later in
          elim (refused_at in_track.steps c₀.nth (struck_cell j₀ r₀ l₀ m₀ p lo hi t) (omega arith) cᵤ.nth telling
          (λ v y lv uv ny tells-y.
          let j = v / 4 in
          let r = v % 4 in
          let lj : j < length vs = omega arith in
          let lr : r < 4 = omega arith in
          let cv = char_cell j r lj lr in
          let same : cv.cell ≡ y = nth_same cv.nth (subst (λ i. Nth (all_cells d₁ d₁ vs x) i y) (let z : v ≡ 4 * j + r = omega arith in z) ny) in
          let tells-v : Telling cv.cell = subst Telling (sym same) tells-y in
          let col = columns_at j r lj lr in
          nx.first (4 * (a + j) + r) (omega arith) (omega arith) (col.1, col.0 ∙ tells-v.1)
          (λ q ql qh tq. both_ways cv.cell.struck_bit tells-v.0 (struck_cell j r lj lr q ql qh tq)))) [
            | inl own ↦ inl (reported j₀ r₀ l₀ m₀ own)
            | inr later-one ↦ inr (reported jᵤ rᵤ lᵤ mᵤ later-one)
          ]

  pub vouched_is_sent : Spaced d₀ h → VouchedIsSent h
  vouched_is_sent spaced i j g a at_i at_j vouch = elim (hunts? (sent h) k) [
    | inr lacks ↦ elim (never_answers spaced lacks i (Good g) at_i) [ inl e ↦ absurd (cc) | inr e ↦ absurd (cc) ]
    | inl found ↦ elim (cases_lt (kept_end h) (40 * length found.front)) [
      | inl near ↦
          let e = near_answers spaced found.front found.rest found.is found.holds near i (Good g) at_i in
          absurd (cc)
      | inr far ↦ vouched_far spaced found.front found.rest found.is found.holds far i j g a at_i at_j vouch
    ]
  ]

  pub turned_is_refused : Spaced d₀ h → TurnedIsRefused d₀ h
  turned_is_refused spaced p u t inside-it nx whole = elim (hunts? (sent h) k) [
    | inr lacks ↦ absurd (never_turned spaced lacks p (t, inside-it))
    | inl found ↦
        let ws₁ = found.front in
        let ws₂ = found.rest in
        let a = length ws₁ in
        elim (cases_lt p (40 * a)) [
          | inl early-bit ↦ absurd (clean_below spaced ws₁ ws₂ found.is found.holds p early-bit (t, inside-it))
          | inr late ↦
              let far : 40 * a ≤ kept_end h = omega arith in
              let lv = length_vs spaced ws₁ ws₂ found.is found.holds far in
              let lx = length_x spaced ws₁ ws₂ found.is found.holds far in
              let after-it = nx.later in
              let j₀ = p / 10 / 4 - a in
              let r₀ = p / 10 % 4 in
              let jᵤ = u / 4 - a in
              let rᵤ = u % 4 in
              let e₀ : p / 10 ≡ 4 * (a + j₀) + r₀ = omega arith in
              let eᵤ : u ≡ 4 * (a + jᵤ) + rᵤ = omega arith in
              let done = refused_far spaced ws₁ ws₂ found.is found.holds far j₀ r₀ jᵤ rᵤ p (omega arith) (omega arith) (omega arith) (omega arith) (omega arith) (omega arith) t
              (subst (λ c. NextUnlike d₀ h c (4 * (a + jᵤ) + rᵤ)) e₀ (subst (λ c. NextUnlike d₀ h (p / 10) c) eᵤ nx)) in
              subst (λ c. RefusedAt h (p / 10) ⊎ RefusedAt h c) (sym eᵤ) (subst (λ c. RefusedAt h c ⊎ RefusedAt h (4 * (a + jᵤ) + rᵤ)) (sym e₀) done)
        ]
  ]
