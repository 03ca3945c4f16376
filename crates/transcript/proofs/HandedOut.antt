-- The dwords handed out over a history without a turned bit.
use Rattle.std.proofs.Common.{◌≡◌, ℕ, zero, suc, ◌+◌, ◌-◌, ◌<◌, ◌≤◌, List, [], ◌∷◌, length, get_or, take, drop, sym, refl, ap, ◌∙◌, inl, inr, arith, length-drop, get_or-drop}
use Rattle.std.proofs.lemmas.List.{drop-take}
use Rattle.std.proofs.lemmas.Bool.{cases_eq}
use Rattle.link.specs.declared.state.State.{State}
use Rattle.link.specs.Hearing.{fresh}
use Rattle.transcript.specs.History.{History, sent, skipped, answers, put, carried, HearsAlone}
use Rattle.transcript.proofs.Runs.{Run}
use Rattle.transcript.specs.Laws.{HandedInOrder, handed}
use Rattle.transcript.proofs.Running.{said, said_take}
use Rattle.transcript.proofs.InOrder.{handed_hunting}
use Rattle.transcript.proofs.Told.{told, heard_as, heard-bits}

pub alike_take : (m : ℕ) (c p : List ℕ) → length c ≡ length p → ((i : ℕ) → i < m → get_or c i 0 ≡ get_or p i 0) → take m c ≡ take m p
alike_take zero c p l same = refl
alike_take (suc m) [] [] l same = refl
alike_take (suc m) [] (y ∷ p) l same = absurd (omega arith)
alike_take (suc m) (x ∷ c) [] l same = absurd (omega arith)
alike_take (suc m) (x ∷ c) (y ∷ p) l same =
    let e : x ≡ y = same 0 (omega arith) in
    ap (λ r. r ∷ take m c) e ∙ ap (λ r. y ∷ r) (alike_take m c p (omega arith) (λ i h. same (suc i) (omega arith)))

-- two lists of one length that agree from k on for m places are heard alike
pub heard_alike : (c p : List ℕ) (k m : ℕ) → length c ≡ length p → ((i : ℕ) → k ≤ i → i < k + m → get_or c i 0 ≡ get_or p i 0) → heard-bits c k m ≡ heard-bits p k m
heard_alike c p k m l same =
    drop-take k m c
    ∙ alike_take m (drop k c) (drop k p) (length-drop k c ∙ ap (λ n. n - k) l ∙ sym (length-drop k p))
    (λ i h. get_or-drop k c i 0 ∙ same (k + i) (omega arith) (omega arith) ∙ sym (get_or-drop k p i 0))
    ∙ sym (drop-take k m p)

module _ (d₀ : ℕ) (small₀ : d₀ < 2) where
  pub in_order : {h : History} {q : List ℕ} {d : ℕ} {r : State} → Run d₀ h q d r → HearsAlone h → HandedInOrder d₀ h
  in_order {h} run alone none =
      let t = told d₀ small₀ run in
      let i = heard_as d₀ small₀ run alone in
      let k = skipped h in
      let m = length (answers h) in
      let same : heard-bits (carried d₀ h) k m ≡ heard-bits (put d₀ h) k m = heard_alike (carried d₀ h) (put d₀ h) k m t.same_length
      (λ p a b. elim (cases_eq (get_or (carried d₀ h) p 0) (get_or (put d₀ h) p 0)) [ inl e ↦ e | inr ne ↦ absurd (none p (a, b, ne)) ]) in
      ap handed (i.says ∙ ap (said fresh) (same ∙ drop-take k m (put d₀ h)) ∙ said_take fresh m (drop k (put d₀ h)))
      ∙ handed_hunting (sent h) m k d₀ 0 t.valid small₀
