-- Hunting forgets all but the last six bits: where no comma begins, it is as if it began one bit later.
use Rattle.std.proofs.Common.{◌≡◌, ℕ, suc, ◌+◌, ◌*◌, ◌%◌, ◌<◌, ◌≤◌, true, false, eqb, ◌⊎◌, List, [], ◌∷◌, ◌++◌, length, take, drop, sym, refl, ap, ◌∙◌, inl, inr, arith}
use Rattle.std.proofs.lemmas.Bool.{ne_eqb}
use Rattle.link.specs.declared.heard.Heard.TheVariants.{More}
use Rattle.link.specs.declared.reading.Reading.TheVariants.{Refused}
use Rattle.link.specs.declared.state.Ledger.{Ledger}
use Rattle.link.specs.declared.state.State.{State}
use Rattle.link.specs.Hearing.{hearing, hunted}
use Rattle.transcript.proofs.Bits.{number, Comma}
use Rattle.transcript.proofs.Running.{said, mores, at_start}

abbrev pub Bits : List ℕ → Type 0
Bits [] = Unit {0}
Bits (b ∷ bs) = (b < 2) × Bits bs

abbrev pub hunts : ℕ → ℕ → ℕ → Ledger → State
hunts v held d l = record { framing = record { hunting = true; loose = v; held = held; place = 0; first = Refused; second = Refused; third = Refused }; disparity = d; ledger = l }

abbrev pub hunting : ℕ → Ledger → State
hunting d l = hunts 0 0 d l

abbrev win : ℕ → ℕ → ℕ
win v b = (v * 2 + b) % 128

win_push : (u v b : ℕ) → u ≡ v → v < 64 → b < 2 → win u b ≡ v * 2 + b
win_push u v b e h k = omega arith

-- no seven bits at the head of a list are a comma
abbrev pub NoComma : List ℕ → Type 0
NoComma xs = 7 ≤ length xs → Comma (take 7 xs) → ⊥

module _ (d : ℕ) (l : Ledger) where
  -- the states after seven bits without a comma and after the last six of them go on alike
  go_on : (w u x : ℕ) (xs : List ℕ) → win w x ≡ win u x → said (hunts w 7 d l) (x ∷ xs) ≡ said (hunts u 6 d l) (x ∷ xs)
  unfolding hearing
  go_on w u x xs e = ap (λ n. More ∷ said (hunted (hunting d l) n 7) xs) e

  seven : (c x₁ x₂ x₃ x₄ x₅ x₆ : ℕ) → Bits (c ∷ x₁ ∷ x₂ ∷ x₃ ∷ x₄ ∷ x₅ ∷ x₆ ∷ []) →
      win (win (win (win (win (win (win 0 c) x₁) x₂) x₃) x₄) x₅) x₆ ≡ number (c ∷ x₁ ∷ x₂ ∷ x₃ ∷ x₄ ∷ x₅ ∷ x₆ ∷ [])
  seven c x₁ x₂ x₃ x₄ x₅ x₆ (b₀, (b₁, (b₂, (b₃, (b₄, (b₅, (b₆, _))))))) =
      let e₀ : win 0 c ≡ 0 * 2 + c = omega arith in
      let e₁ = win_push (win 0 c) (0 * 2 + c) x₁ e₀ (omega arith) b₁ in
      let e₂ = win_push _ _ x₂ e₁ (omega arith) b₂ in
      let e₃ = win_push _ _ x₃ e₂ (omega arith) b₃ in
      let e₄ = win_push _ _ x₄ e₃ (omega arith) b₄ in
      let e₅ = win_push _ _ x₅ e₄ (omega arith) b₅ in
      win_push _ _ x₆ e₅ (omega arith) b₆

  six : (x₁ x₂ x₃ x₄ x₅ x₆ : ℕ) → Bits (x₁ ∷ x₂ ∷ x₃ ∷ x₄ ∷ x₅ ∷ x₆ ∷ []) →
      win (win (win (win (win (win 0 x₁) x₂) x₃) x₄) x₅) x₆ ≡ number (x₁ ∷ x₂ ∷ x₃ ∷ x₄ ∷ x₅ ∷ x₆ ∷ [])
  six x₁ x₂ x₃ x₄ x₅ x₆ (b₁, (b₂, (b₃, (b₄, (b₅, (b₆, _)))))) =
      let e₁ : win 0 x₁ ≡ 0 * 2 + x₁ = omega arith in
      let e₂ = win_push (win 0 x₁) (0 * 2 + x₁) x₂ e₁ (omega arith) b₂ in
      let e₃ = win_push _ _ x₃ e₂ (omega arith) b₃ in
      let e₄ = win_push _ _ x₄ e₃ (omega arith) b₄ in
      let e₅ = win_push _ _ x₅ e₄ (omega arith) b₅ in
      win_push _ _ x₆ e₅ (omega arith) b₆

  no_match : (w n m : ℕ) → w ≡ n → (n ≡ m → ⊥) → eqb w m ≡ false
  no_match w n m e other = ne_eqb w m (λ q. other (sym e ∙ q))

  pub shift : (c : ℕ) (xs : List ℕ) → Bits (c ∷ xs) → NoComma (c ∷ xs) → said (hunting d l) (c ∷ xs) ≡ More ∷ said (hunting d l) xs
  unfolding hearing
  shift c [] b no-comma = refl
  shift c (x₁ ∷ []) b no-comma = refl
  shift c (x₁ ∷ x₂ ∷ []) b no-comma = refl
  shift c (x₁ ∷ x₂ ∷ x₃ ∷ []) b no-comma = refl
  shift c (x₁ ∷ x₂ ∷ x₃ ∷ x₄ ∷ []) b no-comma = refl
  shift c (x₁ ∷ x₂ ∷ x₃ ∷ x₄ ∷ x₅ ∷ []) b no-comma = refl
  shift c (x₁ ∷ x₂ ∷ x₃ ∷ x₄ ∷ x₅ ∷ x₆ ∷ []) b no-comma = refl
  shift c (x₁ ∷ x₂ ∷ x₃ ∷ x₄ ∷ x₅ ∷ x₆ ∷ x₇ ∷ xs) (b₀, (b₁, (b₂, (b₃, (b₄, (b₅, (b₆, (b₇, bs)))))))) no-comma =
      let s = seven c x₁ x₂ x₃ x₄ x₅ x₆ (b₀, (b₁, (b₂, (b₃, (b₄, (b₅, (b₆, tt))))))) in
      let t = six x₁ x₂ x₃ x₄ x₅ x₆ (b₁, (b₂, (b₃, (b₄, (b₅, (b₆, tt)))))) in
      rw (no_match _ _ 31 s (λ e. no-comma (omega arith) (inl e)), no_match _ _ 96 s (λ e. no-comma (omega arith) (inr e)))
      (ap (λ r. More ∷ More ∷ More ∷ More ∷ More ∷ More ∷ More ∷ r) (go_on _ _ x₇ xs (omega (arith, s, t))))

  -- and so over any number of bits at which no comma begins
  pub shifts : (ys xs : List ℕ) → Bits (ys ++ xs) → ((p : ℕ) → p < length ys → NoComma (drop p (ys ++ xs))) →
      said (hunting d l) (ys ++ xs) ≡ mores (length ys) ++ said (hunting d l) xs
  shifts [] xs b none = refl
  shifts (y ∷ ys) xs b none =
      shift y (ys ++ xs) b (none 0 (omega arith))
      ∙ ap (λ r. More ∷ r) (shifts ys xs b.1 (λ p h. none (suc p) (omega arith)))

  -- a comma begins a dword: at minus for 0011111, at plus for 1100000
  pub match : (e x₀ x₁ x₂ x₃ x₄ x₅ x₆ : ℕ) (xs : List ℕ) → Bits (x₀ ∷ x₁ ∷ x₂ ∷ x₃ ∷ x₄ ∷ x₅ ∷ x₆ ∷ []) →
      ((number (x₀ ∷ x₁ ∷ x₂ ∷ x₃ ∷ x₄ ∷ x₅ ∷ x₆ ∷ []) ≡ 31) × (e ≡ 0)) ⊎ ((number (x₀ ∷ x₁ ∷ x₂ ∷ x₃ ∷ x₄ ∷ x₅ ∷ x₆ ∷ []) ≡ 96) × (e ≡ 1)) →
      said (hunting d l) (x₀ ∷ x₁ ∷ x₂ ∷ x₃ ∷ x₄ ∷ x₅ ∷ x₆ ∷ xs) ≡ said (at_start e l) (x₀ ∷ x₁ ∷ x₂ ∷ x₃ ∷ x₄ ∷ x₅ ∷ x₆ ∷ xs)
  unfolding hearing
  match e x₀ x₁ x₂ x₃ x₄ x₅ x₆ xs b (inl (is, at)) =
      let s = seven x₀ x₁ x₂ x₃ x₄ x₅ x₆ b in
      rw (s, is, at) refl
  match e x₀ x₁ x₂ x₃ x₄ x₅ x₆ xs b (inr (is, at)) =
      let s = seven x₀ x₁ x₂ x₃ x₄ x₅ x₆ b in
      rw (s, is, at) refl
