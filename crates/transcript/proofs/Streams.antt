-- Streams of dwords and the answers to them, by their places.
use Rattle.std.proofs.Common.{◌≡◌, ℕ, zero, suc, ◌*◌, ◌<◌, ◌≤◌, ◌⊎◌, List, [], ◌∷◌, ◌++◌, length, get_or, take, drop, sym, refl, ap, ◌∙◌, inl, inr, append_assoc, arith, length-append, get_or-take}
use Rattle.link.specs.declared.dword.Dword.{Dword}
use Rattle.link.specs.declared.heard.Heard.{Heard}
use Rattle.link.specs.declared.heard.Heard.TheVariants.{Dry, More, Gained}
use Rattle.link.specs.declared.state.State.{State}
use Rattle.link.specs.Sending.{stream, dword_bits, disparity_after, disparity_after_all}
use Rattle.transcript.specs.Laws.{kind_at, byte_at, AllValid}
use Rattle.transcript.proofs.Bits.{length_dword}
use Rattle.transcript.proofs.Running.{said, said_take, mores}
use Rattle.transcript.proofs.InOrder.{dword_small}
use Rattle.transcript.proofs.Track.{Nth, here, there}
use Rattle.transcript.proofs.Spacing.{Sym}
use Rattle.transcript.proofs.Dwords.{syms}

pub length_stream : (d : ℕ) (ws : List Dword) → length (stream d ws) ≡ 40 * length ws
length_stream d [] = refl
length_stream d (w ∷ ws) = length-append (dword_bits d w) (stream (disparity_after d w) ws) ∙ (let a = length_dword d w in let b = length_stream (disparity_after d w) ws in omega arith)

pub stream-append : (d : ℕ) (ws vs : List Dword) → stream d (ws ++ vs) ≡ stream d ws ++ stream (disparity_after_all d ws) vs
stream-append d [] vs = refl
stream-append d (w ∷ ws) vs = ap (λ r. dword_bits d w ++ r) (stream-append (disparity_after d w) ws vs) ∙ sym (append_assoc (dword_bits d w) (stream (disparity_after d w) ws) (stream (disparity_after_all (disparity_after d w) ws) vs))

-- the answer to a bit hangs on the bits up to it
pub same_answer : (s : State) (x y : List ℕ) (i : ℕ) → take (suc i) x ≡ take (suc i) y → get_or (said s x) i Dry ≡ get_or (said s y) i Dry
same_answer s x y i e =
    sym (get_or-take (suc i) (said s x) i Dry (omega arith)) ∙ ap (λ r. get_or r i Dry) (sym (said_take s (suc i) x) ∙ ap (said s) e ∙ said_take s (suc i) y) ∙ get_or-take (suc i) (said s y) i Dry (omega arith)

pub more_at : (n i : ℕ) (r : List Heard) → i < n → get_or (mores n ++ r) i Dry ≡ More
more_at zero i r h = absurd (omega arith)
more_at (suc n) zero r h = refl
more_at (suc n) (suc i) r h = more_at n i r (omega arith)

pub all_small : (d : ℕ) (ws : List Dword) → d < 2 → disparity_after_all d ws < 2
all_small d [] h = h
all_small d (w ∷ ws) h = all_small (disparity_after d w) ws (dword_small d w h)

pub sym_at : (w : Dword) {r : ℕ} {s : Sym} → Nth (syms w) r s → (r < 4) × (kind_at r w ≡ s.kind) × (byte_at r w ≡ s.byte)
sym_at w here = (omega arith, refl, refl)
sym_at w (there here) = (omega arith, refl, refl)
sym_at w (there (there here)) = (omega arith, refl, refl)
sym_at w (there (there (there here))) = (omega arith, refl, refl)
sym_at w (there (there (there (there n)))) = elim n [ ]

pub drop_alike : (k : ℕ) (x y : List ℕ) → length x ≡ length y → ((i : ℕ) → k ≤ i → i < length x → get_or x i 0 ≡ get_or y i 0) → drop k x ≡ drop k y
drop_alike zero [] [] l same = refl
drop_alike (suc k) [] [] l same = refl
drop_alike zero [] (b ∷ y) l same = absurd (omega arith)
drop_alike (suc k) [] (b ∷ y) l same = absurd (omega arith)
drop_alike zero (a ∷ x) [] l same = absurd (omega arith)
drop_alike (suc k) (a ∷ x) [] l same = absurd (omega arith)
drop_alike zero (a ∷ x) (b ∷ y) l same =
    let e : a ≡ b = same 0 (omega arith) (omega arith) in
    let es = drop_alike zero x y (omega arith) (λ i p q. same (suc i) (omega arith) (omega arith)) in cc
drop_alike (suc k) (a ∷ x) (b ∷ y) l same = drop_alike k x y (omega arith) (λ i p q. same (suc i) (omega arith) (omega arith))

pub cancel : (n : ℕ) (r s : List Heard) → mores n ++ r ≡ mores n ++ s → r ≡ s
cancel zero r s e = e
cancel (suc n) r s e = cancel n r s (ap (drop 1) e)

pub valid-left : (ws vs : List Dword) → AllValid (ws ++ vs) → AllValid ws
valid-left [] vs v = tt
valid-left (w ∷ ws) vs (v, r) = (v, valid-left ws vs r)

pub valid_right : (ws vs : List Dword) → AllValid (ws ++ vs) → AllValid vs
valid_right [] vs v = v
valid_right (w ∷ ws) vs (v, r) = valid_right ws vs r

pub valid-take : (n : ℕ) (ws : List Dword) → AllValid ws → AllValid (take n ws)
valid-take zero ws v = tt
valid-take (suc n) [] v = tt
valid-take (suc n) (w ∷ ws) (v, r) = (v, valid-take n ws r)

pub mores_at : (n i : ℕ) → (get_or (mores n) i Dry ≡ More) ⊎ (get_or (mores n) i Dry ≡ Dry)
mores_at zero i = inr refl
mores_at (suc n) zero = inl refl
mores_at (suc n) (suc i) = mores_at n i

pub no_gain : (n i : ℕ) → get_or (mores n) i Dry ≡ Gained → ⊥
no_gain n i g = elim (mores_at n i) [
  | inl m ↦ cc
  | inr m ↦ cc
]
