-- A run by what each of its events did, which is what the laws go by.
use Rattle.std.proofs.Common.{◌≡◌, ℕ, List, [], ◌∷◌, ◌++◌}
use Rattle.link.specs.declared.dword.Dword.{Dword}
use Rattle.link.specs.declared.state.State.{State}
use Rattle.link.specs.Hearing.{fresh, hearing}
use Rattle.link.specs.Sending.{ValidDword, dword_bits, disparity_after}
use Rattle.transcript.specs.declared.call.LinkEvent.{LinkEvent}
use Rattle.transcript.specs.History.{History, deed, nothing, sending_deed, turning_deed, taking_deed, hearing_deed}
use Rattle.transcript.proofs.Bits.{turn}

-- the bits that wait, the sender's disparity and the receiver's state after a history
pub data Run (d₀ : ℕ) : History → List ℕ → ℕ → State → Type 0 where
  starts : Run d₀ [] [] d₀ fresh
  sends : {h : History} {q : List ℕ} {d : ℕ} {r : State} (e : LinkEvent) (w : Dword) → deed e ≡ sending_deed w → ValidDword w
      → Run d₀ h q d r → Run d₀ (e ∷ h) (q ++ dword_bits d w) (disparity_after d w) r
  turns : {h : History} {q : List ℕ} {d : ℕ} {r : State} (e : LinkEvent) (place : ℕ) → deed e ≡ turning_deed place
      → Run d₀ h q d r → Run d₀ (e ∷ h) (turn place q) d r
  takes : {h : History} {q : List ℕ} {d : ℕ} {r : State} (e : LinkEvent) (b : ℕ) → deed e ≡ taking_deed
      → Run d₀ h (b ∷ q) d r → Run d₀ (e ∷ h) q d r
  hears : {h : History} {q : List ℕ} {d : ℕ} {r : State} (e : LinkEvent) (b : ℕ) → deed e ≡ hearing_deed (hearing r b).heard
      → Run d₀ h (b ∷ q) d r → Run d₀ (e ∷ h) q d (hearing r b).state
  idles : {h : History} {q : List ℕ} {d : ℕ} {r : State} (e : LinkEvent) → deed e ≡ nothing
      → Run d₀ h q d r → Run d₀ (e ∷ h) q d r
