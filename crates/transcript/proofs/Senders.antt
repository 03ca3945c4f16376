-- Equal bits are of equal dwords: a receiver in sync reads the dwords back.
use Rattle.std.proofs.Common.{◌≡◌, ℕ, ◌+◌, ◌*◌, ◌/◌, ◌<◌, ◌≤◌, false, List, [], ◌∷◌, length, take, sym, refl, ap, ◌∙◌, arith}
use Rattle.std.proofs.lemmas.List.{take_all}
use Rattle.link.specs.declared.dword.Dword.{Dword}
use Rattle.link.specs.Sending.{stream}
use Rattle.transcript.specs.History.{History, sent}
use Rattle.transcript.specs.Laws.{Numbered, numbered_from, handed, SendersAgree, AllValid}
use Rattle.transcript.proofs.Running.{said, at_start}
use Rattle.transcript.proofs.InOrder.{handed_synced, synced}

abbrev dwords : List Numbered → List Dword
dwords [] = []
dwords (x ∷ xs) = x.dword ∷ dwords xs

dwords-numbered : (n : ℕ) (ws : List Dword) → dwords (numbered_from n ws) ≡ ws
dwords-numbered n [] = refl
dwords-numbered n (w ∷ ws) = ap (λ r. w ∷ r) (dwords-numbered (n + 1) ws)

module _ (d : ℕ) (small : d < 2) where
  read_back : (ws : List Dword) (n : ℕ) → AllValid ws → length ws ≤ n → handed (take (40 * n) (said (at_start d (synced 0 0 0 false 0)) (stream d ws))) ≡ numbered_from 0 ws
  read_back ws n v h =
      handed_synced ws (40 * n) d 0 0 0 false 0 v small
      ∙ ap (λ k. numbered_from 0 (take k ws)) (let e : 40 * n / 40 ≡ n = omega arith in e) ∙ ap (numbered_from 0) (take_all n ws h)

  pub stream_injective : (ws vs : List Dword) → AllValid ws → AllValid vs → stream d ws ≡ stream d vs → ws ≡ vs
  stream_injective ws vs v u e =
      let n = length ws + length vs in
      let same : numbered_from 0 ws ≡ numbered_from 0 vs = sym (read_back ws n v (omega arith)) ∙ ap (λ xs. handed (take (40 * n) (said (at_start d (synced 0 0 0 false 0)) xs))) e ∙ read_back vs n u (omega arith) in
      sym (dwords-numbered 0 ws) ∙ ap dwords same ∙ dwords-numbered 0 vs

  pub senders_agree : (h g : History) → AllValid (sent h) → AllValid (sent g) → SendersAgree d h g
  senders_agree h g v u = record { same_dwords = stream_injective (sent h) (sent g) v u; same_bits = λ e. ap (stream d) e }
