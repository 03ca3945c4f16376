use Rattle.std.proofs.Common.{◌≡◌, ℕ, ◌+◌, ◌*◌, ◌/◌, ◌%◌, ◌<◌, get_or, ltb, ◌∙◌, ap₂, arith}
use Rattle.std.proofs.lemmas.Bool.{lt-ltb}
use Rattle.code.specs.Disparities.{disparity_number}
use Rattle.code.specs.Halves.{half_at, half_then}
use Rattle.code.specs.declared.tables.TheConstants.{SIXES}
use Rattle.code.specs.Characters.{encoded, data_character, after, six_of, four_after, used_after}
use Rattle.code.specs.Encodings.{data_sent}
use Rattle.code.specs.declared.character.Encoded.{Encoded}
use Rattle.code.proofs.Codes.{from_true}
use Rattle.code.proofs.Halves.{none, disparity_small, six_in_table}
use Rattle.code.proofs.Laws.{next_disparities_agree}
use Rattle.code.proofs.character.data_character.Goals as goal

-- the halves make the character, and leave the disparity that follows it
data_sent_as : (byte d six four middle next : ℕ) → byte < 256 → d < 2 → four < 16 → six ≡ six_of (byte % 32) d
    → middle ≡ used_after 6 (six_of (byte % 32) d) d → four ≡ four_after (byte % 32) (byte / 32) middle
    → next ≡ used_after 4 (four_after (byte % 32) (byte / 32) middle) middle
    → ◌≡◌ {A = Encoded} (record { character = six * 16 + four; disparity = next }) (data_sent byte d)
unfolding data_character encoded
data_sent_as byte d six four middle next hb hd h s m f n =
    let character : six * 16 + four ≡ data_character byte d = cc (m, s, f) in
    let high : (six * 16 + four) / 16 ≡ six = omega arith in
    let low : (six * 16 + four) % 16 ≡ four = omega arith in
    let agree : after (data_character byte d) d ≡ used_after 4 (data_character byte d % 16) (used_after 6 (data_character byte d / 16) d)
    = next_disparities_agree 0 byte d (from_true (ltb byte 256) (lt-ltb byte 256 hb)) hd in
    ap₂ (λ (x n : ℕ). record { character = x; disparity = n }) character (cc (n, f, m, s, character, high, low, agree))

pub returns : goal.returns
returns c =
    let byte = c.args.byte in
    let d = disparity_number c.args.disparity in
    let s = six_in_table (byte % 32) c.args.disparity (omega arith) in
    let six : c.at.result ≡ half_at (get_or SIXES (byte % 32) none) d = c.at.ensures in
    let middle : disparity_number c.then-middle.result ≡ half_then (get_or SIXES (byte % 32) none) d = c.then-middle.ensures in
    let four = c.four_half-four.ensures in
    let small : c.at-2.result < 16 = rw c.at-2.ensures four.fits in
    data_sent_as byte d c.at.result c.at-2.result (disparity_number c.then-middle.result) c.into.result (omega arith) (disparity_small c.args.disparity) small
    (six ∙ s.stands) (middle ∙ s.leaves) (c.at-2.ensures ∙ four.stands) (c.into.ensures ∙ c.then.ensures ∙ four.leaves)
