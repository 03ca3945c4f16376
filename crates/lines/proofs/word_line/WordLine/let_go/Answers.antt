use Rattle.std.proofs.Common.{◌≡◌, ◌+◌, ◌∷◌, get_or, sym, refl, ap, ◌∙◌, arith}
use Rattle.line.proofs.Rings.{advanced_some}
use Rattle.lines.specs.Words.{character_bits}
use Rattle.lines.proofs.Characters.{bit_leaves, character_leaves}
use Rattle.lines.proofs.Meanings.{same_meaning}
use Rattle.lines.proofs.WordLines.{ring_within}
use Rattle.lines.proofs.word_line.WordLine.let_go.Goals as goal

-- The character at the front stays.
pub returns-then-self-lt9-clause-line : goal.returns-then-self-lt9-clause-line
returns-then-self-lt9-clause-line c =
    let s = c.args.self.now in
    let words = s.words.now in
    let leaves = bit_leaves words s.ring (ring_within s) s.gone c.requires s.partial in
    let first = ap (λ bits. get_or bits 0 0) leaves in
    same_meaning _ _ (leaves ∙ ap (λ b. b ∷ character_bits words s.ring (s.gone + 1)) (sym first)) refl

-- It leaves with its last bit.
pub returns-else-self-lt9-clause-line : goal.returns-else-self-lt9-clause-line
returns-else-self-lt9-clause-line c =
    let s = c.args.self.now in
    let words = s.words.now in
    let after = c.advance.new.self in
    let ten : s.gone + 1 ≡ 10 = omega (arith, s.partial) in
    let leaves = bit_leaves words s.ring (ring_within s) s.gone c.requires s.partial in
    let first = ap (λ bits. get_or bits 0 0) leaves in
    let goes = advanced_some s.ring after c.advance.result c.requires c.advance.ensures in
    let next = ap (character_bits words s.ring) ten ∙ character_leaves words s.ring (ring_within s) s.ring.front after goes in
    same_meaning _ _
    (leaves
    ∙ (ap (λ b. b ∷ character_bits words s.ring (s.gone + 1)) (sym first)
    ∙ ap (λ bits. get_or (character_bits words s.ring s.gone) 0 0 ∷ bits) next))
    refl
