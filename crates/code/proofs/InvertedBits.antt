-- A character with one bit inverted, computed over every code, disparity and place.
use Rattle.std.proofs.Common.{◌≡◌, ℕ, ◌-◌, ◌<◌, Bool, true, not, ◌&&◌, ◌||◌, T, eqb, Some, sym, ◌∙◌, subst, ap₂, eqb→eq}
use Rattle.std.proofs.lemmas.Bool.{eq-eqb, and_from}
use Rattle.code.specs.declared.character.Code.{Code}
use Rattle.code.specs.Characters.{encoded, decoded, after, valid}
use Rattle.code.specs.Kinds.{kind_number}
use Rattle.code.specs.Laws as laws
use Rattle.code.proofs.Computed.{below, at_below, implied}
use Rattle.code.proofs.Codes.{true_from, at_code_and_disparity, kind_of, byte_of, of_encoded}
use Rattle.code.proofs.Laws.{decoded_stands_there}

-- the character is in the column: the one code that it can stand for has it there
stands : ℕ → ℕ → Bool
stands x d = valid (kind_of x) (byte_of x) && eqb (encoded (kind_of x) (byte_of x) d) x

stands_is : (x d : ℕ) (c : Code) → d < 2 → decoded x d ≡ Some c → stands x d ≡ true
unfolding stands
stands_is x d c h e =
    let f = decoded_stands_there x d c e in
    let o = of_encoded (kind_number c.kind) c.byte d f.0 h in
    let k : (kind_number c.kind) ≡ kind_of x = subst (λ (y : ℕ). (kind_number c.kind) ≡ kind_of y) f.1 o.0 in
    let b : c.byte ≡ byte_of x = subst (λ (y : ℕ). c.byte ≡ byte_of y) f.1 o.1 in
    let s = and_from (valid (kind_number c.kind) c.byte) (eqb (encoded (kind_number c.kind) c.byte d) x) (true_from (valid (kind_number c.kind) c.byte) f.0) (eq-eqb (encoded (kind_number c.kind) c.byte d) x f.1) in
    ap₂ (λ (k b : ℕ). valid k b && eqb (encoded k b d) x) (sym k) (sym b) ∙ s

turns : ℕ → ℕ → ℕ → ℕ → Bool
turns k b d place =
    not (stands (laws.inverted_at place (encoded k b d)) d) || eqb (after (laws.inverted_at place (encoded k b d)) d) (1 - after (encoded k b d) d)

turns_everywhere : (k b d place : ℕ) → T (valid k b) → d < 2 → place < 10 → T (turns k b d place)
unfolding turns stands after encoded
turns_everywhere k b d place v h p =
    at_below 10 (turns k b d) (at_code_and_disparity (λ (k b d : ℕ). below 10 (turns k b d)) tt tt k b d v h) place p

pub inverted_bit_turns_disparity : laws.InvertedBitTurnsDisparity
unfolding turns
inverted_bit_turns_disparity k b d place c v h p e =
    let x = laws.inverted_at place (encoded k b d) in
    eqb→eq (after x d) (1 - after (encoded k b d) d)
    (implied (stands x d) (eqb (after x d) (1 - after (encoded k b d) d)) (turns_everywhere k b d place v h p) (stands_is x d c h e))
