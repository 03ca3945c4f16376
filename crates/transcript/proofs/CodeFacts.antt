-- The laws of the code, as runs use them.
use Rattle.std.proofs.Common.{◌≡◌, ℕ, ◌-◌, ◌<◌, true, false, T, eqb, ltb, List, ◌++◌, take, drop, Some, None, sym, ap, ◌∙◌, subst, inl, inr}
use Rattle.std.proofs.lemmas.Bool.{eq-eqb, lt-ltb, or_left, or_right}
use Rattle.code.specs.declared.character.Code.{Code}
use Rattle.code.specs.Bits.{number_of}
use Rattle.code.specs.Characters.{encoded, decoded, after, unlike, valid}
use Rattle.code.proofs.Codes.{from_true}
use Rattle.code.proofs.Laws as proved
use Rattle.code.proofs.InvertedBits.{inverted_bit_turns_disparity}
use Rattle.code.proofs.Commas.{comma, seen_comma_starts_k28_5, k28_5_starts_with_comma}
use Rattle.transcript.proofs.Bits.{bits, number, push_is, turn, Comma}

abbrev pub ValidCode : ℕ → ℕ → Type 0
ValidCode kind byte = T (valid kind byte)

pub valid_data : (byte : ℕ) → byte < 256 → ValidCode 0 byte
valid_data byte h = from_true (ltb byte 256) (lt-ltb byte 256 h)

-- a code with like columns stands alike in both, and keeps either disparity
pub like_same : (k b d e : ℕ) → ValidCode k b → unlike k b ≡ false → d < 2 → e < 2 → encoded k b d ≡ encoded k b e
like_same k b d e v u h g = proved.same_column k b d e h g u

pub like_keeps : (k b d e : ℕ) → ValidCode k b → unlike k b ≡ false → d < 2 → e < 2 → after (encoded k b d) e ≡ e
like_keeps k b d e v u h g = (proved.like_columns_keep_disparity k b d e v h g u).1

-- one with unlike columns is in no other column, and sets the disparity whatever came before
pub unlike-refused : (k b d : ℕ) → ValidCode k b → unlike k b ≡ true → d < 2 → decoded (encoded k b d) (1 - d) ≡ None
unlike-refused k b d v u h = (proved.unlike_columns_set_disparity k b d v h u).0

pub unlike_sets : (k b d : ℕ) → ValidCode k b → unlike k b ≡ true → d < 2 → after (encoded k b d) (1 - d) ≡ after (encoded k b d) d
unlike_sets k b d v u h = (proved.unlike_columns_set_disparity k b d v h u).1

-- a turned bit that leaves a valid character leaves the other disparity
pub turned_leaves : (k b d i : ℕ) (c : Code) → ValidCode k b → d < 2 → i < 10
    → decoded (number (turn i (bits (encoded k b d)))) d ≡ Some c
    → after (number (turn i (bits (encoded k b d)))) d ≡ 1 - after (encoded k b d) d
unfolding bits
turned_leaves k b d i c v h p e =
    let same = push_is 0 (turn i (bits (encoded k b d))) in
    ap (λ n. after n d) same
    ∙ inverted_bit_turns_disparity k b d i c v h p (subst (λ n. decoded n d ≡ Some c) same e)

-- commas stand at the start of a K28.5 and nowhere else
pub comma_minus : number (take 7 (bits (encoded 1 0xBC 0))) ≡ 31
unfolding bits
comma_minus = ap number k28_5_starts_with_comma.0

pub comma_plus : number (take 7 (bits (encoded 1 0xBC 1))) ≡ 96
unfolding bits
comma_plus = ap number k28_5_starts_with_comma.1

comma_seen : (bs : List ℕ) → Comma bs → comma bs ≡ true
comma_seen bs (inl e) = or_left (eqb (number_of bs) 31) (eqb (number_of bs) 96) (eq-eqb (number_of bs) 31 (sym (push_is 0 bs) ∙ e))
comma_seen bs (inr e) = or_right (eqb (number_of bs) 31) (eqb (number_of bs) 96) (eq-eqb (number_of bs) 96 (sym (push_is 0 bs) ∙ e))

pub comma_only : (kind byte k b d place : ℕ) → ValidCode kind byte → ValidCode k b → d < 2 → place < 10
    → Comma (take 7 (drop place (bits (encoded kind byte d) ++ bits (encoded k b (after (encoded kind byte d) d)))))
    → (place ≡ 0) × (kind ≡ 1) × (byte ≡ 0xBC)
unfolding bits
comma_only kind byte k b d place v w h p c =
    seen_comma_starts_k28_5 kind byte k b d place v w h p
    (comma_seen (take 7 (drop place (bits (encoded kind byte d) ++ bits (encoded k b (after (encoded kind byte d) d))))) c)
