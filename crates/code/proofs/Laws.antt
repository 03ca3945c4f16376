-- Laws of encoding, decoding and the disparity: each is one test that antt computes over every code, and a lemma that reads it.
use Rattle.std.proofs.Common.{◌≡◌, ℕ, zero, suc, ◌-◌, ◌*◌, ◌/◌, ◌%◌, ◌<◌, Bool, true, false, cond, not, ◌&&◌, ◌||◌, T, eqb, ltb, None, sym, refl, ap, ◌∙◌, subst, le_of_suc-le-suc, not-suc-le-zero, arith, lit<, eqb→eq, ltb→lt}
use Rattle.std.specs.Bool.{then_some}
use Rattle.std.proofs.lemmas.Bool.{eq-eqb, eqb-true, and_from, both_ways, ne_eqb, eqb-false, not-true, not-false, and_right}
use Rattle.code.specs.Characters.{encoded, decoded, after, used_after, valid, unlike, OnlyCode, after_half, ones_of, ones_first, ones_last}
use Rattle.code.specs.Laws as laws
use Rattle.code.proofs.Computed.{both_left, both_right, implied}
use Rattle.code.specs.Kinds.{kind_with, code_with}
use Rattle.code.proofs.Codes.{true_from, number_of_kind, at_code_and_disparity, of_encoded, only_code}
use Rattle.code.proofs.Decoding.{Found, found, decoded_with}

-- ---- encoding and decoding

pub only_encoded : (k b d : ℕ) → T (valid k b) → d < 2 → OnlyCode (encoded k b d) (code_with k b)
only_encoded k b d v h = only_code (encoded k b d) (kind_with k) b (number_of_kind k b v ∙ (of_encoded k b d v h).0) (of_encoded k b d v h).1

pub one_code_to_a_character : laws.OneCodeToACharacter
one_code_to_a_character k b k' b' d d' v v' h h' e =
    let same = only_encoded k' b' d' v' h' k b d v h e in
    (same.0 ∙ number_of_kind k' b' v', same.1)

pub decoding_undoes_encoding : laws.DecodingUndoesEncoding
decoding_undoes_encoding k b d v h =
    decoded_with (encoded k b d) d k b v h (only_encoded k b d v h)
    ∙ ap (λ (t : Bool). then_some t (code_with k b))
    (and_from (valid k b) (eqb (encoded k b d) (encoded k b d)) (true_from (valid k b) v) (eq-eqb (encoded k b d) (encoded k b d) refl))

pub decoded_stands_there : laws.DecodedStandsThere
decoded_stands_there ch d c e = subst (Found ch d) e (found ch d)

-- ---- disparity

pub next_disparities_agree : laws.NextDisparitiesAgree
unfolding after encoded used_after
next_disparities_agree k b d v h =
    eqb→eq (after (encoded k b d) d) (used_after 4 (encoded k b d % 16) (used_after 6 (encoded k b d / 16) d))
    (at_code_and_disparity (λ (k b d : ℕ). let ch = encoded k b d in eqb (after ch d) (used_after 4 (ch % 16) (used_after 6 (ch / 16) d))) tt tt k b d v h)

keeps : ℕ → ℕ → ℕ → Bool
unfolding after encoded
keeps k b d = unlike k b || (eqb (after (encoded k b d) 0) 0 && eqb (after (encoded k b d) 1) 1)

or_right_at : (a b : Bool) → T (a || b) → a ≡ false → T b
or_right_at true b t e = absurd (both_ways true e refl)
or_right_at false b t e = t

pub same_column : (k b d e : ℕ) → d < 2 → e < 2 → unlike k b ≡ false → encoded k b d ≡ encoded k b e
same_column k b d e h g u = alike d e h g
  where
    m : encoded k b 0 ≡ encoded k b 1
    m = eqb-true (encoded k b 0) (encoded k b 1) (not-false (eqb (encoded k b 0) (encoded k b 1)) u)

    at_zero : (d : ℕ) → d < 2 → encoded k b d ≡ encoded k b 0
    at_zero zero h = refl
    at_zero (suc zero) h = sym m
    at_zero (suc (suc d)) h = absurd (not-suc-le-zero (le_of_suc-le-suc (le_of_suc-le-suc h)))

    alike : (d e : ℕ) → d < 2 → e < 2 → encoded k b d ≡ encoded k b e
    alike d e h g = at_zero d h ∙ sym (at_zero e g)

both_kept : (ch e : ℕ) → e < 2 → T (eqb (after ch 0) 0 && eqb (after ch 1) 1) → after ch e ≡ e
both_kept ch zero g t = eqb→eq (after ch 0) 0 (both_left (eqb (after ch 0) 0) (eqb (after ch 1) 1) t)
both_kept ch (suc zero) g t = eqb→eq (after ch 1) 1 (both_right (eqb (after ch 0) 0) (eqb (after ch 1) 1) t)
both_kept ch (suc (suc e)) g t = absurd (not-suc-le-zero (le_of_suc-le-suc (le_of_suc-le-suc g)))

kept : (k b d e : ℕ) → T (valid k b) → d < 2 → e < 2 → unlike k b ≡ false → after (encoded k b d) e ≡ e
unfolding keeps
kept k b d e v h g u =
    both_kept (encoded k b d) e g
    (or_right_at (unlike k b) (eqb (after (encoded k b d) 0) 0 && eqb (after (encoded k b d) 1) 1) (at_code_and_disparity keeps tt tt k b d v h) u)

pub like_columns_keep_disparity : laws.LikeColumnsKeepDisparity
like_columns_keep_disparity k b d e v h g u =
    (ap (λ (ch : ℕ). decoded ch e) (same_column k b d e h g u) ∙ decoding_undoes_encoding k b e v g, kept k b d e v h g u)

sets : ℕ → ℕ → ℕ → Bool
unfolding after encoded
sets k b d = not (unlike k b) || eqb (after (encoded k b d) (1 - d)) (after (encoded k b d) d)

-- at the other disparity the character could only be this code's, whose character there is another
differs : (k b d : ℕ) → d < 2 → unlike k b ≡ true → eqb (encoded k b (1 - d)) (encoded k b d) ≡ false
differs k b zero h u =
    ne_eqb (encoded k b 1) (encoded k b 0) (λ q. eqb-false (encoded k b 0) (encoded k b 1) (not-true (eqb (encoded k b 0) (encoded k b 1)) u) (sym q))
differs k b (suc zero) h u = not-true (eqb (encoded k b 0) (encoded k b 1)) u
differs k b (suc (suc d)) h u = absurd (not-suc-le-zero (le_of_suc-le-suc (le_of_suc-le-suc h)))

other_column : (k b d : ℕ) → T (valid k b) → d < 2 → unlike k b ≡ true → decoded (encoded k b d) (1 - d) ≡ None
other_column k b d v h u =
    decoded_with (encoded k b d) (1 - d) k b v (omega arith) (only_encoded k b d v h)
    ∙ ap (λ (t : Bool). then_some t (code_with k b))
    (and_right (valid k b) (eqb (encoded k b (1 - d)) (encoded k b d)) (differs k b d h u))

pub unlike_columns_set_disparity : laws.UnlikeColumnsSetDisparity
unfolding sets
unlike_columns_set_disparity k b d v h u = (
  other_column k b d v h u,
  eqb→eq (after (encoded k b d) (1 - d)) (after (encoded k b d) d)
      (implied (unlike k b) (eqb (after (encoded k b d) (1 - d)) (after (encoded k b d) d)) (at_code_and_disparity sets tt tt k b d v h) u),
)

set_small : (plus minus : Bool) (d : ℕ) → d < 2 → cond plus 1 (cond minus 0 d) < 2
set_small true minus d h = lit< tt
set_small false true d h = lit< tt
set_small false false d h = h

half_small : (width half d : ℕ) → d < 2 → after_half width half d < 2
unfolding after_half
half_small width half d h =
    set_small (ltb width (2 * ones_of width half) || eqb half (ones_last width)) (ltb (2 * ones_of width half) width || eqb half (ones_first width)) d h

pub disparity_fits : laws.DisparityFits
unfolding after
disparity_fits ch d h = half_small 4 (ch % 16) (after_half 6 (ch / 16) d) (half_small 6 (ch / 16) d h)

pub characters_fit : laws.CharactersFit
unfolding encoded
characters_fit k b d v h =
    ltb→lt (encoded k b d) 1024 (at_code_and_disparity (λ (k b d : ℕ). ltb (encoded k b d) 1024) tt tt k b d v h)

pub bits_make_their_number : laws.BitsMakeTheirNumber
bits_make_their_number x h = omega arith
