-- The tables of halves: what a half is in its column, and the disparity that it sets or keeps.
use Rattle.std.proofs.Common.{◌≡◌, ℕ, ◌+◌, ◌-◌, ◌*◌, ◌/◌, ◌%◌, ◌^◌, ◌<◌, Bool, true, false, cond, ◌&&◌, ◌||◌, T, eqb, ltb, List, Some, None, Option, unwrap_or, length, get_or, refl, ap, ap₂, ◌∙◌, arith, eqb→eq, lit<, ltb→lt}
use Rattle.code.specs.declared.tables.TheConstants.{SIXES, FOURS, ALTERNATE_SEVEN, SET_BY_SIX, SET_BY_FOUR}
use Rattle.code.specs.declared.tables.Half.{Half}
use Rattle.code.specs.Halves.{half_at, half_then, IsHalf}
use Rattle.code.specs.declared.character.numbers.Disparity.{Disparity}
use Rattle.code.specs.declared.character.numbers.Disparity.TheVariants.{Minus, Plus}
use Rattle.code.specs.Disparities.{disparity_number}
use Rattle.code.specs.Characters.{after, after_half, ones_of, ones_first, ones_last, six_of, four_of, used_after, special_character}
use Rattle.code.proofs.Computed.{both_left, both_right, passed, entry, at_both}

pub disparity_small : (d : Disparity) → disparity_number d < 2
disparity_small Minus = lit< tt
disparity_small Plus = lit< tt

-- the entry of a table at a disparity, by tests
is_half : ℕ → (ℕ → ℕ → ℕ) → ℕ → ℕ → Half → Bool
is_half width rule d k half =
    (eqb (half_at half d) (rule k d) && ltb (half_at half d) (2 ^ width)) && eqb (half_then half d) (used_after width (rule k d) d)

half_is : (width : ℕ) (rule : ℕ → ℕ → ℕ) (d k : ℕ) (half : Half) → T (is_half width rule d k half) → IsHalf width half (rule k d) d
unfolding is_half
half_is width rule d k half t =
    let seen = eqb (half_at half d) (rule k d) in
    let small = ltb (half_at half d) (2 ^ width) in
    let left = eqb (half_then half d) (used_after width (rule k d) d) in
    let two = both_left (seen && small) left t in
    record {
      stands = eqb→eq (half_at half d) (rule k d) (both_left seen small two);
      fits = ltb→lt (half_at half d) (2 ^ width) (both_right seen small two);
      leaves = eqb→eq (half_then half d) (used_after width (rule k d) d) (both_right (seen && small) left t);
    }

abbrev pub none : Half
none = record { 0 = 0; 1 = 0; 2 = false }

in_table : (width : ℕ) (rule : ℕ → ℕ → ℕ) (table : List Half) → T (passed (is_half width rule 0) 0 table) → T (passed (is_half width rule 1) 0 table)
    → (k : ℕ) (d : Disparity) → k < length table → IsHalf width (get_or table k none) (rule k (disparity_number d)) (disparity_number d)
in_table width rule table m p k Minus h = half_is width rule 0 k (get_or table k none) (entry (is_half width rule 0) table none m k h)
in_table width rule table m p k Plus h = half_is width rule 1 k (get_or table k none) (entry (is_half width rule 1) table none p k h)

pub six_in_table : (low : ℕ) (d : Disparity) → low < 32
    → IsHalf 6 (get_or SIXES low none) (six_of low (disparity_number d)) (disparity_number d)
unfolding is_half six_of used_after
six_in_table low d h = in_table 6 six_of SIXES tt tt low d h

pub four_in_table : (high : ℕ) (d : Disparity) → high < 8
    → IsHalf 4 (get_or FOURS high none) (four_of high (disparity_number d)) (disparity_number d)
unfolding is_half four_of used_after
four_in_table high d h = in_table 4 four_of FOURS tt tt high d h

pub alternate_is_half : (d : Disparity) → IsHalf 4 ALTERNATE_SEVEN (cond (eqb (disparity_number d) 0) 0b0111 0b1000) (disparity_number d)
unfolding used_after
alternate_is_half Minus = record { stands = refl; fits = lit< tt; leaves = refl }
alternate_is_half Plus = record { stands = refl; fits = lit< tt; leaves = refl }

-- what a half does to the disparity, by number: 2 comes out where the half keeps what it is given
setting_number : Option Disparity → ℕ
setting_number None = 2
setting_number (Some d) = disparity_number d

chosen : (plus minus : Bool) (d : ℕ) → cond (eqb (cond plus 1 (cond minus 0 2)) 2) d (cond plus 1 (cond minus 0 2)) ≡ cond plus 1 (cond minus 0 d)
chosen true minus d = refl
chosen false true d = refl
chosen false false d = refl

set_or_kept : (width half d : ℕ) → cond (eqb (after_half width half 2) 2) d (after_half width half 2) ≡ after_half width half d
unfolding after_half
set_or_kept width half d =
    chosen (ltb width (2 * ones_of width half) || eqb half (ones_last width)) (ltb (2 * ones_of width half) width || eqb half (ones_first width)) d

settled : (setting : Option Disparity) (d : Disparity)
    → disparity_number (unwrap_or setting d) ≡ cond (eqb (setting_number setting) 2) (disparity_number d) (setting_number setting)
unfolding setting_number
settled None d = refl
settled (Some Minus) d = refl
settled (Some Plus) d = refl

is_set : ℕ → ℕ → Option Disparity → Bool
is_set width half setting = eqb (setting_number setting) (after_half width half 2)

set_by : (width half : ℕ) (setting : Option Disparity) (d : Disparity) → T (is_set width half setting)
    → disparity_number (unwrap_or setting d) ≡ after_half width half (disparity_number d)
unfolding is_set
set_by width half setting d t =
    settled setting d
    ∙ ap (λ (n : ℕ). cond (eqb n 2) (disparity_number d) n) (eqb→eq (setting_number setting) (after_half width half 2) t)
    ∙ set_or_kept width half (disparity_number d)

pub set_by_six : (half : ℕ) (d : Disparity) → half < 64
    → disparity_number (unwrap_or (get_or SET_BY_SIX half None) d) ≡ after_half 6 half (disparity_number d)
unfolding is_set setting_number after_half
set_by_six half d h = set_by 6 half (get_or SET_BY_SIX half None) d (entry (is_set 6) SET_BY_SIX None tt half h)

pub set_by_four : (half : ℕ) (d : Disparity) → half < 16
    → disparity_number (unwrap_or (get_or SET_BY_FOUR half None) d) ≡ after_half 4 half (disparity_number d)
unfolding is_set setting_number after_half
set_by_four half d h = set_by 4 half (get_or SET_BY_FOUR half None) d (entry (is_set 4) SET_BY_FOUR None tt half h)

-- after the six-bit half of a byte, received and encoded disparity agree
pub six_agrees : (low d : ℕ) → low < 32 → d < 2 → after_half 6 (six_of low d) d ≡ used_after 6 (six_of low d) d
unfolding after_half six_of used_after
six_agrees low d hl hd =
    eqb→eq (after_half 6 (six_of low d) d) (used_after 6 (six_of low d) d)
    (at_both 32 (λ (l e : ℕ). eqb (after_half 6 (six_of l e) e) (used_after 6 (six_of l e) e)) tt tt low d hl hd)

-- the disparity after two halves, from the number that they make
pub after_halves : (six four d : ℕ) → four < 16 → after (six * 16 + four) d ≡ after_half 4 four (after_half 6 six d)
unfolding after
after_halves six four d h =
    let q : (six * 16 + four) / 16 ≡ six = omega arith in
    let r : (six * 16 + four) % 16 ≡ four = omega arith in
    ap₂ (λ (x y : ℕ). after_half 4 y (after_half 6 x d)) q r

-- a special character leaves the other disparity
special_after : (five : Bool) (d : Disparity) → let n = disparity_number d in
    after (cond (eqb n 0) (cond five 0b001111_1010 0b001111_0011) (1023 - cond five 0b001111_1010 0b001111_0011)) n ≡ 1 - n
unfolding after
special_after true Minus = refl
special_after true Plus = refl
special_after false Minus = refl
special_after false Plus = refl

pub special_turns : (byte : ℕ) (d : Disparity) → after (special_character byte (disparity_number d)) (disparity_number d) ≡ 1 - disparity_number d
unfolding special_character
special_turns byte d = special_after (eqb byte 0xBC) d
