-- What a hearing's promise says, by its answer.
use Rattle.std.proofs.Common.{◌≡◌, ℕ, Bool, true, false, List, [], ◌∷◌, Ok, Err, Result, sym, refl, ap, ◌∙◌, arith}
use Rattle.std.proofs.lemmas.Bool.{both_ways}
use Rattle.std.proofs.lemmas.Bool.Decides.{nat_tests}
use Rattle.code.specs.Refusals.{Refusal, plain}
use Rattle.line.specs.Waiting.{Meaning, with_first}
use Rattle.link.specs.declared.heard.Heard.{Heard}
use Rattle.link.specs.declared.heard.Heard.TheVariants.{Dry, More, Slip, Gained, Good, Bad}
use Rattle.link.specs.declared.reading.Readings.{Readings}
use Rattle.link.specs.declared.state.Ledger.{Ledger}
use Rattle.link.specs.declared.state.State.{State}
use Rattle.link.specs.Hearing.{hearing, completed, closing, before_sync}
use Rattle.link.specs.Receiving.{heard_from, most_numbers}

-- a hearing that took a bit
pub record TookBit (s : State) (tap : Meaning) (heard : Heard) (next : State) (rest : Meaning) : Type 0 where
  pub bit : ℕ
  pub tap_was : tap ≡ with_first bit rest
  pub heard_is : heard ≡ (hearing s bit).heard
  pub next_is : next ≡ (hearing s bit).state
  pub unspent : s.ledger.number ≡ most_numbers → ⊥

pub ok_not_err : {X E : Type 0} (x : X) (e : E) → ◌≡◌ {A = Result X E} (Ok x) (Err e) → ⊥
ok_not_err x e p = cc

-- what is heard of a bit is never that the tap is dry
tells : Heard → Bool
tells Dry = false
tells More = true
tells Slip = true
tells Gained = true
tells (Good g) = true
tells (Bad b) = true

closing_tells : (r : Readings) (l : Ledger) → tells (closing r l).heard ≡ true
unfolding tells before_sync
closing_tells r l = grind arith

hearing_tells : (s : State) (bit : ℕ) → tells (hearing s bit).heard ≡ true
unfolding tells hearing completed
hearing_tells s bit = grind (arith, closing_tells)

pub never_dry : (s : State) (bit : ℕ) → (hearing s bit).heard ≡ Dry → ⊥
unfolding tells
never_dry s bit e = both_ways false refl (sym (ap tells e) ∙ hearing_tells s bit)

-- an accepted hearing that is not dry takes the first bit
took_list : (s : State) (capacity : ℕ) (bits : List ℕ) (heard : Heard) (next : State) (rest : Meaning) → (heard ≡ Dry → ⊥)
    → let tap : Meaning = record { waiting = bits; capacity = capacity } in
    Ok heard ≡ (heard_from s tap).answer → next ≡ (heard_from s tap).state → rest ≡ (heard_from s tap).tap
    → TookBit s tap heard next rest
took_list s capacity [] heard next rest h a n w = absurd (let none : ⊥ = grind (arith, nat_tests) in none)
took_list s capacity (bit ∷ bits) heard next rest h a n w = record {
  bit = bit;
  tap_was = grind (arith, nat_tests);
  heard_is = grind (arith, nat_tests);
  next_is = grind (arith, nat_tests);
  unspent = grind (arith, nat_tests);
}

pub took : (s : State) (tap : Meaning) (heard : Heard) (next : State) (rest : Meaning) → (heard ≡ Dry → ⊥)
    → Ok heard ≡ (heard_from s tap).answer → next ≡ (heard_from s tap).state → rest ≡ (heard_from s tap).tap
    → TookBit s tap heard next rest
took s tap heard next rest h a n w = took_list s tap.capacity tap.waiting heard next rest h a n w

-- a dry one found no bit, and leaves receiver and tap as they were
pub record FoundNone (s : State) (tap : Meaning) (next : State) (rest : Meaning) : Type 0 where
  pub none : tap.waiting ≡ []
  pub state : next ≡ s
  pub left : rest ≡ tap

none_list : (s : State) (capacity : ℕ) (bits : List ℕ) (next : State) (rest : Meaning)
    → let tap : Meaning = record { waiting = bits; capacity = capacity } in
    Ok Dry ≡ (heard_from s tap).answer → next ≡ (heard_from s tap).state → rest ≡ (heard_from s tap).tap → FoundNone s tap next rest
none_list s capacity [] next rest a n w = record { none = refl; state = grind (arith, nat_tests); left = grind (arith, nat_tests) }
none_list s capacity (bit ∷ bits) next rest a n w = absurd (let taken : ⊥ = grind (arith, nat_tests, never_dry) in taken)

pub found_none : (s : State) (tap : Meaning) (next : State) (rest : Meaning)
    → Ok Dry ≡ (heard_from s tap).answer → next ≡ (heard_from s tap).state → rest ≡ (heard_from s tap).tap → FoundNone s tap next rest
found_none s tap next rest a n w = none_list s tap.capacity tap.waiting next rest a n w

-- a refused hearing says that the numbers are spent
pub spent_at : (s : State) (tap : Meaning) (refusal : Refusal) → Err refusal ≡ (heard_from s tap).answer → s.ledger.number ≡ most_numbers
spent_at s tap refusal a = grind (arith, nat_tests)

-- and leaves receiver and tap as they were
pub spent_leaves : (s : State) (tap : Meaning) → s.ledger.number ≡ most_numbers → heard_from s tap ≡ record { answer = Err (plain 7); state = s; tap = tap }
spent_leaves s tap n = grind (arith, nat_tests)
