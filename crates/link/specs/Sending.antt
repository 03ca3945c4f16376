-- What a sender puts for a dword, and what sending answers.
use Rattle.std.specs.Prelude.{ℕ, ◌+◌, ◌<◌, cond, not, ◌&&◌, T, List, [], ◌∷◌, ◌++◌, length, Ok, Err, Result, ◌==◌, nat_lt}
use Rattle.code.specs.Bits.{bits_of}
use Rattle.code.specs.Characters.{encoded, after, valid, special}
use Rattle.code.specs.Refusals.{Refusal, plain}
use Rattle.line.specs.Waiting.{Meaning}
use Rattle.link.specs.declared.dword.Dword.{Dword}
use Rattle.link.specs.declared.sender.SendRefusal.{SendRefusal}
use Rattle.link.specs.declared.sender.SendRefusal.TheVariants.{KindAboveOne, NotSpecial, NoRoom}

-- A dword that can be sent: a valid code and three data bytes.
pub record ValidDword (w : Dword) : Type 0 where
  pub first : T (valid w.kind w.b0)
  pub second : w.b1 < 256
  pub third : w.b2 < 256
  pub fourth : w.b3 < 256

-- The four characters of a dword sent at disparity d, and the disparity that each leaves to the next.
abbrev pub c0 : ℕ → Dword → ℕ
c0 d w = encoded w.kind w.b0 d

abbrev pub d1 : ℕ → Dword → ℕ
d1 d w = after (c0 d w) d

abbrev pub c1 : ℕ → Dword → ℕ
c1 d w = encoded 0 w.b1 (d1 d w)

abbrev pub d2 : ℕ → Dword → ℕ
d2 d w = after (c1 d w) (d1 d w)

abbrev pub c2 : ℕ → Dword → ℕ
c2 d w = encoded 0 w.b2 (d2 d w)

abbrev pub d3 : ℕ → Dword → ℕ
d3 d w = after (c2 d w) (d2 d w)

abbrev pub c3 : ℕ → Dword → ℕ
c3 d w = encoded 0 w.b3 (d3 d w)

-- The disparity after the dword.
abbrev pub disparity_after : ℕ → Dword → ℕ
disparity_after d w = after (c3 d w) (d3 d w)

-- Its forty bits.
unfoldable pub dword_bits : ℕ → Dword → List ℕ
dword_bits d w = bits_of 10 (c0 d w) ++ (bits_of 10 (c1 d w) ++ (bits_of 10 (c2 d w) ++ bits_of 10 (c3 d w)))

-- The bits of some dwords sent one after another, and the disparity after them.
abbrev pub stream : ℕ → List Dword → List ℕ
stream d [] = []
stream d (w ∷ ws) = dword_bits d w ++ stream (disparity_after d w) ws

abbrev pub disparity_after_all : ℕ → List Dword → ℕ
disparity_after_all d [] = d
disparity_after_all d (w ∷ ws) = disparity_after_all (disparity_after d w) ws

-- The number of each refusal.
abbrev pub send_refusal : SendRefusal → Refusal
send_refusal KindAboveOne = plain 5
send_refusal NotSpecial = plain 6
send_refusal NoRoom = plain 2

-- What a send answers, and what the line means and at which disparity the sender stands afterwards.
pub record Sending : Type 0 where
  pub answer : Result Unit Refusal
  pub line : Meaning
  pub disparity : ℕ

abbrev pub declined_send : SendRefusal → ℕ → Meaning → Sending
declined_send refusal d line = record { answer = Err (send_refusal refusal); line = line; disparity = d }

abbrev pub accepted_send : ℕ → Meaning → Dword → Sending
accepted_send d line w = record {
  answer = Ok tt;
  line = record { waiting = line.waiting ++ dword_bits d w; capacity = line.capacity };
  disparity = disparity_after d w;
}

-- The first number that applies, or the four characters are put.
abbrev pub sending : ℕ → Meaning → Dword → Sending
sending d line w =
    cond (nat_lt 1 w.kind) (declined_send KindAboveOne d line)
    (cond (w.kind == 1 && not (special w.b0)) (declined_send NotSpecial d line)
    (cond (nat_lt line.capacity (length line.waiting + 40)) (declined_send NoRoom d line) (accepted_send d line w)))
