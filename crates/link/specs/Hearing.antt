-- One hearing: what a receiver makes of a bit.
use Rattle.std.specs.Prelude.{ℕ, ◌+◌, ◌-◌, ◌*◌, ◌%◌, min, Bool, true, false, cond, not, ◌&&◌, Some, None, Option, ◌==◌, nat_lt}
use Rattle.std.specs.Option.{option_map}
use Rattle.code.specs.Characters.{after}
use Rattle.link.specs.declared.reading.Reading.TheVariants.{Refused}
use Rattle.link.specs.declared.reading.Readings.{Readings}
use Rattle.link.specs.declared.reading.Verdict.{Verdict}
use Rattle.link.specs.declared.reading.Verdict.TheVariants.{Vouches, Doubts}
use Rattle.link.specs.declared.heard.Span.{Span}
use Rattle.link.specs.declared.heard.Settlement.{Settlement}
use Rattle.link.specs.declared.heard.Settlement.TheVariants.{Vouched, Doubtful}
use Rattle.link.specs.declared.heard.Heard.{Heard}
use Rattle.link.specs.declared.heard.Heard.TheVariants.{More, Slip, Gained, Good, Bad}
use Rattle.link.specs.declared.state.Framing.{Framing}
use Rattle.link.specs.declared.state.Ledger.{Ledger}
use Rattle.link.specs.declared.state.State.{State}
use Rattle.link.specs.Readings.{reading, kind_of, byte_of, mask, is_good, dword, verdict}

-- No bit and no character yet, of a comma or of a dword.
abbrev pub empty_frame : Bool → Framing
empty_frame hunting = record { hunting = hunting; loose = 0; held = 0; place = 0; first = Refused; second = Refused; third = Refused }

-- A receiver that has heard nothing.
abbrev pub fresh : State
fresh = record {
  framing = empty_frame true;
  disparity = 0;
  ledger = record { synced = false; count = 0; number = 0; debt = 0; single = false; pending = 0 };
}

-- The state after a bit, and the answer.
pub record Hearing : Type 0 where
  pub state : State
  pub heard : Heard

-- ---- The end of a dword

-- Whether hunting begins again, the ledger after the dword, and the answer.
pub record Closing : Type 0 where
  pub hunting : Bool
  pub ledger : Ledger
  pub heard : Heard

-- The open stretch: the latest dwords, as many as are pending.
abbrev pub stretch : Ledger → Span
stretch l = record { first = l.number - l.pending; last = l.number - 1 }

abbrev pub settled_by : Verdict → Span → Settlement
settled_by Vouches span = Vouched span
settled_by Doubts span = Doubtful span

-- An empty stretch gives none.
abbrev pub settlement : Option Verdict → Ledger → Option Settlement
settlement v l = cond (l.pending == 0) None (option_map (λ w. settled_by w (stretch l)) v)

abbrev pub still_pending : Option Verdict → ℕ → ℕ
still_pending None pending = pending
still_pending (Some v) pending = 0

abbrev pub is_k28_5 : Readings → Bool
is_k28_5 r = kind_of r.first == 1 && byte_of r.first == 0xBC

-- Before sync the third good K28.5 primitive gains it, other good dwords change nothing, and a bad one slips.
abbrev pub gained : Ledger → Closing
gained l = record {
  hunting = false;
  ledger = record { synced = true; count = 0; number = l.number; debt = 0; single = false; pending = 0 };
  heard = Gained;
}

abbrev pub counted : Ledger → Closing
counted l = record {
  hunting = false;
  ledger = record { synced = false; count = l.count + 1; number = l.number; debt = l.debt; single = l.single; pending = l.pending };
  heard = More;
}

abbrev pub passed_over : Ledger → Closing
passed_over l = record { hunting = false; ledger = l; heard = More }

abbrev pub slipped : Ledger → Closing
slipped l = record {
  hunting = true;
  ledger = record { synced = false; count = 0; number = l.number; debt = l.debt; single = l.single; pending = l.pending };
  heard = Slip;
}

unfoldable pub before_sync : Readings → Ledger → Closing
before_sync r l =
    cond (is_good r) (cond (is_k28_5 r) (cond (l.count == 2) (gained l) (counted l)) (passed_over l)) (slipped l)

-- In sync a good dword is handed out and joins the open stretch; the second of a good pair takes one debt off.
abbrev pub handed_out : Readings → Ledger → Closing
handed_out r l = record {
  hunting = false;
  ledger = record {
    synced = true;
    count = 0;
    number = l.number + 1;
    debt = cond l.single (l.debt - 1) l.debt;
    single = not l.single;
    pending = still_pending (verdict r) l.pending + 1;
  };
  heard = Good (record { settlement = settlement (verdict r) l; number = l.number; dword = dword r });
}

-- A bad one adds a debt, and the fourth debt loses sync. Since it has a refused character, nothing stays open.
abbrev pub reported : Readings → Ledger → Bool → Closing
reported r l lost = record {
  hunting = lost;
  ledger = record {
    synced = not lost;
    count = 0;
    number = l.number + 1;
    debt = cond lost 0 (l.debt + 1);
    single = false;
    pending = 0;
  };
  heard = Bad (record { settlement = settlement (verdict r) l; number = l.number; mask = mask r; lost = lost });
}

abbrev pub in_sync : Readings → Ledger → Closing
in_sync r l = cond (is_good r) (handed_out r l) (reported r l (l.debt == 3))

abbrev pub closing : Readings → Ledger → Closing
closing r l = cond l.synced (in_sync r l) (before_sync r l)

-- ---- A bit

-- Hunting keeps the last seven bits since it began; a comma is the start of a dword's first character.
abbrev pub comma_frame : ℕ → Framing
comma_frame window = record { hunting = false; loose = window; held = 7; place = 0; first = Refused; second = Refused; third = Refused }

abbrev pub window_frame : ℕ → ℕ → Framing
window_frame window held = record { hunting = true; loose = window; held = held; place = 0; first = Refused; second = Refused; third = Refused }

-- 0011111 is a comma at minus, 1100000 one at plus.
abbrev pub hunted : State → ℕ → ℕ → State
hunted s window held =
    cond (held == 7 && window == 0b0011111) (record { framing = comma_frame window; disparity = 0; ledger = s.ledger })
    (cond (held == 7 && window == 0b1100000) (record { framing = comma_frame window; disparity = 1; ledger = s.ledger })
    (record { framing = window_frame window held; disparity = s.disparity; ledger = s.ledger }))

-- Fewer than ten bits.
abbrev pub gathered : State → ℕ → State
gathered s loose = record {
  framing = record {
    hunting = false;
    loose = loose;
    held = s.framing.held + 1;
    place = s.framing.place;
    first = s.framing.first;
    second = s.framing.second;
    third = s.framing.third;
  };
  disparity = s.disparity;
  ledger = s.ledger;
}

-- Ten bits: a character is read, and the fourth ends the dword.
abbrev pub next_place : State → ℕ → State
next_place s character = record {
  framing = record {
    hunting = false;
    loose = 0;
    held = 0;
    place = s.framing.place + 1;
    first = s.framing.second;
    second = s.framing.third;
    third = reading s.framing.place character s.disparity;
  };
  disparity = after character s.disparity;
  ledger = s.ledger;
}

abbrev pub readings_with : State → ℕ → Readings
readings_with s character = record {
  first = s.framing.first;
  second = s.framing.second;
  third = s.framing.third;
  fourth = reading s.framing.place character s.disparity;
}

abbrev pub after_dword : ℕ → Closing → Hearing
after_dword disparity c = record {
  state = record { framing = empty_frame c.hunting; disparity = disparity; ledger = c.ledger };
  heard = c.heard;
}

-- The last bit of a dword is heard as its end, and any other tells nothing.
abbrev pub ended : Option Readings → State → Hearing
ended None s = record { state = s; heard = More }
ended (Some readings) s = after_dword s.disparity (closing readings s.ledger)

unfoldable pub completed : State → ℕ → Hearing
completed s character =
    cond (nat_lt s.framing.place 3) (record { state = next_place s character; heard = More })
    (after_dword (after character s.disparity) (closing (readings_with s character) s.ledger))

unfoldable pub hearing : State → ℕ → Hearing
hearing s bit =
    cond s.framing.hunting
    (record { state = hunted s ((s.framing.loose * 2 + bit) % 128) (min 7 (s.framing.held + 1)); heard = More })
    (cond (nat_lt s.framing.held 9)
    (record { state = gathered s (s.framing.loose * 2 + bit); heard = More })
    (completed s (s.framing.loose * 2 + bit)))
