-- The laws of every run.
use Rattle.std.proofs.Common.{ℕ, ◌<◌}
use Rattle.transcript.specs.History.{History}
use Rattle.transcript.specs.Laws.{LinkLaws}
use Rattle.transcript.specs.Reaching.{Link, Reached}
use Rattle.transcript.proofs.Reachings.{as_run}
use Rattle.transcript.proofs.Told.{told}
use Rattle.transcript.proofs.HandedOut.{in_order}
use Rattle.transcript.proofs.Numbers.{numbered_in_order, vouched_was_handed}
use Rattle.transcript.proofs.Pace.{every_forty_bits}
use Rattle.transcript.proofs.TurnedBits.{vouched_is_sent, turned_is_refused}

pub link_laws : (capacity d : ℕ) → d < 2 → {h : History} {a : Link} → Reached capacity d h a → LinkLaws d h
link_laws capacity d small {h} {a} reached =
    let run = (as_run reached).0 in
    record {
      sent_valid = (told d small run).valid;
      handed_in_order = λ alone. in_order d small run alone;
      numbered_in_order = numbered_in_order run;
      every_forty_bits = every_forty_bits d small run;
      vouched_is_sent = λ alone. vouched_is_sent d small h _ _ _ run alone;
      vouched_was_handed = vouched_was_handed run;
      turned_is_refused = λ alone. turned_is_refused d small h _ _ _ run alone;
    }
