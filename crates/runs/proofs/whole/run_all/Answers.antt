use Rattle.transcript.proofs.Senders.{senders_agree}
use Rattle.runs.proofs.whole.run_all.Goals as goal

-- that senders opened alike agree is a law of the two histories
pub returns-clause-senders : goal.returns-clause-senders
returns-clause-senders g c =
    let one = c.make_calls.ensures.ran.lawful.laws in
    let other = c.make_calls-2.ensures.ran.lawful.laws in
    λ same. senders_agree _ c.args.one.now.sender.now.binary _ _ one.sent_valid other.sent_valid
