use Rattle.std.proofs.Common.{rules, ◌≡◌, ◌+◌, ◌-◌, length, Ok, sym, refl, ap, ◌∙◌, arith}
use Rattle.line.specs.Waiting.{Meaning}
use Rattle.link.specs.declared.heard.Heard.TheVariants as heard
use Rattle.link.specs.Receiving.{Outcome, hear_refusal}
use Rattle.link.proofs.Hearings.{took, found_none, spent_at, spent_leaves}
use Rattle.reports.specs.declared.collecting.Stop.TheVariants.{Dry, Spent, DwordsFull, ReportsFull, Declined}
use Rattle.reports.specs.Queues.{room_of}
use Rattle.reports.specs.Collecting.{dwords_of, reports_of}
use Rattle.reports.proofs.Keeping.{filled_whole}
use Rattle.reports.proofs.Collectings.{at_most, dwords_full, reports_full, declined, one_more, completes_more, stops_here, few_dwords, few_reports}
use Rattle.reports.proofs.collecting.collect.Goals as goal

pub returns-then-room-eq0-clause-collects : goal.returns-then-room-eq0-clause-collects
returns-then-room-eq0-clause-collects g c =
    let l = c.loop-bits in
    let r = c.stop_at in
    let most = c.args.most - l.bits in
    let s = l.receiver.state in
    let tap = g.T.Tap.meaning l.tap in
    stops_here most (room_of l.dwords) (room_of l.reports) _ l.bits r.result.bits c.args.dwords.now l.dwords c.args.reports.now l.reports DwordsFull r.result.stop s s tap tap l.invariant.2
    (λ some. dwords_full most (room_of l.dwords) (room_of l.reports) s tap.waiting some (omega arith) (omega arith)) refl refl r.ensures.bits r.ensures.stop

pub returns-then-room-lt-LEAST_PLACES-clause-collects : goal.returns-then-room-lt-LEAST_PLACES-clause-collects
returns-then-room-lt-LEAST_PLACES-clause-collects g c =
    let l = c.loop-bits in
    let r = c.stop_at-then-room-lt-LEAST_PLACES in
    let most = c.args.most - l.bits in
    let s = l.receiver.state in
    let tap = g.T.Tap.meaning l.tap in
    stops_here most (room_of l.dwords) (room_of l.reports) _ l.bits r.result.bits c.args.dwords.now l.dwords c.args.reports.now l.reports ReportsFull r.result.stop s s tap tap l.invariant.2
    (λ some. reports_full most (room_of l.dwords) (room_of l.reports) s tap.waiting some (omega arith) (omega arith) (omega arith)) refl refl r.ensures.bits r.ensures.stop

pub returns-in-Err : goal.returns-in-Err
returns-in-Err g c =
    let l = c.loop-bits in
    let r = c.stop_at-in-Err in
    let most = c.args.most - l.bits in
    let s = l.receiver.state in
    let tap = g.T.Tap.meaning l.tap in
    let told = c.in-Err.ensures in
    let refusal = c.in-Err.refusal in
    let n = spent_at s tap (hear_refusal refusal) told.answer in
    let left = spent_leaves s tap n in
    let tap-is : g.T.Tap.meaning c.hear.new.tap ≡ tap = told.tap ∙ ap (λ (o : Outcome). o.tap) left in
    record {
      collects =
          stops_here most (room_of l.dwords) (room_of l.reports) _ l.bits r.result.bits c.args.dwords.now l.dwords c.args.reports.now l.reports (Declined refusal) r.result.stop
          s c.hear.new.self.state tap (g.T.Tap.meaning c.hear.new.tap) l.invariant.2
          (λ some. declined most (room_of l.dwords) (room_of l.reports) s refusal tap.waiting some (omega arith) (omega arith) (omega arith) n)
          (told.state ∙ ap (λ (o : Outcome). o.state) left) tap-is r.ensures.bits r.ensures.stop;
      gone = omega (arith, r.ensures.bits, l.invariant.0, ap (λ (m : Meaning). length m.waiting) tap-is);
      capacity = ap (λ (m : Meaning). m.capacity) tap-is ∙ l.invariant.1;
    }

pub loop-bits-preserved : goal.loop-bits-preserved
loop-bits-preserved g c =
    let l = c.loop-bits in
    let tap = g.T.Tap.meaning l.tap in
    let rest = g.T.Tap.meaning c.hear.new.tap in
    let next = c.hear.new.self.state in
    let heard = c.in-Ok.heard in
    let told = c.in-Ok.ensures in
    let t = took l.receiver.state tap heard next rest (λ e. let h = rw e at c.if-eq.ensures in cc) told.answer told.state told.tap in
    let d₁ = c.keep_dword.new.dwords in
    let p₁ = c.keep_reports.new.reports in
    let kd = filled_whole l.dwords d₁ (dwords_of heard) (omega (arith, few_dwords heard)) c.keep_dword.ensures in
    let kp = filled_whole l.reports p₁ (reports_of heard) (omega (arith, few_reports heard)) c.keep_reports.ensures in
    let e = one_more (c.args.most - l.bits) (room_of l.dwords) (room_of l.reports) l.receiver.state tap heard next rest (c.args.most - (l.bits + 1)) (room_of d₁) (room_of p₁) t (omega arith) (omega arith) (omega arith) (omega arith) kd.room kp.room in (
      omega (arith, l.invariant.0, ap (λ (m : Meaning). length m.waiting) t.tap_was),
      sym (ap (λ (m : Meaning). m.capacity) t.tap_was) ∙ l.invariant.1,
      completes_more _ _ _ l.bits c.args.dwords.now l.dwords d₁ c.args.reports.now l.reports p₁ heard l.invariant.2 e kd kp,
    )

pub returns-clause-collects : goal.returns-clause-collects
returns-clause-collects g c =
    let l = c.loop-bits in
    let r = c.stop_at-2 in
    let most = c.args.most - l.bits in
    let s = l.receiver.state in
    let tap = g.T.Tap.meaning l.tap in
    let all : r.result.bits ≡ l.bits = omega (arith, r.ensures.bits) in
    stops_here most (room_of l.dwords) (room_of l.reports) _ l.bits r.result.bits c.args.dwords.now l.dwords c.args.reports.now l.reports Spent r.result.stop s s tap tap l.invariant.2
    (λ some. at_most most (room_of l.dwords) (room_of l.reports) s tap.waiting some (omega arith)) refl refl all r.ensures.stop

pub returns-then-eq : goal.returns-then-eq
returns-then-eq g c =
    let l = c.loop-bits in
    let r = c.stop_at-then-eq in
    let s = l.receiver.state in
    let tap = g.T.Tap.meaning l.tap in
    let next = c.hear.new.self.state in
    let rest = g.T.Tap.meaning c.hear.new.tap in
    let told = c.in-Ok.ensures in
    let dry : c.in-Ok.heard ≡ heard.Dry = search rules in
    let f = found_none s tap next rest (ap Ok (sym dry) ∙ told.answer) told.state told.tap in
    let none : length tap.waiting ≡ 0 = ap length f.none in
    record {
      collects =
          stops_here (c.args.most - l.bits) (room_of l.dwords) (room_of l.reports) _ l.bits r.result.bits c.args.dwords.now l.dwords c.args.reports.now l.reports Dry r.result.stop
          s next tap rest l.invariant.2 (λ some. absurd (omega arith)) f.state f.left r.ensures.bits r.ensures.stop;
      gone = omega (arith, r.ensures.bits, l.invariant.0, ap (λ (m : Meaning). length m.waiting) f.left);
      capacity = ap (λ (m : Meaning). m.capacity) f.left ∙ l.invariant.1;
    }
