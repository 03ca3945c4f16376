use Rattle.std.proofs.Common.{length, string_bytes, ap, ◌∙◌, append-nil, arith, lit<}
use Rattle.reports.proofs.Keeping.{kept-size}
use Rattle.listening.proofs.Turns.{Turn, turn}
use Rattle.listening.proofs.text.tell_all.Given as given
use Rattle.listening.proofs.text.tell_all.Goals as goal
use Rattle.listening.proofs.text.tell_all.Goals.{In_ok-tell_lines-2}

-- each turn is one of the argument's turns
one_turn : (g : given.Over) (c : In_ok-tell_lines-2 g)
    → Turn c.hearing.receiver.state c.collect-collected.new.receiver.state
    (g.T.Tap.meaning c.hearing.tap).waiting (g.T.Tap.meaning c.collect-collected.new.tap).waiting
    c.collect-collected.result.bits c.collect-collected.result.stop
    (string_bytes c.hearing.text) (string_bytes c.tell_lines-in-hearing.new.text)
one_turn g c =
    let l = c.hearing in
    let r = c.collect-collected in
    turn l.receiver.state r.new.receiver.state (g.T.Tap.meaning l.tap).waiting (g.T.Tap.meaning r.new.tap).waiting
    18446744073709551615 r.result.bits r.result.stop (string_bytes l.text) (string_bytes c.tell_lines.new.text) (string_bytes c.tell_lines-in-hearing.new.text)
    l.dwords r.new.dwords l.reports r.new.reports l.invariant.3.0 l.invariant.3.1 l.invariant.4.0 l.invariant.4.1
    (lit< tt) r.ensures.collects r.ensures.gone c.in_ok-tell_lines.ensures.text c.in_ok-tell_lines-2.ensures.text

pub hearing-preserved : goal.hearing-preserved
hearing-preserved g c =
    let t = one_turn g (goal.at.hearing-preserved g c).In_ok-tell_lines-2 in
    let l = c.hearing in
    let r = c.collect-collected in
    let told-dwords = c.in_ok-tell_lines-2.ensures in
    let told-reports = c.in_ok-tell_lines.ensures in (
      omega (arith, t.count, l.invariant.0),
      t.lines ∙ l.invariant.1,
      omega (arith, t.shorter, l.invariant.2),
      (told-dwords.empty, ap length told-dwords.memory ∙ (kept-size l.dwords r.new.dwords _ r.ensures.collects.kept_dwords ∙ l.invariant.3.1)),
      (told-reports.empty, ap length told-reports.memory ∙ (kept-size l.reports r.new.reports _ r.ensures.collects.kept_reports ∙ l.invariant.4.1)),
    )

pub overflow_sub-result : goal.overflow_sub-result
overflow_sub-result g c =
    let t = one_turn g (goal.at.overflow_sub-result g c).In_ok-tell_lines-2 in
    omega (arith, t.shorter, c.hearing.invariant.2, c.count.ensures, c.count-before.ensures)

pub returns-in-Dry : goal.returns-in-Dry
returns-in-Dry g c =
    let t = one_turn g (goal.at.returns-in-Dry g c).In_ok-tell_lines-2 in
    let none = t.over c.in-Dry.is in
    record {
      text = simp (none.0, append-nil) at (t.lines ∙ c.hearing.invariant.1);
      taken = omega (arith, t.count, c.hearing.invariant.0, none.1, t.shorter, c.hearing.invariant.2, c.count.ensures, c.count-before.ensures);
    }

pub hearing-smaller : goal.hearing-smaller
hearing-smaller g c =
    let t = one_turn g (goal.at.hearing-smaller g c).In_ok-tell_lines-2 in
    omega (arith, t.shorter, t.more c.in_default.not-Dry c.in_default.not-Declined)
