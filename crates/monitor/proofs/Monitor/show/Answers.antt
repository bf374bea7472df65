use Rattle.std.proofs.Common.{Ok, Err, refl, arith}
use Rattle.monitor.specs.declared.fault.ShowFault.TheVariants.{Limit}
use Rattle.monitor.specs.Uses.{Shows}
use Rattle.monitor.proofs.Extended.{one_show, as_shown, taken_in, refused_by}
use Rattle.monitor.proofs.Monitor.show.Goals as goal

pub returns-then-self-ge-MOST_SHOWN : goal.returns-then-self-ge-MOST_SHOWN
returns-then-self-ge-MOST_SHOWN g c =
    let m = c.args.self.now in
    let e = g.E.Event.meaning c.args.event.now in
    let s : Shows e m m (Err Limit) = (c.if-self-ge-MOST_SHOWN.true, refl) in
    record { shows = s; uses = one_show e m m (Err Limit) (λ h. absurd (omega (arith, c.if-self-ge-MOST_SHOWN.true))) s }

pub returns-in_err-next : goal.returns-in_err-next
returns-in_err-next g c =
    let m = c.args.self.now in
    let d = c.asked-answers.result in
    let s = refused_by d m c.if-self-ge-MOST_SHOWN.false c.from_residual.result c.in_err-next.field-0.0 c.in_err-next.ensures c.from_residual.ensures.1 in
    let t = as_shown d (g.E.Event.meaning c.args.event.now) m m c.from_residual.result c.asked-answers.ensures.same c.asked-answers.ensures.proper s in
    record { shows = t.0; uses = t.1 }

pub returns : goal.returns
returns g c =
    let m = c.args.self.now in
    let d = c.asked-answers.result in
    let s = taken_in d m c.if-self-ge-MOST_SHOWN.false c.hold.new.self c.in_ok-next.next c.in_ok-next.ensures c.hold.ensures.rule c.hold.ensures.run in
    let t = as_shown d (g.E.Event.meaning c.args.event.now) m c.hold.new.self (Ok tt) c.asked-answers.ensures.same c.asked-answers.ensures.proper s in
    record { shows = t.0; uses = t.1 }
