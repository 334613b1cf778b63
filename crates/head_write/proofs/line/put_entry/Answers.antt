use Rattle.std.proofs.Common.{ap, ◌≡◌, false, refl}
use Rattle.head_write.specs.Header.{heading_text, line, line_of}
use Rattle.head_write.specs.declared.entry.Entry.{Entry}
use Rattle.edt_base.proofs.Puts.{put_as, put_then, put_stops, not_done, failed}
use Rattle.head_write.proofs.line.put_entry.Goals as goal

kept_line : (e : Entry) → e.is_double ≡ false → line e.fact ≡ line_of e
kept_line e kept = rw kept refl

pub returns-in_err-put_heading : goal.returns-in_err-put_heading
returns-in_err-put_heading g c =
    not_done _ _ _ _ _ _ (failed c.from_residual.result c.from_residual.ensures.0)
    (put_stops (g.S.Sink.seen c.args.out.now) (g.S.Sink.seen c.put_heading.new.out) _ _ _ (heading_text c.args.entry.now.fact.heading) (line_of c.args.entry.now)
    (put_as _ _ _ _ _ _ _ (ap heading_text c.heading.ensures) c.in_err-put_heading.ensures))

pub returns : goal.returns
returns g c =
    put_then _ (g.S.Sink.seen c.put_heading.new.out) _ _ _ _ (heading_text c.args.entry.now.fact.heading) (line_of c.args.entry.now) _
    (put_as _ _ _ _ _ _ _ (ap heading_text c.heading.ensures) c.in_ok-put_heading.ensures)
    (put_as _ _ _ _ _ _ _ (kept_line c.args.entry.now c.if-entry.false) c.put_line.ensures)
