use Rattle.report_text.specs.Lines.{stale_line}
use Rattle.report_text.proofs.Rows.{line_more}
use Rattle.report_text.proofs.state.push_stale_entries.Goals as goal

pub loop-place-preserved : goal.loop-place-preserved
loop-place-preserved c =
    line_more stale_line c.args.state.now.stale c.loop-place.place _ _ _ _ c.in-Some.ensures.entry
    c.loop-place.invariant c.in_ok-push_stale_entry.ensures.ok
