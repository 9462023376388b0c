use Rattle.std.proofs.Common.{List, sym, subst}
use Rattle.der_core.specs.Reads.{Answers}
use Rattle.cert_fields.specs.Constraints.{ContentConstraint}
use Rattle.cert_fields.specs.ConstraintsView.{entry_view}
use Rattle.cert_fields.specs.declared.entries.CccEntry.{CccEntry}
use Rattle.constraint_meet.specs.Grants.{entries_of}
use Rattle.constraint_meet.specs.Permits.{entry_for}
use Rattle.explain_text.specs.Kept.{AreKept}
use Rattle.explain_text.proofs.Entries.{answers}
use Rattle.explain_text.proofs.member.Member.entry_for.Goals as goal

pub returns : goal.returns
returns c =
    let entries = entries_of c.self.inside.constraints in
    let kept = subst (λ (es : List CccEntry). AreKept entries es) (sym c.deref.ensures.value) c.self.invariant in
    record {
      exact =
          subst (λ (es : List ContentConstraint). Answers (λ e. entry_view e.now) c.find_entry.result
          (entry_for c.args.content.now es)) c.self.view_is
          (answers entries c.deref.result.now c.args.content.now kept c.find_entry.result c.find_entry.ensures.found
          c.find_entry.ensures.none);
    }
