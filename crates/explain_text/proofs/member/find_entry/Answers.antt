use Rattle.std.proofs.Common.{◌≡◌, rules, sym}
use Rattle.std.specs.Ordering.{nat_cmp}
use Rattle.std.specs.Cmp.Lexicographic.{slice_cmp}
use Rattle.std.proofs.lemmas.Fn.{always_returns_same}
use Rattle.cert_fields.specs.declared.entries.CccEntry.{CccEntry}
use Rattle.explain_text.proofs.Searched.{is_there, is_nowhere}
use Rattle.explain_text.proofs.member.find_entry.Goals as goal

pub returns-in-Ok-clause-found : goal.returns-in-Ok-clause-found
returns-in-Ok-clause-found c =
    is_there (λ (e : CccEntry). e.content) c.args.entries.now c.args.content.now c.in-Ok.place c.index-entries-place.result
    (sym c.index-entries-place.is) c.in-Ok.ensures.bound
    (c.in-Ok.ensures.position (λ e. slice_cmp nat_cmp e.content c.args.content.now)
    (always_returns_same _ (λ a r. r ≡ slice_cmp nat_cmp a.0.now.content c.args.content.now) _ (λ a r q k. search rules)))

pub returns-in-Err-clause-none : goal.returns-in-Err-clause-none
returns-in-Err-clause-none c =
    is_nowhere (λ (e : CccEntry). e.content) c.args.entries.now c.args.content.now c.in-Err.field-0 c.requires.ordered
    (c.in-Err.ensures.position (λ e. slice_cmp nat_cmp e.content c.args.content.now)
    (always_returns_same _ (λ a r. r ≡ slice_cmp nat_cmp a.0.now.content c.args.content.now) _ (λ a r q k. search rules)))
