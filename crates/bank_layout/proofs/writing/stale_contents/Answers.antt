use Rattle.std.proofs.Common.{◌++◌, ap, ◌∙◌}
use Rattle.package_attrs.specs.Identifier.{name_text}
use Rattle.bank_layout.specs.Manifest.{stale_entry_text}
use Rattle.der_write.proofs.Contents.{text_more}
use Rattle.bank_layout.proofs.writing.stale_contents.Goals as goal

pub loop-place-preserved : goal.loop-place-preserved
loop-place-preserved c =
    text_more stale_entry_text c.args.state.now.stale c.loop-place.place _ _ _ c.in-Some.ensures.entry
    c.loop-place.invariant
    (c.in_ok-put_name.ensures.ok ∙ ap (λ name. c.loop-place.contents.items ++ name_text name) c.last.ensures.last)
