use Rattle.std.proofs.Common.{ℕ, map, sym, ap, ◌∙◌}
use Rattle.std.proofs.lemmas.Option.{slice_get-map}
use Rattle.std.specs.Prelude.{option_map}
use Rattle.config_table.specs.State.{Entry, entry_with}
use Rattle.config_table.specs.Stored.{Stored}
use Rattle.report_text.specs.Lines.{package_line}
use Rattle.report_text.proofs.Rows.{line_more}
use Rattle.report_text.proofs.state.push_packages.Goals as goal

pub loop-place-preserved : goal.loop-place-preserved
loop-place-preserved c =
    let packages = c.args.state.now.packages in
    let sized : Entry Stored → Entry ℕ = λ entry. entry_with (λ image. image.length) entry in
    let is = ap (option_map sized) c.in-Some.ensures.entry ∙ sym (slice_get-map sized packages c.loop-place.place) in
    line_more package_line (map sized packages)
    c.loop-place.place _ _ _ _ is c.loop-place.invariant c.in_ok-push_package.ensures.ok
