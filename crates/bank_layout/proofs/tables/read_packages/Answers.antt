use Rattle.std.proofs.Common.{sym, ◌∙◌, arith}
use Rattle.std.proofs.lemmas.Option.{none-some}
use Rattle.der_core.proofs.Lists.{stops, ends, some_left, none_left}
use Rattle.config_table.specs.Stored.{entry_of}
use Rattle.config_table.specs.declared.installed.Installed.{Installed}
use Rattle.bank_layout.specs.Reading.{entry_at}
use Rattle.bank_layout.proofs.PackageLaws.{entry_falls}
use Rattle.bank_layout.proofs.TableLaws.{read_some, read_none, no_packages_yet, too_many_packages, package_twice, packages_more}
use Rattle.bank_layout.proofs.tables.read_packages.Goals as goal

pub loop-items-init : goal.loop-items-init
loop-items-init c = no_packages_yet c.args.format c.args.contents.now _ _ c.new-items.ensures.all c.new-state.ensures.empty

pub returns-in_default-clause-none : goal.returns-in_default-clause-none
returns-in_default-clause-none c = λ packages reads.
    let read = read_none (λ (installed : Installed). (entry_of installed, c.read_package.new.items)) _
    (entry_at c.args.format c.loop-items.items) c.in_ok-installed.ensures.exact c.in_default.is in
    none-some packages (sym (stops (entry_at c.args.format) _ c.loop-items.state.packages c.loop-items.items
    (some_left c.loop-items.items c.at_end.result c.at_end.ensures.end c.loop-items-test.true)
    c.loop-items.invariant.read read) ∙ reads.read)

pub returns-then-packages-ge-MOST_PACKAGES-clause-none : goal.returns-then-packages-ge-MOST_PACKAGES-clause-none
returns-then-packages-ge-MOST_PACKAGES-clause-none c =
    let read = read_some (λ (installed : Installed). (entry_of installed, c.read_package.new.items)) _
    (entry_at c.args.format c.loop-items.items) c.in-Some.installed c.in_ok-installed.ensures.exact c.in-Some.is in
    too_many_packages c.args.format c.args.contents.now c.loop-items.items c.read_package.new.items c.loop-items.state
    (entry_of c.in-Some.installed) c.loop-items.invariant read
    (omega (arith, c.if-packages-ge-MOST_PACKAGES.true, c.packages.ensures.count))

pub returns-then-is_installed-clause-none : goal.returns-then-is_installed-clause-none
returns-then-is_installed-clause-none c =
    let read = read_some (λ (installed : Installed). (entry_of installed, c.read_package.new.items)) _
    (entry_at c.args.format c.loop-items.items) c.in-Some.installed c.in_ok-installed.ensures.exact c.in-Some.is in
    package_twice c.args.format c.args.contents.now c.loop-items.items c.read_package.new.items c.loop-items.state
    (entry_of c.in-Some.installed) c.loop-items.invariant read
    (sym c.is_installed.ensures.installed ∙ c.if-is_installed.true)

pub loop-items-smaller : goal.loop-items-smaller
loop-items-smaller c =
    let read = read_some (λ (installed : Installed). (entry_of installed, c.read_package.new.items)) _
    (entry_at c.args.format c.loop-items.items) c.in-Some.installed c.in_ok-installed.ensures.exact c.in-Some.is in
    entry_falls c.args.format c.loop-items.items (entry_of c.in-Some.installed, c.read_package.new.items) read

pub loop-items-preserved : goal.loop-items-preserved
loop-items-preserved c =
    let read = read_some (λ (installed : Installed). (entry_of installed, c.read_package.new.items)) _
    (entry_at c.args.format c.loop-items.items) c.in-Some.installed c.in_ok-installed.ensures.exact c.in-Some.is in
    packages_more c.args.format c.args.contents.now c.loop-items.items c.read_package.new.items c.loop-items.state
    (entry_of c.in-Some.installed) c.loop-items.invariant read c.replace.new.self
    (omega (arith, c.if-packages-ge-MOST_PACKAGES.false, c.packages.ensures.count))
    (sym c.is_installed.ensures.installed ∙ c.if-is_installed.false) c.in_ok-replace.ensures.ok

pub returns-clause-some : goal.returns-clause-some
returns-clause-some c = record {
  read = ends (entry_at c.args.format) _ c.loop-items.state.packages c.loop-items.items
      (none_left c.loop-items.items c.at_end.result c.at_end.ensures.end c.loop-items-test.false)
      c.loop-items.invariant.read;
  are = c.loop-items.invariant.are;
}
