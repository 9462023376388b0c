use Rattle.std.proofs.Common.{sym, ap, refl, ◌∙◌, arith}
use Rattle.std.proofs.lemmas.Option.{none-some}
use Rattle.std.specs.Prelude.{is_some}
use Rattle.der_core.proofs.Lists.{stops, ends, some_left, none_left}
use Rattle.config_table.specs.State.{State}
use Rattle.config_table.specs.Stored.{Stored}
use Rattle.bank_layout.specs.Reading.{stale_at}
use Rattle.bank_layout.proofs.TableLaws.{stale_falls, no_stale_yet, too_many_stale, stale_twice, stale_more}
use Rattle.bank_layout.proofs.tables.read_stale.Goals as goal

pub loop-items-init : goal.loop-items-init
loop-items-init c = record {
  stale = no_stale_yet c.args.contents.now _ _ c.new-items.ensures.all c.requires.fresh;
  packages = refl;
}

pub returns-in_default-clause-none : goal.returns-in_default-clause-none
returns-in_default-clause-none c = λ stale reads.
    none-some stale (sym (stops stale_at _ c.loop-items.tables.stale c.loop-items.items
    (some_left c.loop-items.items c.at_end.result c.at_end.ensures.end c.loop-items-test.true)
    c.loop-items.invariant.stale.read c.in_default.ensures.exact) ∙ reads.read)

pub returns-then-stale_entries-ge-MOST_STALE_ENTRIES-clause-none : goal.returns-then-stale_entries-ge-MOST_STALE_ENTRIES-clause-none
returns-then-stale_entries-ge-MOST_STALE_ENTRIES-clause-none c =
    too_many_stale c.args.contents.now c.loop-items.items c.read_stale_entry.new.items c.loop-items.tables
    c.in-Some.entry c.loop-items.invariant.stale c.in-Some.ensures.exact
    (omega (arith, c.if-stale_entries-ge-MOST_STALE_ENTRIES.true, c.stale_entries.ensures.count))

pub returns-then-is_some-clause-none : goal.returns-then-is_some-clause-none
returns-then-is_some-clause-none c =
    stale_twice c.args.contents.now c.loop-items.items c.read_stale_entry.new.items c.loop-items.tables
    c.in-Some.entry c.loop-items.invariant.stale c.in-Some.ensures.exact c.last.result c.last.ensures.last
    c.is_some.result (c.is_some.ensures ∙ ap is_some c.stale_of.ensures.number) c.if-is_some.true

pub loop-items-smaller : goal.loop-items-smaller
loop-items-smaller c = stale_falls c.loop-items.items (c.in-Some.entry, c.read_stale_entry.new.items) c.in-Some.ensures.exact

pub loop-items-preserved : goal.loop-items-preserved
loop-items-preserved c = record {
  stale = stale_more c.args.contents.now c.loop-items.items c.read_stale_entry.new.items c.loop-items.tables
      c.in-Some.entry c.loop-items.invariant.stale c.in-Some.ensures.exact c.take_stale.new.self c.last.result
      c.last.ensures.last c.is_some.result (c.is_some.ensures ∙ ap is_some c.stale_of.ensures.number) c.if-is_some.false
      (omega (arith, c.if-stale_entries-ge-MOST_STALE_ENTRIES.false, c.stale_entries.ensures.count))
      c.in_ok-take_stale.ensures.ok;
  packages = ap (λ (s : State Stored). s.packages) c.in_ok-take_stale.ensures.ok ∙ c.loop-items.invariant.packages;
}

pub returns-clause-some : goal.returns-clause-some
returns-clause-some c = record {
  read = ends stale_at _ c.loop-items.tables.stale c.loop-items.items
      (none_left c.loop-items.items c.at_end.result c.at_end.ensures.end c.loop-items-test.false)
      c.loop-items.invariant.stale.read;
  are = c.loop-items.invariant.stale.are;
}
