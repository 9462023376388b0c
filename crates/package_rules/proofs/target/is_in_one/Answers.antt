use Rattle.std.proofs.Common.{◌≡◌, Bool, false, sym, ap, ◌∙◌, refl}
use Rattle.std.specs.Prelude.{◌||◌}
use Rattle.std.specs.List.{list_any}
use Rattle.std.proofs.lemmas.Bool.{or_left}
use Rattle.package_rules.specs.Communities.{holds_module}
use Rattle.package_rules.proofs.target.is_in_one.Goals as goal

passed : (first others : Bool) → first ≡ false → (first || others) ≡ others
passed first others isnt = rw isnt refl

pub loop-community-init : goal.loop-community-init
loop-community-init c = ap (list_any (holds_module c.args.hardware.now)) (sym c.iter-rest.ensures.same)

pub returns-then-holds_module : goal.returns-then-holds_module
returns-then-holds_module c = record {
  one =
      sym (c.loop-community.invariant
      ∙ ap (list_any (holds_module c.args.hardware.now)) c.in-Some.ensures.steps
      ∙ or_left (holds_module c.args.hardware.now c.in-Some.community)
      (list_any (holds_module c.args.hardware.now) c.next.new.self)
      (sym c.holds_module.ensures.holds ∙ c.if-holds_module.true));
}

pub loop-community-preserved : goal.loop-community-preserved
loop-community-preserved c =
    c.loop-community.invariant
    ∙ ap (list_any (holds_module c.args.hardware.now)) c.in-Some.ensures.steps
    ∙ passed (holds_module c.args.hardware.now c.in-Some.community)
    (list_any (holds_module c.args.hardware.now) c.next.new.self)
    (sym c.holds_module.ensures.holds ∙ c.if-holds_module.false)

pub returns : goal.returns
returns c = record {
  one = sym (c.loop-community.invariant ∙ ap (list_any (holds_module c.args.hardware.now)) c.in_default.ensures.steps.0);
}
