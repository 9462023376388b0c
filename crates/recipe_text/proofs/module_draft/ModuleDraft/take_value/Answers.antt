use Rattle.std.proofs.Common.{refl}
use Rattle.recipe_text.specs.ModuleReading.{draft_parts}
use Rattle.recipe_text.specs.declared.module_line.ModuleKind.TheVariants as kinds
use Rattle.recipe_text.proofs.ModulePlaces.{at_kind, fill_hw_type, fill_serial, fill_capacity, fill_key, add_community}
use Rattle.recipe_text.proofs.ModulePlaces.{add_type, add_anchor}
use Rattle.recipe_text.proofs.PackagePlaces.{if_ok_both}
use Rattle.recipe_text.proofs.module_draft.ModuleDraft.take_value.Goals as goal

pub returns-in_ok-oid_in-in-HwType : goal.returns-in_ok-oid_in-in-HwType
returns-in_ok-oid_in-in-HwType c = record {
  takes = at_kind c.args.kind kinds.HwType c.args.text.now _ _ _ c.in-HwType.is
      (fill_hw_type (draft_parts c.args.self.now) c.requires.fit c.args.text.now c.args.self.now.hw_type c.in_ok-oid_in-in-HwType.field-0 c.fill.new.place
      c.fill.result refl c.fill.ensures.fills c.fill.ensures.filled c.in_ok-oid_in-in-HwType.ensures.exact);
}

pub returns-in_ok-hex64_in-in-Serial : goal.returns-in_ok-hex64_in-in-Serial
returns-in_ok-hex64_in-in-Serial c = record {
  takes = at_kind c.args.kind kinds.Serial c.args.text.now _ _ _ c.in-Serial.is
      (fill_serial (draft_parts c.args.self.now) c.requires.fit c.args.text.now c.args.self.now.serial c.in_ok-hex64_in-in-Serial.field-0 c.fill-in-Serial.new.place
      c.fill-in-Serial.result refl c.fill-in-Serial.ensures.fills c.fill-in-Serial.ensures.filled c.in_ok-hex64_in-in-Serial.ensures.exact);
}

pub returns-in-Capacity : goal.returns-in-Capacity
returns-in-Capacity c = record {
  takes = at_kind c.args.kind kinds.Capacity c.args.text.now _ _ _ c.in-Capacity.is
      (fill_capacity (draft_parts c.args.self.now) c.requires.fit c.args.text.now c.args.self.now.capacity c.capacity_in.result c.fill-in-Capacity.new.place
      c.fill-in-Capacity.result refl c.fill-in-Capacity.ensures.fills c.fill-in-Capacity.ensures.filled c.capacity_in.ensures.exact);
}

pub returns-in-Key : goal.returns-in-Key
returns-in-Key c = record {
  takes = at_kind c.args.kind kinds.Key c.args.text.now _ _ _ c.in-Key.is
      (fill_key (draft_parts c.args.self.now) c.requires.fit c.args.text.now c.args.self.now.key c.key_behind.result c.fill-in-Key.new.place
      c.fill-in-Key.result refl c.fill-in-Key.ensures.fills c.fill-in-Key.ensures.filled c.key_behind.ensures.spelled);
}

pub returns-in_ok-oid_in-in-Community : goal.returns-in_ok-oid_in-in-Community
returns-in_ok-oid_in-in-Community c = record {
  takes = if_ok_both _ _ _ c.add.result
      (λ good adds put. at_kind c.args.kind kinds.Community c.args.text.now _ _ good c.in-Community.is
      (add_community (draft_parts c.args.self.now) c.requires.fit c.args.text.now c.in_ok-oid_in-in-Community.field-0 c.add.new.list.items good adds put
      c.in_ok-oid_in-in-Community.ensures.exact)) c.add.ensures.adds c.add.ensures.added;
}

pub returns-in-Type : goal.returns-in-Type
returns-in-Type c = record {
  takes = if_ok_both _ _ _ c.add-in-Type.result
      (λ good adds put. at_kind c.args.kind kinds.Type c.args.text.now _ _ good c.in-Type.is
      (add_type (draft_parts c.args.self.now) c.requires.fit c.args.text.now c.read_decimal_u128.result c.add-in-Type.new.list.items good adds put
      c.read_decimal_u128.ensures.spelled)) c.add-in-Type.ensures.adds c.add-in-Type.ensures.added;
}

pub returns-in_ok-anchor_in-in-Anchor : goal.returns-in_ok-anchor_in-in-Anchor
returns-in_ok-anchor_in-in-Anchor c = record {
  takes = if_ok_both _ _ _ c.add-in-Anchor.result
      (λ good adds put. at_kind c.args.kind kinds.Anchor c.args.text.now _ _ good c.in-Anchor.is
      (add_anchor (draft_parts c.args.self.now) c.requires.fit c.args.text.now c.in_ok-anchor_in-in-Anchor.field-0 c.add-in-Anchor.new.list.items good adds put
      c.in_ok-anchor_in-in-Anchor.ensures.exact)) c.add-in-Anchor.ensures.adds c.add-in-Anchor.ensures.added;
}
