use Rattle.std.proofs.Common.{option_map, refl, ap}
use Rattle.recipe_text.specs.PackageReading.{draft_parts, grow, IsValueOf}
use Rattle.recipe_text.specs.PackageRecipe.{IsPackageFit}
use Rattle.recipe_text.specs.declared.package_line.PackageKind.TheVariants as kinds
use Rattle.recipe_text.proofs.CertPlaces.{octets}
use Rattle.recipe_text.proofs.PackagePlaces.{at_kind, filled_takes, if_ok_both, fill_package, fill_legacy, fill_stale}
use Rattle.recipe_text.proofs.PackagePlaces.{fill_legacy_stale, add_target, add_group, add_modules, fill_type, add_depends}
use Rattle.recipe_text.proofs.PackagePlaces.{add_depends_legacy, add_certificate, fill_signer, fill_image}
use Rattle.recipe_text.proofs.PackagePlaces.{if_ok_as}
use Rattle.recipe_text.proofs.Taking.{once_seen, added_seen}
use Rattle.recipe_text.proofs.package_draft.PackageDraft.take_value.Goals as goal

pub returns-in_ok-preferred_in-in-Package : goal.returns-in_ok-preferred_in-in-Package
returns-in_ok-preferred_in-in-Package c = record {
  takes = at_kind c.args.kind kinds.Package c.args.text.now _ _ _ c.in-Package.is
      (filled_takes (IsValueOf kinds.Package c.args.text.now) IsPackageFit grow _ _ _ c.take_name.result c.take_name.ensures.filled
      (fill_package (draft_parts c.args.self.now) c.requires.fit c.args.text.now c.args.self.now.name c.in_ok-preferred_in-in-Package.field-0 c.args.self.now.stale
      c.take_name.result refl refl c.take_name.ensures.fills c.in_ok-preferred_in-in-Package.ensures.exact));
}

pub returns-in_ok-legacy_in-in-Legacy : goal.returns-in_ok-legacy_in-in-Legacy
returns-in_ok-legacy_in-in-Legacy c = record {
  takes = at_kind c.args.kind kinds.Legacy c.args.text.now _ _ _ c.in-Legacy.is
      (filled_takes (IsValueOf kinds.Legacy c.args.text.now) IsPackageFit grow _ _ _ c.take_name-in-Legacy.result c.take_name-in-Legacy.ensures.filled
      (fill_legacy (draft_parts c.args.self.now) c.requires.fit c.args.text.now c.args.self.now.name c.in_ok-legacy_in-in-Legacy.field-0 c.args.self.now.stale
      c.take_name-in-Legacy.result refl refl c.take_name-in-Legacy.ensures.fills c.in_ok-legacy_in-in-Legacy.ensures.exact));
}

pub returns-in-Stale : goal.returns-in-Stale
returns-in-Stale c = record {
  takes = at_kind c.args.kind kinds.Stale c.args.text.now _ _ _ c.in-Stale.is
      (filled_takes (IsValueOf kinds.Stale c.args.text.now) IsPackageFit grow _ _ _ c.take_stale.result c.take_stale.ensures.filled
      (fill_stale (draft_parts c.args.self.now) c.requires.fit c.args.text.now c.args.self.now.stale c.upto_in.result c.args.self.now.name
      c.take_stale.result refl refl c.take_stale.ensures.fills c.upto_in.ensures.exact));
}

pub returns-in_ok-legacy_stale_in-in-LegacyStale : goal.returns-in_ok-legacy_stale_in-in-LegacyStale
returns-in_ok-legacy_stale_in-in-LegacyStale c = record {
  takes = at_kind c.args.kind kinds.LegacyStale c.args.text.now _ _ _ c.in-LegacyStale.is
      (filled_takes (IsValueOf kinds.LegacyStale c.args.text.now) IsPackageFit grow _ _ _ c.take_stale-in-LegacyStale.result c.take_stale-in-LegacyStale.ensures.filled
      (fill_legacy_stale (draft_parts c.args.self.now) c.requires.fit c.args.text.now c.args.self.now.stale c.in_ok-legacy_stale_in-in-LegacyStale.field-0 c.args.self.now.name
      c.take_stale-in-LegacyStale.result refl refl c.take_stale-in-LegacyStale.ensures.fills c.in_ok-legacy_stale_in-in-LegacyStale.ensures.exact));
}

pub returns-in_ok-oid_in-in-Target : goal.returns-in_ok-oid_in-in-Target
returns-in_ok-oid_in-in-Target c = record {
  takes = if_ok_both _ _ _ c.add.result
      (λ good adds put. at_kind c.args.kind kinds.Target c.args.text.now _ _ good c.in-Target.is
      (add_target (draft_parts c.args.self.now) c.requires.fit c.args.text.now c.in_ok-oid_in-in-Target.field-0 c.add.new.list.items good adds put
      c.in_ok-oid_in-in-Target.ensures.exact)) c.add.ensures.adds c.add.ensures.added;
}

pub returns-in-Community : goal.returns-in-Community
returns-in-Community c = record {
  takes = if_ok_as _ _ c.add_group.result
      (λ good a. at_kind c.args.kind kinds.Community c.args.text.now _ _ good c.in-Community.is
      (add_group (draft_parts c.args.self.now) c.requires.fit c.args.text.now a.value c.add_group.new.list.items good a.adds
      a.put a.exact)) c.add_group.ensures.adds;
}

pub returns-in-Module : goal.returns-in-Module
returns-in-Module c = record {
  takes = if_ok_as _ _ c.add_modules.result
      (λ good a. at_kind c.args.kind kinds.Module c.args.text.now _ _ good c.in-Module.is
      (add_modules (draft_parts c.args.self.now) c.requires.fit c.args.text.now a.value c.add_modules.new.list.items good a.adds
      a.put a.exact)) c.add_modules.ensures.adds;
}

pub returns-in-Type : goal.returns-in-Type
returns-in-Type c = record {
  takes = at_kind c.args.kind kinds.Type c.args.text.now _ _ _ c.in-Type.is
      (fill_type (draft_parts c.args.self.now) c.requires.fit c.args.text.now c.args.self.now.kind c.read_decimal_u128.result
      c.fill.new.place c.fill.result refl c.fill.ensures.fills c.fill.ensures.filled c.read_decimal_u128.ensures.spelled);
}

pub returns-in_ok-preferred_in-in-Depends : goal.returns-in_ok-preferred_in-in-Depends
returns-in_ok-preferred_in-in-Depends c = record {
  takes = if_ok_both _ _ _ c.add-in-Depends.result
      (λ good adds put. at_kind c.args.kind kinds.Depends c.args.text.now _ _ good c.in-Depends.is
      (add_depends (draft_parts c.args.self.now) c.requires.fit c.args.text.now c.in_ok-preferred_in-in-Depends.field-0 c.add-in-Depends.new.list.items good adds put
      c.in_ok-preferred_in-in-Depends.ensures.exact)) c.add-in-Depends.ensures.adds c.add-in-Depends.ensures.added;
}

pub returns-in_ok-legacy_in-in-DependsLegacy : goal.returns-in_ok-legacy_in-in-DependsLegacy
returns-in_ok-legacy_in-in-DependsLegacy c = record {
  takes = if_ok_both _ _ _ c.add-in-DependsLegacy.result
      (λ good adds put. at_kind c.args.kind kinds.DependsLegacy c.args.text.now _ _ good c.in-DependsLegacy.is
      (add_depends_legacy (draft_parts c.args.self.now) c.requires.fit c.args.text.now c.in_ok-legacy_in-in-DependsLegacy.field-0 c.add-in-DependsLegacy.new.list.items good adds put
      c.in_ok-legacy_in-in-DependsLegacy.ensures.exact)) c.add-in-DependsLegacy.ensures.adds c.add-in-DependsLegacy.ensures.added;
}

pub returns-in_ok-certificate_in-in-Certificate : goal.returns-in_ok-certificate_in-in-Certificate
returns-in_ok-certificate_in-in-Certificate c = record {
  takes = if_ok_both _ _ _ c.add-in-Certificate.result
      (λ good adds put.
      let seen = added_seen octets c.args.self.now.certificates.items c.add-in-Certificate.new.list.items
      c.in_ok-certificate_in-in-Certificate.field-0 8 good adds put in
      at_kind c.args.kind kinds.Certificate c.args.text.now _ _ good c.in-Certificate.is
      (add_certificate (draft_parts c.args.self.now) c.requires.fit c.args.text.now
      (option_map octets c.in_ok-certificate_in-in-Certificate.field-0) _ good seen.0 seen.1
      c.in_ok-certificate_in-in-Certificate.ensures.exact))
      c.add-in-Certificate.ensures.adds c.add-in-Certificate.ensures.added;
}

pub returns-in_ok-hex64_in-in-Signer : goal.returns-in_ok-hex64_in-in-Signer
returns-in_ok-hex64_in-in-Signer c = record {
  takes = at_kind c.args.kind kinds.Signer c.args.text.now _ _ _ c.in-Signer.is
      (fill_signer (draft_parts c.args.self.now) c.requires.fit c.args.text.now c.args.self.now.signer c.in_ok-hex64_in-in-Signer.field-0
      c.fill-in-Signer.new.place c.fill-in-Signer.result refl c.fill-in-Signer.ensures.fills c.fill-in-Signer.ensures.filled c.in_ok-hex64_in-in-Signer.ensures.exact);
}

pub returns-in_ok-image_in-in-Image : goal.returns-in_ok-image_in-in-Image
returns-in_ok-image_in-in-Image c = record {
  takes = at_kind c.args.kind kinds.Image c.args.text.now _ _ _ c.in-Image.is
      (fill_image (draft_parts c.args.self.now) c.requires.fit c.args.text.now (option_map octets c.args.self.now.image)
      (option_map octets c.in_ok-image_in-in-Image.field-0) (option_map octets c.fill-in-Image.new.place) c.fill-in-Image.result refl
      (once_seen octets c.args.self.now.image c.in_ok-image_in-in-Image.field-0 c.fill-in-Image.result c.fill-in-Image.ensures.fills)
      (λ is. ap (option_map octets) (c.fill-in-Image.ensures.filled is)) c.in_ok-image_in-in-Image.ensures.exact);
}
