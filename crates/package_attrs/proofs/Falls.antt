-- Readings at the front take octets.
use Rattle.std.proofs.Common.{ℕ, inl, inr}
use Rattle.std.proofs.lemmas.Bool.{cases_Bool}
use Rattle.der_core.specs.Reading.{oid_of, octets_of}
use Rattle.der_core.specs.Shapes.{Front, begins_with, choice, mapped}
use Rattle.der_core.proofs.Shapes.{element-falls}
use Rattle.attribute_set.proofs.ItemLemmas.{Falls}
use Rattle.package_attrs.specs.declared.community.SerialEntry.TheVariants as entries
use Rattle.package_attrs.specs.declared.community.Community.TheVariants as communities
use Rattle.package_attrs.specs.declared.name.PackageName.TheVariants as names
use Rattle.package_attrs.specs.Reading.{oid_at, pair_of, name_at}
use Rattle.package_attrs.specs.ListReading.{modules_of, community_at}
use Rattle.package_attrs.specs.SerialReading.{nothing, block_of, serial_entry_at}

choice_falls : {V : Type 0} (tag : ℕ) (this other : Front V) → Falls this → Falls other → Falls (choice tag this other)
choice_falls tag this other first second bytes x e = elim (cases_Bool (begins_with tag bytes)) [
  | inl is ↦ first bytes x (rw is at e)
  | inr isnt ↦ second bytes x (rw isnt at e)
]

pub oid_falls : Falls oid_at
unfolding oid_at
oid_falls = element-falls 0x06 oid_of

pub serial_entry_falls : Falls serial_entry_at
unfolding serial_entry_at
serial_entry_falls =
    choice_falls 0x05 _ _ (element-falls 0x05 (nothing entries.All))
    (choice_falls 0x04 _ _ (element-falls 0x04 (mapped (λ serial. entries.Single serial) octets_of))
    (element-falls 0x30 (mapped (λ ends. entries.Block ends.0 ends.1) block_of)))

pub community_falls : Falls community_at
unfolding community_at
community_falls =
    choice_falls 0x06 _ _ (element-falls 0x06 (mapped (λ id. communities.Group id) oid_of))
    (element-falls 0x30 (mapped (λ modules. communities.Modules modules.0 modules.1) modules_of))

pub name_falls : Falls name_at
unfolding name_at
name_falls =
    choice_falls 0x30 _ _ (element-falls 0x30 (mapped (λ x. names.Preferred x.0 x.1) pair_of))
    (element-falls 0x04 (mapped (λ octets. names.Legacy octets) octets_of))
