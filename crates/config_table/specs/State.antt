-- What a module has installed, and what it takes for stale (RFC 4108, section 2.2.3).
use Rattle.std.specs.Prelude.{ℕ, List, [], ◌∷◌, map, max, Option, Some, None, option_map, option_and_then, if◌then◌else◌}
use Rattle.std.specs.List.{find}
use Rattle.sha2.specs.Sha256.{sha256}
use Rattle.package_attrs.specs.declared.name.PackageName.{PackageName}
use Rattle.package_attrs.specs.declared.name.PackageName.TheVariants as names
use Rattle.package_attrs.specs.declared.name.Stale.{Stale}
use Rattle.package_attrs.specs.declared.name.Stale.TheVariants as values
use Rattle.package_attrs.specs.Description.{Description}
use Rattle.config_table.specs.declared.stale_entry.StaleEntry.{StaleEntry}
use Rattle.config_table.specs.declared.stale_entry.StaleEntry.TheVariants as entries
use Rattle.config_table.specs.Names.{is_same}

-- An installed package. What stands for its image is an I: the octets themselves, their number, or where they are kept.
pub record Entry (I : Type 0) : Type 0 where
  pub name : PackageName
  -- SHA-256 of the image
  pub digest : List ℕ
  pub image : I
  -- its package type, and the dependencies that it was accepted with (RFC 4108, section 2.2.9)
  pub kind : Option ℕ
  pub needs : List PackageName

-- The packages in order of first installation, and the stale entries in order of first mention.
pub record State (I : Type 0) : Type 0 where
  pub packages : List (Entry I)
  pub stale : List StaleEntry

-- What a package that is offered brings to the tables. Its stale value is the entry that it makes.
pub record Offer : Type 0 where
  pub name : PackageName
  pub makes_stale : Option StaleEntry
  pub kind : Option ℕ
  pub needs : List PackageName

-- the entry that a stale value makes beside a name of its kind: the identifier's number, or that legacy name
abbrev pub made_stale : PackageName → Stale → Option StaleEntry
made_stale (names.Preferred id version) (values.Upto upto) = Some (entries.Preferred id upto)
made_stale (names.Preferred id version) (values.Legacy octets) = None
made_stale (names.Legacy name) (values.Upto upto) = None
made_stale (names.Legacy name) (values.Legacy octets) = Some (entries.Legacy octets)

-- what a package of this description brings: its name, the entry that its stale value makes beside the name, its type
-- and its dependencies
abbrev pub offer_of : Description → Offer
offer_of described = record {
  name = described.identifier.name;
  makes_stale = option_and_then (made_stale described.identifier.name) described.identifier.stale;
  kind = described.info.kind;
  needs = described.info.dependencies;
}

-- the last name that an entry makes stale
abbrev pub last_stale : StaleEntry → PackageName
last_stale (entries.Preferred id upto) = names.Preferred id upto
last_stale (entries.Legacy octets) = names.Legacy octets

-- the number of an entry, which is 0 for a legacy name
abbrev pub stale_number : StaleEntry → ℕ
stale_number (entries.Preferred id upto) = upto
stale_number (entries.Legacy octets) = 0

-- the names of packages, and of stale entries
abbrev pub names_of : {I : Type 0} → List (Entry I) → List PackageName
names_of packages = map (λ entry. entry.name) packages

abbrev pub stale_names_of : List StaleEntry → List PackageName
stale_names_of stale = map last_stale stale

-- the number of the entry of this identifier or legacy name, if there is one
abbrev pub stale_of : {I : Type 0} → PackageName → State I → Option ℕ
stale_of name state = option_map stale_number (find (λ entry. is_same name (last_stale entry)) state.stale)

-- into the place of the one that names the same package, as what `join` makes of the two, or last
abbrev pub put : {X : Type 0} → (X → PackageName) → (X → X → X) → X → List X → List X
put name join new [] = new ∷ []
put name join new (old ∷ rest) =
    if is_same (name new) (name old) then join old new ∷ rest
    else old ∷ put name join new rest

-- a package takes the place of the one with its identifier or its legacy name, or goes last
abbrev pub placed : {I : Type 0} → Entry I → List (Entry I) → List (Entry I)
placed new packages = put (λ entry. entry.name) (λ old new. new) new packages

-- the entry with the greater of two numbers of one identifier
abbrev pub greater : StaleEntry → StaleEntry → StaleEntry
greater (entries.Preferred id upto) (entries.Preferred id' upto') = entries.Preferred id (max upto upto')
greater (entries.Preferred id upto) (entries.Legacy octets) = entries.Preferred id upto
greater (entries.Legacy octets) new = entries.Legacy octets

-- an identifier's number becomes the greater one; an identifier or a legacy name that isn't there goes last
abbrev pub raised : StaleEntry → List StaleEntry → List StaleEntry
raised new stale = put last_stale greater new stale

abbrev pub raised_by : Option StaleEntry → List StaleEntry → List StaleEntry
raised_by None stale = stale
raised_by (Some new) stale = raised new stale

-- the entry of an offered package whose image has this digest
abbrev pub entry_for : {I : Type 0} → Offer → List ℕ → I → Entry I
entry_for offer digest image = record {
  name = offer.name;
  digest = digest;
  image = image;
  kind = offer.kind;
  needs = offer.needs;
}

-- the state with an offered package, whose image has this digest
abbrev pub with_package : {I : Type 0} → Offer → List ℕ → I → State I → State I
with_package offer digest image state = record {
  packages = placed (entry_for offer digest image) state.packages;
  stale = raised_by offer.makes_stale state.stale;
}

-- the state after an offered package is installed with this image
abbrev pub after_package : Offer → List ℕ → State (List ℕ) → State (List ℕ)
after_package offer image state = with_package offer (sha256 image) image state

-- the state after these packages with their images, the first of them first
abbrev pub made_by : List (Offer × List ℕ) → State (List ℕ) → State (List ℕ)
made_by [] state = state
made_by (one ∷ more) state = made_by more (after_package one.0 one.1 state)

abbrev pub empty_state : {I : Type 0} → State I
empty_state = record { packages = []; stale = [] }

-- the same packages, with other stands for their images
abbrev pub entry_with : {I J : Type 0} → (I → J) → Entry I → Entry J
entry_with f entry = record {
  name = entry.name;
  digest = entry.digest;
  image = f entry.image;
  kind = entry.kind;
  needs = entry.needs;
}

abbrev pub state_with : {I J : Type 0} → (I → J) → State I → State J
state_with f state = record { packages = map (entry_with f) state.packages; stale = state.stale }
