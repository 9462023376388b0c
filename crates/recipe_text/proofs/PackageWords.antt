-- The values of a package recipe's lines are read exactly.
use Rattle.std.proofs.Common.{◌≡◌, ℕ, true, false, List, ◌∷◌, ◌++◌, Option, Some, None, refl, sym, ◌∙◌, ap, subst, codes}
use Rattle.std.proofs.lemmas.Bool.{false≢true}
use Rattle.std.proofs.lemmas.Option.{none-some}
use Rattle.attribute_write.specs.declared.communities.NamedCommunity.{NamedCommunity}
use Rattle.attribute_write.specs.declared.communities.NamedCommunity.TheVariants as community_kinds
use Rattle.package_attrs.specs.declared.community.SerialEntry.{SerialEntry}
use Rattle.package_attrs.specs.declared.community.SerialEntry.TheVariants.{All, Single, Block}
use Rattle.package_attrs.specs.declared.name.PackageName.{PackageName}
use Rattle.package_attrs.specs.declared.name.PackageName.TheVariants as package_names
use Rattle.package_attrs.specs.declared.name.Stale.{Stale}
use Rattle.package_attrs.specs.declared.name.Stale.TheVariants as stale_values
use Rattle.recipe_text.specs.PackageReading.{IsNameOf, IsStaleOf, IsCommunityOf, IsSingle, IsBlock}
use Rattle.recipe_text.specs.PackageRecipe.{IsSerialText}
use Rattle.recipe_text.specs.Reading.{cut}
use Rattle.recipe_text.specs.Words.{Exactly, IsPair, IsNumber, IsOidWord, IsHex64}
use Rattle.recipe_text.proofs.Cuts.{Without, cut_takes}
use Rattle.recipe_text.proofs.Names.{without, uncut, cut_is, not_cut}
use Rattle.recipe_text.proofs.WordLemmas.{nothing, just, formed_some, formed_none}

-- a preferred name

preferred_into : (text : List ℕ) (v : List ℕ × ℕ) → IsPair IsOidWord IsNumber text v → IsNameOf true text (package_names.Preferred v.0 v.1)
preferred_into text v h = (refl, h)

preferred_out : (text : List ℕ) (w : PackageName) → IsNameOf true text w → (v : List ℕ × ℕ) × IsPair IsOidWord IsNumber text v × (w ≡ package_names.Preferred v.0 v.1)
preferred_out text (package_names.Preferred id version) h = ((id, version), h.1, refl)
preferred_out text (package_names.Legacy octets) h = absurd (false≢true h.0)

module _ (text : List ℕ) where
  pub preferred_some : (x : List ℕ × ℕ) → Exactly (IsPair IsOidWord IsNumber text) (Some x) → Exactly (IsNameOf true text) (Some (package_names.Preferred x.0 x.1))
  preferred_some = formed_some (IsPair IsOidWord IsNumber text) (IsNameOf true text) (λ (v : List ℕ × ℕ). package_names.Preferred v.0 v.1) (preferred_into text) (preferred_out text)

  pub preferred_none : Exactly (IsPair IsOidWord IsNumber text) None → Exactly (IsNameOf true text) None
  preferred_none = formed_none (IsPair IsOidWord IsNumber text) (IsNameOf true text) (λ (v : List ℕ × ℕ). package_names.Preferred v.0 v.1) (preferred_into text) (preferred_out text)

-- a legacy name

legacy_into : (text : List ℕ) (v : List ℕ) → IsHex64 text v → IsNameOf false text (package_names.Legacy v)
legacy_into text v h = (refl, h)

legacy_out : (text : List ℕ) (w : PackageName) → IsNameOf false text w → (v : List ℕ) × IsHex64 text v × (w ≡ package_names.Legacy v)
legacy_out text (package_names.Preferred id version) h = absurd (false≢true (sym h.0))
legacy_out text (package_names.Legacy octets) h = (octets, h.1, refl)

module _ (text : List ℕ) where
  pub legacy_some : (x : List ℕ) → Exactly (IsHex64 text) (Some x) → Exactly (IsNameOf false text) (Some (package_names.Legacy x))
  legacy_some = formed_some (IsHex64 text) (IsNameOf false text) (λ (v : List ℕ). package_names.Legacy v) (legacy_into text) (legacy_out text)

  pub legacy_none : Exactly (IsHex64 text) None → Exactly (IsNameOf false text) None
  legacy_none = formed_none (IsHex64 text) (IsNameOf false text) (λ (v : List ℕ). package_names.Legacy v) (legacy_into text) (legacy_out text)

-- a stale number

upto_into : (text : List ℕ) (v : ℕ) → IsNumber text v → IsStaleOf true text (stale_values.Upto v)
upto_into text v h = (refl, h)

upto_out : (text : List ℕ) (w : Stale) → IsStaleOf true text w → (v : ℕ) × IsNumber text v × (w ≡ stale_values.Upto v)
upto_out text (stale_values.Upto n) h = (n, h.1, refl)
upto_out text (stale_values.Legacy octets) h = absurd (false≢true h.0)

module _ (text : List ℕ) where
  pub upto_some : (x : ℕ) → Exactly (IsNumber text) (Some x) → Exactly (IsStaleOf true text) (Some (stale_values.Upto x))
  upto_some = formed_some (IsNumber text) (IsStaleOf true text) (λ (v : ℕ). stale_values.Upto v) (upto_into text) (upto_out text)

  pub upto_none : Exactly (IsNumber text) None → Exactly (IsStaleOf true text) None
  upto_none = formed_none (IsNumber text) (IsStaleOf true text) (λ (v : ℕ). stale_values.Upto v) (upto_into text) (upto_out text)

-- a legacy stale value

legacy_stale_into : (text : List ℕ) (v : List ℕ) → IsHex64 text v → IsStaleOf false text (stale_values.Legacy v)
legacy_stale_into text v h = (refl, h)

legacy_stale_out : (text : List ℕ) (w : Stale) → IsStaleOf false text w → (v : List ℕ) × IsHex64 text v × (w ≡ stale_values.Legacy v)
legacy_stale_out text (stale_values.Upto n) h = absurd (false≢true (sym h.0))
legacy_stale_out text (stale_values.Legacy octets) h = (octets, h.1, refl)

module _ (text : List ℕ) where
  pub legacy_stale_some : (x : List ℕ) → Exactly (IsHex64 text) (Some x) → Exactly (IsStaleOf false text) (Some (stale_values.Legacy x))
  legacy_stale_some = formed_some (IsHex64 text) (IsStaleOf false text) (λ (v : List ℕ). stale_values.Legacy v) (legacy_stale_into text) (legacy_stale_out text)

  pub legacy_stale_none : Exactly (IsHex64 text) None → Exactly (IsStaleOf false text) None
  legacy_stale_none = formed_none (IsHex64 text) (IsStaleOf false text) (λ (v : List ℕ). stale_values.Legacy v) (legacy_stale_into text) (legacy_stale_out text)

-- the community of an identifier

group_into : (text : List ℕ) (v : List ℕ) → IsOidWord text v → IsCommunityOf true text (community_kinds.Group v)
group_into text v h = (refl, h)

group_out : (text : List ℕ) (w : NamedCommunity) → IsCommunityOf true text w → (v : List ℕ) × IsOidWord text v × (w ≡ community_kinds.Group v)
group_out text (community_kinds.Group id) h = (id, h.1, refl)
group_out text (community_kinds.Modules hw_type serial) h = absurd (false≢true h.0)

module _ (text : List ℕ) where
  pub group_some : (x : List ℕ) → Exactly (IsOidWord text) (Some x) → Exactly (IsCommunityOf true text) (Some (community_kinds.Group x))
  group_some = formed_some (IsOidWord text) (IsCommunityOf true text) (λ (v : List ℕ). community_kinds.Group v) (group_into text) (group_out text)

  pub group_none : Exactly (IsOidWord text) None → Exactly (IsCommunityOf true text) None
  group_none = formed_none (IsOidWord text) (IsCommunityOf true text) (λ (v : List ℕ). community_kinds.Group v) (group_into text) (group_out text)

-- modules of a hardware type

modules_into : (text : List ℕ) (v : List ℕ × SerialEntry) → IsPair IsOidWord IsSerialText text v → IsCommunityOf false text (community_kinds.Modules v.0 v.1)
modules_into text v h = (refl, h)

modules_out : (text : List ℕ) (w : NamedCommunity) → IsCommunityOf false text w → (v : List ℕ × SerialEntry) × IsPair IsOidWord IsSerialText text v × (w ≡ community_kinds.Modules v.0 v.1)
modules_out text (community_kinds.Group id) h = absurd (false≢true (sym h.0))
modules_out text (community_kinds.Modules hw_type serial) h = ((hw_type, serial), h.1, refl)

module _ (text : List ℕ) where
  pub modules_some : (x : List ℕ × SerialEntry) → Exactly (IsPair IsOidWord IsSerialText text) (Some x) → Exactly (IsCommunityOf false text) (Some (community_kinds.Modules x.0 x.1))
  modules_some = formed_some (IsPair IsOidWord IsSerialText text) (IsCommunityOf false text) (λ (v : List ℕ × SerialEntry). community_kinds.Modules v.0 v.1) (modules_into text) (modules_out text)

  pub modules_none : Exactly (IsPair IsOidWord IsSerialText text) None → Exactly (IsCommunityOf false text) None
  modules_none = formed_none (IsPair IsOidWord IsSerialText text) (IsCommunityOf false text) (λ (v : List ℕ × SerialEntry). community_kinds.Modules v.0 v.1) (modules_into text) (modules_out text)

-- one serial number

single_into : (text : List ℕ) (v : List ℕ) → IsHex64 text v → IsSingle text (Single v)
single_into text v h = h

single_out : (text : List ℕ) (w : SerialEntry) → IsSingle text w → (v : List ℕ) × IsHex64 text v × (w ≡ Single v)
single_out text All h = absurd h
single_out text (Single serial) h = (serial, h, refl)
single_out text (Block low high) h = absurd h

module _ (text : List ℕ) where
  pub single_some : (x : List ℕ) → Exactly (IsHex64 text) (Some x) → Exactly (IsSingle text) (Some (Single x))
  single_some = formed_some (IsHex64 text) (IsSingle text) (λ (v : List ℕ). Single v) (single_into text) (single_out text)

  pub single_none : Exactly (IsHex64 text) None → Exactly (IsSingle text) None
  single_none = formed_none (IsHex64 text) (IsSingle text) (λ (v : List ℕ). Single v) (single_into text) (single_out text)

-- a block of serial numbers

block_into : (text : List ℕ) (v : List ℕ × List ℕ) → IsPair IsHex64 IsHex64 text v → IsBlock text (Block v.0 v.1)
block_into text v h = h

block_out : (text : List ℕ) (w : SerialEntry) → IsBlock text w → (v : List ℕ × List ℕ) × IsPair IsHex64 IsHex64 text v × (w ≡ Block v.0 v.1)
block_out text All h = absurd h
block_out text (Single serial) h = absurd h
block_out text (Block low high) h = ((low, high), h, refl)

module _ (text : List ℕ) where
  pub block_some : (x : List ℕ × List ℕ) → Exactly (IsPair IsHex64 IsHex64 text) (Some x) → Exactly (IsBlock text) (Some (Block x.0 x.1))
  block_some = formed_some (IsPair IsHex64 IsHex64 text) (IsBlock text) (λ (v : List ℕ × List ℕ). Block v.0 v.1) (block_into text) (block_out text)

  pub block_none : Exactly (IsPair IsHex64 IsHex64 text) None → Exactly (IsBlock text) None
  block_none = formed_none (IsPair IsHex64 IsHex64 text) (IsBlock text) (λ (v : List ℕ × List ℕ). Block v.0 v.1) (block_into text) (block_out text)

-- the serial numbers of modules

all_uncut : (text : List ℕ) → text ≡ codes "all" → cut 32 text ≡ None
all_uncut text is = ap (cut 32) is ∙ uncut 32 (codes "all") (without 32 (codes "all") refl)

single_spaceless : Without 32 (codes "single")
single_spaceless = without 32 (codes "single") refl

block_spaceless : Without 32 (codes "block")
block_spaceless = without 32 (codes "block") refl

pub all_some : (text : List ℕ) → text ≡ codes "all" → Exactly (IsSerialText text) (Some All)
all_some text is = just (IsSerialText text) All is one
  where
    one : (v : SerialEntry) → IsSerialText text v → v ≡ All
    one All h = refl
    one (Single serial) h = absurd (not_cut text (codes "single") h.0 (all_uncut text is) single_spaceless h.2)
    one (Block low high) h = absurd (not_cut text (codes "block") h.0 (all_uncut text is) block_spaceless h.2)

pub serial_uncut : (text : List ℕ) → (text ≡ codes "all" → ⊥) → cut 32 text ≡ None → Exactly (IsSerialText text) None
serial_uncut text other none = nothing (IsSerialText text) free
  where
    free : (v : SerialEntry) → IsSerialText text v → ⊥
    free All h = other h
    free (Single serial) h = not_cut text (codes "single") h.0 none single_spaceless h.2
    free (Block low high) h = not_cut text (codes "block") h.0 none block_spaceless h.2

module _ (text word rest : List ℕ) (is : cut 32 text ≡ Some (word, rest)) where
  not_all : IsSerialText text All → ⊥
  not_all h = none-some (word, rest) (sym (all_uncut text h) ∙ is)

  pub serial_single : word ≡ codes "single" → (r : Option SerialEntry) → Exactly (IsSingle rest) r
      → Exactly (IsSerialText text) r
  serial_single named r exact v = (λ e. forth v ((exact v).0 e), λ h. (exact v).1 (back v h))
    where
      forth : (v : SerialEntry) → IsSingle rest v → IsSerialText text v
      forth All h = absurd h
      forth (Single serial) h =
          (rest, h, (cut_takes 32 text (word, rest) is).1 ∙ ap (λ (n : List ℕ). n ++ 32 ∷ rest) named)
      forth (Block low high) h = absurd h

      other_word : codes "single" ≡ codes "block" → ⊥
      other_word e = absurd cc

      back : (v : SerialEntry) → IsSerialText text v → IsSingle rest v
      back All h = absurd (not_all h)
      back (Single serial) h =
          let same = cut_is text word rest (codes "single") h.0 is single_spaceless h.2 in
          subst (λ (t : List ℕ). IsHex64 t serial) (sym same.1) h.1
      back (Block low high) h =
          let same = cut_is text word rest (codes "block") h.0 is block_spaceless h.2 in
          absurd (other_word (sym named ∙ same.0))

  pub serial_block : word ≡ codes "block" → (r : Option SerialEntry) → Exactly (IsBlock rest) r
      → Exactly (IsSerialText text) r
  serial_block named r exact v = (λ e. forth v ((exact v).0 e), λ h. (exact v).1 (back v h))
    where
      forth : (v : SerialEntry) → IsBlock rest v → IsSerialText text v
      forth All h = absurd h
      forth (Single serial) h = absurd h
      forth (Block low high) h =
          (rest, h, (cut_takes 32 text (word, rest) is).1 ∙ ap (λ (n : List ℕ). n ++ 32 ∷ rest) named)

      other_word : codes "block" ≡ codes "single" → ⊥
      other_word e = absurd cc

      back : (v : SerialEntry) → IsSerialText text v → IsBlock rest v
      back All h = absurd (not_all h)
      back (Single serial) h =
          let same = cut_is text word rest (codes "single") h.0 is single_spaceless h.2 in
          absurd (other_word (sym named ∙ same.0))
      back (Block low high) h =
          let same = cut_is text word rest (codes "block") h.0 is block_spaceless h.2 in
          subst (λ (t : List ℕ). IsPair IsHex64 IsHex64 t (low, high)) (sym same.1) h.1

  pub serial_none : (word ≡ codes "single" → ⊥) → (word ≡ codes "block" → ⊥) → Exactly (IsSerialText text) None
  serial_none not_single not_block = nothing (IsSerialText text) free
    where
      free : (v : SerialEntry) → IsSerialText text v → ⊥
      free All h = not_all h
      free (Single serial) h = not_single (cut_is text word rest (codes "single") h.0 is single_spaceless h.2).0
      free (Block low high) h = not_block (cut_is text word rest (codes "block") h.0 is block_spaceless h.2).0
