-- What the conditions of an accepted package say to who installs it.
use Rattle.std.proofs.Common.{◌≡◌, ◌⊎◌, inl, inr, ℕ, ◌≤◌, Bool, true, false, if◌then◌else◌, List, [], ◌∷◌, length, sym, subst, arith}
use Rattle.std.specs.Prelude.{Option, None, Some, IfSome, sum_by}
use Rattle.std.specs.Option.{option_and_then}
use Rattle.std.proofs.lemmas.List.Sums.{sum_by-cons}
use Rattle.sha2.specs.Sha256.{sha256}
use Rattle.package_attrs.specs.Image.{blocks_for}
use Rattle.package_attrs.specs.declared.name.PackageName.{PackageName}
use Rattle.package_attrs.specs.declared.name.PackageName.TheVariants as names
use Rattle.package_attrs.specs.declared.name.Stale.{Stale}
use Rattle.package_attrs.specs.declared.name.Stale.TheVariants as values
use Rattle.package_attrs.specs.declared.package.Info.{Info}
use Rattle.package_attrs.specs.Attributes.{Describes}
use Rattle.package_attrs.specs.Description.{Description}
use Rattle.package_attrs.specs.Identifier.{IsName, IsStale}
use Rattle.package_attrs.specs.Information.{IsInfo, no_info}
use Rattle.config_table.specs.Names.{is_same}
use Rattle.config_table.specs.State.{Entry, entry_for, last_stale, made_stale, offer_of, placed}
use Rattle.judge_core.specs.Installing.{CanInstall}
use Rattle.judge_core.specs.Verdicts.{Bench, Judges, accepts}

no_info_is : IsInfo no_info
no_info_is = record { kind = tt; dependencies = tt; count = omega arith }

info_is : (info : Info) (A B : Type 0) → (IsInfo info × A) ⊎ (B × (info ≡ no_info)) → IsInfo info
info_is info A B (inl h) = h.0
info_is info A B (inr h) = subst IsInfo (sym h.1) no_info_is

-- the entry that a stale value makes has a name of its kind
stale_named : (name : PackageName) (stale : Option Stale) → IsName name → IfSome stale IsStale
    → IfSome (option_and_then (made_stale name) stale) (λ entry. IsName (last_stale entry))
stale_named name None named is = tt
stale_named (names.Preferred id version) (Some (values.Upto n)) named is = (named.0, is)
stale_named (names.Preferred id version) (Some (values.Legacy octets)) named is = tt
stale_named (names.Legacy name) (Some (values.Upto n)) named is = tt
stale_named (names.Legacy name) (Some (values.Legacy octets)) named is = is

-- a package that is placed counts
placed_counts : (f : Entry ℕ → ℕ) (new : Entry ℕ) (packages : List (Entry ℕ)) → f new ≤ sum_by f (placed new packages)
placed_counts f new [] = omega (arith, sum_by-cons f new [])
placed_counts f new (old ∷ rest) = by_case (is_same new.name old.name) (placed_counts f new rest)
  where
    by_case : (same : Bool) → f new ≤ sum_by f (placed new rest)
        → f new ≤ sum_by f (if same then new ∷ rest else old ∷ placed new rest)
    by_case true more = omega (arith, sum_by-cons f new rest)
    by_case false more = omega (arith, more, sum_by-cons f old (placed new rest))

pub can_install : (b : Bench) (item : List ℕ) (described : Description) (content image key_id : List ℕ)
    → Judges b item (accepts described content image key_id) → CanInstall b (offer_of described) image
can_install b item described content image key_id (v, anchor, admits, described-is, content-is, key-is) =
    let others = admits.others.1.1.1.1.1.1.1.1.1.1.1.1.1.1 in
    let says : Describes v.message.signer.signed_attributes v.described = admits.spells.described in
    let info : IsInfo v.described.info = info_is v.described.info _ _ says.info in
    subst (λ (d : Description). CanInstall b (offer_of d) image) (sym described-is) (record {
      name = says.identifier.0.name;
      makes_stale = stale_named v.described.identifier.name v.described.identifier.stale
          says.identifier.0.name says.identifier.0.stale;
      kind = info.kind;
      needs = info.dependencies;
      few_needs = info.count;
      some = others.0;
      alone = omega (
        arith,
        others.1.0,
        placed_counts (λ (entry : Entry ℕ). blocks_for entry.image)
            (entry_for (offer_of v.described) (sha256 image) (length image)) b.state.packages,
      );
      fit = others.1.0;
      packages = others.1.1.0;
      stale = others.1.1.1.0;
      sequence = omega (arith, others.1.1.1.1.0);
    })
