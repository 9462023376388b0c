-- Names as the keys of a table: they are told apart by `is_same`, and hashed by what that compares.
use Rattle.std.specs.Prelude.{◌≡◌, true, ◌++◌, refl}
use Rattle.std.specs.Cmp.{IsEquivalence}
use Rattle.std.specs.Hash.{HashWrites}
use Rattle.std.specs.Hash as fed
use Rattle.std.proofs.Common.{sym, ap, true≢false}
use Rattle.std.proofs.lemmas.Cmp.{nat_list_eq_equiv}
use Rattle.std.proofs.lemmas.Slice.Eq.{bytes_eq-Decides}
use Rattle.package_attrs.specs.declared.name.PackageName.{PackageName}
use Rattle.package_attrs.specs.declared.name.PackageName.TheVariants as names
use Rattle.config_table.specs.Names.{is_same}

-- the kind of the name, and then the identifier or the legacy name
abbrev pub name_hash : PackageName → HashWrites
name_hash (names.Preferred id version) = fed.u8 0 ++ fed.slice fed.u8 id
name_hash (names.Legacy octets) = fed.u8 1 ++ fed.slice fed.u8 octets

same_refl : (a : PackageName) → is_same a a ≡ true
same_refl (names.Preferred id version) = nat_list_eq_equiv.refl id
same_refl (names.Legacy octets) = nat_list_eq_equiv.refl octets

same_symm : (a b : PackageName) → is_same a b ≡ is_same b a
same_symm (names.Preferred id version) (names.Preferred id' version') = nat_list_eq_equiv.symm id id'
same_symm (names.Preferred id version) (names.Legacy octets) = refl
same_symm (names.Legacy octets) (names.Preferred id version) = refl
same_symm (names.Legacy octets) (names.Legacy octets') = nat_list_eq_equiv.symm octets octets'

same_congr : (a b c : PackageName) → is_same a b ≡ true → is_same a c ≡ is_same b c
same_congr (names.Preferred id version) (names.Preferred id' version') (names.Preferred id'' version'') e =
    nat_list_eq_equiv.congr id id' id'' e
same_congr (names.Preferred id version) (names.Preferred id' version') (names.Legacy octets) e = refl
same_congr (names.Preferred id version) (names.Legacy octets) c e = absurd (true≢false (sym e))
same_congr (names.Legacy octets) (names.Preferred id version) c e = absurd (true≢false (sym e))
same_congr (names.Legacy octets) (names.Legacy octets') (names.Preferred id version) e = refl
same_congr (names.Legacy octets) (names.Legacy octets') (names.Legacy octets'') e =
    nat_list_eq_equiv.congr octets octets' octets'' e

-- being the same package is an equivalence
pub is_same-equivalence : IsEquivalence is_same
is_same-equivalence = record { refl = same_refl; symm = same_symm; congr = same_congr }

-- names of the same package are hashed alike
pub is_same-name_hash : (a b : PackageName) → is_same a b ≡ true → name_hash a ≡ name_hash b
is_same-name_hash (names.Preferred id version) (names.Preferred id' version') e =
    ap (λ octets. fed.u8 0 ++ fed.slice fed.u8 octets) ((bytes_eq-Decides id id').0 e)
is_same-name_hash (names.Preferred id version) (names.Legacy octets) e = absurd (true≢false (sym e))
is_same-name_hash (names.Legacy octets) (names.Preferred id version) e = absurd (true≢false (sym e))
is_same-name_hash (names.Legacy octets) (names.Legacy octets') e =
    ap (λ octets. fed.u8 1 ++ fed.slice fed.u8 octets) ((bytes_eq-Decides octets octets').0 e)
