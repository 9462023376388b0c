-- Two names of one package are alike to every test by `is_same`.
use Rattle.std.proofs.Common.{◌≡◌, true, ◌∙◌}
use Rattle.package_attrs.specs.declared.name.PackageName.{PackageName}
use Rattle.config_table.specs.Names.{is_same}
use Rattle.config_table.specs.Keys.{is_same-equivalence}

-- names of one package stand beside a third alike
pub is_same-left : (a b c : PackageName) → is_same a b ≡ true → is_same a c ≡ is_same b c
is_same-left = is_same-equivalence.congr

-- and a third beside them
pub is_same-right : (a b c : PackageName) → is_same a b ≡ true → is_same c a ≡ is_same c b
is_same-right a b c same =
    is_same-equivalence.symm c a ∙ is_same-equivalence.congr a b c same ∙ is_same-equivalence.symm b c
