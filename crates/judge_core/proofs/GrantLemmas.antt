-- What the certificates of a path permit.
use Rattle.std.proofs.Common.{◌≡◌, List, [], ◌∷◌, ◌++◌, length, slice_get, Option, None, Some, IsNone, IfSome, true≢false, sym, ap, subst, ◌∙◌}
use Rattle.std.specs.List.{AllZip, AllByRecursion, flat_map}
use Rattle.std.proofs.lemmas.List.{append-nil, append_assoc}
use Rattle.std.proofs.lemmas.Grind.{flat_map-append}
use Rattle.cert_fields.specs.Anchor.{TrustAnchor}
use Rattle.cert_fields.specs.Certificate.{Certificate}
use Rattle.cert_fields.specs.Constraints.{ContentConstraint}
use Rattle.constraint_meet.specs.Grants.{Members, of_certificate, of_anchor}
use Rattle.module_record.specs.declared.module.Module.{Module}
use Rattle.judge_core.specs.Granted.{PathGrant, IsTold, IsGrantOf}
use Rattle.path_check.specs.Checked.{HasConstraints}
use Rattle.path_check.specs.Conditions.{members_at, Reads}
use Rattle.path_check.specs.Paths.{PathPlaces}

-- two lists by pairs, and one pair more
pub zip_push : {A B : Type 0} (P : A → B → Type 0) (xs : List A) (ys : List B) (x : A) (y : B) → AllZip P xs ys → P x y
    → AllZip P (xs ++ x ∷ []) (ys ++ y ∷ [])
zip_push P [] [] x y all holds = (holds, tt)
zip_push P [] (b ∷ ys) x y all holds = absurd all
zip_push P (a ∷ xs) [] x y all holds = absurd all
zip_push P (a ∷ xs) (b ∷ ys) x y all holds = (all.0, zip_push P xs ys x y all.1 holds)

-- certificates with constraints have extensions that read
pub zip_reads : (cs : List Certificate) (ks : List (Option (List ContentConstraint))) → AllZip HasConstraints cs ks
    → AllByRecursion Reads cs
zip_reads [] ks all = tt
zip_reads (c ∷ cs) [] all = absurd all
zip_reads (c ∷ cs) (k ∷ ks) all = ((all.0.0, all.0.1), zip_reads cs ks all.1)

-- a grant with these certificates
pub record IsMade (cs : List Certificate) (above grant : Members) : Type 0 where
  pub constraints : List (Option (List ContentConstraint))
  pub read : AllZip HasConstraints cs constraints
  pub is : grant ≡ above ++ flat_map of_certificate constraints

-- the same as it is answered
pub made_of : (cs : List Certificate) (above grant : Members)
    → ((constraints : List (Option (List ContentConstraint))) × AllZip HasConstraints cs constraints
    × (grant ≡ above ++ flat_map of_certificate constraints)) → IsMade cs above grant
made_of cs above grant made = record { constraints = made.0; read = made.1; is = made.2 }

pub told_made : (cs : List Certificate) (above : Members) (o : Option Members) (grant : Members) → o ≡ Some grant
    → IfSome o (λ g. (constraints : List (Option (List ContentConstraint))) × AllZip HasConstraints cs constraints
    × (g ≡ above ++ flat_map of_certificate constraints)) → IsMade cs above grant
told_made cs above o grant is told =
    made_of cs above grant
    (subst (λ x. IfSome x (λ g. (constraints : List (Option (List ContentConstraint))) × AllZip HasConstraints cs constraints
    × (g ≡ above ++ flat_map of_certificate constraints))) is told)

pub none_made : (above : Members) → IsMade [] above above
none_made above = record { constraints = []; read = tt; is = sym (append-nil above) }

pub one_made : (cs : List Certificate) (c : Certificate) (k : Option (List ContentConstraint)) (above grant more : Members)
    → IsMade cs above grant → HasConstraints c k → more ≡ grant ++ of_certificate k → IsMade (cs ++ c ∷ []) above more
one_made cs c k above grant more made has adds = record {
  constraints = made.constraints ++ k ∷ [];
  read = zip_push HasConstraints cs made.constraints c k made.read has;
  is =
      adds ∙ ap (λ (g : Members). g ++ of_certificate k) made.is
      ∙ append_assoc above (flat_map of_certificate made.constraints) (of_certificate k)
      ∙ ap (λ (g : Members). above ++ g)
      (ap (λ (g : Members). flat_map of_certificate made.constraints ++ g) (sym (append-nil (of_certificate k)))
      ∙ sym (flat_map-append of_certificate made.constraints (k ∷ [])));
}

-- what is told goes on
pub told_goes : (P Q : PathGrant → Type 0) (told : Option PathGrant) → ((t : PathGrant) → P t → Q t)
    → ((t : PathGrant) → Q t → P t) → IsTold P told → IsTold Q told
told_goes P Q None to back is = λ other q. is other (back other q)
told_goes P Q (Some told) to back is = to told is

-- nothing is told where it holds of nothing
pub told_none : (P : PathGrant → Type 0) (told : Option PathGrant) → IsNone told → ((t : PathGrant) → P t → ⊥)
    → IsTold P told
told_none P None none not = not
told_none P (Some told) none not = absurd (true≢false none)

-- the path's grant, from the anchor's constraints and those of its certificates
pub grant_is : (m : Module) (certificates : List Certificate) (path : PathPlaces) (anchor : TrustAnchor)
    (told : PathGrant) (above : Members) → told.certificates ≡ length path.members → told.anchor ≡ path.anchor
    → slice_get m.anchors path.anchor ≡ Some anchor → above ≡ of_anchor anchor.constraints
    → IsMade (members_at certificates path.members) above told.grant → IsGrantOf m certificates path told
grant_is m certificates path anchor told above count place found is made = record {
  certificates_are = count;
  anchor_is = place;
  anchor = anchor;
  found = found;
  constraints = made.constraints;
  read = made.read;
  grant_is = made.is ∙ ap (λ (g : Members). g ++ flat_map of_certificate made.constraints) is;
}
