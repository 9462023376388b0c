-- What the members of a path permit, by the constraints that are kept of them.
use Rattle.std.proofs.Common.{◌≡◌, ◌↔◌, ◌+◌, ◌++◌, ℕ, suc, List, [], ◌∷◌, Option, None, Some, take, slice_get, append_assoc, arith, map, refl, sym, ap, subst, ◌∙◌}
use Rattle.std.specs.Borrow.{Bor}
use Rattle.std.specs.List.{AllByRecursion, AllZip, flat_map}
use Rattle.std.specs.Option.{option_copied}
use Rattle.std.proofs.Math.Seq.{take-suc}
use Rattle.std.proofs.lemmas.Grind.{flat_map-append}
use Rattle.std.proofs.lemmas.List.{append-nil}
use Rattle.std.proofs.lemmas.Option.{slice_get_within, get_or_from_slice_get}
use Rattle.der_core.specs.Attribute.{Attribute}
use Rattle.cert_fields.specs.Anchor.{TrustAnchor}
use Rattle.cert_fields.specs.Certificate.{Certificate}
use Rattle.cert_fields.specs.Constraints.{ContentConstraint}
use Rattle.constraint_meet.specs.Permits.{Within}
use Rattle.constraint_meet.specs.Grants.{Members, GrantPermits, of_path, of_anchor, of_certificate}
use Rattle.constraint_meet.specs.GrantView.{constraints_view}
use Rattle.hss_chain.specs.declared.key.HssKey.{HssKey}
use Rattle.path_check.specs.Conditions.{HasKey, IsKeyAbove}
use Rattle.path_check.specs.Checked.{HasConstraints, PathPermits}
use Rattle.path_check.specs.Members.{member_view, IsRead, IsOnlyKey}
use Rattle.path_check.specs.declared.member.Member.{Member}

abbrev pub kept_constraints : List Member → List (Option (List ContentConstraint))
kept_constraints members = map (λ m. m.extensions.constraints) members

-- they are the constraints of the certificates
have_kept : (members : List Member) → AllByRecursion IsRead members
    → AllZip HasConstraints (map member_view members) (kept_constraints members)
have_kept [] read = tt
have_kept (m ∷ ms) read = ((m.extensions, (read.0.extensions m.extensions).0 refl, refl), have_kept ms read.1)

-- and no others are
only_kept : (members : List Member) (constraints : List (Option (List ContentConstraint)))
    → AllByRecursion IsRead members → AllZip HasConstraints (map member_view members) constraints
    → constraints ≡ kept_constraints members
only_kept [] [] read have = refl
only_kept [] (k ∷ ks) read have = absurd have
only_kept (m ∷ ms) [] read have = absurd have
only_kept (m ∷ ms) (k ∷ ks) read have =
    let one : k ≡ m.extensions.constraints =
    sym have.0.2 ∙ ap (λ e. e.constraints) (sym ((read.0.extensions have.0.0).1 have.0.1)) in
    let rest = only_kept ms ks read.1 have.1 in
    (λ i. one i ∷ rest i)

-- the law of constraint_meet
abbrev pub SideBySide : Type 0
SideBySide = (content : List ℕ) (attributes : List Attribute) (certificates : List (Option (List ContentConstraint)))
    (anchor : Option (List ContentConstraint))
    → GrantPermits content attributes (of_path certificates anchor) ↔ Within content attributes certificates anchor

pub path_permits : SideBySide → (members : List Member) (anchor : TrustAnchor) (grant : Members)
    → AllByRecursion IsRead members → grant ≡ of_path (kept_constraints members) anchor.constraints
    → (content : List ℕ) (attributes : List Attribute)
    → GrantPermits content attributes grant ↔ PathPermits content attributes anchor (map member_view members)
path_permits law members anchor grant read is content attributes = (
  λ permits. (
    kept_constraints members,
    have_kept members read,
    (law content attributes (kept_constraints members) anchor.constraints).0
        (subst (GrantPermits content attributes) is permits),
  ),
  λ permits.
      subst (GrantPermits content attributes) (sym is)
      ((law content attributes (kept_constraints members) anchor.constraints).1
      (subst (λ ks. Within content attributes ks anchor.constraints) (only_kept members permits.0 read permits.1)
      permits.2)),
)

-- constraints that are lent are those that are kept
pub lent : (r : Option (Bor (List ContentConstraint))) (kept : Option (List ContentConstraint)) → option_copied r ≡ kept
    → constraints_view r ≡ kept
lent None kept is = is
lent (Some k) kept is = is

-- the constraints of one more member
pub effective_more : (ks : List (Option (List ContentConstraint))) (anchor : Option (List ContentConstraint)) (n : ℕ)
    (k : Option (List ContentConstraint)) (grant more : Members) → slice_get ks n ≡ Some k
    → grant ≡ of_path (take n ks) anchor → more ≡ grant ++ of_certificate k → more ≡ of_path (take (n + 1) ks) anchor
effective_more ks anchor n k grant more there is adds =
    adds
    ∙ ap (λ (g : Members). g ++ of_certificate k) is
    ∙ append_assoc (of_anchor anchor) (flat_map of_certificate (take n ks)) (of_certificate k)
    ∙ ap (λ (g : Members). of_anchor anchor ++ g) (
    ap (λ (g : Members). flat_map of_certificate (take n ks) ++ g) (sym (append-nil (of_certificate k)))
    ∙ sym (flat_map-append of_certificate (take n ks) (k ∷ []))
    ∙ ap (flat_map of_certificate) (sym one_more)
    )
  where
    plus : n + 1 ≡ suc n
    plus = omega arith

    one_more : take (n + 1) ks ≡ take n ks ++ k ∷ []
    one_more =
        ap (λ m. take m ks) plus ∙ take-suc ks n k (slice_get_within ks n k there)
        ∙ ap (λ x. take n ks ++ x ∷ []) (get_or_from_slice_get ks n k k there)

-- there is a key above members whose keys are HSS keys
pub some_key_above : (anchor : TrustAnchor) (anchor_key : HssKey) (members : List Certificate)
    → IsOnlyKey anchor anchor_key → AllByRecursion HasKey members → (key : HssKey) × IsKeyAbove anchor members key
some_key_above anchor anchor_key [] only keys = (anchor_key, (only anchor_key).0 refl)
some_key_above anchor anchor_key (c ∷ above) only keys = keys.0
