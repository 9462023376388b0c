-- An item has one verdict at most.
use Rattle.std.proofs.Common.{◌↔◌, ◌≡◌, ℕ, List, Some, None, slice_get, inl, inr, sym, ap, subst, ◌∙◌, refl}
use Rattle.der_core.specs.Asked.{Asked, AllHold, FirstFail}
use Rattle.der_core.specs.Attribute.{Attribute}
use Rattle.der_core.proofs.AskedLemmas.{first_is_one, not_both}
use Rattle.der_core.proofs.Numbers.{some_is}
use Rattle.cert_fields.specs.Anchor.{TrustAnchor}
use Rattle.cert_fields.specs.Certificate.{Certificate}
use Rattle.cert_fields.specs.Sid.{SignerIdentifier}
use Rattle.cms_signed.specs.Cut.{firmware_package}
use Rattle.cms_signed.specs.Message.{Message, IsMessage, message_text}
use Rattle.module_record.specs.declared.module.Module.{Module}
use Rattle.package_attrs.specs.Attributes.{HaveOwnTypes, Describes}
use Rattle.package_attrs.specs.Description.{Description}
use Rattle.package_attrs.specs.Image.{IsImage}
use Rattle.path_check.specs.Conditions.{members_at}
use Rattle.path_check.specs.Paths.{PathPlaces, PathOf}
use Rattle.judge_core.specs.Values.{Values, Spells}
use Rattle.judge_core.specs.Conditions.{octet_conditions, value_conditions, certificates_in, LeadsUp}
use Rattle.judge_core.specs.Verdicts.{Bench, Verdict, accepts, refuses, Judges, Admits, IsAccepted, IsAdmitted, FailsLater, later_conditions}

-- the laws of the crates below
pub record Laws : Type 0 where
  pub message : (kind other : List ℕ) (m n : Message) → IsMessage kind m → IsMessage other n
      → message_text m ≡ message_text n → m ≡ n
  pub description : (attrs : List Attribute) (d e : Description) → HaveOwnTypes attrs
      → Describes attrs d → Describes attrs e → d ≡ e
  pub image : (content these those : List ℕ) → IsImage content these → IsImage content those → these ≡ those
  pub path : (name : SignerIdentifier) (certificates : List Certificate) (anchors : List TrustAnchor)
      (one other : PathPlaces) → PathOf name certificates anchors one → PathOf name certificates anchors other
      → one ≡ other

module _ (laws : Laws) where
  -- octets spell one value
  pub one_value : (item : List ℕ) (v w : Values) → Spells item v → Spells item w → v ≡ w
  one_value item v w s t =
      let same : v.message ≡ w.message =
      laws.message firmware_package firmware_package v.message w.message s.valid t.valid (sym s.text ∙ t.text) in
      let also : v.described ≡ w.described =
      laws.description v.message.signer.signed_attributes v.described w.described s.valid.signed_attributes.distinct
      s.described (subst (λ (m : Message). Describes m.signer.signed_attributes w.described) (sym same) t.described) in
      λ i. record { message = same i; described = also i }

  -- a signer has one path, with its anchor and its members
  pub one_way : (m : Module) (message : Message) (a b : TrustAnchor) (cs ds : List Certificate)
      → LeadsUp m message a cs → LeadsUp m message b ds → (a ≡ b) × (cs ≡ ds)
  one_way m message a b cs ds one other =
      let same : one.path ≡ other.path =
      laws.path message.signer.sid (certificates_in message) m.anchors one.path other.path one.is_path other.is_path in
      let found : slice_get m.anchors one.path.anchor ≡ Some b =
      subst (λ (p : PathPlaces). slice_get m.anchors p.anchor ≡ Some b) (sym same) other.anchor_is in (
        some_is a b (sym one.anchor_is ∙ found),
        one.members_are ∙ ap (λ (p : PathPlaces). members_at (certificates_in message) p.members) same
            ∙ sym other.members_are,
      )

  module _ (b : Bench) (item : List ℕ) where
    -- the conditions over image, anchor and members are those over others of the same value
    moved : (P : List Asked → Type 0) (v : Values) (i j : List ℕ) (a c : TrustAnchor) (cs ds : List Certificate)
        → IsImage v.message.content i → IsImage v.message.content j → LeadsUp b.holder v.message a cs
        → LeadsUp b.holder v.message c ds → P (later_conditions b v i a cs) → P (later_conditions b v j c ds)
    moved P v i j a c cs ds image_i image_j leads_a leads_c holds =
        let way = one_way b.holder v.message a c cs ds leads_a leads_c in
        subst (λ ms. P (later_conditions b v j c ms)) way.1
        (subst (λ k. P (later_conditions b v j k cs)) way.0
        (subst (λ k. P (later_conditions b v k a cs)) (laws.image v.message.content i j image_i image_j) holds))

    -- an item that is admitted fails nothing
    admitted : (v : Values) (image : List ℕ) (anchor : TrustAnchor) (n : ℕ) → Admits b item v image anchor
        → FailsLater b v n → ⊥
    admitted v image anchor n admits (inl fails) = not_both (value_conditions b.holder v) n fails admits.values
    admitted v image anchor n admits (inr fails) =
        let f = fails.1 in
        not_both (later_conditions b v f.0 f.1 f.2) n f.5
        (moved AllHold v image f.0 anchor f.1 admits.members f.2 admits.image_is f.3 admits.leads f.4 admits.others)

    -- one condition is the first that fails
    one_fails : (v : Values) (n k : ℕ) → FailsLater b v n → FailsLater b v k → n ≡ k
    one_fails v n k (inl f) (inl g) = first_is_one (value_conditions b.holder v) n k f g
    one_fails v n k (inl f) (inr g) = absurd (not_both (value_conditions b.holder v) n f g.0)
    one_fails v n k (inr f) (inl g) = absurd (not_both (value_conditions b.holder v) k g f.0)
    one_fails v n k (inr fails) (inr others) =
        let f = fails.1 in
        let g = others.1 in
        first_is_one (later_conditions b v g.0 g.1 g.2) n k
        (moved (λ cs. FirstFail cs n) v f.0 g.0 f.1 g.1 f.2 g.2 f.3 g.3 f.4 g.4 f.5) g.5

    pub one_verdict : (one other : Verdict) → Judges b item one → Judges b item other → one ≡ other
    one_verdict (accepts d content image key) (accepts e content' image' key') (v, a, x, d-is, content-is, key-is)
        (w, c, y, e-is, content'-is, key'-is) =
        let same = one_value item v w x.spells y.spells in
        let image_is : IsImage v.message.content image' =
        subst (λ (u : Values). IsImage u.message.content image') (sym same) y.image_is in
        let leads : LeadsUp b.holder v.message c y.members =
        subst (λ (u : Values). LeadsUp b.holder u.message c y.members) (sym same) y.leads in
        let way = one_way b.holder v.message a c x.members y.members x.leads leads in
        let images : image ≡ image' = laws.image v.message.content image image' x.image_is image_is in
        let descriptions : d ≡ e = d-is ∙ ap (λ (u : Values). u.described) same ∙ sym e-is in
        let contents : content ≡ content' = content-is ∙ ap (λ (u : Values). u.message.content) same ∙ sym content'-is in
        let keys : key ≡ key' = key-is ∙ ap (λ (k : TrustAnchor). k.key_id) way.0 ∙ sym key'-is in
        λ i. accepts (descriptions i) (contents i) (images i) (keys i)
    one_verdict (accepts d content image key) (refuses n None) (v, a, x, d-is, content-is, key-is) f =
        absurd (not_both (octet_conditions item) n f x.octets)
    one_verdict (accepts d content image key) (refuses n (Some name)) (v, a, x, d-is, content-is, key-is) (all, (w, s, f, is)) =
        absurd (admitted v image a n x (subst (λ u. FailsLater b u n) (one_value item w v s x.spells) f))
    one_verdict (refuses n None) (accepts d content image key) f (v, a, x, d-is, content-is, key-is) =
        absurd (not_both (octet_conditions item) n f x.octets)
    one_verdict (refuses n None) (refuses k None) f g = ap (λ m. refuses m None) (first_is_one (octet_conditions item) n k f g)
    one_verdict (refuses n None) (refuses k (Some name)) f g = absurd (not_both (octet_conditions item) n f g.0)
    one_verdict (refuses n (Some name)) (accepts d content image key) (all, (w, s, f, is)) (v, a, x, d-is, content-is, key-is) =
        absurd (admitted v image a n x (subst (λ u. FailsLater b u n) (one_value item w v s x.spells) f))
    one_verdict (refuses n (Some name)) (refuses k None) f g = absurd (not_both (octet_conditions item) k g f.0)
    one_verdict (refuses n (Some name)) (refuses k (Some name')) (all, (v, s, f, is)) (also, (w, t, g, are)) =
        let same = one_value item v w s t in
        let number : n ≡ k = one_fails w n k (subst (λ u. FailsLater b u n) same f) g in
        let names : name ≡ name' = is ∙ ap (λ (u : Values). u.described.identifier.name) same ∙ sym are in
        λ i. refuses (number i) (Some (names i))

    -- it accepts exactly where the item is admitted
    pub accepted : (verdict : Verdict) → Judges b item verdict → IsAccepted verdict ↔ IsAdmitted b item
    accepted (accepts d content image key) (v, a, x, d-is, content-is, key-is) = (λ yes. (v, image, a, x), λ admitted. tt)
    accepted (refuses n name) judges = (
      λ no. absurd no,
      λ found.
          let yes : Judges b item (accepts found.0.described found.0.message.content found.1 found.2.key_id) =
          (found.0, found.2, found.3, refl, refl, refl) in
          subst IsAccepted (one_verdict (accepts found.0.described found.0.message.content found.1 found.2.key_id)
          (refuses n name) yes judges) tt,
    )
