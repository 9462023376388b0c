-- A set has one verdict, and an input one answer.
use Rattle.std.proofs.Common.{◌≡◌, ℕ, List, [], ◌∷◌, ◌++◌, Bool, refl, sym, ap, subst, ◌∙◌, append_assoc, inl, inr}
use Rattle.std.specs.List.{flat_map}
use Rattle.der_core.specs.Asked.{FirstFail}
use Rattle.der_core.specs.Attribute.{Attribute}
use Rattle.der_core.specs.Element.{enc, IsElement, HasTagged}
use Rattle.der_core.proofs.AskedLemmas.{first_is_one, not_both}
use Rattle.der_core.proofs.Theorems.{enc-one}
use Rattle.package_attrs.specs.Description.{Description}
use Rattle.config_table.specs.State.{State, empty_state}
use Rattle.config_table.specs.Stored.{Stored}
use Rattle.attribute_set.proofs.Readings.{one_set}
use Rattle.package_attrs.specs.Attributes.{HaveOwnTypes}
use Rattle.package_attrs.proofs.PackageLaws.{one_description}
use Rattle.package_rules.specs.Module.{Module}
use Rattle.judge_core.specs.Rehearsal.{Verdict, after, package_conditions, JudgesAttributes}
use Rattle.judge_core.specs.Rehearsal.Verdict.{accepted, refused}
use Rattle.fwload_top.specs.Verdicts.{Holds, Judges, JudgesAll}
use Rattle.fwload_top.specs.Rehearse.{AreSets, Rehearses, rehearsal_module, rehearsal_lines, is_one_refused}

-- ---- one set

one_list : (contents : List ℕ) (these those : List Attribute) → Holds contents these → Holds contents those
    → these ≡ those
one_list contents these those h k = one_set these those h.0 k.0 (sym h.1 ∙ k.1)

module _ (m : Module) (state : State Stored) (attrs : List Attribute) (distinct : HaveOwnTypes attrs) where
  -- attributes are not both accepted and refused
  not_both_ways : (d : Description) (n : ℕ) → JudgesAttributes m state attrs (accepted d)
      → JudgesAttributes m state attrs (refused n) → ⊥
  not_both_ways d n a (inl r) = r.1 d a.0
  not_both_ways d n a (inr r) =
      not_both (package_conditions m state d) n
      (subst (λ (e : Description). FirstFail (package_conditions m state e) n)
      (one_description attrs r.0 d distinct r.1 a.0) r.2) a.1

  one_refusal : (n k : ℕ) → JudgesAttributes m state attrs (refused n) → JudgesAttributes m state attrs (refused k)
      → n ≡ k
  one_refusal n k (inl r) (inl s) = r.0 ∙ sym s.0
  one_refusal n k (inl r) (inr s) = absurd (r.1 s.0 s.1)
  one_refusal n k (inr r) (inl s) = absurd (s.1 r.0 r.1)
  one_refusal n k (inr r) (inr s) =
      first_is_one (package_conditions m state s.0) n k
      (subst (λ (e : Description). FirstFail (package_conditions m state e) n)
      (one_description attrs r.0 s.0 distinct r.1 s.1) r.2) s.2

  -- attributes have one verdict
  one_verdict_on_attributes : (one other : Verdict) → JudgesAttributes m state attrs one
      → JudgesAttributes m state attrs other → one ≡ other
  one_verdict_on_attributes (accepted d) (accepted e) h k =
      ap (λ (d : Description). accepted d) (one_description attrs d e distinct h.0 k.0)
  one_verdict_on_attributes (accepted d) (refused n) h k = absurd (not_both_ways d n h k)
  one_verdict_on_attributes (refused n) (accepted d) h k = absurd (not_both_ways d n k h)
  one_verdict_on_attributes (refused n) (refused k) h j = ap (λ (n : ℕ). refused n) (one_refusal n k h j)

-- a set has one verdict
pub one_verdict : (m : Module) (state : State Stored) (contents : List ℕ) (one other : Verdict)
    → Judges m state contents one → Judges m state contents other → one ≡ other
one_verdict m state contents one other (inl h) (inl k) = h.0 ∙ sym k.0
one_verdict m state contents one other (inl h) (inr k) = absurd (h.1 k.0 k.1)
one_verdict m state contents one other (inr h) (inl k) = absurd (k.1 h.0 h.1)
one_verdict m state contents one other (inr h) (inr k) =
    one_verdict_on_attributes m state k.0 k.1.0.distinct one other
    (subst (λ (attrs : List Attribute). JudgesAttributes m state attrs one) (one_list contents h.0 k.0 h.1 k.1) h.2)
    k.2

one_list_of_verdicts : (m : Module) (state : State Stored) (sets : List (List ℕ)) (vs ws : List Verdict)
    → JudgesAll m state sets vs → JudgesAll m state sets ws → vs ≡ ws
one_list_of_verdicts m state [] [] [] h k = refl
one_list_of_verdicts m state [] [] (w ∷ ws) h k = absurd k
one_list_of_verdicts m state [] (v ∷ vs) ws h k = absurd h
one_list_of_verdicts m state (set ∷ sets) [] ws h k = absurd h
one_list_of_verdicts m state (set ∷ sets) (v ∷ vs) [] h k = absurd k
one_list_of_verdicts m state (set ∷ sets) (v ∷ vs) (w ∷ ws) h k =
    let same = one_verdict m state set v w h.0 k.0 in
    let rest = one_list_of_verdicts m (after state v) sets vs ws h.1
    (subst (λ (u : Verdict). JudgesAll m (after state u) sets ws) (sym same) k.1) in
    ap (λ (u : Verdict). u ∷ vs) same ∙ ap (λ (us : List Verdict). w ∷ us) rest

-- ---- one input

ends_there : (set : List ℕ) (sets : List (List ℕ)) (rest others : List ℕ) → IsElement 0x31 set
    → others ≡ flat_map (enc 0x31) (set ∷ sets) ++ rest → HasTagged 0x31 others
ends_there set sets rest others element is =
    (set, flat_map (enc 0x31) sets ++ rest, element, is ∙ append_assoc (enc 0x31 set) (flat_map (enc 0x31) sets) rest)

-- octets are one list of sets, and one rest
one_parting : (input : List ℕ) (sets others : List (List ℕ)) (rest rest' : List ℕ) → AreSets input sets rest
    → AreSets input others rest' → (sets ≡ others) × (rest ≡ rest')
one_parting input [] [] rest rest' a b = (refl, sym a.text ∙ b.text)
one_parting input [] (set ∷ others) rest rest' a b =
    absurd (a.ends (ends_there set others rest' rest b.each.0 (sym a.text ∙ b.text)))
one_parting input (set ∷ sets) [] rest rest' a b =
    absurd (b.ends (ends_there set sets rest rest' a.each.0 (sym b.text ∙ a.text)))
one_parting input (set ∷ sets) (set' ∷ others) rest rest' a b =
    let front = enc-one 0x31 0x31 set set' (flat_map (enc 0x31) sets ++ rest)
    (flat_map (enc 0x31) others ++ rest') a.each.0 b.each.0
    (sym (append_assoc (enc 0x31 set) (flat_map (enc 0x31) sets) rest) ∙ sym a.text ∙ b.text
    ∙ append_assoc (enc 0x31 set') (flat_map (enc 0x31) others) rest') in
    let behind = one_parting (flat_map (enc 0x31) sets ++ rest) sets others rest rest'
    (record { text = refl; each = a.each.1; ends = a.ends })
    (record { text = front.2; each = b.each.1; ends = b.ends }) in
    (ap (λ (s : List ℕ). s ∷ sets) front.1 ∙ ap (λ (ss : List (List ℕ)). set' ∷ ss) behind.0, behind.1)

-- an input has one answer
pub one_answer : (at : ℕ) (input one other : List ℕ) (refuses refuses' : Bool) → Rehearses at refuses input one
    → Rehearses at refuses' input other
    → (one ≡ other) × (refuses ≡ refuses')
one_answer at input one other refuses refuses' a b =
    let parts = one_parting input a.sets b.sets a.rest b.rest a.parts b.parts in
    let judged = one_list_of_verdicts rehearsal_module empty_state b.sets a.verdicts b.verdicts
    (subst (λ (ss : List (List ℕ)). JudgesAll rehearsal_module empty_state ss a.verdicts) parts.0 a.judged) b.judged in (
      a.lines ∙ ap (λ (vs : List Verdict). rehearsal_lines at vs a.rest) judged
          ∙ ap (λ (bs : List ℕ). rehearsal_lines at b.verdicts bs) parts.1 ∙ sym b.lines,
      a.known ∙ ap (λ (vs : List Verdict). is_one_refused vs a.rest) judged
          ∙ ap (λ (bs : List ℕ). is_one_refused b.verdicts bs) parts.1 ∙ sym b.known,
    )
