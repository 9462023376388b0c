-- The way up, step by step.
use Rattle.std.proofs.Common.{◌≡◌, ◌≤◌, ◌<◌, ℕ, suc, List, [], ◌∷◌, ◌++◌, length, refl, sym, ap, subst, ◌∙◌, arith, append_assoc, length-append, inl, inr, ◌⊎◌}
use Rattle.cert_fields.specs.Certificate.{Certificate}
use Rattle.std.proofs.Common.{Result, Ok, Err, IsErrAnd}
use Rattle.cert_fields.specs.Anchor.{TrustAnchor}
use Rattle.path_check.specs.declared.find.FindFault.{FindFault}
use Rattle.path_check.specs.declared.find.FindFault.TheVariants.{NoAnchor, Memory}
use Rattle.path_check.specs.Steps.{SaysNone}
use Rattle.cert_fields.specs.Sid.{SignerIdentifier}
use Rattle.path_check.specs.First.{HasNone, IsFirst}
use Rattle.path_check.specs.Paths.{PathPlaces, PathOf, HasMembers, LeadsTo, IsAboveAt, IsAnchorAboveAt}

-- the first is none where there is none, and it is one
pub none_first : {A : Type 0} {P : A → Type 0} {items : List A} {place : ℕ}
    → HasNone P items → IsFirst P items place → ⊥
none_first none first = none _ first.fits

trichotomy : (i j : ℕ) → (i ≡ j) ⊎ ((i < j) ⊎ (j < i))
trichotomy i j = grind arith

pub one_first : {A : Type 0} {P : A → Type 0} {items : List A} {i j : ℕ}
    → IsFirst P items i → IsFirst P items j → i ≡ j
one_first {A} {P} {items} {i} {j} one other = by (trichotomy i j)
  where
    by : (i ≡ j) ⊎ ((i < j) ⊎ (j < i)) → i ≡ j
    by (inl same) = same
    by (inr (inl less)) = absurd (other.before i less one.fits)
    by (inr (inr less)) = absurd (one.before j less other.fits)

-- the same members and the same anchor
abbrev pub Same : List ℕ → ℕ → List ℕ → ℕ → Type 0
Same members anchor others another = (members ≡ others) × (anchor ≡ another)

module _ (certificates : List Certificate) (anchors : List TrustAnchor) where
  -- one way leads up
  pub one_way : (below : ℕ) (members others : List ℕ) (anchor another : ℕ)
      → LeadsTo certificates anchors below members anchor → LeadsTo certificates anchors below others another
      → Same members anchor others another
  one_way below [] [] anchor another l m = (refl, one_first l m)
  one_way below [] (y ∷ ys) anchor another l m = absurd (none_first m.0 l)
  one_way below (x ∷ xs) [] anchor another l m = absurd (none_first l.0 m)
  one_way below (x ∷ xs) (y ∷ ys) anchor another l m =
      let same : x ≡ y = one_first l.1 m.1 in
      let rest = one_way x xs ys anchor another l.2
      (subst (λ z. LeadsTo certificates anchors z ys another) (sym same) m.2) in
      (cc, rest.1)

  one_members : (name : SignerIdentifier) (members others : List ℕ) (anchor another : ℕ)
      → HasMembers name certificates anchors members anchor → HasMembers name certificates anchors others another
      → Same members anchor others another
  one_members name [] [] anchor another l m = (refl, one_first l m)
  one_members name [] (y ∷ ys) anchor another l m = absurd (none_first m.0 l)
  one_members name (x ∷ xs) [] anchor another l m = absurd (none_first l.0 m)
  one_members name (x ∷ xs) (y ∷ ys) anchor another l m =
      let same : x ≡ y = one_first l.1 m.1 in
      let rest = one_way x xs ys anchor another l.3
      (subst (λ z. LeadsTo certificates anchors z ys another) (sym same) m.3) in
      let lists : xs ≡ ys = rest.0 in
      (cc, rest.1)

  -- a signer has one path at most
  pub one_path : (name : SignerIdentifier) (one other : PathPlaces) → PathOf name certificates anchors one
      → PathOf name certificates anchors other → one ≡ other
  one_path name one other l m =
      let same = one_members name one.members other.members one.anchor other.anchor l m in
      path_is one other same.0 same.1
    where
      path_is : (one other : PathPlaces) → one.members ≡ other.members → one.anchor ≡ other.anchor → one ≡ other
      path_is one other m a = λ i. record { members = m i; anchor = a i }

  -- these places, the first of which is there, lead up to that anchor
  abbrev pub Leads : List ℕ → ℕ → Type 0
  Leads [] anchor = ⊥
  Leads (first ∷ more) anchor = LeadsTo certificates anchors first more anchor

  -- The front and the place behind it: each way from there is the end of a way from the first, and each way from the
  -- first goes through them.
  pub record Climbed (first : ℕ) (front : List ℕ) (place : ℕ) : Type 0 where
    pub from : List ℕ
    pub starts : front ++ place ∷ [] ≡ first ∷ from
    pub goes_on : (more : List ℕ) (anchor : ℕ) → LeadsTo certificates anchors place more anchor
        → Leads (front ++ place ∷ more) anchor
    pub goes_through : (members : List ℕ) (anchor : ℕ) → LeadsTo certificates anchors first members anchor
        → (more : List ℕ) × (first ∷ members ≡ front ++ place ∷ more) × LeadsTo certificates anchors place more anchor

  pub begins : (first : ℕ) → Climbed first [] first
  begins first = record {
    from = [];
    starts = refl;
    goes_on = λ more anchor leads. leads;
    goes_through = λ members anchor leads. (members, refl, leads);
  }

  pub goes_up : (first place next : ℕ) (front : List ℕ) → Climbed first front place
      → HasNone (IsAnchorAboveAt certificates place) anchors
      → IsFirst (IsAboveAt certificates place) certificates next
      → Climbed first (front ++ place ∷ []) next
  goes_up first place next front climbed no_anchor above = record {
    from = climbed.from ++ next ∷ [];
    starts = ap (λ (l : List ℕ). l ++ next ∷ []) climbed.starts;
    goes_on = λ more anchor leads.
        subst (λ (l : List ℕ). Leads l anchor) (shift more)
        (climbed.goes_on (next ∷ more) anchor (no_anchor, above, leads));
    goes_through = λ members anchor leads.
        let through = climbed.goes_through members anchor leads in
        later members anchor through.0 through.1 through.2;
  }
    where
      shift : (more : List ℕ) → front ++ place ∷ (next ∷ more) ≡ (front ++ place ∷ []) ++ next ∷ more
      shift more = sym (append_assoc front (place ∷ []) (next ∷ more))

      later : (members : List ℕ) (anchor : ℕ) (more : List ℕ) → first ∷ members ≡ front ++ place ∷ more
          → LeadsTo certificates anchors place more anchor
          → (rest : List ℕ) × (first ∷ members ≡ (front ++ place ∷ []) ++ next ∷ rest)
          × LeadsTo certificates anchors next rest anchor
      later members anchor [] is leads = absurd (none_first no_anchor leads)
      later members anchor (x ∷ rest) is leads =
          let same : x ≡ next = one_first leads.1 above in (
            rest,
            is ∙ ap (λ (z : ℕ). front ++ place ∷ (z ∷ rest)) same ∙ shift rest,
            subst (λ z. LeadsTo certificates anchors z rest anchor) same leads.2,
          )

  -- an anchor ends it
  pub ends : (first place anchor : ℕ) (front : List ℕ) → Climbed first front place → length front ≤ 7
      → IsFirst (IsAnchorAboveAt certificates place) anchors anchor
      → (more : List ℕ) × (front ++ place ∷ [] ≡ first ∷ more) × (length more ≤ 7)
      × LeadsTo certificates anchors first more anchor
  ends first place anchor front climbed few above = (
    climbed.from,
    climbed.starts,
    (
        let size : length (front ++ place ∷ []) ≡ suc (length climbed.from) = ap length climbed.starts in
        let sum = length-append front (place ∷ []) in
        omega (arith, size, sum, few)
        ),
    subst (λ (l : List ℕ). Leads l anchor) climbed.starts (climbed.goes_on [] anchor above),
  )

  -- where neither an anchor nor a certificate is above, there is no way
  pub stops : (first place : ℕ) (front : List ℕ) → Climbed first front place
      → HasNone (IsAnchorAboveAt certificates place) anchors
      → HasNone (IsAboveAt certificates place) certificates
      → (members : List ℕ) (anchor : ℕ) → LeadsTo certificates anchors first members anchor → ⊥
  stops first place front climbed no_anchor no_certificate members anchor leads =
      let through = climbed.goes_through members anchor leads in by through.0 through.2
    where
      by : (more : List ℕ) → LeadsTo certificates anchors place more anchor → ⊥
      by [] leads = none_first no_anchor leads
      by (x ∷ rest) leads = none_first no_certificate leads.1

  -- behind eight members there is none of the wanted length
  pub too_far : (first place : ℕ) (front : List ℕ) → Climbed first front place → length front ≡ 8
      → (members : List ℕ) (anchor : ℕ) → length members ≤ 7 → LeadsTo certificates anchors first members anchor → ⊥
  too_far first place front climbed eight members anchor few leads =
      let through = climbed.goes_through members anchor leads in
      let size : suc (length members) ≡ length (front ++ place ∷ through.0) = ap length through.1 in
      let sum = length-append front (place ∷ through.0) in
      absurd (omega (arith, size, sum, few, eight))

-- what a push leaves
pub pushed : (front : List ℕ) (place : ℕ) {reserved items : List ℕ} → reserved ≡ front → items ≡ reserved ++ place ∷ []
    → items ≡ front ++ place ∷ []
pushed front place same is = is ∙ ap (λ (l : List ℕ). l ++ place ∷ []) same

-- want of memory says nothing of paths
pub no_memory : {A : Type 0} (r : Result A FindFault) → IsErrAnd r (λ fault. fault ≡ Memory) → SaysNone r → ⊥
no_memory (Ok found) memory said = said
no_memory (Err NoAnchor) memory said = cc
no_memory (Err Memory) memory said = said
