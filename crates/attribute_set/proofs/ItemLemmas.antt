-- Values that are kept as their octets, one after the other.
use Rattle.std.proofs.Common.{◌≡◌, ℕ, ◌<◌, Bool, true, false, List, [], ◌∷◌, length, Option, Some, None, refl, sym}
use Rattle.std.proofs.Common.{◌∙◌, ap, subst, arith}
use Rattle.std.specs.Prelude.{is_some}
use Rattle.std.proofs.lemmas.Bool.{false≢true}
use Rattle.std.proofs.lemmas.Option.{none-some}
use Rattle.der_core.specs.Reading.{◌>>?◌}
use Rattle.der_core.specs.Reads.{Answers}
use Rattle.der_core.specs.Shapes.{Front, listed}
use Rattle.der_core.proofs.Listed.{listed_more, listed_none, listed_end}
use Rattle.attribute_set.specs.Items.{items_of, AreItems}

-- what follows is shorter
abbrev pub Falls : {V : Type 0} → Front V → Type 0
Falls {V} read = (bytes : List ℕ) (x : V × List ℕ) → read bytes ≡ Some x → length x.1 < length bytes

-- ---- from the octets to the values

-- the first value is read, and the rest are values too
pub first_item : {V : Type 0} (front : Front V) (octets rest : List ℕ) (v : V) → Falls front → AreItems front octets
    → front octets ≡ Some (v, rest) → AreItems front rest × (items_of front octets ≡ v ∷ items_of front rest)
first_item {V} front octets rest v falls are is = by_case (listed front rest) refl
  where
    more : listed front octets ≡ (listed front rest >>? λ vs. Some (v ∷ vs))
    more = listed_more front falls octets (v, rest) is

    by_case : (r : Option (List V)) → listed front rest ≡ r
        → AreItems front rest × (items_of front octets ≡ v ∷ items_of front rest)
    by_case None e =
        absurd (none-some (items_of front octets)
        (sym (ap (λ (r : Option (List V)). r >>? λ vs. Some (v ∷ vs)) e) ∙ sym more ∙ are))
    by_case (Some vs) e = (rw e refl, rw (more, e) refl)

-- no value is left
pub no_item : {V : Type 0} (front : Front V) (octets : List ℕ) → AreItems front octets → front octets ≡ None
    → items_of front octets ≡ []
no_item front [] are is = rw (listed_end front) refl
no_item front (b ∷ bs) are is =
    absurd (none-some (items_of front (b ∷ bs)) (sym (listed_none front (b ∷ bs) (omega arith) is) ∙ are))

-- ---- whether octets are values, where each is read and passed; `total` is whether all of them are

-- what a reader answered at the front, as a value and the rest
pub answered : {X Y : Type 0} (view : X → Y) (r : Option X) (answer : Option Y) → is_some r ≡ true
    → Answers view r answer → (x : X) × (answer ≡ Some (view x))
answered view None answer some is = absurd (false≢true some)
answered view (Some x) answer some is = (x, is)

pub unanswered : {X Y : Type 0} (view : X → Y) (r : Option X) (answer : Option Y) → is_some r ≡ false
    → Answers view r answer → answer ≡ None
unanswered view None answer none is = is
unanswered view (Some x) answer none is = absurd (false≢true (sym none))

pub falls : {V : Type 0} (front : Front V) (octets rest : List ℕ) (r : Option V) → Falls front → is_some r ≡ true
    → Answers (λ v. (v, rest)) r (front octets) → length rest < length octets
falls {V} front octets rest r less some is =
    let v = answered (λ (v : V). (v, rest)) r (front octets) some is in less octets (v.0, rest) v.1

pub goes_on : {V : Type 0} (front : Front V) (total : Bool) (octets rest : List ℕ) (r : Option V) → Falls front
    → is_some r ≡ true → Answers (λ v. (v, rest)) r (front octets) → total ≡ is_some (listed front octets)
    → total ≡ is_some (listed front rest)
goes_on {V} front total octets rest r less some is so_far =
    let v = answered (λ (v : V). (v, rest)) r (front octets) some is in
    so_far ∙ ap is_some (listed_more front less octets (v.0, rest) v.1) ∙ same v.0 (listed front rest)
  where
    same : (v : V) (r : Option (List V)) → is_some (r >>? λ vs. Some (v ∷ vs)) ≡ is_some r
    same v None = refl
    same v (Some vs) = refl

pub stops : {V : Type 0} (front : Front V) (total : Bool) (octets rest : List ℕ) (r : Option V) → 0 < length octets
    → is_some r ≡ false → Answers (λ v. (v, rest)) r (front octets) → total ≡ is_some (listed front octets)
    → false ≡ total
stops {V} front total octets rest r some none is so_far =
    let isnt = unanswered (λ (v : V). (v, rest)) r (front octets) none is in
    sym (so_far ∙ ap is_some (listed_none front octets some isnt))

pub ends : {V : Type 0} (front : Front V) (total : Bool) (octets : List ℕ) → octets ≡ []
    → total ≡ is_some (listed front octets) → true ≡ total
ends {V} front total octets none so_far =
    sym (so_far ∙ ap (λ (o : List ℕ). is_some (listed front o)) none ∙ ap is_some (listed_end front))

-- ---- what is kept

pub is_items : {V : Type 0} (front : Front V) (octets : List ℕ) (these : List V) → listed front octets ≡ Some these
    → items_of front octets ≡ these
is_items front octets these is = rw is refl

pub are_items : {V : Type 0} (front : Front V) (octets : List ℕ) → is_some (listed front octets) ≡ true
    → AreItems front octets
are_items {V} front octets is = by_case (listed front octets) refl
  where
    by_case : (r : Option (List V)) → listed front octets ≡ r → AreItems front octets
    by_case None e = absurd (false≢true (sym (ap is_some e) ∙ is))
    by_case (Some vs) e = rw e refl

pub arent_items : {V : Type 0} (front : Front V) (octets : List ℕ) → is_some (listed front octets) ≡ false
    → listed front octets ≡ None
arent_items {V} front octets isnt = by_case (listed front octets) refl
  where
    by_case : (r : Option (List V)) → listed front octets ≡ r → r ≡ None
    by_case None e = refl
    by_case (Some vs) e = absurd (false≢true (sym isnt ∙ ap is_some e))

-- ---- the next value is passed, from one state of an iterator to the next

pub passed : {V : Type 0} (front : Front V) (octets items left kept : List ℕ) (v : V) → Falls front
    → AreItems front octets → items ≡ octets → front items ≡ Some (v, left) → kept ≡ left
    → AreItems front kept × (items_of front octets ≡ v ∷ items_of front kept)
passed front octets items left kept v falls are same is keeps =
    subst (λ (k : List ℕ). AreItems front k × (items_of front octets ≡ v ∷ items_of front k)) (sym keeps)
    (first_item front octets left v falls are (ap front (sym same) ∙ is))

pub shorter : {V : Type 0} (before after : List V) (v : V) → before ≡ v ∷ after → length after < length before
shorter before after v is = omega (arith, ap length is)
