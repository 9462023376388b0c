-- Values that are read one after the other into a list.
use Rattle.std.proofs.Common.{◌≡◌, ℕ, ◌<◌, ◌≤◌, List, [], ◌∷◌, ◌++◌, length, Option, Some, None, refl, sym, ap, ◌∙◌, arith}
use Rattle.std.proofs.Common.{append_assoc}
use Rattle.std.specs.List.{flat_map, AllByRecursion}
use Rattle.std.proofs.lemmas.Bool.{le-leb, lt-leb}
use Rattle.std.proofs.lemmas.List.{append-nil, length-append}
use Rattle.der_core.specs.Reading.{◌>>?◌}
use Rattle.der_core.specs.Element.{HasRoom}
use Rattle.der_core.specs.Shapes.{Front, listed}
use Rattle.der_core.proofs.Listed.{listed_more, listed_none, listed_end}
use Rattle.module_record.specs.ModuleReading.{few}

-- what follows is shorter
abbrev pub Falls : {V : Type 0} → Front V → Type 0
Falls {V} front = (bytes : List ℕ) (x : V × List ℕ) → front bytes ≡ Some x → length x.1 < length bytes

-- ---- one after the other

-- these values, and then those that are left
abbrev pub behind : {V : Type 0} → List V → Option (List V) → Option (List V)
behind done left = left >>? λ more. Some (done ++ more)

pub starts : {V : Type 0} (all : Option (List V)) → all ≡ behind [] all
starts None = refl
starts (Some more) = refl

pub goes_on : {V : Type 0} (front : Front V) (all : Option (List V)) (done : List V) (octets rest : List ℕ) (v : V)
    → Falls front → front octets ≡ Some (v, rest) → all ≡ behind done (listed front octets)
    → all ≡ behind (done ++ v ∷ []) (listed front rest)
goes_on {V} front all done octets rest v falls is so_far =
    so_far ∙ ap (behind done) (listed_more front falls octets (v, rest) is) ∙ same (listed front rest)
  where
    same : (r : Option (List V)) → behind done (r >>? λ vs. Some (v ∷ vs)) ≡ behind (done ++ v ∷ []) r
    same None = refl
    same (Some vs) = ap (λ (x : List V). Some x) (sym (append_assoc done (v ∷ []) vs))

pub stops : {V : Type 0} (front : Front V) (all : Option (List V)) (done : List V) (octets : List ℕ)
    → 0 < length octets → front octets ≡ None → all ≡ behind done (listed front octets) → all ≡ None
stops front all done octets some isnt so_far = so_far ∙ ap (behind done) (listed_none front octets some isnt)

pub ends : {V : Type 0} (front : Front V) (all : Option (List V)) (done : List V) (octets : List ℕ) → octets ≡ []
    → all ≡ behind done (listed front octets) → all ≡ Some done
ends {V} front all done octets none so_far =
    so_far ∙ ap (λ (o : List ℕ). behind done (listed front o)) none ∙ ap (behind done) (listed_end front)
    ∙ ap (λ (x : List V). Some x) (append-nil done)

-- ---- at most 64 of them

pub few_some : {V : Type 0} (front : Front V) (octets : List ℕ) (values : List V) → listed front octets ≡ Some values
    → length values ≤ 64 → few front octets ≡ Some values
few_some front octets values is le = rw (is, le-leb (length values) 64 le) refl

pub few_many : {V : Type 0} (front : Front V) (octets : List ℕ) (values : List V) → listed front octets ≡ Some values
    → 64 < length values → few front octets ≡ None
few_many front octets values is more = rw (is, lt-leb (length values) 64 more) refl

pub few_none : {V : Type 0} (front : Front V) (octets : List ℕ) → listed front octets ≡ None → few front octets ≡ None
few_none front octets isnt = rw isnt refl

-- ---- room

-- where there is room for all of them, there is room for each
pub each_room : {V : Type 0} (text : V → List ℕ) (values : List V) → HasRoom (flat_map text values)
    → AllByRecursion (λ v. HasRoom (text v)) values
each_room text [] room = tt
each_room text (v ∷ vs) room =
    let both = length-append (text v) (flat_map text vs) in
    (omega (arith, room, both), each_room text vs (omega (arith, room, both)))
