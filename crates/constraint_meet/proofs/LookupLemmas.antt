-- What a search among the places of constraints says of them.
use Rattle.std.proofs.Common.{◌≡◌, ◌≤◌, ◌<◌, ◌+◌, ℕ, Bool, true, false, List, [], ◌∷◌, ◌++◌, length}
use Rattle.std.proofs.Common.{Option, Some, None, refl, sym, ap, ◌∙◌, subst, arith}
use Rattle.std.specs.Prelude.{Contains, IsPermutation, IsTrue, IfNone, ◌&&◌, map, bytes_eq}
use Rattle.std.specs.List.{AllByRecursion, IsDistinct, concat, flat_map, list_all}
use Rattle.std.proofs.lemmas.Bool.{false≢true}
use Rattle.std.proofs.lemmas.Map.Keys.{IsDistinct-head, IsDistinct-tail}
use Rattle.std.proofs.lemmas.Option.{none-some}
use Rattle.std.proofs.lemmas.Slice.Eq.{bytes_eq-Decides}
use Rattle.std.proofs.lemmas.Grind.{flat_map-append}
use Rattle.std.proofs.lemmas.List.{length-append}
use Rattle.std.proofs.lemmas.List.Sorted.{Contains-permutation, IsPermutation-sym}
use Rattle.der_core.specs.Attribute.{Attribute, attribute_contents, attribute_text}
use Rattle.der_core.specs.AttributeReading.{are_elements}
use Rattle.der_core.specs.Element.{AreOctets}
use Rattle.der_core.specs.Shapes.{IsOneElement}
use Rattle.der_core.proofs.AttributeLaws.{are_elements_again}
use Rattle.der_core.proofs.Digits.{AreOctets-left, AreOctets-right}
use Rattle.der_core.proofs.Numbers.{some_is}
use Rattle.cert_fields.specs.Constraints.{ContentConstraint, entry_text, IsConstrained, IsEntry, HasOwnTypes}
use Rattle.constraint_meet.specs.declared.places.Part.TheVariants.{Contents, Whole}
use Rattle.constraint_meet.specs.Permits.{values_in, AreOfOctets}
use Rattle.constraint_meet.specs.Tests.{meets, passes, are_covered}
use Rattle.constraint_meet.specs.Places.{Holds}
use Rattle.constraint_meet.specs.Index.{places_of, value_places, kind_places, all_places, listed_at}
use Rattle.constraint_meet.specs.Index.{AreIndexed, AreLookedUp, StandsAmong, IsAmong}
use Rattle.constraint_meet.proofs.PlaceLemmas.{Among, among_from, among_to, EndsIn, ends_through, ends_before, ends_size}
use Rattle.constraint_meet.proofs.PlaceLemmas.{LieWithin, contents_end, values_end, values_are, values_within, kinds_within, all_between}
use Rattle.constraint_meet.proofs.PlaceLemmas.{in_entry, of_entry, in_attribute, of_attribute, kind_of_place, place_of_kind}
use Rattle.constraint_meet.proofs.StandLemmas.{value_at, place_of_value, stands_in, kind_at, listed_are}

-- what holds of all holds of one among them
pub one_of : {X : Type 0} (P : X → Type 0) (front : List X) (x : X) (back : List X) → AllByRecursion P (front ++ x ∷ back)
    → P x
one_of P [] x back each = each.0
one_of P (f ∷ front) x back each = one_of P front x back each.1

pub all_of : {X : Type 0} (P : X → Type 0) (xs : List X)
    → ((front : List X) (x : X) (back : List X) → xs ≡ front ++ x ∷ back → P x) → AllByRecursion P xs
all_of P [] each = tt
all_of {X} P (x ∷ xs) each =
    (each [] x xs refl, all_of P xs (λ front y back is. each (x ∷ front) y back (ap (λ (ys : List X). x ∷ ys) is)))

module _ (entries : List ContentConstraint) (kinds values : List ℕ) (indexed : AreIndexed entries kinds values)
    (each : AllByRecursion IsEntry entries) (e : ContentConstraint) (after : ℕ) (s : StandsAmong entries e after) where
  abbrev octets : List ℕ
  octets = flat_map entry_text entries

  each_again : AllByRecursion IsEntry (s.front ++ e ∷ s.back)
  each_again = subst (λ (all : List ContentConstraint). AllByRecursion IsEntry all) s.all each

  constrained : AllByRecursion IsConstrained e.attributes
  constrained = (one_of IsEntry s.front e s.back each_again).attributes

  module _ (places : ℕ → List Attribute → List ℕ) (within : LieWithin places) (sorted : List ℕ)
      (same : IsPermutation (all_places places entries) sorted) where
    of_all : (place : ℕ) → Among place (places after e.attributes) → Contains sorted place
    of_all place at =
        Contains-permutation (all_places places entries) sorted place same
        (among_to (all_places places entries) place
        (subst (λ (all : List ContentConstraint). Among place (all_places places all)) (sym s.all)
        (of_entry places within s.front e s.back place
        (subst (λ (n : ℕ). Among place (places n e.attributes)) s.behind at))))

    in_all : (place : ℕ) → Contains sorted place → after < place
        → place ≤ length (flat_map attribute_text e.attributes) + after → Among place (places after e.attributes)
    in_all place at low high =
        subst (λ (n : ℕ). Among place (places n e.attributes)) (sym s.behind)
        (in_entry places within s.front e s.back each_again place
        (subst (λ (all : List ContentConstraint). Among place (all_places places all)) s.all
        (among_from (all_places places entries) place
        (Contains-permutation sorted (all_places places entries) place
        (IsPermutation-sym (all_places places entries) sorted same) at)))
        (omega (arith, low, s.behind)) (omega (arith, high, s.behind)))

  -- ---- types

  pub record IsFound (kind : List ℕ) (place : ℕ) : Type 0 where
    pub constrained : Attribute
    pub left : ℕ
    pub among : IsAmong e.attributes after constrained left
    pub kind_is : constrained.kind ≡ kind
    pub listed : listed_at octets place ≡ Some (constrained.values, left)

  pub kind_found : (kind : List ℕ) (place : ℕ)
      → Holds Contents octets kinds after (length (flat_map attribute_text e.attributes)) kind place → IsFound kind place
  kind_found kind place h =
      let at = in_all kind_places kinds_within kinds indexed.all_kinds place h.one h.low
      (omega (arith, h.high)) in
      let (front, a, back, all, is) = kind_of_place e.attributes after place at in
      let left = length (flat_map attribute_text back) + after in
      let i : IsAmong e.attributes after a left = record { front = front; back = back; all = all; left = refl } in
      let valid = one_of IsConstrained front a back (subst (λ (all : List Attribute). AllByRecursion IsConstrained all) all constrained) in
      let (tail, size, ends) = stands_in entries e after a left s i in
      let here : length (attribute_contents a ++ tail) ≡ place = omega (arith, length-append (attribute_contents a) tail, is, size) in
      record {
        constrained = a;
        left = left;
        among = i;
        kind_is = sym (kind_at octets a tail place valid ends here) ∙ h.is;
        listed = listed_are octets a tail place valid ends here ∙ rw size refl;
      }

  pub kind_none : (kind : List ℕ)
      → ((place : ℕ) → Holds Contents octets kinds after (length (flat_map attribute_text e.attributes)) kind place → ⊥)
      → AllByRecursion (λ (a : Attribute). a.kind ≡ kind → ⊥) e.attributes
  kind_none kind none = all_of (λ (a : Attribute). a.kind ≡ kind → ⊥) e.attributes away
    where
      away : (front : List Attribute) (a : Attribute) (back : List Attribute) → e.attributes ≡ front ++ a ∷ back
          → a.kind ≡ kind → ⊥
      away front a back all is =
          let left = length (flat_map attribute_text back) + after in
          let place = length (attribute_contents a) + left in
          let i : IsAmong e.attributes after a left = record { front = front; back = back; all = all; left = refl } in
          let valid = one_of IsConstrained front a back (subst (λ (all : List Attribute). AllByRecursion IsConstrained all) all constrained) in
          let (tail, size, ends) = stands_in entries e after a left s i in
          let here : length (attribute_contents a ++ tail) ≡ place = omega (arith, length-append (attribute_contents a) tail, size) in
          let at : Among place (kind_places after e.attributes) =
          subst (λ (all : List Attribute). Among place (kind_places after all)) (sym all) (place_of_kind front a back after) in
          let between = kinds_within e.attributes constrained after place at in
          none place (record {
            one = of_all kind_places kinds_within kinds indexed.all_kinds place at;
            low = between.0;
            high = omega (arith, between.1);
            is = kind_at octets a tail place valid ends here ∙ is;
          })

  -- ---- values

  module _ (a : Attribute) (left : ℕ) (i : IsAmong e.attributes after a left) where
    constrained_again : AllByRecursion IsConstrained (i.front ++ a ∷ i.back)
    constrained_again = subst (λ (all : List Attribute). AllByRecursion IsConstrained all) i.all constrained

    valid : IsConstrained a
    valid = one_of IsConstrained i.front a i.back constrained_again

    are : AllByRecursion IsOneElement (values_in a.values) × (concat (values_in a.values) ≡ a.values)
    are = values_are a.values valid.attribute.values

    text : length (flat_map attribute_text e.attributes)
        ≡ length (flat_map attribute_text i.front) + (length (attribute_text a) + length (flat_map attribute_text i.back))
    text =
        ap (λ (all : List Attribute). length (flat_map attribute_text all)) i.all
        ∙ omega (
          arith,
          ap length (flat_map-append attribute_text i.front (a ∷ i.back)),
          length-append (flat_map attribute_text i.front) (attribute_text a ++ flat_map attribute_text i.back),
          length-append (attribute_text a) (flat_map attribute_text i.back),
        )

    record Stand : Type 0 where
      tail : List ℕ
      size : length tail ≡ left
      ends : EndsIn octets (concat (values_in a.values) ++ tail)

    stand : Stand
    stand =
        let (tail, size, ends) = stands_in entries e after a left s i in
        record {
          tail = tail;
          size = size;
          ends =
              subst (λ (values : List ℕ). EndsIn octets (values ++ tail)) (sym are.1)
              (ends_through octets (attribute_contents a ++ tail) (a.values ++ tail) ends
              (ends_before (attribute_contents a) a.values tail (values_end a)));
        }

    pub value_found : (value : List ℕ) (place : ℕ) → Holds Whole octets values left (length a.values) value place
        → Among value (values_in a.values)
    value_found value place h =
        let inside : place ≤ length (flat_map attribute_text e.attributes) + after =
        omega (
          arith,
          h.high,
          text,
          i.left,
          ends_size (attribute_text a) (attribute_contents a) (contents_end a),
          ends_size (attribute_contents a) a.values (values_end a),
        ) in
        let at = in_all value_places values_within values indexed.all_values place h.one
        (omega (arith, h.low, i.left)) inside in
        let here : Among place (places_of left (values_in a.values)) =
        subst (λ (n : ℕ). Among place (places_of n (values_in a.values))) (sym i.left)
        (in_attribute i.front a i.back after constrained_again place
        (subst (λ (all : List Attribute). Among place (value_places after all)) i.all at)
        (omega (arith, h.low, i.left)) (omega (arith, h.high, i.left))) in
        subst (λ (v : List ℕ). Among v (values_in a.values)) h.is
        (value_at octets (values_in a.values) stand.tail left are.0 stand.ends stand.size place here)

    pub value_none : (value : List ℕ)
        → ((place : ℕ) → Holds Whole octets values left (length a.values) value place → ⊥)
        → Among value (values_in a.values) → ⊥
    value_none value none at =
        let found = place_of_value octets (values_in a.values) stand.tail left are.0 stand.ends stand.size value at in
        let between = all_between (values_in a.values) are.0 left found.0 found.1 in
        none found.0 (record {
          one =
              of_all value_places values_within values indexed.all_values found.0
              (subst (λ (all : List Attribute). Among found.0 (value_places after all)) (sym i.all)
              (of_attribute i.front a i.back after found.0
              (subst (λ (n : ℕ). Among found.0 (places_of n (values_in a.values))) i.left found.1)));
          low = between.0;
          high = omega (arith, between.1, ap length are.1);
          is = found.2;
        })

  -- ---- what is looked up

  pub record IsListed (kind listed : List ℕ) (left : ℕ) : Type 0 where
    pub elements : IsTrue (are_elements listed)
    pub looked : AreLookedUp octets values left listed
    pub front : List Attribute
    pub back : List Attribute
    pub all : e.attributes ≡ front ++ record { kind = kind; values = listed } ∷ back

  pub is_listed : (kind : List ℕ) (place : ℕ)
      → Holds Contents octets kinds after (length (flat_map attribute_text e.attributes)) kind place
      → (listed : List ℕ) (left : ℕ) → listed_at octets place ≡ Some (listed, left) → IsListed kind listed left
  is_listed kind place h listed left read =
      subst (λ (x : List ℕ × ℕ). IsListed kind x.0 x.1)
      (some_is (f.constrained.values, f.left) (listed, left) (sym f.listed ∙ read)) it
    where
      f : IsFound kind place
      f = kind_found kind place h

      it : IsListed kind f.constrained.values f.left
      it = record {
        elements = are_elements_again f.constrained.values (valid f.constrained f.left f.among).attribute.values;
        looked = record {
          ordered = indexed.values_in_order;
          found = λ value place h.
              among_to (values_in f.constrained.values) value (value_found f.constrained f.left f.among value place h);
          none = λ value none at.
              value_none f.constrained f.left f.among value none (among_from (values_in f.constrained.values) value at);
        };
        front = f.among.front;
        back = f.among.back;
        all =
            subst (λ (k : List ℕ). e.attributes ≡ f.among.front ++ record { kind = k; values = f.constrained.values }
            ∷ f.among.back) f.kind_is f.among.all;
      }

  pub never_unlisted : (kind : List ℕ) (place : ℕ)
      → Holds Contents octets kinds after (length (flat_map attribute_text e.attributes)) kind place
      → listed_at octets place ≡ None → ⊥
  never_unlisted kind place h read =
      let f = kind_found kind place h in none-some (f.constrained.values, f.left) (sym read ∙ f.listed)

-- ---- octets

pub list_octets : (entries : List ContentConstraint) (e : ContentConstraint) (after : ℕ) → StandsAmong entries e after
    → AreOctets (flat_map entry_text entries) → AreOfOctets e.attributes
list_octets entries e after s are = all_of (λ (a : Attribute). AreOctets a.values) e.attributes one
  where
    one : (front : List Attribute) (a : Attribute) (back : List Attribute) → e.attributes ≡ front ++ a ∷ back
        → AreOctets a.values
    one front a back all =
        let left = length (flat_map attribute_text back) + after in
        let i : IsAmong e.attributes after a left = record { front = front; back = back; all = all; left = refl } in
        let (tail, size, ends) = stands_in entries e after a left s i in
        let (before, is) = ends_through (flat_map entry_text entries) (attribute_contents a ++ tail) (a.values ++ tail) ends
        (ends_before (attribute_contents a) a.values tail (values_end a)) in
        AreOctets-left a.values tail (AreOctets-right before (a.values ++ tail) (subst AreOctets is are))

-- ---- what an entry asks of one attribute

pub if_none : {A : Type 0} {X : Type 0} (o : Option A) → X → IfNone o X
if_none None x = x
if_none (Some a) x = tt

and_true : (b : Bool) → (b && true) ≡ b
and_true true = refl
and_true false = refl

not_same : (kind other : List ℕ) → (kind ≡ other → ⊥) → bytes_eq kind other ≡ false
not_same kind other never = by (bytes_eq kind other) refl
  where
    by : (b : Bool) → bytes_eq kind other ≡ b → b ≡ false
    by true is = absurd (never ((bytes_eq-Decides kind other).0 is))
    by false is = refl

-- types that differ from one are none of its
others : (kind : List ℕ) (attributes : List Attribute) (same : List ℕ) → kind ≡ same
    → AllByRecursion (λ other. bytes_eq kind other ≡ false) (map (λ (a : Attribute). a.kind) attributes)
    → AllByRecursion (λ (a : Attribute). a.kind ≡ same → ⊥) attributes
others kind [] same is apart = tt
others kind (a ∷ more) same is apart = (
  λ has. false≢true (sym apart.0 ∙ (bytes_eq-Decides kind a.kind).1 (is ∙ sym has)),
  others kind more same is apart.1,
)

first : (kind : List ℕ) (front : List Attribute) (a : Attribute) (back : List Attribute)
    → AllByRecursion (λ other. bytes_eq kind other ≡ false) (map (λ (a : Attribute). a.kind) (front ++ a ∷ back))
    → kind ≡ a.kind → ⊥
first kind [] a back apart is = false≢true (sym apart.0 ∙ (bytes_eq-Decides kind a.kind).1 is)
first kind (f ∷ front) a back apart is = first kind front a back apart.1 is

-- where none has its type, nothing is asked
pub nothing_asked : (attributes : List Attribute) (attribute : Attribute)
    → AllByRecursion (λ (a : Attribute). a.kind ≡ attribute.kind → ⊥) attributes
    → list_all (meets attribute) attributes ≡ true
nothing_asked [] attribute none = refl
nothing_asked (a ∷ more) attribute none =
    rw (not_same a.kind attribute.kind none.0, nothing_asked more attribute none.1) refl

-- where one alone has it, what that lists
pub one_asked : (front : List Attribute) (a : Attribute) (back : List Attribute) (attribute : Attribute)
    → IsDistinct bytes_eq (map (λ (a : Attribute). a.kind) (front ++ a ∷ back)) → a.kind ≡ attribute.kind
    → list_all (meets attribute) (front ++ a ∷ back) ≡ are_covered a attribute.values
one_asked [] a back attribute apart is =
    rw (
      (bytes_eq-Decides a.kind attribute.kind).1 is,
      nothing_asked back attribute (others a.kind back attribute.kind is
          (IsDistinct-head bytes_eq a.kind (map (λ (a : Attribute). a.kind) back) apart)),
    )
    (and_true (are_covered a attribute.values))
one_asked (f ∷ front) a back attribute apart is =
    rw (not_same f.kind attribute.kind
    (λ same. first f.kind front a back (IsDistinct-head bytes_eq f.kind (map (λ (a : Attribute). a.kind) (front ++ a ∷ back))
    apart) (same ∙ sym is)))
    (one_asked front a back attribute
    (IsDistinct-tail bytes_eq f.kind (map (λ (a : Attribute). a.kind) (front ++ a ∷ back)) apart) is)

pub passes_listed : (entries : List ContentConstraint) (e : ContentConstraint) (after : ℕ) → StandsAmong entries e after
    → AllByRecursion HasOwnTypes entries → (attribute a : Attribute) → a.kind ≡ attribute.kind
    → (front : List Attribute) × (back : List Attribute) × (e.attributes ≡ front ++ a ∷ back)
    → passes e attribute ≡ are_covered a attribute.values
passes_listed entries e after s types attribute a is (front, back, all) =
    let own : HasOwnTypes e =
    one_of HasOwnTypes s.front e s.back (subst (λ (es : List ContentConstraint). AllByRecursion HasOwnTypes es) s.all types) in
    ap (list_all (meets attribute)) all
    ∙ one_asked front a back attribute
    (subst (λ (xs : List Attribute). IsDistinct bytes_eq (map (λ (a : Attribute). a.kind) xs)) all own) is

-- ---- the same, of octets and places that are these

module _ (entries : List ContentConstraint) (kinds values : List ℕ) (indexed : AreIndexed entries kinds values)
    (each : AllByRecursion IsEntry entries) (e : ContentConstraint) (after : ℕ) (s : StandsAmong entries e after)
    (all_text places rest : List ℕ) (text : all_text ≡ flat_map entry_text entries) (same : places ≡ kinds)
    (inner : rest ≡ flat_map attribute_text e.attributes) (kind : List ℕ) where
  there : (place : ℕ) → Holds Contents all_text places after (length rest) kind place
      → Holds Contents (flat_map entry_text entries) kinds after (length (flat_map attribute_text e.attributes)) kind place
  there place h = rw (text, same, inner) at h

  pub not_listed : ((place : ℕ) → Holds Contents all_text places after (length rest) kind place → ⊥)
      → AllByRecursion (λ (a : Attribute). a.kind ≡ kind → ⊥) e.attributes
  not_listed none =
      kind_none entries kinds values indexed each e after s kind (rw (text, same, inner) at none)

  pub always_listed : (place : ℕ) → Holds Contents all_text places after (length rest) kind place
      → listed_at all_text place ≡ None → ⊥
  always_listed place h read =
      never_unlisted entries kinds values indexed each e after s kind place (there place h) (rw text at read)

  pub looked_up : (place : ℕ) → Holds Contents all_text places after (length rest) kind place
      → (listed : List ℕ) (left : ℕ) → listed_at all_text place ≡ Some (listed, left) → (value_places : List ℕ)
      → value_places ≡ values
      → (IsTrue (are_elements listed) × AreLookedUp all_text value_places left listed)
      × ((front : List Attribute) × (back : List Attribute)
      × (e.attributes ≡ front ++ record { kind = kind; values = listed } ∷ back))
  looked_up place h listed left read value_places are =
      let it = is_listed entries kinds values indexed each e after s kind place (there place h) listed left
      (rw text at read) in
      ((it.elements, rw (text, are) it.looked), (it.front, it.back, it.all))
