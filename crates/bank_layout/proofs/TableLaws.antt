-- The tables of a manifest are read exactly.
use Rattle.std.proofs.Common.{◌≡◌, ℕ, ◌<◌, ◌≤◌, Bool, true, false, ◌||◌, List, [], ◌∷◌, ◌++◌, map, length, Option, Some, None, is_some, refl, sym, ap, subst, ◌∙◌, true≢false, arith, length-append}
use Rattle.std.specs.List.{AllByRecursion, IsDistinct, list_any, find, flat_map}
use Rattle.std.specs.Prelude.{option_map}
use Rattle.std.proofs.lemmas.Bool.{false≢true}
use Rattle.der_core.specs.Shapes.{Front, IsFront, IsWhole, listed}
use Rattle.der_core.specs.Reads.{Answers}
use Rattle.der_core.proofs.Lists.{with_front, goes_on}
use Rattle.der_core.proofs.Listed.{listed_more}
use Rattle.der_core.proofs.Numbers.{some_bind, some_is}
use Rattle.der_core.proofs.Shapes.{listed-whole}
use Rattle.package_attrs.specs.declared.name.PackageName.{PackageName}
use Rattle.package_attrs.specs.declared.name.PackageName.TheVariants as names
use Rattle.package_attrs.specs.Identifier.{name_text, IsName}
use Rattle.package_attrs.specs.Reading.{name_at}
use Rattle.package_attrs.proofs.Falls.{name_falls}
use Rattle.package_attrs.proofs.IdentifierLaws.{name-front}
use Rattle.config_table.specs.declared.stale_entry.StaleEntry.{StaleEntry}
use Rattle.config_table.specs.declared.stale_entry.StaleEntry.TheVariants as entries
use Rattle.config_table.specs.Names.{is_same}
use Rattle.config_table.specs.Keys.{is_same-equivalence}
use Rattle.config_table.specs.State.{Entry, State, empty_state, placed, raised, greater, last_stale, stale_number, stale_of, names_of, stale_names_of}
use Rattle.config_table.specs.Rules.{is_installed}
use Rattle.config_table.specs.Stored.{Stored}
use Rattle.config_table.proofs.PutLemmas.{list_any-is_some, distinct_put}
use Rattle.config_table.proofs.StateLemmas.{placing_joins, raising_joins, placed-new, raised-new}
use Rattle.bank_layout.specs.Manifest.{stale_entry_text}
use Rattle.bank_layout.specs.declared.format.Format.{Format}
use Rattle.bank_layout.specs.Reading.{entry_at, stale_at, stale_from}
use Rattle.bank_layout.specs.Tables.{ArePackages, ReadsPackages, AreStale, ReadsStale}
use Rattle.bank_layout.proofs.PackageLaws.{entry_falls}
use Rattle.bank_layout.proofs.Texts.{name_some}

-- ---- a name that stands twice

module _ {X : Type 0} (name : X → PackageName) where
  -- what holds of all names holds of one
  one_name : (P : PackageName → Type 0) (front : List X) (x : X) (more : List X)
      → AllByRecursion P (map name (front ++ x ∷ more)) → P (name x)
  one_name P [] x more all = all.0
  one_name P (y ∷ front) x more all = one_name P front x more all.1

  pub not_twice : (front : List X) (x : X) (more : List X)
      → IsDistinct is_same (map name (front ++ x ∷ more)) → list_any (λ y. is_same (name x) (name y)) front ≡ true → ⊥
  unfolding IsDistinct
  not_twice [] x more distinct same = true≢false (sym same)
  not_twice (y ∷ front) x more distinct same =
      by (not_twice front x more distinct.1) (is_same (name x) (name y)) refl same
    where
      by : (list_any (λ z. is_same (name x) (name z)) front ≡ true → ⊥) → (b : Bool) → is_same (name x) (name y) ≡ b → b || list_any (λ z. is_same (name x) (name z)) front ≡ true → ⊥
      by rest true is h = true≢false (sym is ∙ is_same-equivalence.symm (name x) (name y)
          ∙ one_name (λ n. is_same (name y) n ≡ false) front x more distinct.0)
      by rest false is h = rest h

-- ---- a list that is read on

nothing_before : {V : Type 0} (r : Option (List V)) → r ≡ with_front [] r
nothing_before None = refl
nothing_before (Some vs) = refl

pub starts : {V : Type 0} (read : Front V) (bytes items : List ℕ) (front : List V) → items ≡ bytes → front ≡ []
    → listed read bytes ≡ with_front front (listed read items)
starts {V} read bytes items front same none =
    subst (λ (b : List ℕ). listed read bytes ≡ with_front front (listed read b)) (sym same)
    (subst (λ (f : List V). listed read bytes ≡ with_front f (listed read bytes)) (sym none)
    (nothing_before (listed read bytes)))

-- the values of which these stand in front
module _ {V : Type 0} (read : Front V)
    (falls : (bytes : List ℕ) (x : V × List ℕ) → read bytes ≡ Some x → length x.1 < length bytes) where
  pub goes_on_with : (total : Option (List V)) (front : List V) (bytes rest : List ℕ) (v : V) (all : List V)
      → total ≡ with_front front (listed read bytes) → read bytes ≡ Some (v, rest) → total ≡ Some all
      → (more : List V) × (all ≡ front ++ v ∷ more)
  goes_on_with total front bytes rest v all so_far is found =
      let w = some_bind (listed read bytes) (λ vs. Some (front ++ vs)) all (sym so_far ∙ found) in
      let m = some_bind (listed read rest) (λ vs. Some (v ∷ vs)) w.0 (sym (listed_more read falls bytes (v, rest) is) ∙ w.1) in
      (m.0, sym (some_is (front ++ w.0) all w.2) ∙ ap (λ (vs : List V). front ++ vs) (sym (some_is (v ∷ m.0) w.0 m.2)))

-- one more than are allowed
pub too_many : {V : Type 0} (front more all : List V) (v : V) → all ≡ front ++ v ∷ more → length front < length all
too_many front more all v is = omega (arith, ap length is, length-append front (v ∷ more))

-- what a reader's answer says of the reading
pub read_some : {X Y : Type 0} (view : X → Y) (r : Option X) (answer : Option Y) (x : X) → Answers view r answer
    → r ≡ Some x → answer ≡ Some (view x)
read_some {X} {Y} view r answer x reads is = subst (λ (o : Option X). Answers view o answer) is reads

pub read_none : {X Y : Type 0} (view : X → Y) (r : Option X) (answer : Option Y) → Answers view r answer → r ≡ None
    → answer ≡ None
read_none {X} {Y} view r answer reads is = subst (λ (o : Option X). Answers view o answer) is reads

-- ---- packages

-- the packages so far, which a table may have, and then those that are left
pub record PackagesSoFar (format : Format) (contents items : List ℕ) (state : State Stored) : Type 0 where
  pub read : listed (entry_at format) contents ≡ with_front state.packages (listed (entry_at format) items)
  pub are : ArePackages state.packages
  pub fresh : state.stale ≡ []

pub no_packages_yet : (format : Format) (contents items : List ℕ) (state : State Stored) → items ≡ contents
    → state ≡ empty_state → PackagesSoFar format contents items state
unfolding IsDistinct
no_packages_yet format contents items state same empty = record {
  read = starts (entry_at format) contents items state.packages same (ap (λ (s : State Stored). s.packages) empty);
  are = subst (λ (s : State Stored). ArePackages s.packages) (sym empty) (record { few = omega arith; distinct = tt });
  fresh = ap (λ (s : State Stored). s.stale) empty;
}

module _ (format : Format) (contents items rest : List ℕ) (state : State Stored) (e : Entry Stored)
    (so_far : PackagesSoFar format contents items state) (is : entry_at format items ≡ Some (e, rest)) where
  next_package : (packages : List (Entry Stored)) → ReadsPackages format contents packages
      → (more : List (Entry Stored)) × (packages ≡ state.packages ++ e ∷ more)
  next_package packages reads =
      goes_on_with (entry_at format) (entry_falls format) (listed (entry_at format) contents) state.packages items rest e
      packages so_far.read is reads.read

  pub too_many_packages : 64 ≤ length state.packages → (packages : List (Entry Stored))
      → ReadsPackages format contents packages → ⊥
  too_many_packages full packages reads =
      let next = next_package packages reads in
      omega (arith, full, too_many state.packages next.0 packages e next.1, reads.are.few)

  pub package_twice : is_installed e.name state.packages ≡ true → (packages : List (Entry Stored))
      → ReadsPackages format contents packages → ⊥
  package_twice there packages reads =
      let next = next_package packages reads in
      not_twice (λ (x : Entry Stored). x.name) state.packages e next.0
      (subst (λ (ps : List (Entry Stored)). IsDistinct is_same (names_of ps)) next.1 reads.are.distinct) there

  pub packages_more : (next : State Stored) → length state.packages < 64 → is_installed e.name state.packages ≡ false
      → next ≡ record state { packages = placed e state.packages } → PackagesSoFar format contents rest next
  packages_more next few absent after =
      let placed-is = ap (λ (s : State Stored). s.packages) after in
      let new-is = placed-is ∙ placed-new e state.packages (λ there. false≢true (sym absent ∙ there)) in
      record {
        read = subst (λ (ps : List (Entry Stored)). listed (entry_at format) contents
            ≡ with_front ps (listed (entry_at format) rest)) (sym new-is)
            (goes_on (entry_at format) (listed (entry_at format) contents) state.packages items rest e (entry_falls format)
            so_far.read is);
        are = record {
          few = omega (arith, ap length new-is, length-append state.packages (e ∷ []), few);
          distinct = subst (λ (ps : List (Entry Stored)). IsDistinct is_same (names_of ps)) (sym placed-is)
              (distinct_put (λ (x : Entry Stored). x.name) (λ old new. new) placing_joins e state.packages
              so_far.are.distinct);
        };
        fresh = ap (λ (s : State Stored). s.stale) after ∙ so_far.fresh;
      }

-- ---- stale entries

pub stale_again : (x : StaleEntry) → stale_from (last_stale x) ≡ x
stale_again (entries.Preferred id n) = refl
stale_again (entries.Legacy octets) = refl

last_again : (n : PackageName) → last_stale (stale_from n) ≡ n
last_again (names.Preferred id version) = refl
last_again (names.Legacy octets) = refl

abbrev pub IsStaleName : StaleEntry → Type 0
IsStaleName entry = IsName (last_stale entry)

stale-front : IsFront stale_entry_text IsStaleName stale_at
unfolding stale_at
stale-front = record {
  takes = λ bytes x octets is.
      let b = some_bind (name_at bytes) (λ y. Some (stale_from y.0, y.1)) x is in
      let t = name-front.takes bytes b.0 octets b.1 in
      subst (λ (y : StaleEntry × List ℕ). IsStaleName y.0 × (bytes ≡ stale_entry_text y.0 ++ y.1))
      (some_is (stale_from b.0.0, b.0.1) x b.2) (
        subst IsName (sym (last_again b.0.0)) t.0,
        t.1 ∙ ap (λ (n : PackageName). name_text n ++ b.0.1) (sym (last_again b.0.0)),
      );
  again = λ x rest valid. rw (name-front.again (last_stale x) rest valid) (ap (λ (y : StaleEntry). Some (y, rest)) (stale_again x));
}

pub stale_falls : (bytes : List ℕ) (x : StaleEntry × List ℕ) → stale_at bytes ≡ Some x → length x.1 < length bytes
unfolding stale_at
stale_falls bytes x is =
    let b = some_bind (name_at bytes) (λ y. Some (stale_from y.0, y.1)) x is in
    subst (λ (y : StaleEntry × List ℕ). length y.1 < length bytes) (some_is (stale_from b.0.0, b.0.1) x b.2)
    (name_falls bytes b.0 b.1)

pub stale-whole : IsWhole (flat_map stale_entry_text) (AllByRecursion IsStaleName) (listed stale_at)
stale-whole = listed-whole (λ x v. name_some (last_stale x)) stale_falls stale-front

-- a name of which there is a number is there, and one of which there is none isn't
pub number_there : (name : PackageName) (state : State Stored) (is : Bool) → is ≡ is_some (stale_of name state)
    → is ≡ true → list_any (λ entry. is_same name (last_stale entry)) state.stale ≡ true
number_there name state is told holds =
    list_any-is_some (λ entry. is_same name (last_stale entry)) state.stale
    ∙ some (find (λ entry. is_same name (last_stale entry)) state.stale) ∙ sym told ∙ holds
  where
    some : (o : Option StaleEntry) → is_some o ≡ is_some (option_map stale_number o)
    some None = refl
    some (Some entry) = refl

pub no_number : (name : PackageName) (state : State Stored) (is : Bool) → is ≡ is_some (stale_of name state)
    → is ≡ false → stale_of name state ≡ None
no_number name state is told fails = none (stale_of name state) (sym told ∙ fails)
  where
    none : (o : Option ℕ) → is_some o ≡ false → o ≡ None
    none None e = refl
    none (Some n) e = absurd (true≢false e)

-- the stale entries so far, which a table may have, and then those that are left
pub record StaleSoFar (contents items : List ℕ) (stale : List StaleEntry) : Type 0 where
  pub read : listed stale_at contents ≡ with_front stale (listed stale_at items)
  pub are : AreStale stale

pub no_stale_yet : (contents items : List ℕ) (stale : List StaleEntry) → items ≡ contents → stale ≡ []
    → StaleSoFar contents items stale
unfolding IsDistinct
no_stale_yet contents items stale same empty = record {
  read = starts stale_at contents items stale same empty;
  are = subst AreStale (sym empty) (record { few = omega arith; distinct = tt });
}

module _ (contents items rest : List ℕ) (state : State Stored) (x : StaleEntry)
    (so_far : StaleSoFar contents items state.stale) (is : stale_at items ≡ Some (x, rest)) where
  next_stale : (stale : List StaleEntry) → ReadsStale contents stale
      → (more : List StaleEntry) × (stale ≡ state.stale ++ x ∷ more)
  next_stale stale reads =
      goes_on_with stale_at stale_falls (listed stale_at contents) state.stale items rest x stale so_far.read is reads.read

  pub too_many_stale : 256 ≤ length state.stale → (stale : List StaleEntry) → ReadsStale contents stale → ⊥
  too_many_stale full stale reads =
      let next = next_stale stale reads in
      omega (arith, full, too_many state.stale next.0 stale x next.1, reads.are.few)

  pub stale_twice : (name : PackageName) → name ≡ last_stale x → (told : Bool) → told ≡ is_some (stale_of name state)
      → told ≡ true → (stale : List StaleEntry) → ReadsStale contents stale → ⊥
  stale_twice name named told number holds stale reads =
      let next = next_stale stale reads in
      not_twice last_stale state.stale x next.0
      (subst (λ (xs : List StaleEntry). IsDistinct is_same (stale_names_of xs)) next.1 reads.are.distinct)
      (subst (λ (n : PackageName). list_any (λ entry. is_same n (last_stale entry)) state.stale ≡ true) named
      (number_there name state told number holds))

  pub stale_more : (next : State Stored) (name : PackageName) → name ≡ last_stale x → (told : Bool)
      → told ≡ is_some (stale_of name state) → told ≡ false → length state.stale < 256
      → next ≡ record state { stale = raised x state.stale } → StaleSoFar contents rest next.stale
  stale_more next name named told number fails few after =
      let absent = subst (λ (n : PackageName). stale_of n state ≡ None) named (no_number name state told number fails) in
      let raised-is = ap (λ (s : State Stored). s.stale) after in
      let new-is = raised-is ∙ raised-new x state absent in
      record {
        read = subst (λ (xs : List StaleEntry). listed stale_at contents ≡ with_front xs (listed stale_at rest))
            (sym new-is)
            (goes_on stale_at (listed stale_at contents) state.stale items rest x stale_falls so_far.read is);
        are = record {
          few = omega (arith, ap length new-is, length-append state.stale (x ∷ []), few);
          distinct = subst (λ (xs : List StaleEntry). IsDistinct is_same (stale_names_of xs)) (sym raised-is)
              (distinct_put last_stale greater raising_joins x state.stale so_far.are.distinct);
        };
      }
