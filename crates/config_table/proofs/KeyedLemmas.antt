-- What a table holds, by the map that keeps it.
use Rattle.std.proofs.Common.{◌≡◌, ℕ, zero, suc, Bool, true, false, ◌||◌, ◌&&◌, nat_le, bytes_eq, cond, List, [], ◌∷◌, map, slice_get, Option, Some, None, option_map, is_some, Bor, refl, sym, ap, subst, ◌∙◌, true≢false, if◌then◌else◌}
use Rattle.std.proofs.lemmas.Option.{slice_get-map}
use Rattle.std.specs.Option.{option_map_or, option_copied}
use Rattle.std.specs.Map.Iter.{deref_pair}
use Rattle.std.specs.List.{AllByRecursion, IsDistinct, list_any, find}
use Rattle.std.specs.Map.{values_of, lookup}
use Rattle.indexmap.specs.IndexMap.{insert_entry}
use Rattle.package_attrs.specs.declared.name.PackageName.{PackageName}
use Rattle.package_attrs.specs.declared.name.PackageName.TheVariants as names
use Rattle.config_table.specs.declared.key.Key.{Key}
use Rattle.config_table.specs.declared.installed.Installed.{Installed}
use Rattle.config_table.specs.Names.{is_same, is_at_least}
use Rattle.config_table.specs.Keys.{is_same-equivalence}
use Rattle.config_table.specs.State.{put, Entry, placed, raised, greater, names_of, last_stale}
use Rattle.config_table.specs.declared.stale_entry.StaleEntry.{StaleEntry}
use Rattle.config_table.specs.Rules.{IsDistinctState}
use Rattle.config_table.specs.Stored.{IsKeyed, Stored, entry_of}
use Rattle.config_table.proofs.SameLemmas.{is_same-left, is_same-right}
use Rattle.config_table.proofs.StateLemmas.{raising_joins}
use Rattle.config_table.proofs.PutLemmas.{JoinsNames, distinct_put, map_put, list_any-is_some}

-- the comparison of keys
abbrev pub key_eq : Key → Key → Bool
key_eq a b = is_same a.name b.name

abbrev pub key_of : PackageName → Key
key_of name = record { name = name }

module _ {X : Type 0} (name : X → PackageName) where
  AreUnder : List (Key × X) → Type 0
  AreUnder entries = AllByRecursion (λ e. is_same (name e.1) e.0.name ≡ true) entries

  found_under : (q : PackageName) (entries : List (Key × X)) → AreUnder entries
      → lookup (key_eq (key_of q)) entries ≡ find (λ x. is_same q (name x)) (values_of entries)
  unfolding AreUnder
  found_under q [] keyed = refl
  found_under q (e ∷ es) keyed =
      let alike = is_same-right (name e.1) e.0.name q keyed.0 in
      let rest = found_under q es keyed.1 in
      λ i. cond (sym alike i) (Some e.1) (rest i)

  -- a look-up by a name finds the first value that names the same package
  pub lookup-find : (q : PackageName) (entries : List (Key × X)) → IsKeyed name entries
      → lookup (key_eq (key_of q)) entries ≡ find (λ x. is_same q (name x)) (values_of entries)
  unfolding AreUnder
  lookup-find q entries kept = found_under q entries kept.keyed

  record Put (join : X → X → X) (new w : X) (entries : List (Key × X)) : Type 0 where
    keyed : AreUnder (insert_entry key_eq entries (key_of (name new)) w)
    values : values_of (insert_entry key_eq entries (key_of (name new)) w) ≡ put name join new (values_of entries)

  put_under : (join : X → X → X) → JoinsNames name join → (new w : X) (entries : List (Key × X)) → AreUnder entries
      → w ≡ option_map_or (λ old. join old new) (lookup (key_eq (key_of (name new))) entries) new
      → Put join new w entries
  unfolding AreUnder
  put_under join joins new w [] keyed h =
      record {
        keyed = (subst (λ x. is_same (name x) (name new) ≡ true) (sym h) (is_same-equivalence.refl (name new)), tt);
        values = ap (λ x. x ∷ []) h;
      }
  put_under join joins new w (e ∷ es) keyed h =
      by (λ later. put_under join joins new w es keyed.1 later) (is_same (name new) e.0.name) refl h
    where
      alike : is_same (name new) (name e.1) ≡ is_same (name new) e.0.name
      alike = is_same-right (name e.1) e.0.name (name new) keyed.0

      by : (w ≡ option_map_or (λ old. join old new) (lookup (key_eq (key_of (name new))) es) new → Put join new w es)
          → (b : Bool) → is_same (name new) e.0.name ≡ b
          → w ≡ option_map_or (λ old. join old new) (cond b (Some e.1) (lookup (key_eq (key_of (name new))) es)) new
          → Put join new w (e ∷ es)
      by rest true same h =
          let joined : is_same (name w) e.0.name ≡ true =
          subst (λ x. is_same (name x) e.0.name ≡ true) (sym h)
          (joins.joined e.1 new (alike ∙ same) e.0.name ∙ keyed.0) in
          record {
            keyed = subst (λ b. AllByRecursion (λ e. is_same (name e.1) e.0.name ≡ true)
                (if b then (e.0, w) ∷ es else e ∷ insert_entry key_eq es (key_of (name new)) w)) (sym same)
                (joined, keyed.1);
            values = ap (λ b. values_of (if b then (e.0, w) ∷ es else e ∷ insert_entry key_eq es (key_of (name new)) w))
                same ∙ ap (λ x. x ∷ values_of es) h
                ∙ ap (λ b. if b then join e.1 new ∷ values_of es else e.1 ∷ put name join new (values_of es))
                (sym (alike ∙ same));
          }
      by rest false other h =
          let more = rest h in
          record {
            keyed = subst (λ b. AllByRecursion (λ e. is_same (name e.1) e.0.name ≡ true)
                (if b then (e.0, w) ∷ es else e ∷ insert_entry key_eq es (key_of (name new)) w)) (sym other)
                (keyed.0, more.keyed);
            values = ap (λ b. values_of (if b then (e.0, w) ∷ es else e ∷ insert_entry key_eq es (key_of (name new)) w))
                other ∙ ap (λ l. e.1 ∷ l) more.values
                ∙ ap (λ b. if b then join e.1 new ∷ values_of es else e.1 ∷ put name join new (values_of es))
                (sym (alike ∙ other));
          }

  -- an insert puts the value into the list of values
  pub values-insert_entry : (join : X → X → X) → JoinsNames name join → (new w : X) (entries : List (Key × X))
      → IsKeyed name entries
      → w ≡ option_map_or (λ old. join old new) (lookup (key_eq (key_of (name new))) entries) new
      → values_of (insert_entry key_eq entries (key_of (name new)) w) ≡ put name join new (values_of entries)
  unfolding AreUnder
  values-insert_entry join joins new w entries kept h = (put_under join joins new w entries kept.keyed h).values

  -- and keeps each value under its key
  pub keyed-insert_entry : (join : X → X → X) → JoinsNames name join → (new w : X) (entries : List (Key × X))
      → IsKeyed name entries
      → w ≡ option_map_or (λ old. join old new) (lookup (key_eq (key_of (name new))) entries) new
      → IsKeyed name (insert_entry key_eq entries (key_of (name new)) w)
  unfolding AreUnder
  keyed-insert_entry join joins new w entries kept h =
      let done = put_under join joins new w entries kept.keyed h in
      record {
        keyed = done.keyed;
        distinct =
            subst (λ l. IsDistinct is_same (map name l)) (sym done.values)
            (distinct_put name join joins new (values_of entries) kept.distinct);
      }

  -- nothing is kept at first
  pub keyed-empty : (entries : List (Key × X)) → entries ≡ [] → IsKeyed name entries
  unfolding IsDistinct
  keyed-empty entries h = subst (IsKeyed name) (sym h) (record { keyed = tt; distinct = tt })

  none_later : (q : PackageName) (test : X → Bool) → ((x : X) → test x ≡ true → is_same q (name x) ≡ true)
      → (p : PackageName) → is_same q p ≡ true
      → (xs : List X) → AllByRecursion (λ y. is_same p y ≡ false) (map name xs) → list_any test xs ≡ false
  none_later q test implies p same [] apart = refl
  none_later q test implies p same (x ∷ xs) apart = by (test x) refl (none_later q test implies p same xs apart.1)
    where
      by : (b : Bool) → test x ≡ b → list_any test xs ≡ false → (test x || list_any test xs) ≡ false
      by true passes rest = absurd (true≢false (sym (implies x passes) ∙ is_same-left q p (name x) same ∙ apart.0))
      by false fails rest = ap (λ c. c || list_any test xs) fails ∙ rest

  -- where names are distinct, a test that only one package passes is asked of the value that is found
  pub list_any-find : (q : PackageName) (test : X → Bool) → ((x : X) → test x ≡ true → is_same q (name x) ≡ true)
      → (xs : List X) → IsDistinct is_same (map name xs)
      → list_any test xs ≡ option_map_or test (find (λ x. is_same q (name x)) xs) false
  unfolding IsDistinct
  list_any-find q test implies [] distinct = refl
  list_any-find q test implies (x ∷ xs) distinct =
      by (list_any-find q test implies xs distinct.1) (is_same q (name x)) refl
    where
      or_false : (b : Bool) → (b || false) ≡ b
      or_false true = refl
      or_false false = refl

      by : list_any test xs ≡ option_map_or test (find (λ x. is_same q (name x)) xs) false → (b : Bool)
          → is_same q (name x) ≡ b
          → (test x || list_any test xs)
          ≡ option_map_or test (cond b (Some x) (find (λ x. is_same q (name x)) xs)) false
      by rest true same =
          ap (λ c. test x || c) (none_later q test implies (name x) same xs distinct.0) ∙ or_false (test x)
      by rest false other = skipped (test x) refl ∙ rest
        where
          skipped : (b : Bool) → test x ≡ b → (test x || list_any test xs) ≡ list_any test xs
          skipped true passes = absurd (true≢false (sym (implies x passes) ∙ other))
          skipped false fails = ap (λ c. c || list_any test xs) fails

-- what is found of the values is found of what they say
pub find-map : {X Y : Type 0} (g : X → Y) (test : Y → Bool) (xs : List X)
    → find test (map g xs) ≡ option_map g (find (λ x. test (g x)) xs)
find-map g test [] = refl
find-map g test (x ∷ xs) = by (find-map g test xs) (test (g x))
  where
    by : find test (map g xs) ≡ option_map g (find (λ x. test (g x)) xs) → (b : Bool)
        → cond b (Some (g x)) (find test (map g xs)) ≡ option_map g (cond b (Some x) (find (λ x. test (g x)) xs))
    by rest true = refl
    by rest false = rest

-- a name that is at least another names its package
pub at_least-same : (one other : PackageName) → is_at_least one other ≡ true → is_same other one ≡ true
at_least-same (names.Preferred id version) (names.Preferred id' version') h =
    is_same-equivalence.symm (names.Preferred id' version') (names.Preferred id version)
    ∙ first (bytes_eq id id') (nat_le version' version) h
  where
    first : (a b : Bool) → (a && b) ≡ true → a ≡ true
    first true b h = refl
    first false b h = h
at_least-same (names.Preferred id version) (names.Legacy octets) h = h
at_least-same (names.Legacy octets) (names.Preferred id version) h = h
at_least-same (names.Legacy octets) (names.Legacy octets') h =
    is_same-equivalence.symm (names.Legacy octets') (names.Legacy octets) ∙ h

-- the value at a place of a table
pub value_at : {X Y : Type 0} (g : X → Y) (entries : List (Key × X)) (place : ℕ)
    → slice_get (map g (values_of entries)) place ≡ option_map (λ e. g e.1) (slice_get entries place)
value_at g [] place = refl
value_at g (e ∷ es) zero = refl
value_at g (e ∷ es) (suc place) = value_at g es place

-- an installed package names itself
installing_joins : JoinsNames {X = Installed} (λ i. i.name) (λ old new. new)
installing_joins = record { joined = λ old new same q. is_same-left new.name old.name q same }

-- the package that a look-up finds
pub find_entry : (q : PackageName) (entries : List (Key × Installed)) (r : Option (Bor Installed))
    → IsKeyed (λ i. i.name) entries
    → option_copied r ≡ lookup (key_eq (key_of q)) entries
    → option_map (λ i. entry_of i.now) r ≡ find (λ entry. is_same q entry.name) (map entry_of (values_of entries))
find_entry q entries r kept h =
    copied r ∙ ap (option_map entry_of) (h ∙ lookup-find (λ i. i.name) q entries kept)
    ∙ sym (find-map entry_of (λ entry. is_same q entry.name) (values_of entries))
  where
    copied : (r : Option (Bor Installed)) → option_map (λ i. entry_of i.now) r ≡ option_map entry_of (option_copied r)
    copied None = refl
    copied (Some i) = refl

-- it finds one where the package is installed
pub find_installed : (q : PackageName) (packages : List (Entry Stored)) (r : Option (Bor Installed))
    → option_map (λ i. entry_of i.now) r ≡ find (λ entry. is_same q entry.name) packages
    → is_some r ≡ list_any (λ entry. is_same q entry.name) packages
find_installed q packages r h = shown r ∙ ap is_some h ∙ sym (list_any-is_some (λ entry. is_same q entry.name) packages)
  where
    shown : (r : Option (Bor Installed)) → is_some r ≡ is_some (option_map (λ i. entry_of i.now) r)
    shown None = refl
    shown (Some i) = refl

-- and what it finds decides whether a need is met
pub find_met : (q : PackageName) (packages : List (Entry Stored)) (r : Option (Bor Installed))
    → IsDistinct is_same (names_of packages)
    → option_map (λ i. entry_of i.now) r ≡ find (λ entry. is_same q entry.name) packages
    → list_any (λ entry. is_at_least entry.name q) packages ≡ option_map_or (λ i. is_at_least i.now.name q) r false
find_met q packages r distinct h =
    list_any-find (λ entry. entry.name) q (λ entry. is_at_least entry.name q)
    (λ entry. at_least-same entry.name q) packages distinct
    ∙ ap (λ o. option_map_or (λ entry. is_at_least entry.name q) o false) (sym h) ∙ shown r
  where
    shown : (r : Option (Bor Installed))
        → option_map_or (λ entry. is_at_least entry.name q) (option_map (λ i. entry_of i.now) r) false
        ≡ option_map_or (λ i. is_at_least i.now.name q) r false
    shown None = refl
    shown (Some i) = refl

-- the package at a place
pub entry_at : (entries : List (Key × Installed)) (place : ℕ) (r : Option (Bor Key × Bor Installed))
    → option_map deref_pair r ≡ slice_get entries place
    → option_map (λ p. entry_of p.1.now) r ≡ slice_get (map entry_of (values_of entries)) place
entry_at entries place r h = shown r ∙ ap (option_map (λ e. entry_of e.1)) h ∙ sym (value_at entry_of entries place)
  where
    shown : (r : Option (Bor Key × Bor Installed))
        → option_map (λ p. entry_of p.1.now) r ≡ option_map (λ e. entry_of e.1) (option_map deref_pair r)
    shown None = refl
    shown (Some p) = refl

-- the stale entry at a place
pub stale_at : (entries : List (Key × StaleEntry)) (place : ℕ) (r : Option (Bor Key × Bor StaleEntry))
    → option_map deref_pair r ≡ slice_get entries place
    → option_map (λ p. p.1.now) r ≡ slice_get (values_of entries) place
stale_at entries place r h = shown r ∙ ap (option_map (λ e. e.1)) h ∙ sym (slice_get-map (λ e. e.1) entries place)
  where
    shown : (r : Option (Bor Key × Bor StaleEntry))
        → option_map (λ p. p.1.now) r ≡ option_map (λ e. e.1) (option_map deref_pair r)
    shown None = refl
    shown (Some p) = refl

names_entries : (packages : List Installed) → map (λ i. i.name) packages ≡ names_of (map entry_of packages)
names_entries [] = refl
names_entries (i ∷ packages) = ap (λ l. i.name ∷ l) (names_entries packages)

-- the tables are distinct
pub distinct_tables : (packages : List (Key × Installed)) (stale : List (Key × StaleEntry))
    → IsKeyed (λ i. i.name) packages → IsKeyed last_stale stale
    → IsDistinctState {I = Stored} (record { packages = map entry_of (values_of packages); stale = values_of stale })
distinct_tables packages stale kept keeps = record {
  packages = subst (IsDistinct is_same) (names_entries (values_of packages)) kept.distinct;
  stale = keeps.distinct;
}

-- a package that is put into its table
pub placed_entries : (installed : Installed) (entries : List (Key × Installed)) → IsKeyed (λ i. i.name) entries
    → map entry_of (values_of (insert_entry key_eq entries (key_of installed.name) installed))
    ≡ placed (entry_of installed) (map entry_of (values_of entries))
placed_entries installed entries kept =
    ap (map entry_of) (values-insert_entry (λ i. i.name)
    (λ old new. new) installing_joins installed installed entries kept
    (alone (lookup (key_eq (key_of installed.name)) entries)))
    ∙ map_put (λ (entry : Entry Stored). entry.name) (λ old new. new) (λ old new. new) entry_of
    (λ old new. refl) installed (values_of entries)
  where
    alone : (o : Option Installed) → installed ≡ option_map_or (λ old. installed) o installed
    alone None = refl
    alone (Some old) = refl

-- and its key
pub keyed_entries : (installed : Installed) (entries : List (Key × Installed)) → IsKeyed (λ i. i.name) entries
    → IsKeyed (λ i. i.name) (insert_entry key_eq entries (key_of installed.name) installed)
keyed_entries installed entries kept =
    keyed-insert_entry (λ i. i.name) (λ old new. new) installing_joins installed installed entries kept
    (alone (lookup (key_eq (key_of installed.name)) entries))
  where
    alone : (o : Option Installed) → installed ≡ option_map_or (λ old. installed) o installed
    alone None = refl
    alone (Some old) = refl

-- the entry that a look-up finds decides whether a name is stale
pub stale_found : (q : PackageName) (entries : List (Key × StaleEntry)) → IsKeyed last_stale entries
    → (o : Option StaleEntry) → o ≡ lookup (key_eq (key_of q)) entries
    → list_any (λ entry. is_at_least (last_stale entry) q) (values_of entries)
    ≡ option_map_or (λ entry. is_at_least (last_stale entry) q) o false
stale_found q entries kept o h =
    list_any-find last_stale q (λ entry. is_at_least (last_stale entry) q) (λ entry. at_least-same (last_stale entry) q)
    (values_of entries) kept.distinct
    ∙ ap (λ o. option_map_or (λ entry. is_at_least (last_stale entry) q) o false)
    (sym (h ∙ lookup-find last_stale q entries kept))

-- an entry that is raised in its table, and its key
pub record Raises (made w : StaleEntry) (name : PackageName) (entries : List (Key × StaleEntry)) : Type 0 where
  pub keyed : IsKeyed last_stale (insert_entry key_eq entries (key_of name) w)
  pub values : values_of (insert_entry key_eq entries (key_of name) w) ≡ raised made (values_of entries)

pub raised_entries : (made w : StaleEntry) (name : PackageName) (entries : List (Key × StaleEntry))
    → IsKeyed last_stale entries → name ≡ last_stale made
    → (old : Option StaleEntry) → old ≡ lookup (key_eq (key_of name)) entries
    → w ≡ option_map_or (λ old. greater old made) old made → Raises made w name entries
raised_entries made w name entries kept named old looked is =
    let P : PackageName → Type 0 = λ n. old ≡ lookup (key_eq (key_of n)) entries in
    let found = subst P named looked in
    let joined = is ∙ ap (λ o. option_map_or (λ old. greater old made) o made) found in
    subst (λ n. Raises made w n entries) (sym named) (record {
      keyed = keyed-insert_entry last_stale greater raising_joins made w entries kept joined;
      values = values-insert_entry last_stale greater raising_joins made w entries kept joined;
    })
