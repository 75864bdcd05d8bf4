-- What the rows say of the published content, by id and by key, and what a publication makes of it.
use Rattle.std.proofs.Common.{◌≡◌, ℕ, Bool, true, false, cond, ◌&&◌, ◌||◌, List, [], ◌∷◌, refl, sym, ◌∙◌, ap, if◌then◌else◌}
use Rattle.std.specs.Prelude.{filter, find, map, reverse, fold, Option, Some, None, option_map, option_and_then, unwrap_or}
use Rattle.std.specs.BTreeSet.{insert_key}
use Rattle.std.specs.Cmp.{IsTotalOrder}
use Rattle.std.specs.List.{AllByRecursion, filter_map, cons_option, list_any}
use Rattle.std.specs.List.Sorted.{IsStrictlySortedBy}
use Rattle.std.specs.declared.cmp.Ordering.{Ordering}
use Rattle.std.specs.Option.{option_or}
use Rattle.std.proofs.lemmas.List.{reverse-append}
use Rattle.std.proofs.lemmas.List.Folds.{find-append}
use Rattle.std.proofs.lemmas.Map.Lookups.{CmpEqualImpliesEq}
use Rattle.std.proofs.Math.Bool.{and-false}
use Rattle.mcs_reader.specs.Id.{IsId}
use Rattle.holddata.specs.HoldBook.{book_of, hold_under}
use Rattle.holddata.specs.HoldChange.{hold_left, hold_put, names}
use Rattle.holddata.specs.HoldKey.{is_same_key, is_same_kind}
use Rattle.holddata.specs.declared.hold.Hold.{Hold}
use Rattle.holddata.specs.declared.hold.HoldChange.{HoldChange}
use Rattle.holddata.specs.declared.hold.HoldChange.TheVariants.{Put, Release}
use Rattle.holddata.specs.declared.key.HoldKey.{HoldKey}
use Rattle.holddata.specs.declared.key.Kind.{Kind}
use Rattle.holddata.proofs.BookFacts.{book_of_is_left}
use Rattle.holddata.proofs.KeyFacts.{same_key, turned_same}
pub use Rattle.holddata.proofs.KeyFacts.{itself as key_itself}
use Rattle.catalogue.specs.Conditional.{put_conds}
use Rattle.catalogue.specs.Content.{IsInOrder, record_of}
use Rattle.catalogue.specs.Ids.{same_id, in_order}
use Rattle.catalogue.specs.Publication.{after, last_of}
use Rattle.catalogue.specs.declared.change.Change.{Change}
use Rattle.catalogue.specs.declared.change.Change.TheVariants.{Whole, OfHold}
use Rattle.catalogue.specs.declared.sysmod.Sysmod.{Sysmod}
use Rattle.catalogue.proofs.IdFacts.{conds_total, exact_ids, ids_total, itself, one_id, same_back}
use Rattle.catalogue.proofs.PublicationFacts.{after_more, after_none, after_only}
use Rattle.catalogue.proofs.RecordFacts.{catalogue_is, last_append}
use Rattle.sqlite_value.specs.Order.{Row, column}
use Rattle.sql_tables.specs.Changes.{holds_changed, is_under, published, replaced}
use Rattle.sql_tables.specs.Fit.{IsCond, IsFitChange, IsHold, IsRecord}
use Rattle.sql_tables.specs.Rows.{Beside, cond_found, cond_row, hold_found, hold_row, key_found, sup_row, sysmod_found, sysmod_row, with}
use Rattle.sql_tables.specs.Stored.{Stored, beside_of, content_of, is_of, shown, sysmods_of}
use Rattle.sql_tables.specs.Values.{hold_kind_in, id_in}
use Rattle.sql_tables.proofs.ClientFacts.{of_apart}
use Rattle.sql_tables.proofs.ListFacts.{filter_all, filter_none, filter_other, filter_same, read_again}
use Rattle.sql_tables.proofs.RowFacts.{cond_again, hold_again, hold_own, sysmod_again, sysmod_own}
use Rattle.sql_tables.proofs.SetFacts.{exact_conds, set_same}
use Rattle.sql_tables.proofs.ValueFacts.{id_again, named_itself, named_value}

-- ---- records

-- one record before others, as the last of an id sees it
abbrev more : List ℕ → Option Sysmod → List Sysmod → Option Sysmod
more id None xs = last_of xs id
more id (Some x) xs = option_or (last_of xs id) (cond (same_id x.id id) (Some x) None)

last_cons : (id : List ℕ) (o : Option Sysmod) (xs : List Sysmod) → last_of (cons_option o xs) id ≡ more id o xs
last_cons id None xs = refl
last_cons id (Some x) xs = last_append (x ∷ []) xs id

more_same : (id : List ℕ) (o : Option Sysmod) (xs ys : List Sysmod) → last_of xs id ≡ last_of ys id → more id o xs ≡ more id o ys
more_same id None xs ys h = h
more_same id (Some x) xs ys h = ap (λ l. option_or l (cond (same_id x.id id) (Some x) None)) h

or_none : {A : Type 0} (l : Option A) → option_or l None ≡ l
or_none None = refl
or_none (Some y) = refl

more_other : (id i : List ℕ) (o : Option Sysmod) → ((x : Sysmod) → o ≡ Some x → x.id ≡ i) → same_id i id ≡ false → (xs : List Sysmod) → more id o xs ≡ last_of xs id
more_other id i None own apart xs = refl
more_other id i (Some x) own apart xs = ap (λ b. option_or (last_of xs id) (cond b (Some x) None)) (ap (λ k. same_id k id) (own x refl) ∙ apart) ∙ or_none (last_of xs id)

-- the records of an id's rows
abbrev pub records_by : (List ℕ → Beside) → List ℕ → List Row → List Sysmod
records_by beside id rows = filter_map (sysmod_found (beside id)) rows

-- the last record of an id is read from the rows of that id alone
last_by : (beside : List ℕ → Beside) (rows : List Row) (id : List ℕ) → last_of (sysmods_of beside rows) id ≡ last_of (records_by beside id (filter (is_of id) rows)) id
last_by beside [] id = refl
last_by beside (row ∷ rows) id = by (id_in (column row 0)) refl (last_by beside rows id)
  where
    by : (o : Option (List ℕ)) → id_in (column row 0) ≡ o → last_of (sysmods_of beside rows) id ≡ last_of (records_by beside id (filter (is_of id) rows)) id
        → last_of (cons_option (option_and_then (λ i. sysmod_found (beside i) row) (id_in (column row 0))) (sysmods_of beside rows)) id
        ≡ last_of (records_by beside id (cond (unwrap_or (option_map (λ found. same_id found id) (id_in (column row 0))) false) (row ∷ filter (is_of id) rows) (filter (is_of id) rows))) id
    by None is later =
        ap (λ o. last_of (cons_option (option_and_then (λ i. sysmod_found (beside i) row) o) (sysmods_of beside rows)) id) is
        ∙ later
        ∙ sym (ap (λ o. last_of (records_by beside id (cond (unwrap_or (option_map (λ found. same_id found id) o) false) (row ∷ filter (is_of id) rows) (filter (is_of id) rows))) id) is)
    by (Some i) is later =
        ap (λ o. last_of (cons_option (option_and_then (λ i. sysmod_found (beside i) row) o) (sysmods_of beside rows)) id) is
        ∙ last_cons id (sysmod_found (beside i) row) (sysmods_of beside rows)
        ∙ here (same_id i id) refl
        ∙ sym (ap (λ o. last_of (records_by beside id (cond (unwrap_or (option_map (λ found. same_id found id) o) false) (row ∷ filter (is_of id) rows) (filter (is_of id) rows))) id) is)
      where
        own : (x : Sysmod) → sysmod_found (beside i) row ≡ Some x → x.id ≡ i
        own x h = let e : Some x.id ≡ Some i = sym (sysmod_own (beside i) row x h) ∙ is in cc

        here : (b : Bool) → same_id i id ≡ b → more id (sysmod_found (beside i) row) (sysmods_of beside rows)
            ≡ last_of (records_by beside id (cond (same_id i id) (row ∷ filter (is_of id) rows) (filter (is_of id) rows))) id
        here true at =
            more_same id (sysmod_found (beside i) row) (sysmods_of beside rows) (records_by beside id (filter (is_of id) rows)) later
            ∙ ap (λ k. more id (sysmod_found (beside k) row) (records_by beside id (filter (is_of id) rows))) (one_id i id at)
            ∙ sym (last_cons id (sysmod_found (beside id) row) (records_by beside id (filter (is_of id) rows)))
            ∙ sym (ap (λ b. last_of (records_by beside id (cond b (row ∷ filter (is_of id) rows) (filter (is_of id) rows))) id) at)
        here false at =
            more_other id i (sysmod_found (beside i) row) own at (sysmods_of beside rows)
            ∙ later
            ∙ sym (ap (λ b. last_of (records_by beside id (cond b (row ∷ filter (is_of id) rows) (filter (is_of id) rows))) id) at)

-- so it is read from the rows of that id in all its tables
pub record_by : (stored : Stored) (id : List ℕ)
    → record_of (content_of stored) id ≡ last_of (records_by (beside_of stored) id (filter (is_of id) stored.sysmods)) id
record_by stored id = (catalogue_is (sysmods_of (beside_of stored) stored.sysmods)).finds id ∙ last_by (beside_of stored) stored.sysmods id

-- ---- lists in order that stand beside a record, in rows of its id

-- the rows of a list come in place of those of its id
module _ {X : Type 0} (make : X → Row) (id : List ℕ) (own : (x : X) → is_of id (make x) ≡ true) (xs : List X) (rows : List Row) where
  listed_own : {cmp : X → X → Ordering} → IsTotalOrder cmp → CmpEqualImpliesEq cmp → (P : X → Type 0) (read : Row → Option X) → ((x : X) → P x → read (make x) ≡ Some x)
      → AllByRecursion P xs → IsStrictlySortedBy cmp xs → fold (insert_key cmp) [] (filter_map read (filter (is_of id) (replaced (is_of id) (map make xs) rows))) ≡ xs
  listed_own {cmp} total exact P read again all ascend =
      ap (λ found. fold (insert_key cmp) [] (filter_map read found)) (filter_same (is_of id) (map make xs) rows ∙ filter_all (is_of id) make own xs)
      ∙ ap (fold (insert_key cmp) []) (read_again P make read again xs all)
      ∙ set_same total exact xs ascend

  listed_other : (other : List ℕ) → same_id id other ≡ false → filter (is_of other) (replaced (is_of id) (map make xs) rows) ≡ filter (is_of other) rows
  listed_other other apart =
      filter_other (is_of other) (is_of id) (map make xs) rows (of_apart other id (same_back other id ∙ apart))
      (filter_none (is_of other) make (λ x. of_apart id other apart (make x) (own x)) xs)

-- a record is published
module _ (stored : Stored) (x : Sysmod) (is : IsRecord x) where
  abbrev new : Stored
  new = published stored (Whole x)

  beside_own : beside_of new x.id ≡ record { conds = x.conds; sup = x.sup }
  beside_own =
      let conds = listed_own (cond_row x.id) x.id (λ cond. named_itself x.id is.id) x.conds stored.conds conds_total exact_conds IsCond
      (λ row. cond_found (shown (1 ∷ 2 ∷ []) row)) (cond_again x.id) is.conds is.conds_ascend in
      let sup = listed_own (sup_row x.id) x.id (λ member. named_itself x.id is.id) x.sup stored.sups ids_total exact_ids IsId (λ row. id_in (column row 1)) id_again is.sup is.ascend in
      λ i. record { conds = conds i; sup = sup i }

  beside_other : (id : List ℕ) → same_id x.id id ≡ false → beside_of new id ≡ beside_of stored id
  beside_other id apart =
      let conds = listed_other (cond_row x.id) x.id (λ cond. named_itself x.id is.id) x.conds stored.conds id apart in
      let sups = listed_other (sup_row x.id) x.id (λ member. named_itself x.id is.id) x.sup stored.sups id apart in
      λ i. record {
        conds = put_conds [] (filter_map (λ row. cond_found (shown (1 ∷ 2 ∷ []) row)) (conds i));
        sup = in_order (filter_map (λ row. id_in (column row 1)) (sups i));
      }

  record_own : record_of (content_of new) x.id ≡ Some x
  record_own =
      record_by new x.id
      ∙ ap (λ rows. last_of (records_by (beside_of new) x.id rows) x.id)
      (filter_same (is_of x.id) (sysmod_row x ∷ []) stored.sysmods ∙ ap (λ b. cond b (sysmod_row x ∷ []) []) (named_itself x.id is.id))
      ∙ ap (λ beside. last_of (cons_option (sysmod_found beside (sysmod_row x)) []) x.id) beside_own
      ∙ ap (λ o. last_of (cons_option o []) x.id) (sysmod_again (record { conds = x.conds; sup = x.sup }) x is)
      ∙ ap (λ b. cond b (Some x) None) (itself x.id)

  record_other : (id : List ℕ) → same_id x.id id ≡ false → record_of (content_of new) id ≡ record_of (content_of stored) id
  record_other id apart =
      record_by new id
      ∙ ap (λ beside. last_of (filter_map (sysmod_found beside) (filter (is_of id) new.sysmods)) id) (beside_other id apart)
      ∙ ap (λ rows. last_of (records_by (beside_of stored) id rows) id)
      (filter_other (is_of id) (is_of x.id) (sysmod_row x ∷ []) stored.sysmods (of_apart id x.id (same_back id x.id ∙ apart))
      (ap (λ b. cond b (sysmod_row x ∷ []) []) (named_value x.id id is.id ∙ apart)))
      ∙ sym (record_by stored id)

  pub record_after : (id : List ℕ) → record_of (content_of new) id ≡ option_or (cond (same_id x.id id) (Some x) None) (record_of (content_of stored) id)
  record_after id = by (same_id x.id id) refl
    where
      by : (b : Bool) → same_id x.id id ≡ b → record_of (content_of new) id ≡ option_or (cond b (Some x) None) (record_of (content_of stored) id)
      by true at = ap (record_of (content_of new)) (sym (one_id x.id id at)) ∙ record_own
      by false at = record_other id at

-- ---- holds

-- the last hold under a key
abbrev pub last_under : List Hold → HoldKey → Option Hold
last_under holds key = find (λ hold. is_same_key hold.key key) (reverse holds)

under_cons : (hold : Hold) (holds : List Hold) (key : HoldKey)
    → last_under (hold ∷ holds) key ≡ option_or (last_under holds key) (cond (is_same_key hold.key key) (Some hold) None)
under_cons hold holds key =
    ap (find (λ (h : Hold). is_same_key h.key key)) (reverse-append (hold ∷ []) holds) ∙ find-append (λ (h : Hold). is_same_key h.key key) (reverse holds) (hold ∷ [])

found_put : (holds : List Hold) (key : HoldKey) → find (names key) (reverse (map Put holds)) ≡ option_map Put (last_under holds key)
found_put [] key = refl
found_put (hold ∷ holds) key =
    ap (find (names key)) (reverse-append (Put hold ∷ []) (map Put holds))
    ∙ find-append (names key) (reverse (map Put holds)) (Put hold ∷ [])
    ∙ ap (λ o. option_or o (cond (is_same_key hold.key key) (Some (Put hold)) None)) (found_put holds key)
    ∙ by (last_under holds key) (is_same_key hold.key key)
    ∙ sym (ap (option_map Put) (under_cons hold holds key))
  where
    by : (o : Option Hold) (b : Bool) → option_or (option_map Put o) (cond b (Some (Put hold)) None) ≡ option_map Put (option_or o (cond b (Some hold) None))
    by None true = refl
    by None false = refl
    by (Some h) b = refl

pub left_put : (holds : List Hold) (key : HoldKey) → hold_left (map Put holds) key ≡ last_under holds key
left_put holds key = ap (option_and_then hold_put) (found_put holds key) ∙ by (last_under holds key)
  where
    by : (o : Option Hold) → option_and_then hold_put (option_map Put o) ≡ o
    by None = refl
    by (Some hold) = refl

-- a row is under the key that it has, and under no other
key_is : (key : HoldKey) (row : Row) → is_under key row ≡ unwrap_or (option_map (λ found. is_same_key found key) (key_found row)) false
key_is key row = by (id_in (column row 0)) (hold_kind_in (column row 1)) (id_in (column row 2))
  where
    by : (a : Option (List ℕ)) (b : Option Kind) (c : Option (List ℕ))
        → (unwrap_or (option_map (λ found. same_id found key.sysmod) a) false
        && (unwrap_or (option_map (λ found. is_same_kind found key.kind) b) false && unwrap_or (option_map (λ found. same_id found key.reason) c) false))
        ≡ unwrap_or (option_map (λ (found : HoldKey). is_same_key found key) (with a (λ sysmod. with b (λ kind. option_map (λ reason. record { sysmod = sysmod; kind = kind; reason = reason }) c)))) false
    by None b c = refl
    by (Some sysmod) None c = and-false (same_id sysmod key.sysmod)
    by (Some sysmod) (Some kind) None = ap (λ x. same_id sysmod key.sysmod && x) (and-false (is_same_kind kind key.kind)) ∙ and-false (same_id sysmod key.sysmod)
    by (Some sysmod) (Some kind) (Some reason) = refl

-- the last hold under a key is read from the rows under that key alone
under_by : (rows : List Row) (key : HoldKey) → last_under (filter_map hold_found rows) key ≡ last_under (filter_map hold_found (filter (is_under key) rows)) key
under_by [] key = refl
under_by (row ∷ rows) key = by (hold_found row) refl (is_under key row) refl (under_by rows key)
  where
    by : (o : Option Hold) → hold_found row ≡ o → (b : Bool) → is_under key row ≡ b
        → last_under (filter_map hold_found rows) key ≡ last_under (filter_map hold_found (filter (is_under key) rows)) key
        → last_under (cons_option (hold_found row) (filter_map hold_found rows)) key ≡ last_under (filter_map hold_found (cond b (row ∷ filter (is_under key) rows) (filter (is_under key) rows))) key
    by None is true at later =
        ap (λ o. last_under (cons_option o (filter_map hold_found rows)) key) is ∙ later
        ∙ sym (ap (λ o. last_under (cons_option o (filter_map hold_found (filter (is_under key) rows))) key) is)
    by None is false at later = ap (λ o. last_under (cons_option o (filter_map hold_found rows)) key) is ∙ later
    by (Some hold) is true at later =
        ap (λ o. last_under (cons_option o (filter_map hold_found rows)) key) is
        ∙ under_cons hold (filter_map hold_found rows) key
        ∙ ap (λ o. option_or o (cond (is_same_key hold.key key) (Some hold) None)) later
        ∙ sym (under_cons hold (filter_map hold_found (filter (is_under key) rows)) key)
        ∙ sym (ap (λ o. last_under (cons_option o (filter_map hold_found (filter (is_under key) rows))) key) is)
    by (Some hold) is false at later =
        let apart : is_same_key hold.key key ≡ false = sym (key_is key row ∙ ap (λ o. unwrap_or (option_map (λ (found : HoldKey). is_same_key found key) o) false) (hold_own row hold is)) ∙ at in
        ap (λ o. last_under (cons_option o (filter_map hold_found rows)) key) is
        ∙ under_cons hold (filter_map hold_found rows) key
        ∙ ap (λ b. option_or (last_under (filter_map hold_found rows) key) (cond b (Some hold) None)) apart
        ∙ or_none (last_under (filter_map hold_found rows) key)
        ∙ later

pub hold_by : (rows : List Row) (key : HoldKey) → hold_under (book_of (map Put (filter_map hold_found rows))) key ≡ last_under (filter_map hold_found (filter (is_under key) rows)) key
hold_by rows key = (book_of_is_left (map Put (filter_map hold_found rows))).holds key ∙ left_put (filter_map hold_found rows) key ∙ under_by rows key

-- no row is under two keys
under_apart : (a b : HoldKey) → is_same_key a b ≡ false → (row : Row) → is_under b row ≡ true → is_under a row ≡ false
under_apart a b apart row at = by (key_found row) refl
  where
    by : (o : Option HoldKey) → key_found row ≡ o → is_under a row ≡ false
    by None is = key_is a row ∙ ap (λ o. unwrap_or (option_map (λ (found : HoldKey). is_same_key found a) o) false) is
    by (Some key) is =
        let same : is_same_key key b ≡ true = sym (key_is b row ∙ ap (λ o. unwrap_or (option_map (λ (found : HoldKey). is_same_key found b) o) false) is) ∙ at in
        key_is a row ∙ ap (λ o. unwrap_or (option_map (λ (found : HoldKey). is_same_key found a) o) false) is
        ∙ ap (λ k. is_same_key k a) (same_key key b same)
        ∙ turned_same b a ∙ apart

pub row_under : (hold : Hold) → IsHold hold → (key : HoldKey) → is_under key (hold_row hold) ≡ is_same_key hold.key key
row_under hold is key = key_is key (hold_row hold) ∙ ap (λ o. unwrap_or (option_map (λ (found : HoldKey). is_same_key found key) o) false) (hold_own (hold_row hold) hold (hold_again hold is))

-- a hold is put, or its key released
pub holds_after : (change : HoldChange) (rows : List Row) (key : HoldKey) → IsFitChange (OfHold change)
    → hold_under (book_of (map Put (filter_map hold_found (holds_changed change rows)))) key
    ≡ (if list_any (names key) (change ∷ []) then hold_left (change ∷ []) key else hold_under (book_of (map Put (filter_map hold_found rows))) key)
holds_after (Put hold) rows key is = by (is_same_key hold.key key) refl
  where
    by : (b : Bool) → is_same_key hold.key key ≡ b
        → hold_under (book_of (map Put (filter_map hold_found (replaced (is_under hold.key) (hold_row hold ∷ []) rows)))) key
        ≡ (if b || false then option_and_then hold_put (cond b (Some (Put hold)) None) else hold_under (book_of (map Put (filter_map hold_found rows))) key)
    by true at =
        let same : hold.key ≡ key = same_key hold.key key at in
        hold_by (replaced (is_under hold.key) (hold_row hold ∷ []) rows) key
        ∙ ap (λ k. last_under (filter_map hold_found (filter (is_under k) (replaced (is_under hold.key) (hold_row hold ∷ []) rows))) k) (sym same)
        ∙ ap (λ rs. last_under (filter_map hold_found rs) hold.key)
        (filter_same (is_under hold.key) (hold_row hold ∷ []) rows ∙ ap (λ b. cond b (hold_row hold ∷ []) []) (row_under hold is hold.key ∙ key_itself hold.key))
        ∙ ap (λ o. last_under (cons_option o []) hold.key) (hold_again hold is)
        ∙ ap (λ b. cond b (Some hold) None) (key_itself hold.key)
    by false at =
        hold_by (replaced (is_under hold.key) (hold_row hold ∷ []) rows) key
        ∙ ap (λ rs. last_under (filter_map hold_found rs) key)
        (filter_other (is_under key) (is_under hold.key) (hold_row hold ∷ []) rows (under_apart hold.key key at) (ap (λ b. cond b (hold_row hold ∷ []) []) (row_under hold is key ∙ at)))
        ∙ sym (hold_by rows key)
holds_after (Release gone) rows key is = by (is_same_key gone key) refl
  where
    by : (b : Bool) → is_same_key gone key ≡ b
        → hold_under (book_of (map Put (filter_map hold_found (replaced (is_under gone) [] rows)))) key
        ≡ (if b || false then option_and_then hold_put (cond b (Some (Release gone)) None) else hold_under (book_of (map Put (filter_map hold_found rows))) key)
    by true at =
        let same : gone ≡ key = same_key gone key at in
        hold_by (replaced (is_under gone) [] rows) key
        ∙ ap (λ k. last_under (filter_map hold_found (filter (is_under k) (replaced (is_under gone) [] rows))) k) (sym same)
        ∙ ap (λ rs. last_under (filter_map hold_found rs) gone) (filter_same (is_under gone) [] rows)
    by false at =
        hold_by (replaced (is_under gone) [] rows) key
        ∙ ap (λ rs. last_under (filter_map hold_found rs) key) (filter_other (is_under key) (is_under gone) [] rows (under_apart gone key at) refl)
        ∙ sym (hold_by rows key)

-- ---- a publication

pub content_in_order : (stored : Stored) → IsInOrder (content_of stored)
content_in_order stored = record {
  sysmods = (catalogue_is (sysmods_of (beside_of stored) stored.sysmods)).ascend;
  holds = (book_of_is_left (map Put (filter_map hold_found stored.holds))).in_key_order;
}

one_published : (change : Change) (stored : Stored) → IsFitChange change → content_of (published stored change) ≡ after (content_of stored) (change ∷ [])
one_published (Whole x) stored is =
    after_only (content_of stored) (Whole x ∷ []) (content_of (published stored (Whole x))) (content_in_order stored)
    (record { in_order = content_in_order (published stored (Whole x)); records = record_after stored x is; holds = λ key. refl })
one_published (OfHold change) stored is =
    after_only (content_of stored) (OfHold change ∷ []) (content_of (published stored (OfHold change))) (content_in_order stored)
    (record { in_order = content_in_order (published stored (OfHold change)); records = λ id. refl; holds = λ key. holds_after change stored.holds key is })

pub all_published : (changes : List Change) (stored : Stored) → AllByRecursion IsFitChange changes → content_of (fold published stored changes) ≡ after (content_of stored) changes
all_published [] stored fit = sym (after_none (content_of stored) (content_in_order stored))
all_published (change ∷ changes) stored fit =
    all_published changes (published stored change) fit.1
    ∙ ap (λ c. after c changes) (one_published change stored fit.0)
    ∙ sym (after_more (content_of stored) (change ∷ []) changes)

-- it touches nothing else
pub spared : {A : Type 0} (part : Stored → A) → ((stored : Stored) (change : Change) → part (published stored change) ≡ part stored)
    → (changes : List Change) (stored : Stored) → part (fold published stored changes) ≡ part stored
spared part same [] stored = refl
spared part same (change ∷ changes) stored = spared part same changes (published stored change) ∙ same stored change
