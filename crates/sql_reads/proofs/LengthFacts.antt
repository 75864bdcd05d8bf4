-- How many there are: what is read of rows with keys of their own is as many.
use Rattle.std.proofs.Common.{◌≡◌, ◌≢◌, ◌+◌, ℕ, suc, Bool, true, false, List, [], ◌∷◌, length, cond, refl, sym, ◌∙◌, ap, ap₂, subst, arith, Some, None}
use Rattle.std.specs.Prelude.{filter, find, fold, map, reverse, take, is_some, Option, option_map}
use Rattle.std.specs.BTreeSet.{insert_key}
use Rattle.std.specs.List.{AllByRecursion, Contains, cons_option, filter_map}
use Rattle.std.specs.Ordering.{match_ordering}
use Rattle.std.specs.declared.cmp.Ordering.{Ordering}
use Rattle.std.specs.declared.cmp.Ordering.TheVariants.{Less, Equal, Greater}
use Rattle.std.proofs.lemmas.List.{length-map}
use Rattle.std.proofs.lemmas.List.Sorted.{Contains-permutation, IsPermutation-reverse}
use Rattle.std.proofs.lemmas.Map.Lookups.{CmpEqualImpliesEq}
use Rattle.std.proofs.lemmas.Bool.{and_parts}
use Rattle.lemmas.proofs.ListFacts.{first_inside, rest_inside}
use Rattle.mcs_reader.specs.Id.{IsId}
use Rattle.holddata.specs.HoldBook.{book_of, keys_named}
use Rattle.holddata.specs.HoldChange.{hold_left}
use Rattle.holddata.specs.HoldKey.{is_same_key, key_cmp}
use Rattle.holddata.specs.declared.hold.Hold.{Hold}
use Rattle.holddata.specs.declared.hold.HoldChange.TheVariants.{Put}
use Rattle.holddata.specs.declared.key.HoldKey.{HoldKey}
use Rattle.holddata.proofs.KeyFacts.{exact_keys}
use Rattle.catalogue.specs.Content as content
use Rattle.catalogue.specs.Ids.{id_cmp, in_order, same_id}
use Rattle.catalogue.specs.Publication.{catalogue_of}
use Rattle.catalogue.specs.declared.sysmod.Sysmod.{Sysmod}
use Rattle.catalogue.proofs.IdFacts.{exact_ids, itself, one_id}
use Rattle.zone_lists.specs.declared.zones.ZoneRow.{ZoneRow}
use Rattle.sqlite_value.specs.Order.{Row, column}
use Rattle.sql_tables.specs.Fit.{IsHold, IsRecord, IsZoneRow}
use Rattle.sql_tables.specs.Rows.{hold_found, hold_row, sysmod_row, zone_row}
use Rattle.sql_tables.specs.Stored.{beside_of, Stored, is_named, is_of, is_of_both, names_of, rows_in_order, sysmods_of, tables_of, zone_row_said, zone_rows_of}
use Rattle.sql_tables.specs.Values.{hold_kind_value, id_in, id_value, texts_value}
use Rattle.sql_tables.specs.Whole.{AreRowsOf, HaveOwnKeys, Head, IsHead, IsWhole, IsZoneSysmod, ZoneSysmod, row_of_head, row_of_zone_sysmod}
use Rattle.sql_tables.proofs.ContentFacts.{key_itself, last_under, left_put}
use Rattle.sql_tables.proofs.MemberFacts.{none_found}
use Rattle.sql_tables.proofs.RecordFacts.{catalogue_ids}
use Rattle.sql_tables.proofs.RowFacts.{hold_again, zone_row_again}
use Rattle.sql_tables.proofs.ValueFacts.{id_again, named_value}
use Rattle.sql_tables.proofs.WholeFacts.{own_filtered}
use Rattle.sql_reads.proofs.PublishedFacts.{sysmods_ids}

-- ---- keys put in order

abbrev pub AreApart : {K : Type 0} → List K → Type 0
AreApart [] = Unit {0}
AreApart (k ∷ ks) = AllByRecursion (λ other. k ≢ other) ks × AreApart ks

pub all_two : {A : Type 0} (P Q R : A → Type 0) → ((a : A) → P a → Q a → R a) → (xs : List A) → AllByRecursion P xs → AllByRecursion Q xs → AllByRecursion R xs
all_two P Q R step [] p q = tt
all_two P Q R step (x ∷ xs) p q = (step x p.0 q.0, all_two P Q R step xs p.1 q.1)

module _ {K : Type 0} (cmp : K → K → Ordering) (exact : CmpEqualImpliesEq cmp) where
  -- a key that isn't there makes a list longer by one
  insert_new : (ks : List K) (k : K) → AllByRecursion (λ x. k ≢ x) ks → length (insert_key cmp ks k) ≡ suc (length ks)
  insert_new [] k new = refl
  insert_new (x ∷ xs) k new = by (insert_new xs k new.1) (cmp k x) refl
    where
      by : length (insert_key cmp xs k) ≡ suc (length xs) → (o : Ordering) → cmp k x ≡ o → length (match_ordering o (k ∷ x ∷ xs) (x ∷ xs) (x ∷ insert_key cmp xs k)) ≡ suc (suc (length xs))
      by rest Less is = refl
      by rest Equal is = absurd (new.0 (exact k x is))
      by rest Greater is = ap suc rest

  insert_all : (P : K → Type 0) (ks : List K) (k : K) → P k → AllByRecursion P ks → AllByRecursion P (insert_key cmp ks k)
  insert_all P [] k p all = (p, tt)
  insert_all P (x ∷ xs) k p all = by (insert_all P xs k p all.1) (cmp k x)
    where
      by : AllByRecursion P (insert_key cmp xs k) → (o : Ordering) → AllByRecursion P (match_ordering o (k ∷ x ∷ xs) (x ∷ xs) (x ∷ insert_key cmp xs k))
      by rest Less = (p, all)
      by rest Equal = all
      by rest Greater = (all.0, rest)

  fold_length : (sorted ks : List K) → AreApart ks → AllByRecursion (λ k. AllByRecursion (λ x. k ≢ x) sorted) ks → length (fold (insert_key cmp) sorted ks) ≡ length sorted + length ks
  fold_length sorted [] apart new = omega arith
  fold_length sorted (k ∷ ks) apart new =
      let rest = fold_length (insert_key cmp sorted k) ks apart.1
      (all_two (λ j. k ≢ j) (λ j. AllByRecursion (λ x. j ≢ x) sorted) (λ j. AllByRecursion (λ x. j ≢ x) (insert_key cmp sorted k))
      (λ j differ all. insert_all (λ x. j ≢ x) sorted k (λ e. differ (sym e)) all) ks apart.0 new.1) in
      omega (arith, rest, insert_new sorted k new.0)

  fold_all : (P : K → Type 0) (sorted ks : List K) → AllByRecursion P sorted → AllByRecursion P ks → AllByRecursion P (fold (insert_key cmp) sorted ks)
  fold_all P sorted [] all more = all
  fold_all P sorted (k ∷ ks) all more = fold_all P (insert_key cmp sorted k) ks (insert_all P sorted k more.0 all) more.1

none_yet : {K : Type 0} (ks : List K) → AllByRecursion (λ k. AllByRecursion (λ x. k ≢ x) []) ks
none_yet [] = tt
none_yet (k ∷ ks) = (tt, none_yet ks)

pub in_order_length : (ids : List (List ℕ)) → AreApart ids → length (in_order ids) ≡ length ids
in_order_length ids apart = let same = fold_length id_cmp exact_ids [] ids apart (none_yet ids) in omega (arith, same)

-- ---- what is read of rows

module _ {K : Type 0} (columns : ℕ) (f : Row → Option K) (P : Row → Type 0) (said : (row : Row) → P row → (k : K) × (f row ≡ Some k))
    (alike : (a b : Row) → P a → P b → f a ≡ f b → take columns a ≡ take columns b) where
  others_differ : (row : Row) (k : K) → P row → f row ≡ Some k → (rows : List Row) → AllByRecursion P rows → AllByRecursion (λ other. take columns row ≢ take columns other) rows
      → AllByRecursion (λ other. k ≢ other) (filter_map f rows)
  others_differ row k p is [] all differ = tt
  others_differ row k p is (next ∷ rows) all differ =
      let it = said next all.0 in
      subst (λ o. AllByRecursion (λ other. k ≢ other) (cons_option o (filter_map f rows))) (sym it.1)
      ((λ same. differ.0 (alike row next p all.0 (is ∙ ap Some same ∙ sym it.1))), others_differ row k p is rows all.1 differ.1)

  pub read_apart : (rows : List Row) → AllByRecursion P rows → HaveOwnKeys columns rows → AreApart (filter_map f rows)
  read_apart [] all own = tt
  read_apart (row ∷ rows) all own =
      let it = said row all.0 in
      subst (λ o. AreApart (cons_option o (filter_map f rows))) (sym it.1) (others_differ row it.0 all.0 it.1 rows all.1 own.0, read_apart rows all.1 own.1)

  pub read_length : (rows : List Row) → AllByRecursion P rows → length (filter_map f rows) ≡ length rows
  read_length [] all = refl
  read_length (row ∷ rows) all = ap (λ o. length (cons_option o (filter_map f rows))) (said row all.0).1 ∙ ap suc (read_length rows all.1)

-- what is read of rows by a part of what they say
part_read : {A K : Type 0} (f : Row → Option A) (key : A → K) (rows : List Row) → filter_map (λ row. option_map key (f row)) rows ≡ map key (filter_map f rows)
part_read f key [] = refl
part_read {A} f key (row ∷ rows) = by (f row) (part_read f key rows)
  where
    by : (o : Option A) → filter_map (λ r. option_map key (f r)) rows ≡ map key (filter_map f rows)
        → cons_option (option_map key o) (filter_map (λ r. option_map key (f r)) rows) ≡ map key (cons_option o (filter_map f rows))
    by None rest = rest
    by (Some a) rest = ap (λ others. key a ∷ others) rest

kept_length : {A B : Type 0} (f : A → Option B) (xs : List A) → AllByRecursion (λ x. is_some (f x) ≡ true) xs → length (filter_map f xs) ≡ length xs
kept_length f [] all = refl
kept_length {B = B} f (x ∷ xs) all = by (f x) all.0 (kept_length f xs all.1)
  where
    by : (o : Option B) → is_some o ≡ true → length (filter_map f xs) ≡ length xs → length (cons_option o (filter_map f xs)) ≡ suc (length xs)
    by None h rest = cc
    by (Some b) h rest = ap suc rest

-- rows put in order are as many, where each has its own SYSMOD
in_order_rows_length : (rows : List ZoneRow) → AreApart (map (λ (r : ZoneRow). r.sysmod) rows) → length (rows_in_order rows) ≡ length rows
in_order_rows_length rows apart =
    let names = map (λ (r : ZoneRow). r.sysmod) rows in
    kept_length (λ id. find (λ (r : ZoneRow). same_id r.sysmod id) rows) (in_order names)
    (fold_all id_cmp exact_ids (λ id. is_some (find (λ (r : ZoneRow). same_id r.sysmod id) rows) ≡ true) [] names tt (each rows (λ row inside. inside)))
    ∙ in_order_length names apart
    ∙ length-map rows (λ (r : ZoneRow). r.sysmod)
  where
    found : (row : ZoneRow) → Contains rows row → is_some (find (λ (r : ZoneRow). same_id r.sysmod row.sysmod) rows) ≡ true
    found row inside = by (find (λ (r : ZoneRow). same_id r.sysmod row.sysmod) rows) refl
      where
        by : (o : Option ZoneRow) → find (λ (r : ZoneRow). same_id r.sysmod row.sysmod) rows ≡ o → is_some o ≡ true
        by None at = absurd (none_found (λ (r : ZoneRow). same_id r.sysmod row.sysmod) rows at row inside (itself row.sysmod))
        by (Some r) at = refl

    each : (some : List ZoneRow) → ((row : ZoneRow) → Contains some row → Contains rows row)
        → AllByRecursion (λ id. is_some (find (λ (r : ZoneRow). same_id r.sysmod id) rows) ≡ true) (map (λ (r : ZoneRow). r.sysmod) some)
    each [] inside = tt
    each (row ∷ some) inside = (found row (inside row (first_inside row some)), each some (λ r h. inside r (rest_inside row r some h)))

-- ---- records

module _ (stored : Stored) (whole : IsWhole stored) where
  abbrev IsRecordRow : Row → Type 0
  IsRecordRow row = (x : Sysmod) × IsRecord x × (row ≡ sysmod_row x)

  record_id : (row : Row) → IsRecordRow row → (k : List ℕ) × (id_in (column row 0) ≡ Some k)
  record_id row (x, fit, is) = (x.id, ap (λ r. id_in (column r 0)) is ∙ id_again x.id fit.id)

  record_alike : (a b : Row) → IsRecordRow a → IsRecordRow b → id_in (column a 0) ≡ id_in (column b 0) → take 1 a ≡ take 1 b
  record_alike a b (x, fit, is) (y, fits, at) same =
      let e : Some x.id ≡ Some y.id = sym (ap (λ r. id_in (column r 0)) is ∙ id_again x.id fit.id) ∙ same ∙ ap (λ r. id_in (column r 0)) at ∙ id_again y.id fits.id in
      let k : x.id ≡ y.id = cc in
      ap (take 1) is ∙ ap (λ id. id_value id ∷ []) k ∙ sym (ap (take 1) at)

  -- as many records as rows
  pub sysmods_length : length (tables_of stored).content.sysmods ≡ length stored.sysmods
  sysmods_length =
      let all = sysmods_of (beside_of stored) stored.sysmods in
      let read = filter_map (λ row. id_in (column row 0)) stored.sysmods in
      let same : content.ids_in all ≡ read = sysmods_ids (beside_of stored) stored.sysmods whole.sysmods in
      sym (length-map (catalogue_of all) (λ (x : Sysmod). x.id))
      ∙ ap length (catalogue_ids all ∙ ap in_order same)
      ∙ in_order_length read (read_apart 1 (λ row. id_in (column row 0)) IsRecordRow record_id record_alike stored.sysmods whole.sysmods whole.sysmod_keys)
      ∙ read_length 1 (λ row. id_in (column row 0)) IsRecordRow record_id record_alike stored.sysmods whole.sysmods

  -- ---- zones

  module _ (client : List ℕ) where
    abbrev IsHeadRow : Row → Type 0
    IsHeadRow row = (zone : List ℕ) × (patterns : List (List ℕ)) × IsId zone × (row ≡ row_of_head (record { client = client; zone = zone; patterns = patterns }))

    heads_of : (rows : List Row) → AreRowsOf row_of_head IsHead rows → AllByRecursion IsHeadRow (filter (is_of client) rows)
    heads_of [] all = tt
    heads_of (row ∷ rows) all = by (is_of client row) refl (heads_of rows all.1) all.0
      where
        by : (b : Bool) → is_of client row ≡ b → AllByRecursion IsHeadRow (filter (is_of client) rows) → (h : Head) × IsHead h × (row ≡ row_of_head h)
            → AllByRecursion IsHeadRow (cond b (row ∷ filter (is_of client) rows) (filter (is_of client) rows))
        by true at rest (h, fit, is) =
            let named : h.client ≡ client = one_id h.client client (sym (named_value h.client client fit.0) ∙ ap (is_of client) (sym is) ∙ at) in
            ((h.zone, h.patterns, fit.1, is ∙ ap (λ c. id_value c ∷ id_value h.zone ∷ texts_value h.patterns ∷ []) named), rest)
        by false at rest it = rest

    head_name : (row : Row) → IsHeadRow row → (k : List ℕ) × (id_in (column row 1) ≡ Some k)
    head_name row (zone, patterns, fit, is) = (zone, ap (λ r. id_in (column r 1)) is ∙ id_again zone fit)

    head_alike : (a b : Row) → IsHeadRow a → IsHeadRow b → id_in (column a 1) ≡ id_in (column b 1) → take 2 a ≡ take 2 b
    head_alike a b (zone, patterns, fit, is) (other, more, fits, at) same =
        let e : Some zone ≡ Some other = sym (ap (λ r. id_in (column r 1)) is ∙ id_again zone fit) ∙ same ∙ ap (λ r. id_in (column r 1)) at ∙ id_again other fits in
        let k : zone ≡ other = cc in
        ap (take 2) is ∙ ap (λ z. id_value client ∷ id_value z ∷ []) k ∙ sym (ap (take 2) at)

    -- as many zones as heads
    pub zones_length : length ((tables_of stored).zones client) ≡ length (filter (is_of client) stored.heads)
    zones_length =
        let rows = filter (is_of client) stored.heads in
        let heads = heads_of stored.heads whole.heads in
        let read = filter_map (λ row. id_in (column row 1)) rows in
        length-map (names_of stored.heads client) (λ zone. (zone, _))
        ∙ in_order_length read (read_apart 2 (λ row. id_in (column row 1)) IsHeadRow head_name head_alike rows heads (own_filtered 2 (is_of client) stored.heads whole.head_keys))
        ∙ read_length 2 (λ row. id_in (column row 1)) IsHeadRow head_name head_alike rows heads

  -- ---- rows of a zone

  module _ (client zone : List ℕ) where
    abbrev IsRowHere : Row → Type 0
    IsRowHere row = (r : ZoneRow) × IsZoneRow r × (row ≡ zone_row client zone r)

    abbrev name_in : Row → Option (List ℕ)
    name_in row = option_map (λ (r : ZoneRow). r.sysmod) (zone_row_said row)

    rows_here : (rows : List Row) → AreRowsOf row_of_zone_sysmod IsZoneSysmod rows → AllByRecursion IsRowHere (filter (is_of_both client zone) rows)
    rows_here [] all = tt
    rows_here (row ∷ rows) all = by (is_of_both client zone row) refl (rows_here rows all.1) all.0
      where
        by : (b : Bool) → is_of_both client zone row ≡ b → AllByRecursion IsRowHere (filter (is_of_both client zone) rows) → (p : ZoneSysmod) × IsZoneSysmod p × (row ≡ row_of_zone_sysmod p)
            → AllByRecursion IsRowHere (cond b (row ∷ filter (is_of_both client zone) rows) (filter (is_of_both client zone) rows))
        by true at rest (p, fit, is) =
            let named = and_parts (is_named client (id_value p.client)) (is_named zone (id_value p.zone)) (ap (is_of_both client zone) (sym is) ∙ at) in
            let of : p.client ≡ client = one_id p.client client (sym (named_value p.client client fit.0) ∙ named.0) in
            let inside : p.zone ≡ zone = one_id p.zone zone (sym (named_value p.zone zone fit.1) ∙ named.1) in
            ((p.row, fit.2, is ∙ ap₂ (λ c z. zone_row c z p.row) of inside), rest)
        by false at rest it = rest

    row_name : (row : Row) → IsRowHere row → (k : List ℕ) × (name_in row ≡ Some k)
    row_name row (r, fit, is) = (r.sysmod, ap name_in is ∙ ap (option_map (λ (x : ZoneRow). x.sysmod)) (zone_row_again client zone r fit))

    row_alike : (a b : Row) → IsRowHere a → IsRowHere b → name_in a ≡ name_in b → take 3 a ≡ take 3 b
    unfolding row_name
    row_alike a b (x, fit, is) (y, fits, at) same =
        let e : Some x.sysmod ≡ Some y.sysmod = sym (row_name a (x, fit, is)).1 ∙ same ∙ (row_name b (y, fits, at)).1 in
        let k : x.sysmod ≡ y.sysmod = cc in
        ap (take 3) is ∙ ap (λ sysmod. id_value client ∷ id_value zone ∷ id_value sysmod ∷ []) k ∙ sym (ap (take 3) at)

    -- as many SYSMODs as rows
    pub zone_rows_length : length (zone_rows_of stored.rows client zone) ≡ length (filter (is_of_both client zone) stored.rows)
    zone_rows_length =
        let rows = filter (is_of_both client zone) stored.rows in
        let here = rows_here stored.rows whole.rows in
        let named = part_read zone_row_said (λ (r : ZoneRow). r.sysmod) rows in
        in_order_rows_length (filter_map zone_row_said rows)
        (subst AreApart named (read_apart 3 name_in IsRowHere row_name row_alike rows here (own_filtered 3 (is_of_both client zone) stored.rows whole.row_keys)))
        ∙ sym (length-map (filter_map zone_row_said rows) (λ (r : ZoneRow). r.sysmod))
        ∙ ap length (sym named)
        ∙ read_length 3 name_in IsRowHere row_name row_alike rows here

  -- ---- holds

  abbrev IsHoldRow : Row → Type 0
  IsHoldRow row = (h : Hold) × IsHold h × (row ≡ hold_row h)

  abbrev key_in : Row → Option HoldKey
  key_in row = option_map (λ (h : Hold). h.key) (hold_found row)

  hold_key : (row : Row) → IsHoldRow row → (k : HoldKey) × (key_in row ≡ Some k)
  hold_key row (h, fit, is) = (h.key, ap key_in is ∙ ap (option_map (λ (x : Hold). x.key)) (hold_again h fit))

  hold_alike : (a b : Row) → IsHoldRow a → IsHoldRow b → key_in a ≡ key_in b → take 3 a ≡ take 3 b
  hold_alike a b (x, fit, is) (y, fits, at) same =
      let e : Some x.key ≡ Some y.key = sym (ap key_in is ∙ ap (option_map (λ (z : Hold). z.key)) (hold_again x fit)) ∙ same ∙ ap key_in at ∙ ap (option_map (λ (z : Hold). z.key)) (hold_again y fits) in
      let k : x.key ≡ y.key = cc in
      ap (take 3) is ∙ ap (λ (key : HoldKey). id_value key.sysmod ∷ hold_kind_value key.kind ∷ id_value key.reason ∷ []) k ∙ sym (ap (take 3) at)

-- as many keys as holds, where each has its own
named_length : (holds : List Hold) → AreApart (map (λ (h : Hold). h.key) holds) → length (keys_named (map Put holds)) ≡ length holds
named_length [] apart = refl
named_length (hold ∷ holds) apart =
    insert_new key_cmp exact_keys (keys_named (map Put holds)) hold.key (others holds apart.0) ∙ ap suc (named_length holds apart.1)
  where
    others : (ds : List Hold) → AllByRecursion (λ other. hold.key ≢ other) (map (λ (h : Hold). h.key) ds) → AllByRecursion (λ x. hold.key ≢ x) (keys_named (map Put ds))
    others [] all = tt
    others (d ∷ ds) all = insert_all key_cmp exact_keys (λ x. hold.key ≢ x) (keys_named (map Put ds)) d.key all.0 (others ds all.1)

pub book_length : (holds : List Hold) → AreApart (map (λ (h : Hold). h.key) holds) → length (book_of (map Put holds)) ≡ length holds
book_length holds apart = kept_length (hold_left (map Put holds)) (keys_named (map Put holds)) (each holds (λ hold inside. inside)) ∙ named_length holds apart
  where
    left : (hold : Hold) → Contains holds hold → is_some (hold_left (map Put holds) hold.key) ≡ true
    left hold inside = ap is_some (left_put holds hold.key) ∙ by (last_under holds hold.key) refl
      where
        by : (o : Option Hold) → last_under holds hold.key ≡ o → is_some o ≡ true
        by None at = absurd (none_found (λ (h : Hold). is_same_key h.key hold.key) (reverse holds) at hold (Contains-permutation holds (reverse holds) hold (IsPermutation-reverse holds) inside) (key_itself hold.key))
        by (Some h) at = refl

    each : (ds : List Hold) → ((d : Hold) → Contains ds d → Contains holds d) → AllByRecursion (λ key. is_some (hold_left (map Put holds) key) ≡ true) (keys_named (map Put ds))
    each [] inside = tt
    each (d ∷ ds) inside =
        insert_all key_cmp exact_keys (λ key. is_some (hold_left (map Put holds) key) ≡ true) (keys_named (map Put ds)) d.key (left d (inside d (first_inside d ds))) (each ds (λ x h. inside x (rest_inside d x ds h)))

-- as many holds as rows
pub holds_length : (stored : Stored) → IsWhole stored → length (tables_of stored).content.holds ≡ length stored.holds
holds_length stored whole =
    let read = filter_map (λ row. option_map (λ (h : Hold). h.key) (hold_found row)) stored.holds in
    book_length (filter_map hold_found stored.holds)
    (subst AreApart (part_read hold_found (λ (h : Hold). h.key) stored.holds) (read_apart 3 (λ row. option_map (λ (h : Hold). h.key) (hold_found row)) (IsHoldRow stored whole) (hold_key stored whole) (hold_alike stored whole) stored.holds whole.holds whole.hold_keys))
    ∙ sym (length-map (filter_map hold_found stored.holds) (λ (h : Hold). h.key))
    ∙ ap length (sym (part_read hold_found (λ (h : Hold). h.key) stored.holds))
    ∙ read_length 3 (λ row. option_map (λ (h : Hold). h.key) (hold_found row)) (IsHoldRow stored whole) (hold_key stored whole) (hold_alike stored whole) stored.holds whole.holds
