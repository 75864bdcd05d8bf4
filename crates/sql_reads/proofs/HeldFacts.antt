-- What is found of the holds on what is installed in a client's zone.
use Rattle.std.proofs.Common.{◌≡◌, ℕ, Bool, true, false, cond, ◌==◌, ◌&&◌, List, [], ◌∷◌, pos, int_cmp, refl, sym, ◌∙◌, ap, subst, Some, None}
use Rattle.std.specs.Prelude.{filter, flat_map, is_some, map, drop, Option}
use Rattle.std.specs.List.{Contains, filter_map, list_any}
use Rattle.std.specs.List.Sorted.{IsStrictlySortedBy}
use Rattle.std.specs.Ordering.{is_eq, is_lt}
use Rattle.std.proofs.lemmas.Bool.{and_parts, and_from}
use Rattle.lemmas.proofs.ListFacts.{any_at, flat_inside, kept_inside, map_found, map_inside}
use Rattle.mcs_reader.specs.Id.{IsId, text_of}
use Rattle.holddata.specs.HoldBook.{IsInKeyOrder}
use Rattle.holddata.specs.HoldKey.{kind_order}
use Rattle.holddata.specs.declared.hold.Hold.{Hold}
use Rattle.holddata.specs.declared.key.HoldKey.{HoldKey}
use Rattle.holddata.specs.declared.key.Kind.{Kind}
use Rattle.holddata.specs.declared.key.Kind.TheVariants.{ErrorHold, SystemHold, UserHold, FixcatHold}
use Rattle.catalogue.specs.Ids.{in_order, same_id}
use Rattle.catalogue.proofs.IdFacts.{itself, one_id}
use Rattle.zone_lists.specs.Installed.{is_installed, is_installed_state}
use Rattle.zone_lists.specs.declared.zones.ZoneRow.{ZoneRow}
use Rattle.zone_lists.specs.declared.zones.ZoneState.{ZoneState}
use Rattle.zone_lists.specs.declared.zones.ZoneState.TheVariants.{Applied, Accepted, Superseded}
use Rattle.bureau_store.specs.Held.{held_in}
use Rattle.bureau_store.specs.Tables.{ZoneTable, rows_of, zone_named}
use Rattle.sqlite.specs.Collation.TheVariants.{Binary}
use Rattle.sqlite.specs.Ops.{binary, from_truth, is_true}
use Rattle.sqlite.specs.Query.{IsAnswer}
use Rattle.sqlite.specs.Tree.{Trees}
use Rattle.sqlite_sql.specs.Term.{Term, col, lit, op2, eval_all}
use Rattle.sqlite_sql.specs.declared.ops.BinaryOp.TheVariants.{Compare}
use Rattle.sqlite_sql.specs.declared.ops.CompareOp.TheVariants.{Eq, Lt}
use Rattle.sqlite_value.specs.Order.{Row, column}
use Rattle.sqlite_value.specs.declared.value.Value.{Value}
use Rattle.sqlite_value.specs.declared.value.Value.TheVariants.{Int, Text}
use Rattle.sqlite_value.proofs.OrderLemmas.{value_cmp-Int}
use Rattle.sql_tables.specs.Fit.{IsHold, IsZoneRow}
use Rattle.sql_tables.specs.InTrees.{columns_of, stored_in}
use Rattle.sql_tables.specs.Rows.{hold_found, hold_row, zone_row}
use Rattle.sql_tables.specs.Stored.{Stored, is_named, is_of_both, rows_as_stored, tables_of, zone_of, zone_row_said, zone_rows_of}
use Rattle.sql_tables.specs.Values.{hold_kind_value, id_value, state_value}
use Rattle.sql_tables.specs.Whole.{AreRowsOf, HaveOwnKeys, IsWhole, IsZoneSysmod, ZoneSysmod, row_of_zone_sysmod}
use Rattle.sql_tables.proofs.ClientFacts.{made_here, zone_found}
use Rattle.sql_tables.proofs.MemberFacts.{found_in, none_found}
use Rattle.sql_tables.proofs.OrderFacts.{by_key_with, with_key}
use Rattle.sql_tables.proofs.ReadFacts.{holds_read}
use Rattle.sql_tables.proofs.RowFacts.{hold_again, zone_row_again}
use Rattle.sql_tables.proofs.TreeFacts.{column_after}
use Rattle.sql_tables.proofs.ValueFacts.{named_value}
use Rattle.sql_texts.specs.Found.{pairs_shown, passes_with}
use Rattle.sql_texts.specs.Reads as read
use Rattle.sql_texts.proofs.AnswerFacts.{join_answer, same_text, truth_again}
use Rattle.sql_reads.proofs.JoinFacts.{join_said}
use Rattle.sql_reads.proofs.MemberFacts.{all_of, any_from, filtered, joined_from, made_from, one_key, read_from}
use Rattle.sql_tables.proofs.TextFacts.{text_named}

-- ---- how the database compares

state_compared : (state : ZoneState) → is_true (binary (Compare Lt Binary) (state_value state) (Int (pos 2))) ≡ is_installed_state state
unfolding binary
state_compared Applied = ap (λ o. is_true (from_truth (Some (is_lt o)))) (value_cmp-Int (pos 0) (pos 2))
state_compared Accepted = ap (λ o. is_true (from_truth (Some (is_lt o)))) (value_cmp-Int (pos 1) (pos 2))
state_compared Superseded = ap (λ o. is_true (from_truth (Some (is_lt o)))) (value_cmp-Int (pos 2) (pos 2))

kinds_alike : (a b : Kind) → is_eq (int_cmp (pos (kind_order a)) (pos (kind_order b))) ≡ (kind_order a == kind_order b)
kinds_alike ErrorHold ErrorHold = refl
kinds_alike ErrorHold SystemHold = refl
kinds_alike ErrorHold UserHold = refl
kinds_alike ErrorHold FixcatHold = refl
kinds_alike SystemHold ErrorHold = refl
kinds_alike SystemHold SystemHold = refl
kinds_alike SystemHold UserHold = refl
kinds_alike SystemHold FixcatHold = refl
kinds_alike UserHold ErrorHold = refl
kinds_alike UserHold SystemHold = refl
kinds_alike UserHold UserHold = refl
kinds_alike UserHold FixcatHold = refl
kinds_alike FixcatHold ErrorHold = refl
kinds_alike FixcatHold SystemHold = refl
kinds_alike FixcatHold UserHold = refl
kinds_alike FixcatHold FixcatHold = refl

kind_compared : (a b : Kind) → is_true (binary (Compare Eq Binary) (hold_kind_value a) (hold_kind_value b)) ≡ (kind_order a == kind_order b)
unfolding binary
kind_compared a b = ap (λ o. is_true (from_truth (Some (is_eq o)))) (value_cmp-Int (pos (kind_order a)) (pos (kind_order b))) ∙ truth_again _ ∙ kinds_alike a b

id_compared : (id : List ℕ) (value : Value) → IsId id → (text : Value) → text ≡ Text (text_of id) → is_true (binary (Compare Eq Binary) value text) ≡ is_named id value
id_compared id value is text same = ap (λ t. is_true (binary (Compare Eq Binary) value t)) same ∙ same_text value (text_of id) ∙ text_named id is value

-- ---- the rows of a zone

-- a row of a client's zone is that of a SYSMOD there
sysmod_there : (client zone : List ℕ) (row : Row) → (p : ZoneSysmod) × IsZoneSysmod p × (row ≡ row_of_zone_sysmod p) → is_of_both client zone row ≡ true → (r : ZoneRow) × IsZoneRow r × (row ≡ zone_row client zone r)
sysmod_there client zone row (p, fit, is) h =
    let parts = and_parts _ _ (ap (is_of_both client zone) (sym is) ∙ h) in
    let first : p.client ≡ client = one_id p.client client (sym (named_value p.client client fit.0) ∙ parts.0) in
    let second : p.zone ≡ zone = one_id p.zone zone (sym (named_value p.zone zone fit.1) ∙ parts.1) in
    (p.row, fit.2, is ∙ ap (λ n. zone_row n p.zone p.row) first ∙ ap (λ n. zone_row client n p.row) second)

module _ (rows : List Row) (client zone : List ℕ) (is_client : IsId client) (is_zone : IsId zone) (written : AreRowsOf row_of_zone_sysmod IsZoneSysmod rows) (own : HaveOwnKeys 3 rows) where
  abbrev stored_rows : List ZoneRow
  stored_rows = rows_as_stored rows client zone

  -- what is read of the rows of a zone stands there
  row_from : (r : ZoneRow) → Contains stored_rows r → Contains rows (zone_row client zone r) × IsZoneRow r
  row_from r inside =
      let it = read_from zone_row_said (filter (is_of_both client zone) rows) r inside in
      let row = filtered (is_of_both client zone) rows it.0 it.1 in
      let stands = sysmod_there client zone it.0 (all_of (λ x. (p : ZoneSysmod) × IsZoneSysmod p × (x ≡ row_of_zone_sysmod p)) rows it.0 written row.0) row.1 in
      let e : Some stands.0 ≡ Some r = sym (zone_row_again client zone stands.0 stands.1) ∙ ap zone_row_said (sym stands.2) ∙ it.2 in
      let same : stands.0 ≡ r = cc in
      (subst (Contains rows) (stands.2 ∙ ap (zone_row client zone) same) row.0, subst IsZoneRow same stands.1)

  row_to : (r : ZoneRow) → IsZoneRow r → Contains rows (zone_row client zone r) → Contains stored_rows r
  row_to r is inside =
      map_found zone_row_said (filter (is_of_both client zone) rows) (zone_row client zone r) r
      (kept_inside (is_of_both client zone) rows (zone_row client zone r) inside (made_here client zone is_client is_zone (drop 2 (zone_row client zone r))))
      (zone_row_again client zone r is)

  -- the first row of a SYSMOD is the one that it has
  one_row : (r other : ZoneRow) → Contains stored_rows r → Contains stored_rows other → other.sysmod ≡ r.sysmod → other ≡ r
  one_row r other first second same =
      let a = row_from r first in
      let b = row_from other second in
      let e : zone_row client zone other ≡ zone_row client zone r =
      one_key 3 rows (zone_row client zone other) (zone_row client zone r) own b.0 a.0 (ap (λ s. id_value client ∷ id_value zone ∷ id_value s ∷ []) same) in
      let f : Some other ≡ Some r = sym (zone_row_again client zone other b.1) ∙ ap zone_row_said e ∙ zone_row_again client zone r a.1 in cc

  zone_from : (r : ZoneRow) → Contains (zone_rows_of rows client zone) r → Contains stored_rows r
  zone_from r inside =
      let it = read_from (with_key (λ (x : ZoneRow). x.sysmod) stored_rows) (in_order (map (λ (x : ZoneRow). x.sysmod) stored_rows)) r inside in
      (found_in (λ (x : ZoneRow). same_id x.sysmod it.0) stored_rows r it.2).0

  zone_to : (r : ZoneRow) → Contains stored_rows r → Contains (zone_rows_of rows client zone) r
  zone_to r inside = by (with_key (λ (x : ZoneRow). x.sysmod) (zone_rows_of rows client zone) r.sysmod) refl
    where
      by : (o : Option ZoneRow) → with_key (λ (x : ZoneRow). x.sysmod) (zone_rows_of rows client zone) r.sysmod ≡ o → Contains (zone_rows_of rows client zone) r
      by None at =
          absurd (none_found (λ (x : ZoneRow). same_id x.sysmod r.sysmod) stored_rows (sym (by_key_with (λ (x : ZoneRow). x.sysmod) stored_rows r.sysmod) ∙ at) r inside (itself r.sysmod))
      by (Some other) at =
          let here = found_in (λ (x : ZoneRow). same_id x.sysmod r.sysmod) stored_rows other (sym (by_key_with (λ (x : ZoneRow). x.sysmod) stored_rows r.sysmod) ∙ at) in
          let there = found_in (λ (x : ZoneRow). same_id x.sysmod r.sysmod) (zone_rows_of rows client zone) other at in
          subst (Contains (zone_rows_of rows client zone)) (one_row r other inside here.0 (one_id other.sysmod r.sysmod here.1)) there.0

  -- a SYSMOD is installed just if a row of the zone says so
  pub installed_from : (id : List ℕ) → is_installed (zone_rows_of rows client zone) id ≡ true
      → (r : ZoneRow) × IsZoneRow r × Contains rows (zone_row client zone r) × (r.sysmod ≡ id) × (is_installed_state r.state ≡ true)
  installed_from id h =
      let it = any_from (λ (r : ZoneRow). same_id r.sysmod id && is_installed_state r.state) (zone_rows_of rows client zone) h in
      let row = row_from it.0 (zone_from it.0 it.1) in
      let parts = and_parts _ _ it.2 in
      (it.0, row.1, row.0, one_id it.0.sysmod id parts.0, parts.1)

  pub installed_to : (id : List ℕ) (r : ZoneRow) → IsZoneRow r → Contains rows (zone_row client zone r) → r.sysmod ≡ id → is_installed_state r.state ≡ true → is_installed (zone_rows_of rows client zone) id ≡ true
  installed_to id r is inside same state =
      any_at (λ (x : ZoneRow). same_id x.sysmod id && is_installed_state x.state) (zone_rows_of rows client zone) r (zone_to r (row_to r is inside))
      (and_from _ _ (ap (λ s. same_id s id) same ∙ itself id) state)

-- ---- the holds

module _ (trees : Trees) (client zone : List ℕ) (kind : Kind) (is_client : IsId client) (is_zone : IsId zone) (whole : IsWhole (stored_in trees)) where
  abbrev params : Row
  params = Text (text_of client) ∷ Text (text_of zone) ∷ hold_kind_value kind ∷ []

  abbrev tests : List Term
  tests = read.same (col 2 1) (col 1 3) ∷ read.is_given 1 0 ∷ read.is_given 2 1 ∷ op2 (Compare Lt Binary) (col 1 4) (lit (Int (pos 2))) ∷ read.same (col 2 2) (col 0 2) ∷ []

  abbrev project : List Term
  project = read.held_in.project

  abbrev all_tests : Bool → Bool → Bool → Bool → Bool → Bool
  all_tests a b c d e = a && (b && (c && (d && (e && true))))

  -- which rows pass together
  together : (z h : Row) (p : ZoneSysmod) (hold : Hold) → IsZoneSysmod p → IsHold hold → drop 1 z ≡ row_of_zone_sysmod p → drop 1 h ≡ hold_row hold
      → passes_with params tests z h
      ≡ all_tests (same_id hold.key.sysmod p.row.sysmod) (same_id p.client client) (same_id p.zone zone) (is_installed_state p.row.state) (kind_order hold.key.kind == kind_order kind)
  together z h p hold fit is zone_is hold_is =
      five _ _ _ _ _ _ _ _ _ _
      (ap (λ v. is_true (binary (Compare Eq Binary) v (column z 3))) (sym (column_after h 0) ∙ ap (λ r. column r 0) hold_is)
      ∙ id_compared p.row.sysmod (id_value hold.key.sysmod) fit.2.sysmod (column z 3) (sym (column_after z 2) ∙ ap (λ r. column r 2) zone_is)
      ∙ named_value hold.key.sysmod p.row.sysmod is.sysmod)
      (ap (λ v. is_true (binary (Compare Eq Binary) v (Text (text_of client)))) (sym (column_after z 0) ∙ ap (λ r. column r 0) zone_is)
      ∙ id_compared client (id_value p.client) is_client (Text (text_of client)) refl ∙ named_value p.client client fit.0)
      (ap (λ v. is_true (binary (Compare Eq Binary) v (Text (text_of zone)))) (sym (column_after z 1) ∙ ap (λ r. column r 1) zone_is)
      ∙ id_compared zone (id_value p.zone) is_zone (Text (text_of zone)) refl ∙ named_value p.zone zone fit.1)
      (ap (λ v. is_true (binary (Compare Lt Binary) v (Int (pos 2)))) (sym (column_after z 3) ∙ ap (λ r. column r 3) zone_is) ∙ state_compared p.row.state)
      (ap (λ v. is_true (binary (Compare Eq Binary) v (hold_kind_value kind))) (sym (column_after h 1) ∙ ap (λ r. column r 1) hold_is) ∙ kind_compared hold.key.kind kind)
    where
      five : (a b c d e f g i j k : Bool) → a ≡ f → b ≡ g → c ≡ i → d ≡ j → e ≡ k → all_tests a b c d e ≡ all_tests f g i j k
      five a b c d e f g i j k l m n o q = rw (l, m, n, o, q) refl

  abbrev rows_of_zones : List Row
  rows_of_zones = columns_of (trees 15)

  abbrev held_rows : List Row
  held_rows = columns_of (trees 11)

  abbrev joined : List Row
  joined = flat_map (λ first. pairs_shown params tests project first (trees 11)) (trees 15)

  abbrev asked : HoldKey → Bool
  asked key = is_installed (zone_rows_of (columns_of (trees 15)) client zone) key.sysmod && (kind_order key.kind == kind_order kind)

  -- what is shown of a row is read as the row
  shown_hold : (z h : Row) → hold_found (eval_all project (params ∷ z ∷ h ∷ [])) ≡ hold_found (drop 1 h)
  shown_hold z [] = refl
  shown_hold z (a ∷ h) = refl

  so_held : (hold : Hold) → Contains (filter_map hold_found joined) hold → Contains (filter_map hold_found held_rows) hold × (asked hold.key ≡ true)
  so_held hold inside =
      let row = read_from hold_found joined hold inside in
      let z = joined_from (λ first. pairs_shown params tests project first (trees 11)) (trees 15) row.0 row.1 in
      let made = made_from (λ second. eval_all project (params ∷ z.0 ∷ second ∷ [])) (filter (passes_with params tests z.0) (trees 11)) row.0 z.2 in
      let h = filtered (passes_with params tests z.0) (trees 11) made.0 made.1 in
      let here : Contains held_rows (drop 1 made.0) = map_inside (drop 1) (trees 11) made.0 h.0 in
      let there : Contains rows_of_zones (drop 1 z.0) = map_inside (drop 1) (trees 15) z.0 z.1 in
      let p = all_of (λ x. (p : ZoneSysmod) × IsZoneSysmod p × (x ≡ row_of_zone_sysmod p)) rows_of_zones (drop 1 z.0) whole.rows there in
      let k = all_of (λ x. (k : Hold) × IsHold k × (x ≡ hold_row k)) held_rows (drop 1 made.0) whole.holds here in
      let read_again : hold_found (drop 1 made.0) ≡ Some hold = sym (shown_hold z.0 made.0) ∙ ap hold_found made.2 ∙ row.2 in
      let e : Some k.0 ≡ Some hold = sym (hold_again k.0 k.1) ∙ ap hold_found (sym k.2) ∙ read_again in
      let same : k.0 ≡ hold = cc in
      let a = and_parts _ _ (sym (together z.0 made.0 p.0 k.0 p.1 k.1 p.2 k.2) ∙ h.1) in
      let b = and_parts _ _ a.1 in
      let c = and_parts _ _ b.1 in
      let d = and_parts _ _ c.1 in
      let f = and_parts _ _ d.1 in
      let of_client : p.0.client ≡ client = one_id p.0.client client b.0 in
      let of_zone : p.0.zone ≡ zone = one_id p.0.zone zone c.0 in
      let stands : Contains rows_of_zones (zone_row client zone p.0.row) =
      subst (Contains rows_of_zones) (p.2 ∙ ap (λ n. zone_row n p.0.zone p.0.row) of_client ∙ ap (λ n. zone_row client n p.0.row) of_zone) there in
      let named : p.0.row.sysmod ≡ hold.key.sysmod = sym (one_id k.0.key.sysmod p.0.row.sysmod a.0) ∙ ap (λ (x : Hold). x.key.sysmod) same in (
        map_found hold_found held_rows (drop 1 made.0) hold here read_again,
        and_from _ _
            (installed_to rows_of_zones client zone is_client is_zone whole.rows whole.row_keys hold.key.sysmod p.0.row p.1.2 stands named d.0)
            (ap (λ (x : Hold). kind_order x.key.kind == kind_order kind) (sym same) ∙ f.0),
      )

  held_so : (hold : Hold) → Contains (filter_map hold_found held_rows) hold → asked hold.key ≡ true → Contains (filter_map hold_found joined) hold
  held_so hold inside at =
      let parts = and_parts _ _ at in
      let row = read_from hold_found held_rows hold inside in
      let k = all_of (λ x. (k : Hold) × IsHold k × (x ≡ hold_row k)) held_rows row.0 whole.holds row.1 in
      let e : Some k.0 ≡ Some hold = sym (hold_again k.0 k.1) ∙ ap hold_found (sym k.2) ∙ row.2 in
      let same : k.0 ≡ hold = cc in
      let r = installed_from rows_of_zones client zone is_client is_zone whole.rows whole.row_keys hold.key.sysmod parts.0 in
      let z = made_from (drop 1) (trees 15) (zone_row client zone r.0) r.2 in
      let h = made_from (drop 1) (trees 11) row.0 row.1 in
      let passes : passes_with params tests z.0 h.0 ≡ true =
      together z.0 h.0 (record { client = client; zone = zone; row = r.0 }) k.0 (is_client, is_zone, r.1) k.1 z.2 (h.2 ∙ k.2)
      ∙ and_from _ _ (ap (same_id k.0.key.sysmod) (r.3 ∙ ap (λ (x : Hold). x.key.sysmod) (sym same)) ∙ itself k.0.key.sysmod)
      (and_from _ _ (itself client) (and_from _ _ (itself zone) (and_from _ _ r.4 (and_from _ _ (ap (λ (x : Hold). kind_order x.key.kind == kind_order kind) same ∙ parts.1) refl)))) in
      map_found hold_found joined (eval_all project (params ∷ z.0 ∷ h.0 ∷ [])) hold
      (flat_inside (λ first. pairs_shown params tests project first (trees 11)) (trees 15) z.0 (eval_all project (params ∷ z.0 ∷ h.0 ∷ [])) z.1
      (map_inside (λ second. eval_all project (params ∷ z.0 ∷ second ∷ [])) (filter (passes_with params tests z.0) (trees 11)) h.0 (kept_inside (passes_with params tests z.0) (trees 11) h.0 h.1 passes)))
      (shown_hold z.0 h.0 ∙ ap hold_found h.2 ∙ row.2)

  pub held_told : (rows : List Row) (found : List Hold) → IsInKeyOrder found → IsAnswer read.held_in trees (Text (text_of client) ∷ Text (text_of zone) ∷ hold_kind_value kind ∷ []) rows
      → map Some found ≡ map hold_found rows → found ≡ held_in (tables_of (stored_in trees)).content (zone_rows_of (columns_of (trees 15)) client zone) kind
  held_told rows found ordered answer said =
      let permuted = join_answer 15 11 tests project (map (col 2) (1 ∷ 2 ∷ 3 ∷ [])) trees params rows answer in
      let told = join_said hold_found rows joined found permuted said in
      holds_read (filter_map hold_found held_rows) found asked ordered (λ hold inside. so_held hold ((told hold).0 inside)) (λ hold inside at. (told hold).1 (held_so hold inside at))

-- ---- whether the zone is there

pub held_there : (stored : Stored) (client zone : List ℕ) (kind : Kind) (found : Bool) (holds : List Hold) → found ≡ is_some (zone_named zone ((tables_of stored).zones client)) → found ≡ true
    → holds ≡ held_in (tables_of stored).content (zone_rows_of stored.rows client zone) kind
    → holds ≡ held_in (tables_of stored).content (rows_of (zone_named zone ((tables_of stored).zones client))) kind
held_there stored client zone kind found holds said is same =
    by (list_any (is_of_both client zone) stored.heads) (zone_found stored client zone)
  where
    by : (b : Bool) → zone_named zone ((tables_of stored).zones client) ≡ cond b (Some (zone_of stored client zone)) None
        → holds ≡ held_in (tables_of stored).content (rows_of (zone_named zone ((tables_of stored).zones client))) kind
    by true at = same ∙ sym (ap (λ o. held_in (tables_of stored).content (rows_of o) kind) at)
    by false at = let e : true ≡ false = sym is ∙ said ∙ ap is_some at in cc

none_held : (holds : List Hold) (kind : Kind) → ◌≡◌ {A = List Hold} [] (filter (λ hold. is_installed [] hold.key.sysmod && (kind_order hold.key.kind == kind_order kind)) holds)
none_held [] kind = refl
none_held (hold ∷ holds) kind = none_held holds kind

pub held_nowhere : (stored : Stored) (client zone : List ℕ) (kind : Kind) (found : Bool) → found ≡ is_some (zone_named zone ((tables_of stored).zones client)) → found ≡ false
    → ◌≡◌ {A = List Hold} [] (held_in (tables_of stored).content (rows_of (zone_named zone ((tables_of stored).zones client))) kind)
held_nowhere stored client zone kind found said is = by (zone_named zone ((tables_of stored).zones client)) (sym is ∙ said)
  where
    by : (o : Option ZoneTable) → false ≡ is_some o → ◌≡◌ {A = List Hold} [] (held_in (tables_of stored).content (rows_of o) kind)
    by None h = none_held (tables_of stored).content.holds kind
    by (Some table) h = cc

pub none_ordered : (holds : List Hold) → holds ≡ [] → IsInKeyOrder holds
unfolding IsStrictlySortedBy
none_ordered [] h = tt
none_ordered (hold ∷ holds) h = cc
