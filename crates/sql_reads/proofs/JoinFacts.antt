-- What is found of rows of two tables: the SYSMODs that supersede one, and the holds on what is installed in a zone.
use Rattle.std.proofs.Common.{◌≡◌, ℕ, true, false, ◌&&◌, List, [], ◌∷◌, refl, sym, ◌∙◌, ap, subst, Some, None}
use Rattle.std.specs.Prelude.{filter, flat_map, map, drop, reverse, Option, option_map, option_and_then, unwrap_or}
use Rattle.std.specs.List.{Contains, filter_map, list_any}
use Rattle.std.specs.List.Sorted.{IsPermutation}
use Rattle.std.proofs.lemmas.List.Sorted.{Contains-permutation, IsPermutation-map, IsPermutation-reverse, IsPermutation-sym}
use Rattle.std.proofs.lemmas.Bool.{and_parts, and_from}
use Rattle.lemmas.proofs.ListFacts.{any_at, flat_inside, kept_inside, map_found, map_inside}
use Rattle.mcs_reader.specs.Id.{IsId, text_of}
use Rattle.catalogue.specs.Content as content
use Rattle.catalogue.specs.Content.{sup_names, superseders}
use Rattle.catalogue.specs.Ids.{Ascend, in_order, same_id}
use Rattle.catalogue.specs.Publication.{catalogue_of, last_of}
use Rattle.catalogue.specs.declared.sysmod.Sysmod.{Sysmod}
use Rattle.catalogue.specs.declared.sysmod.SysmodKind.{SysmodKind}
use Rattle.catalogue.proofs.IdFacts.{in_order_any, in_order_has, itself, one_id}
use Rattle.catalogue.proofs.RecordFacts.{filtered_ascend}
use Rattle.sqlite.specs.Collation.TheVariants.{Binary}
use Rattle.sqlite.specs.Ops.{binary, is_true}
use Rattle.sqlite.specs.Query.{IsAnswer}
use Rattle.sqlite.specs.Tree.{Trees}
use Rattle.sqlite_sql.specs.Term.{Term, col, eval_all}
use Rattle.sqlite_sql.specs.declared.ops.BinaryOp.TheVariants.{Compare}
use Rattle.sqlite_sql.specs.declared.ops.CompareOp.TheVariants.{Eq}
use Rattle.sqlite_value.specs.Order.{Row, column}
use Rattle.sqlite_value.specs.declared.value.Value.{Value}
use Rattle.sqlite_value.specs.declared.value.Value.TheVariants.{Text}
use Rattle.sql_tables.specs.InTrees.{columns_of, stored_in}
use Rattle.sql_tables.specs.Rows.{Beside, sysmod_found, with}
use Rattle.sql_tables.specs.Stored.{beside_of, is_named, is_of, sup_of, sysmod_with, sysmods_of, tables_of}
use Rattle.sql_tables.specs.Values.{id_in, ids_in, sysmod_kind_in}
use Rattle.sql_tables.specs.Whole.{IsMember, IsWhole, Listed, member_row}
use Rattle.sql_tables.proofs.ContentFacts.{content_in_order}
use Rattle.sql_tables.proofs.RowFacts.{sysmod_own}
use Rattle.sql_tables.proofs.MemberFacts.{found_in}
use Rattle.sql_tables.proofs.OrderFacts.{in_order_same}
use Rattle.sql_tables.proofs.RecordFacts.{catalogue_ids, ids_read}
use Rattle.sql_tables.proofs.TreeFacts.{column_after}
use Rattle.sql_tables.proofs.ValueFacts.{id_again}
use Rattle.sql_texts.specs.Found.{pairs_shown, passes_with}
use Rattle.sql_texts.specs.Reads as read
use Rattle.sql_texts.proofs.AnswerFacts.{join_answer}
use Rattle.sql_reads.proofs.ClientFacts.{all_said}
use Rattle.sql_reads.proofs.MemberFacts.{all_of, any_from, filtered, joined_from, made_from, read_from}
use Rattle.sql_reads.proofs.PublishedFacts.{sysmods_ids}
use Rattle.sql_tables.proofs.TextFacts.{text_given}

-- what the rows of a join say
pub join_said : {A : Type 0} (read : Row → Option A) (rows joined : List Row) (found : List A) → IsPermutation joined rows → map Some found ≡ map read rows
    → (a : A) → (Contains found a → Contains (filter_map read joined) a) × (Contains (filter_map read joined) a → Contains found a)
join_said read rows joined found permuted said a =
    let same : IsPermutation (filter_map read joined) found = all_said read joined found (subst (IsPermutation (map read joined)) (sym said) (IsPermutation-map read joined rows permuted)) in
    (Contains-permutation found (filter_map read joined) a (IsPermutation-sym (filter_map read joined) found same), Contains-permutation (filter_map read joined) found a same)

-- ---- what supersedes an id

-- a record of a catalogue is one of those that it was made of
catalogue_from : (xs : List Sysmod) (x : Sysmod) → Contains (catalogue_of xs) x → Contains xs x
catalogue_from xs x inside =
    let it = read_from (last_of xs) (in_order (content.ids_in xs)) x inside in
    Contains-permutation (reverse xs) xs x (IsPermutation-sym xs (reverse xs) (IsPermutation-reverse xs)) (found_in (content.is_of it.0) (reverse xs) x it.2).0

-- a record that is read supersedes what the rows of its id say
sup_own : (beside : Beside) (row : Row) (x : Sysmod) → sysmod_found beside row ≡ Some x → x.sup ≡ beside.sup
sup_own beside row x h = by (id_in (column row 0)) (sysmod_kind_in (column row 1)) (ids_in (column row 2)) (ids_in (column row 3)) (ids_in (column row 4)) h
  where
    by : (id : Option (List ℕ)) (kind : Option SysmodKind) (fmids pre req : Option (List (List ℕ)))
        → with id (λ i. with kind (λ k. with fmids (λ f. with pre (λ p. option_map (λ r. record { id = i; kind = k; fmids = f; pre = p; req = r; conds = beside.conds; sup = beside.sup }) req)))) ≡ Some x
        → x.sup ≡ beside.sup
    by None kind fmids pre req e = cc
    by (Some i) None fmids pre req e = cc
    by (Some i) (Some k) None pre req e = cc
    by (Some i) (Some k) (Some f) None req e = cc
    by (Some i) (Some k) (Some f) (Some p) None e = cc
    by (Some i) (Some k) (Some f) (Some p) (Some r) e = sym (ap (λ (o : Option Sysmod). unwrap_or (option_map (λ (s : Sysmod). s.sup) o) beside.sup) e)

sysmod_sup : (beside : List ℕ → Beside) (row : Row) (x : Sysmod) → sysmod_with beside row ≡ Some x → x.sup ≡ (beside x.id).sup
sysmod_sup beside row x h = by (id_in (column row 0)) refl h
  where
    by : (o : Option (List ℕ)) → id_in (column row 0) ≡ o → option_and_then (λ id. sysmod_found (beside id) row) o ≡ Some x → x.sup ≡ (beside x.id).sup
    by None at e = cc
    by (Some id) at e =
        let own : Some x.id ≡ Some id = sym (sysmod_own (beside id) row x e) ∙ at in
        let same : x.id ≡ id = cc in
        sup_own (beside id) row x e ∙ ap (λ k. (beside k).sup) (sym same)

module _ (trees : Trees) (id : List ℕ) (is : IsId id) (whole : IsWhole (stored_in trees)) where
  abbrev sups : List Row
  sups = columns_of (trees 8)

  abbrev sysmods : List Row
  sysmods = columns_of (trees 6)

  abbrev params : Row
  params = Text (text_of id) ∷ []

  abbrev tests : List Term
  tests = read.same (col 2 1) (col 1 1) ∷ read.is_given 2 0 ∷ []

  -- which rows pass together
  together : (p s : Row) (member : Listed (List ℕ)) → IsMember member → drop 1 p ≡ member_row member
      → passes_with params tests p s ≡ (is_named member.id (column (drop 1 s) 0) && (is_named id (column (drop 1 p) 1) && true))
  together p s member fit same =
      ap (λ v. is_true (binary (Compare Eq Binary) (column s 1) v) && (is_true (binary (Compare Eq Binary) (column p 2) (Text (text_of id))) && true))
      (sym (column_after p 0) ∙ ap (λ row. column row 0) same)
      ∙ ap (λ b. b && (is_true (binary (Compare Eq Binary) (column p 2) (Text (text_of id))) && true))
      (text_given member.id fit.0 s 0)
      ∙ ap (λ b. is_named member.id (column (drop 1 s) 0) && (b && true))
      (text_given id is p 1)

  -- the id that a row names
  named_is : (name : List ℕ) (value : Value) → is_named name value ≡ true → id_in value ≡ Some name
  named_is name value h = by (id_in value) refl h
    where
      by : (o : Option (List ℕ)) → id_in value ≡ o → unwrap_or (option_map (λ found. same_id found name) o) false ≡ true → id_in value ≡ Some name
      by None at e = cc
      by (Some found) at e = at ∙ ap Some (one_id found name e)

  is_named_so : (name : List ℕ) (value : Value) → id_in value ≡ Some name → is_named name value ≡ true
  is_named_so name value h = ap (λ o. unwrap_or (option_map (λ found. same_id found name) o) false) h ∙ itself name

  abbrev beside : List ℕ → Beside
  beside = beside_of (stored_in trees)

  abbrev all : List Sysmod
  all = sysmods_of (beside_of (stored_in trees)) (columns_of (trees 6))

  -- a catalogued record, by its row
  record_row : (c : Sysmod) → Contains (catalogue_of all) c → (s : Row) × Contains sysmods s × (id_in (column s 0) ≡ Some c.id) × (c.sup ≡ sup_of sups c.id)
  record_row c inside =
      let it = read_from (sysmod_with beside) sysmods c (catalogue_from all c inside) in
      (it.0, it.1, by it.0 (id_in (column it.0 0)) refl it.2, sysmod_sup beside it.0 c it.2)
    where
      by : (row : Row) (o : Option (List ℕ)) → id_in (column row 0) ≡ o → option_and_then (λ i. sysmod_found (beside i) row) o ≡ Some c → id_in (column row 0) ≡ Some c.id
      by row None at e = cc
      by row (Some i) at e = sysmod_own (beside i) row c e

  -- the record of an id that a row has
  row_record : (s : Row) (x : List ℕ) → Contains sysmods s → id_in (column s 0) ≡ Some x → (c : Sysmod) × Contains (catalogue_of all) c × (c.id ≡ x)
  row_record s x inside at =
      let listed : Contains (content.ids_in all) x = subst (λ ids. Contains ids x) (sym (sysmods_ids beside sysmods whole.sysmods)) (map_found (λ row. id_in (column row 0)) sysmods s x inside at) in
      made_from (λ (c : Sysmod). c.id) (catalogue_of all) x (subst (λ ids. Contains ids x) (sym (catalogue_ids all)) ((in_order_has (content.ids_in all) x).1 listed))

  names_any : (name : List ℕ) → list_any (same_id id) (sup_of sups name) ≡ list_any (same_id id) (filter_map (λ row. id_in (column row 1)) (filter (is_of name) sups))
  names_any name = in_order_any (same_id id) (filter_map (λ row. id_in (column row 1)) (filter (is_of name) sups))

  abbrev joined : List Row
  joined = flat_map (λ first. pairs_shown params tests (col 1 1 ∷ []) first (trees 6)) (trees 8)

  abbrev first_id : Row → Option (List ℕ)
  first_id row = id_in (column row 0)

  found_so : (x : List ℕ) → Contains (filter_map first_id joined) x → Contains (superseders (tables_of (stored_in trees)).content id) x
  found_so x inside =
      let row = read_from first_id joined x inside in
      let p = joined_from (λ first. pairs_shown params tests (col 1 1 ∷ []) first (trees 6)) (trees 8) row.0 row.1 in
      let made = made_from (λ second. eval_all (col 1 1 ∷ []) (params ∷ p.0 ∷ second ∷ [])) (filter (passes_with params tests p.0) (trees 6)) row.0 p.2 in
      let s = filtered (passes_with params tests p.0) (trees 6) made.0 made.1 in
      let there : Contains sups (drop 1 p.0) = map_inside (drop 1) (trees 8) p.0 p.1 in
      let m = all_of (λ r. (m : Listed (List ℕ)) × IsMember m × (r ≡ member_row m)) sups (drop 1 p.0) whole.sups there in
      let tests_pass = and_parts _ _ (sym (together p.0 made.0 m.0 m.1 m.2) ∙ s.1) in
      let names = and_parts _ _ tests_pass.1 in
      let own : id_in (column (drop 1 p.0) 0) ≡ Some m.0.id = ap (λ r. id_in (column r 0)) m.2 ∙ id_again m.0.id m.1.0 in
      let shown : id_in (column p.0 1) ≡ Some x = ap (λ r. id_in (column r 0)) made.2 ∙ row.2 in
      let e : Some m.0.id ≡ Some x = sym own ∙ ap id_in (column_after p.0 0) ∙ shown in
      let same : m.0.id ≡ x = cc in
      let c = row_record (drop 1 made.0) m.0.id (map_inside (drop 1) (trees 6) made.0 s.0) (named_is m.0.id (column (drop 1 made.0) 0) tests_pass.0) in
      let its = record_row c.0 c.1 in
      let second : id_in (column (drop 1 p.0) 1) ≡ Some m.0.one = ap (λ r. id_in (column r 1)) m.2 ∙ id_again m.0.one m.1.1 in
      let is_member : Some m.0.one ≡ Some id = sym second ∙ named_is id (column (drop 1 p.0) 1) names.0 in
      let member : m.0.one ≡ id = cc in
      let of_c : is_of c.0.id (drop 1 p.0) ≡ true = is_named_so c.0.id (column (drop 1 p.0) 0) (own ∙ ap Some (sym c.2)) in
      let listed : Contains (filter_map (λ r. id_in (column r 1)) (filter (is_of c.0.id) sups)) m.0.one =
      map_found (λ r. id_in (column r 1)) (filter (is_of c.0.id) sups) (drop 1 p.0) m.0.one (kept_inside (is_of c.0.id) sups (drop 1 p.0) there of_c) second in
      let superseding : sup_names id c.0 ≡ true =
      ap (list_any (same_id id)) its.3 ∙ names_any c.0.id ∙ any_at (same_id id) (filter_map (λ r. id_in (column r 1)) (filter (is_of c.0.id) sups)) m.0.one listed (ap (same_id id) member ∙ itself id) in
      subst (Contains (superseders (tables_of (stored_in trees)).content id)) (c.2 ∙ same)
      (map_inside (λ (s : Sysmod). s.id) (filter (sup_names id) (catalogue_of all)) c.0 (kept_inside (sup_names id) (catalogue_of all) c.0 c.1 superseding))

  so_found : (x : List ℕ) → Contains (superseders (tables_of (stored_in trees)).content id) x → Contains (filter_map first_id joined) x
  so_found x inside =
      let c = made_from (λ (s : Sysmod). s.id) (filter (sup_names id) (catalogue_of all)) x inside in
      let kept = filtered (sup_names id) (catalogue_of all) c.0 c.1 in
      let its = record_row c.0 kept.0 in
      let k = any_from (same_id id) (filter_map (λ r. id_in (column r 1)) (filter (is_of c.0.id) sups)) (sym (names_any c.0.id) ∙ sym (ap (list_any (same_id id)) its.3) ∙ kept.1) in
      let row = read_from (λ r. id_in (column r 1)) (filter (is_of c.0.id) sups) k.0 k.1 in
      let p = filtered (is_of c.0.id) sups row.0 row.1 in
      let p_there = made_from (drop 1) (trees 8) row.0 p.0 in
      let s_there = made_from (drop 1) (trees 6) its.0 its.1 in
      let m = all_of (λ r. (m : Listed (List ℕ)) × IsMember m × (r ≡ member_row m)) sups row.0 whole.sups p.0 in
      let own : id_in (column row.0 0) ≡ Some m.0.id = ap (λ r. id_in (column r 0)) m.2 ∙ id_again m.0.id m.1.0 in
      let e : Some m.0.id ≡ Some c.0.id = sym own ∙ named_is c.0.id (column row.0 0) p.1 in
      let same : m.0.id ≡ c.0.id = cc in
      let first : is_named m.0.id (column (drop 1 s_there.0) 0) ≡ true =
      ap (λ r. is_named m.0.id (column r 0)) s_there.2 ∙ is_named_so m.0.id (column its.0 0) (its.2 ∙ ap Some (sym same)) in
      let second : is_named id (column (drop 1 p_there.0) 1) ≡ true =
      ap (λ r. is_named id (column r 1)) p_there.2 ∙ is_named_so id (column row.0 1) (row.2 ∙ ap Some (sym (one_id id k.0 k.2))) in
      let passes : passes_with params tests p_there.0 s_there.0 ≡ true =
      together p_there.0 s_there.0 m.0 m.1 (p_there.2 ∙ m.2) ∙ and_from _ _ first (and_from _ _ second refl) in
      let at : id_in (column p_there.0 1) ≡ Some x = ap id_in (sym (column_after p_there.0 0)) ∙ ap (λ r. id_in (column r 0)) p_there.2 ∙ own ∙ ap Some (same ∙ c.2) in
      map_found first_id joined (column p_there.0 1 ∷ []) x
      (flat_inside (λ first. pairs_shown params tests (col 1 1 ∷ []) first (trees 6)) (trees 8) p_there.0 (column p_there.0 1 ∷ []) p_there.1
      (map_inside (λ second. eval_all (col 1 1 ∷ []) (params ∷ p_there.0 ∷ second ∷ [])) (filter (passes_with params tests p_there.0) (trees 6)) s_there.0
      (kept_inside (passes_with params tests p_there.0) (trees 6) s_there.0 s_there.1 passes)))
      at

  pub superseders_told : (rows : List Row) (found : List (List ℕ)) → Ascend found → IsAnswer read.superseders trees (Text (text_of id) ∷ []) rows
      → map Some found ≡ map (λ row. id_in (column row 0)) rows → found ≡ superseders (tables_of (stored_in trees)).content id
  superseders_told rows found ascend answer said =
      let them = superseders (tables_of (stored_in trees)).content id in
      let permuted = join_answer 8 6 tests (col 1 1 ∷ []) (col 1 1 ∷ []) trees params rows answer in
      let told = join_said first_id rows joined found permuted said in
      ids_read them found ascend (λ x inside. (told x).1 (so_found x inside)) (λ x inside. found_so x ((told x).0 inside))
      ∙ in_order_same them (filtered_ascend (sup_names id) (catalogue_of all) (content_in_order (stored_in trees)).sysmods)
