-- Look-ups in the maps that keep the tables.
use Rattle.std.proofs.Common.{◌≡◌, ◌<◌, ◌≤◌, ◌-◌, ℕ, suc, drop, get_or, subst, arith, ◌∙◌, ◌&&◌, ◌||◌, Bool, true, false, cond, List, [], ◌∷◌, length, map, Option, Some, Result, Ok, Err, inl, inr, refl, sym, ap, if◌then◌else◌}
use Rattle.std.specs.Option.{option_map, unwrap_or}
use Rattle.std.specs.Result.{OnErr, OnOk}
use Rattle.std.specs.BTreeMap.{insert_entry, is_at}
use Rattle.std.specs.Cmp.Lexicographic.{slice_cmp}
use Rattle.std.specs.BTreeSet.{insert_key}
use Rattle.std.specs.List.{find, list_any}
use Rattle.std.specs.List.Sorted.{IsStrictlySortedBy}
use Rattle.std.specs.Map.{keys_of, lookup, remove_entry}
use Rattle.std.specs.Ordering.{is_eq, match_ordering, nat_cmp}
use Rattle.std.specs.Str.{bytes_eq}
use Rattle.std.specs.declared.cmp.Ordering.{Ordering}
use Rattle.std.specs.declared.cmp.Ordering.TheVariants.{Less, Equal, Greater}
use Rattle.std.proofs.Math.Seq.{drop-cons}
use Rattle.std.proofs.lemmas.Bool.{cases_Bool as tested}
use Rattle.std.proofs.lemmas.Cmp.{nat_list_eq_equiv}
use Rattle.std.proofs.lemmas.Map.Text.{is_eq-slice_cmp}
use Rattle.std.proofs.lemmas.Slice.Eq.{bytes_eq-Decides}
use Rattle.lemmas.proofs.TestFacts.{equal_is}
use Rattle.zone_lists.specs.ZoneList.{RowsAscend}
use Rattle.zone_lists.specs.declared.zones.ZoneRow.{ZoneRow}
use Rattle.bureau_store.specs.Caller.{caller_named}
use Rattle.catalogue.specs.Content.{Content}
use Rattle.catalogue.specs.Ids.{same_id}
use Rattle.bureau_store.specs.Effect.{content_after}
use Rattle.zone_lists.specs.Installed.{is_installed_state}
use Rattle.bureau_store.specs.Effects.{effect_as, maker_of}
use Rattle.bureau_store.specs.Kept.{KnowsTokens}
use Rattle.bureau_store.specs.Tables.{ZoneTable, name_order}
use Rattle.bureau_store.specs.declared.effect.Effect.{Effect}
use Rattle.bureau_store.specs.declared.effect.Effect.TheVariants.{Publication, ZonePut, ZoneDropped, ReceivedPut, PatternsPut}
use Rattle.bureau_store.proofs.CallerFacts.{token_put}
use Rattle.bureau_store.specs.Lists.{ClientTable, client_in, nothing_sent}
use Rattle.bureau_store.specs.declared.caller.Caller.{Caller}
use Rattle.bureau_store.specs.declared.caller.Caller.TheVariants.{Client}
use Rattle.bureau_store.specs.declared.caller.CallerRow.{CallerRow}

-- ---- a look-up by name, as a map makes it

pub lookup_named : {X : Type 0} (name : List ℕ) (es : List (List ℕ × X)) → lookup (is_at (slice_cmp nat_cmp name)) es ≡ lookup (bytes_eq name) es
lookup_named name [] = refl
lookup_named name (e ∷ es) = rw (is_eq-slice_cmp name e.0) (ap (λ rest. cond (bytes_eq name e.0) (Some e.1) rest) (lookup_named name es))

pub remove_named : {X : Type 0} (name : List ℕ) (es : List (List ℕ × X)) → remove_entry (is_at (slice_cmp nat_cmp name)) es ≡ remove_entry (bytes_eq name) es
remove_named name [] = refl
remove_named name (e ∷ es) = rw (is_eq-slice_cmp name e.0) (ap (λ rest. cond (bytes_eq name e.0) es (e ∷ rest)) (remove_named name es))

-- nothing ascends
pub nil_ascends : {K : Type 0} (cmp : K → K → Ordering) (ks : List K) → ks ≡ [] → IsStrictlySortedBy cmp ks
unfolding IsStrictlySortedBy
nil_ascends cmp ks none = rw none tt

pub no_rows_ascend : (rows : List ZoneRow) → rows ≡ [] → RowsAscend rows
no_rows_ascend rows none = nil_ascends (slice_cmp nat_cmp) (map (λ row. row.sysmod) rows) (ap (λ rs. map (λ row. row.sysmod) rs) none)

-- ---- what a client has after a change

-- a client's table is set, and the others stay
pub client_set : (old new : List (List ℕ × ClientTable)) (client : List ℕ) (table : ClientTable)
    → ((name : List ℕ) → lookup (is_at (slice_cmp nat_cmp name)) new ≡ cond (is_at (slice_cmp nat_cmp client) name) (Some table) (lookup (is_at (slice_cmp nat_cmp name)) old))
    → (name : List ℕ) → client_in new name ≡ (if bytes_eq client name then table else client_in old name)
client_set old new client table updates name =
    ap (λ found. unwrap_or found nothing_sent) (sym (lookup_named name new) ∙ updates name)
    ∙ rw (is_eq-slice_cmp client name, lookup_named name old) (chosen (bytes_eq client name))
  where
    chosen : (b : Bool) → unwrap_or (cond b (Some table) (lookup (bytes_eq name) old)) nothing_sent ≡ (if b then table else client_in old name)
    chosen true = refl
    chosen false = refl

-- a change of one client's table, said of all names
pub client_changed : (old new : List (List ℕ × ClientTable)) (client : List ℕ) (change : ClientTable → ClientTable)
    → ((name : List ℕ) → client_in new name ≡ (if bytes_eq client name then change (client_in old client) else client_in old name))
    → (name : List ℕ) → client_in new name ≡ (if bytes_eq client name then change (client_in old name) else client_in old name)
client_changed old new client change set name =
    set name ∙ elim (tested (bytes_eq client name)) [
      | inl same ↦ let is : client ≡ name = (bytes_eq-Decides client name).0 same in ap (λ one. if bytes_eq client name then change (client_in old one) else client_in old name) is
      | inr other ↦ rw other refl
    ]

either : {X : Type 0} (b : Bool) (x : X) → (if b then x else x) ≡ x
either true x = refl
either false x = refl

-- a table that is as it was
pub client_same : (old new : List (List ℕ × ClientTable)) (client : List ℕ)
    → ((name : List ℕ) → client_in new name ≡ (if bytes_eq client name then client_in old client else client_in old name))
    → (name : List ℕ) → client_in new name ≡ client_in old name
client_same old new client set name =
    client_changed old new client (λ table. table) set name ∙ either (bytes_eq client name) (client_in old name)

-- ---- tokens

once : {X : Type 0} (b : Bool) (new old : X) (rest : Option X) → cond b (Some new) rest ≡ cond b (Some new) (cond b (Some old) rest)
once true new old rest = refl
once false new old rest = refl

apart : {X : Type 0} (b d : Bool) (new old : X) (rest : Option X) → (b ≡ true → d ≡ true → ⊥) → cond b (Some old) (cond d (Some new) rest) ≡ cond d (Some new) (cond b (Some old) rest)
apart false d new old rest never = refl
apart true false new old rest never = refl
apart true true new old rest never = absurd (never refl refl)

not_both : (o : Ordering) → o ≡ Equal → o ≡ Greater → ⊥
not_both o equal greater = absurd (cc (equal, greater))

-- a look-up after an entry is put
module _ {Key X : Type 0} (order : Key → Key → Ordering) (test : Key → Bool) (alike : (a b : Key) → order a b ≡ Equal → test a ≡ test b) (same : (a b : Key) → test a ≡ true → test b ≡ true → order a b ≡ Equal) where
  lookup_put : (es : List (Key × X)) (key : Key) (value : X) → lookup test (insert_entry order es key value) ≡ cond (test key) (Some value) (lookup test es)
  lookup_put [] key value = refl
  lookup_put (e ∷ es) key value =
      elim (order key e.0) as (λ o. order key e.0 ≡ o → lookup test (match_ordering o ((key, value) ∷ e ∷ es) ((e.0, value) ∷ es) (e ∷ insert_entry order es key value)) ≡ cond (test key) (Some value) (cond (test e.0) (Some e.1) (lookup test es))) [
        | Less ↦ λ at. refl
        | Equal ↦ λ at. rw (alike key e.0 at) (once (test e.0) value e.1 (lookup test es))
        | Greater ↦ λ at. ap (λ rest. cond (test e.0) (Some e.1) rest) (lookup_put es key value)
            ∙ apart (test e.0) (test key) value e.1 (lookup test es) (λ there here. let equal : order key e.0 ≡ Equal = same key e.0 here there in not_both (order key e.0) equal at)
      ] refl

-- one more caller before those that are known
module _ {Text : Type 0} (text_of : Text → List ℕ) (token : List ℕ) where
  abbrev in_order_of : Text → Text → Ordering
  in_order_of a b = slice_cmp nat_cmp (text_of a) (text_of b)

  abbrev is_it : Text → Bool
  is_it text = is_at (slice_cmp nat_cmp token) (text_of text)

  is_token : (text : Text) → is_it text ≡ true → token ≡ text_of text
  is_token text h = (bytes_eq-Decides token (text_of text)).0 (sym (is_eq-slice_cmp token (text_of text)) ∙ h)

  alike : (a b : Text) → in_order_of a b ≡ Equal → is_it a ≡ is_it b
  alike a b at = ap (λ text. is_at (slice_cmp nat_cmp token) text) ((bytes_eq-Decides (text_of a) (text_of b)).0 (sym (is_eq-slice_cmp (text_of a) (text_of b)) ∙ ap is_eq at))

  same_text : (a b : Text) → is_it a ≡ true → is_it b ≡ true → in_order_of a b ≡ Equal
  same_text a b at_a at_b = equal_is (in_order_of a b) (is_eq-slice_cmp (text_of a) (text_of b) ∙ (bytes_eq-Decides (text_of a) (text_of b)).1 (sym (is_token a at_a) ∙ is_token b at_b))

found_first : (b : Bool) (row : CallerRow) (rest : Option CallerRow) → cond b (Some (caller_named row.name)) (option_map (λ row. caller_named row.name) rest) ≡ option_map (λ row. caller_named row.name) (cond b (Some row) rest)
found_first true row rest = refl
found_first false row rest = refl

pub knows_none : {Text : Type 0} (text_of : Text → List ℕ) (entries : List (Text × Caller)) → entries ≡ [] → KnowsTokens text_of entries []
knows_none text_of entries none token = rw none refl

pub knows_more : {Text : Type 0} (text_of : Text → List ℕ) (entries entries2 : List (Text × Caller)) (rows : List CallerRow) (row : CallerRow) (key : Text) (caller : Caller)
    → KnowsTokens text_of entries rows → text_of key ≡ row.token → caller ≡ caller_named row.name
    → entries2 ≡ insert_entry (λ a b. slice_cmp nat_cmp (text_of a) (text_of b)) entries key caller
    → KnowsTokens text_of entries2 (row ∷ rows)
knows_more text_of entries entries2 rows row key caller knows is named put token =
    ap (λ es. lookup (is_it text_of token) es) put
    ∙ lookup_put (in_order_of text_of token) (is_it text_of token) (alike text_of token) (same_text text_of token) entries key caller
    ∙ ap (λ b. cond b (Some caller) (lookup (is_it text_of token) entries)) (is_eq-slice_cmp token (text_of key) ∙ ap (λ text. bytes_eq token text) is ∙ nat_list_eq_equiv.symm token row.token)
    ∙ ap (λ c. cond (bytes_eq row.token token) (Some c) (lookup (is_it text_of token) entries)) named
    ∙ ap (λ rest. cond (bytes_eq row.token token) (Some (caller_named row.name)) rest) (knows token)
    ∙ found_first (bytes_eq row.token token) row (find (λ row. bytes_eq row.token token) rows)

-- ---- what is told of an answer

pub on_ok : {T E A B : Type 0} (r : Result T E) → OnOk r A → (A → B) → OnOk r B
on_ok (Ok x) h so = so h
on_ok (Err e) h so = tt

pub on_err : {T E A B : Type 0} (r : Result T E) → OnErr r A → (A → B) → OnErr r B
on_err (Ok x) h so = tt
on_err (Err e) h so = so h

pub on_any_err : {T E A : Type 0} (r : Result T E) → A → OnErr r A
on_any_err (Ok x) a = tt
on_any_err (Err e) a = a

-- one client's table is changed, by what a map finds before and after
pub change_made : (old new : List (List ℕ × ClientTable)) (client : List ℕ) (before table : ClientTable) (change : ClientTable → ClientTable)
    → unwrap_or (lookup (is_at (slice_cmp nat_cmp client)) old) nothing_sent ≡ before
    → ((name : List ℕ) → lookup (is_at (slice_cmp nat_cmp name)) new ≡ cond (is_at (slice_cmp nat_cmp client) name) (Some table) (lookup (is_at (slice_cmp nat_cmp name)) old))
    → table ≡ change before
    → (name : List ℕ) → client_in new name ≡ (if bytes_eq client name then change (client_in old name) else client_in old name)
change_made old new client before table change found updates made =
    client_changed old new client change (λ name.
    client_set old new client table updates name
    ∙ ap (λ t. if bytes_eq client name then t else client_in old name) (made ∙ ap change (sym found ∙ ap (λ o. unwrap_or o nothing_sent) (lookup_named client old)))
    )

pub nothing_made : (old new : List (List ℕ × ClientTable)) (client : List ℕ) (before table : ClientTable)
    → unwrap_or (lookup (is_at (slice_cmp nat_cmp client)) old) nothing_sent ≡ before
    → ((name : List ℕ) → lookup (is_at (slice_cmp nat_cmp name)) new ≡ cond (is_at (slice_cmp nat_cmp client) name) (Some table) (lookup (is_at (slice_cmp nat_cmp name)) old))
    → table ≡ before
    → (name : List ℕ) → client_in new name ≡ client_in old name
nothing_made old new client before table found updates made name =
    change_made old new client before table (λ t. t) found updates made name ∙ either (bytes_eq client name) (client_in old name)

-- zones in order stay so where the one that changed is in order
pub order_kept : (old new : List (List ℕ × ClientTable)) (client : List ℕ) (table : ClientTable)
    → ((name : List ℕ) → lookup (is_at (slice_cmp nat_cmp name)) new ≡ cond (is_at (slice_cmp nat_cmp client) name) (Some table) (lookup (is_at (slice_cmp nat_cmp name)) old))
    → IsStrictlySortedBy name_order (keys_of table.zones)
    → (name : List ℕ) → IsStrictlySortedBy name_order (keys_of (client_in old name).zones) → IsStrictlySortedBy name_order (keys_of (client_in new name).zones)
order_kept old new client table updates sorted name before =
    elim (tested (bytes_eq client name)) [
      | inl same ↦ rw (client_set old new client table updates name, same) sorted
      | inr other ↦ rw (client_set old new client table updates name, other) before
    ]

-- a client's effect is no publication
pub client_private : (effect : Effect) (client : List ℕ) → maker_of effect ≡ Client client → (content : Content) → content_after (effect_as effect) content ≡ content
client_private (Publication changes) client own content = absurd cc
client_private (ZonePut of_client zone rows) client own content = refl
client_private (ZoneDropped of_client zone) client own content = refl
client_private (ReceivedPut of_client ids) client own content = refl
client_private (PatternsPut of_client zone patterns) client own content = refl

-- ---- counts and installed SYSMODs

pub counts_ascend : (zones : List (List ℕ × ZoneTable)) (counts : List (List ℕ × ℕ)) → counts ≡ map (λ (zone : List ℕ × ZoneTable). (zone.0, length zone.1.rows)) zones
    → IsStrictlySortedBy name_order (keys_of zones) → IsStrictlySortedBy name_order (map (λ (zone : List ℕ × ℕ). zone.0) counts)
counts_ascend zones counts same sorted = rw (same, names_of zones) sorted
  where
    names_of : (zs : List (List ℕ × ZoneTable)) → map (λ (zone : List ℕ × ℕ). zone.0) (map (λ (zone : List ℕ × ZoneTable). (zone.0, length zone.1.rows)) zs) ≡ keys_of zs
    names_of [] = refl
    names_of (z ∷ zs) = ap (λ names. z.0 ∷ names) (names_of zs)

either_way : (a b : Bool) → (a || b) ≡ (b || (a && true))
either_way true true = refl
either_way true false = refl
either_way false true = refl
either_way false false = refl

pub installed_put : (keys keys2 : List (List ℕ)) (row : ZoneRow) → keys2 ≡ insert_key (slice_cmp nat_cmp) keys row.sysmod → is_installed_state row.state ≡ true
    → (id : List ℕ) → list_any (is_at (slice_cmp nat_cmp id)) keys2 ≡ (list_any (is_at (slice_cmp nat_cmp id)) keys || (same_id row.sysmod id && is_installed_state row.state))
installed_put keys keys2 row put is id =
    ap (λ ks. list_any (is_at (slice_cmp nat_cmp id)) ks) put
    ∙ token_put (λ key. key) keys row.sysmod id
    ∙ ap (λ b. b || list_any (is_at (slice_cmp nat_cmp id)) keys) (nat_list_eq_equiv.symm id row.sysmod)
    ∙ rw is (either_way (bytes_eq row.sysmod id) (list_any (is_at (slice_cmp nat_cmp id)) keys))

-- the callers from one row on are known, where that row and those after it are
pub knows_from : {Text : Type 0} (text_of : Text → List ℕ) (entries : List (Text × Caller)) (rows : List CallerRow) (left : ℕ) (row : CallerRow)
    → 0 < left → left ≤ length rows → row ≡ get_or rows (left - 1) row → KnowsTokens text_of entries (row ∷ drop left rows) → KnowsTokens text_of entries (drop (left - 1) rows)
knows_from text_of entries rows left row some within is knows =
    let at : left - 1 < length rows = omega arith in
    let next : suc (left - 1) ≡ left = omega arith in
    let Known : List CallerRow → Type 0 = λ rs. KnowsTokens text_of entries rs in
    let cut : drop (left - 1) rows ≡ row ∷ drop left rows =
    drop-cons rows (left - 1) row at ∙ ap (λ r. r ∷ drop (suc (left - 1)) rows) (sym is) ∙ ap (λ n. row ∷ drop n rows) next in
    subst Known (sym cut) knows
