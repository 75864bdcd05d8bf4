-- What is found of a caller's last change, and of what a client has.
use Rattle.std.proofs.Common.{◌≡◌, ℕ, Bool, true, false, cond, List, [], ◌∷◌, refl, sym, ◌∙◌, ap, subst, subst₂, arith, inl, inr, Some, None}
use Rattle.std.specs.Prelude.{filter, map, is_some, Option, option_map, option_and_then, unwrap_or}
use Rattle.std.specs.List.{cons_option, filter_map, list_any}
use Rattle.std.specs.List.Sorted.{IsPermutation}
use Rattle.std.proofs.lemmas.List.Sorted.{IsPermutation-map, IsPermutation-refl, length_permutation}
use Rattle.sqlite_trees.proofs.ListLemmas.{IsPermutation-filter}
use Rattle.mcs_reader.specs.Id.{IsId, text_of}
use Rattle.zone_lists.specs.declared.zones.ZoneRow.{ZoneRow}
use Rattle.sqlite.specs.Query.{IsAnswer}
use Rattle.sqlite.specs.Tree.{Trees}
use Rattle.sqlite_value.specs.Order.{Row}
use Rattle.sqlite_value.specs.declared.value.Value.TheVariants.{Text}
use Rattle.bureau_store.specs.Tables.{LastChange, ZoneTable, no_change, zone_named}
use Rattle.bureau_store.specs.Caller.{IsProper, is_publisher, publisher_name}
use Rattle.bureau_store.specs.declared.caller.Caller.{Caller}
use Rattle.bureau_store.specs.declared.caller.Caller.TheVariants.{Client}
use Rattle.catalogue.proofs.IdFacts.{one_id}
use Rattle.sql_tables.specs.InTrees.{columns_of, stored_in}
use Rattle.sql_tables.specs.Rows.{change_found}
use Rattle.sql_tables.specs.Stored.{Stored, first, is_of, is_of_both, name_of, tables_of, zone_of, zone_rows_of}
use Rattle.sql_tables.proofs.ClientFacts.{zone_found}
use Rattle.sql_tables.proofs.ListFacts.{any_first}
use Rattle.sql_texts.specs.Found.{shown}
use Rattle.sql_texts.specs.Reads as read
use Rattle.sql_reads.specs.Answering.{one_of}
use Rattle.sql_reads.proofs.TableFacts.{one_case, table_found}
use Rattle.sql_tables.proofs.TextFacts.{of_given}

pub proper_name : (caller : Caller) (name : List ℕ) → caller ≡ Client name → IsProper caller → name_of caller ≡ Some name
proper_name caller name is proper = ap name_of is ∙ by (is_publisher name) refl
  where
    by : (b : Bool) → is_publisher name ≡ b → cond b None (Some name) ≡ Some name
    by true at = absurd (subst IsProper is proper (one_id name publisher_name at))
    by false at = refl

-- a zone that is there has its rows
pub zone_both : (stored : Stored) (client zone : List ℕ) (found : Bool) (rows : List ZoneRow) → found ≡ is_some (zone_named zone ((tables_of stored).zones client)) → found ≡ true
    → rows ≡ zone_rows_of stored.rows client zone → Some rows ≡ option_map (λ (table : ZoneTable). table.rows) (zone_named zone ((tables_of stored).zones client))
zone_both stored client zone found rows said is same =
    by (list_any (is_of_both client zone) stored.heads) (zone_found stored client zone)
  where
    by : (b : Bool) → zone_named zone ((tables_of stored).zones client) ≡ cond b (Some (zone_of stored client zone)) None
        → Some rows ≡ option_map (λ (table : ZoneTable). table.rows) (zone_named zone ((tables_of stored).zones client))
    by true at = ap Some same ∙ sym (ap (option_map (λ (table : ZoneTable). table.rows)) at)
    by false at = let e : true ≡ false = sym is ∙ said ∙ ap is_some at in cc

-- ---- one row

-- what the one row says, or else something that is there without it
said_or : {A : Type 0} (read : Row → Option A) (f : Row → Row) (default : A) (xs rows : List Row) (found : A) → IsPermutation (map f xs) rows
    → option_map (λ o. unwrap_or o default) (one_of read rows) ≡ Some found → found ≡ unwrap_or (option_and_then (λ row. read (f row)) (first xs)) default
said_or {A} read f default xs rows found permuted h = by (one_of read rows) refl h
  where
    by : (o : Option (Option A)) → one_of read rows ≡ o → option_map (λ o. unwrap_or o default) o ≡ Some found → found ≡ unwrap_or (option_and_then (λ row. read (f row)) (first xs)) default
    by None is e = cc
    by (Some it) is e = elim (one_case read f xs rows it permuted is) [
      | inl none ↦ (let same : unwrap_or it default ≡ found = cc in sym same ∙ ap (λ o. unwrap_or o default) none.1 ∙ sym (ap (λ rs. unwrap_or (option_and_then (λ row. read (f row)) (first rs)) default) none.0))
      | inr its ↦ (let same : unwrap_or it default ≡ found = cc in
          sym same ∙ ap (λ o. unwrap_or o default) (its.4 ∙ sym its.3) ∙ sym (ap (λ rs. unwrap_or (option_and_then (λ row. read (f row)) (first rs)) default) its.1))
    ]

module _ (trees : Trees) where
  pub last_told : (caller : Caller) (name : List ℕ) (rows : List Row) (found : LastChange) → IsId name → name_of caller ≡ Some name → IsAnswer read.last_change trees (Text (text_of name) ∷ []) rows
      → option_map (λ o. unwrap_or o no_change) (one_of change_found rows) ≡ Some found → found ≡ (tables_of (stored_in trees)).last caller
  last_told caller name rows found is named answer said =
      said_or change_found (shown (1 ∷ 2 ∷ [])) no_change (filter (is_of name) (columns_of (trees 4))) rows found
      (table_found 4 (read.is_given 1 0 ∷ []) (1 ∷ 2 ∷ []) (1 ∷ []) (Text (text_of name) ∷ []) trees rows (is_of name) (of_given name is) answer) said
      ∙ sym (ap (λ o. unwrap_or (option_and_then (λ n. option_and_then (λ row. change_found (shown (1 ∷ 2 ∷ []) row)) (first (filter (is_of n) (columns_of (trees 4))))) o) no_change) named)

-- whether a zone is there is told by its rows
pub zone_told : (stored : Stored) (client zone : List ℕ) (rows : List Row) (found : Bool) → IsPermutation (map (shown (2 ∷ [])) (filter (is_of_both client zone) stored.heads)) rows
    → found ≡ is_some (first rows) → found ≡ is_some (zone_named zone ((tables_of stored).zones client))
zone_told stored client zone rows found shows said =
    said ∙ same (filter (is_of_both client zone) stored.heads) rows shows ∙ sym (any_first (is_of_both client zone) stored.heads)
    ∙ there (list_any (is_of_both client zone) stored.heads) (zone_of stored client zone)
    ∙ sym (ap is_some (zone_found stored client zone))
  where
    there : (b : Bool) (table : ZoneTable) → b ≡ is_some (cond b (Some table) None)
    there true table = refl
    there false table = refl

    same : (xs rs : List Row) → IsPermutation (map (shown (2 ∷ [])) xs) rs → is_some (first rs) ≡ is_some (first xs)
    same [] [] permuted = refl
    same [] (r ∷ rs) permuted = absurd (omega (arith, length_permutation (map (shown (2 ∷ [])) []) (r ∷ rs) permuted))
    same (x ∷ xs) [] permuted = absurd (omega (arith, length_permutation (map (shown (2 ∷ [])) (x ∷ xs)) [] permuted))
    same (x ∷ xs) (r ∷ rs) permuted = refl

-- ---- all rows

-- what rows say that all say something
pub all_said : {A : Type 0} (f : Row → Option A) (xs : List Row) (items : List A) → IsPermutation (map f xs) (map Some items) → IsPermutation (filter_map f xs) items
all_said f [] [] permuted = IsPermutation-refl []
all_said f (x ∷ xs) [] permuted = absurd (omega (arith, length_permutation (map f (x ∷ xs)) (map Some []) permuted))
all_said {A} f xs (d ∷ items) permuted =
    subst₂ IsPermutation (here xs) (there (d ∷ items))
    (IsPermutation-map (λ o. unwrap_or o d) (filter is_some (map f xs)) (filter is_some (map Some (d ∷ items))) (IsPermutation-filter is_some (map f xs) (map Some (d ∷ items)) permuted))
  where
    here : (ys : List Row) → map (λ o. unwrap_or o d) (filter is_some (map f ys)) ≡ filter_map f ys
    here [] = refl
    here (y ∷ ys) = by (f y) (here ys)
      where
        by : (o : Option A) → map (λ o. unwrap_or o d) (filter is_some (map f ys)) ≡ filter_map f ys
            → map (λ o. unwrap_or o d) (cond (is_some o) (o ∷ filter is_some (map f ys)) (filter is_some (map f ys))) ≡ cons_option o (filter_map f ys)
        by None rest = rest
        by (Some a) rest = ap (λ others. a ∷ others) rest

    there : (ys : List A) → map (λ o. unwrap_or o d) (filter is_some (map Some ys)) ≡ ys
    there [] = refl
    there (y ∷ ys) = ap (λ others. y ∷ others) (there ys)

pub map_map : {A B C : Type 0} (g : B → C) (f : A → B) (xs : List A) → map g (map f xs) ≡ map (λ x. g (f x)) xs
map_map g f [] = refl
map_map g f (x ∷ xs) = ap (λ others. g (f x) ∷ others) (map_map g f xs)

-- what the rows of a table say, in the order in which they are found
pub table_said : {A : Type 0} (f : Row → Option A) (show : Row → Row) (kept rows : List Row) (items : List A) → IsPermutation (map show kept) rows → map Some items ≡ map f rows
    → IsPermutation (filter_map (λ row. f (show row)) kept) items
table_said f show kept rows items permuted said =
    all_said (λ row. f (show row)) kept items (subst₂ IsPermutation (map_map f show kept) (sym said) (IsPermutation-map f (map show kept) rows permuted))
