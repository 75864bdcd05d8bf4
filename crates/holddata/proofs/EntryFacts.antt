-- The entries of the book's map, each under the sort key of its hold's key.
use Rattle.std.proofs.Common.{◌≡◌, ◌≢◌, Bool, true, false, List, [], ◌∷◌, ◌++◌, refl, sym, ◌∙◌, ap, subst, cond}
use Rattle.std.proofs.lemmas.List.{reverse-append}
use Rattle.std.specs.Prelude.{ℕ, find, reverse, Option, Some, option_and_then, if◌then◌else◌}
use Rattle.std.specs.declared.cmp.Ordering.{Ordering}
use Rattle.std.specs.declared.cmp.Ordering.TheVariants.{Less, Equal, Greater}
use Rattle.std.specs.declared.ops.Bound.TheVariants.{Included, Excluded}
use Rattle.std.specs.Ordering.{match_ordering}
use Rattle.std.specs.Str.{bytes_eq}
use Rattle.std.specs.List.{filter}
use Rattle.std.specs.List.Sorted.{IsStrictlySortedBy}
use Rattle.std.specs.BTreeMap.{is_at, insert_entry}
use Rattle.std.specs.BTreeMap.Range.{range_contains}
use Rattle.std.specs.Map.{lookup, remove_entry, keys_of, values_of}
use Rattle.holddata.specs.declared.key.HoldKey.{HoldKey}
use Rattle.holddata.specs.declared.hold.Hold.{Hold}
use Rattle.holddata.specs.declared.hold.HoldChange.{HoldChange}
use Rattle.holddata.specs.declared.sort_key.SortKey.{SortKey}
use Rattle.holddata.specs.HoldKey.{is_same_key}
use Rattle.holddata.specs.HoldChange.{key_of, names, hold_put, hold_left}
use Rattle.holddata.specs.HoldBook.{keys_in, hold_under, holds_on, IsChanged, IsLeft, IsInKeyOrder}
use Rattle.holddata.specs.SortKey.{sort_key_of, sort_key_cmp, before_all, after_all, HasSortKeys}
use Rattle.holddata.proofs.KeyFacts.{exact_keys, same_key, itself, differ, others_differ}
use Rattle.holddata.proofs.SortKeyFacts.{at_sort_key, sort_key_order, keys_in_order, around}

pub sort_keys_tail : (e : SortKey × Hold) (es : List (SortKey × Hold)) → HasSortKeys (e ∷ es) → HasSortKeys es
sort_keys_tail e es h = cc

pub sort_keys_head : (e : SortKey × Hold) (es : List (SortKey × Hold)) → HasSortKeys (e ∷ es) → sort_key_of e.1.key ≡ e.0
sort_keys_head e es h = cc

pub sort_keys_cons : (e : SortKey × Hold) (es : List (SortKey × Hold)) → sort_key_of e.1.key ≡ e.0 → HasSortKeys es → HasSortKeys (e ∷ es)
sort_keys_cons e es h g = cc

-- what the map has under the sort key of a key is what the book has under the key
pub hold_under_is : (es : List (SortKey × Hold)) (key : HoldKey) → HasSortKeys es → lookup (is_at (sort_key_cmp (sort_key_of key))) es ≡ hold_under (values_of es) key
hold_under_is [] key h = refl
hold_under_is (e ∷ es) key h =
    let rest = lookup (is_at (sort_key_cmp (sort_key_of key))) es in
    ap (λ sort_key. cond (is_at (sort_key_cmp (sort_key_of key)) sort_key) (Some e.1) rest) (sym (sort_keys_head e es h))
    ∙ ap (λ same. cond same (Some e.1) rest) (at_sort_key key e.1.key)
    ∙ ap (cond (is_same_key key e.1.key) (Some e.1)) (hold_under_is es key (sort_keys_tail e es h))

-- the entries around a SYSMOD are the holds on it
pub holds_between : (es : List (SortKey × Hold)) (sysmod : List ℕ) → HasSortKeys es → values_of (filter (λ (e : SortKey × Hold). range_contains sort_key_cmp (Included (before_all sysmod)) (Excluded (after_all sysmod)) e.0) es) ≡ holds_on (values_of es) sysmod
holds_between [] sysmod h = refl
holds_between (e ∷ es) sysmod h =
    let lies = λ (sort_key : SortKey). range_contains sort_key_cmp (Included (before_all sysmod)) (Excluded (after_all sysmod)) sort_key in
    let rest = filter (λ (x : SortKey × Hold). lies x.0) es in
    values (lies e.0) rest
    ∙ ap (λ sort_key. cond (lies sort_key) (e.1 ∷ values_of rest) (values_of rest)) (sym (sort_keys_head e es h))
    ∙ ap (λ b. cond b (e.1 ∷ values_of rest) (values_of rest)) (around sysmod e.1.key)
    ∙ ap (λ hs. cond (bytes_eq sysmod e.1.key.sysmod) (e.1 ∷ hs) hs) (holds_between es sysmod (sort_keys_tail e es h))
  where
    values : (b : Bool) (fs : List (SortKey × Hold)) → values_of (cond b (e ∷ fs) fs) ≡ cond b (e.1 ∷ values_of fs) (values_of fs)
    values true fs = refl
    values false fs = refl

-- after a put and after a release each hold stands under the sort key of its key still
pub sort_keys_insert : (es : List (SortKey × Hold)) (hold : Hold) → HasSortKeys es → HasSortKeys (insert_entry sort_key_cmp es (sort_key_of hold.key) hold)
sort_keys_insert [] hold h = refl
sort_keys_insert (e ∷ es) hold h = by (sort_keys_insert es hold (sort_keys_tail e es h)) (sort_key_cmp (sort_key_of hold.key) e.0) refl
  where
    same : sort_key_cmp (sort_key_of hold.key) e.0 ≡ Equal → sort_key_of hold.key ≡ e.0
    same is =
        let head = sort_keys_head e es h in
        ap sort_key_of (exact_keys hold.key e.1.key (sym (sort_key_order hold.key e.1.key) ∙ ap (sort_key_cmp (sort_key_of hold.key)) head ∙ is)) ∙ head

    by : HasSortKeys (insert_entry sort_key_cmp es (sort_key_of hold.key) hold) → (o : Ordering) → sort_key_cmp (sort_key_of hold.key) e.0 ≡ o → HasSortKeys (match_ordering o ((sort_key_of hold.key, hold) ∷ e ∷ es) ((e.0, hold) ∷ es) (e ∷ insert_entry sort_key_cmp es (sort_key_of hold.key) hold))
    by rest Less is = sort_keys_cons (sort_key_of hold.key, hold) (e ∷ es) refl h
    by rest Equal is = sort_keys_cons (e.0, hold) es (same is) (sort_keys_tail e es h)
    by rest Greater is = sort_keys_cons e (insert_entry sort_key_cmp es (sort_key_of hold.key) hold) (sort_keys_head e es h) rest

pub sort_keys_remove : (test : SortKey → Bool) (es : List (SortKey × Hold)) → HasSortKeys es → HasSortKeys (remove_entry test es)
sort_keys_remove test [] h = refl
sort_keys_remove test (e ∷ es) h = by (sort_keys_remove test es (sort_keys_tail e es h)) (test e.0)
  where
    by : HasSortKeys (remove_entry test es) → (b : Bool) → HasSortKeys (cond b es (e ∷ remove_entry test es))
    by rest true = sort_keys_tail e es h
    by rest false = sort_keys_cons e (remove_entry test es) (sort_keys_head e es h) rest

-- from what the map has under each sort key to what the book has under each key
pub under_updated : (old new : List (SortKey × Hold)) (key : HoldKey) (left : Option Hold) → HasSortKeys old → HasSortKeys new → ((sort_key : SortKey) → lookup (is_at (sort_key_cmp sort_key)) new ≡ cond (is_at (sort_key_cmp (sort_key_of key)) sort_key) left (lookup (is_at (sort_key_cmp sort_key)) old)) → (other : HoldKey) → hold_under (values_of new) other ≡ (if is_same_key key other then left else hold_under (values_of old) other)
under_updated old new key left was is updates other =
    sym (hold_under_is new other is)
    ∙ updates (sort_key_of other)
    ∙ ap (λ same. cond same left (lookup (is_at (sort_key_cmp (sort_key_of other))) old)) (at_sort_key key other)
    ∙ ap (cond (is_same_key key other) left) (hold_under_is old other was)

-- the holds are in the order of their keys
pub holds_in_order : (es : List (SortKey × Hold)) → HasSortKeys es → IsStrictlySortedBy sort_key_cmp (keys_of es) → IsInKeyOrder (values_of es)
holds_in_order es sort_keys ordered = keys_in_order (keys_in (values_of es)) (subst (IsStrictlySortedBy sort_key_cmp) (sym sort_keys) ordered)

pub is_changed : (old new : List (SortKey × Hold)) (change : HoldChange) → HasSortKeys new → IsStrictlySortedBy sort_key_cmp (keys_of new) → ((key : HoldKey) → hold_under (values_of new) key ≡ (if is_same_key (key_of change) key then hold_put change else hold_under (values_of old) key)) → IsChanged change (values_of old) (values_of new)
is_changed old new change sort_keys ordered updates =
    record {
      in_key_order = holds_in_order new sort_keys ordered;
      named = updates (key_of change) ∙ ap (λ same. cond same (hold_put change) (hold_under (values_of old) (key_of change))) (itself (key_of change));
      others = λ key other. updates key ∙ ap (λ same. cond same (hold_put change) (hold_under (values_of old) key)) (differ (key_of change) key other);
    }

-- the last change decides, where it names the key
pub hold_left_more : (changes : List HoldChange) (change : HoldChange) (key : HoldKey) → hold_left (changes ++ change ∷ []) key ≡ (if names key change then hold_put change else hold_left changes key)
hold_left_more changes change key =
    ap (λ cs. option_and_then hold_put (find (names key) cs)) (reverse-append changes (change ∷ [])) ∙ by (names key change)
  where
    by : (b : Bool) → option_and_then hold_put (cond b (Some change) (find (names key) (reverse changes))) ≡ (if b then hold_put change else hold_left changes key)
    by true = refl
    by false = refl

-- under each key, from what is under the key that a change names and under others
pub under_each : (old new : List Hold) (change : HoldChange) → hold_under new (key_of change) ≡ hold_put change → ((key : HoldKey) → key ≢ key_of change → hold_under new key ≡ hold_under old key) → (key : HoldKey) → hold_under new key ≡ (if names key change then hold_put change else hold_under old key)
under_each old new change named others key = by (names key change) refl
  where
    by : (b : Bool) → names key change ≡ b → hold_under new key ≡ (if b then hold_put change else hold_under old key)
    by true is = ap (hold_under new) (sym (same_key (key_of change) key is)) ∙ named
    by false is = others key (others_differ (key_of change) key is)

-- one more change
pub left_more : (old new : List Hold) (change : HoldChange) → IsInKeyOrder new → ((key : HoldKey) → hold_under new key ≡ (if names key change then hold_put change else hold_under old key)) → (changes : List HoldChange) → IsLeft changes old → IsLeft (changes ++ change ∷ []) new
left_more old new change ordered holds changes left =
    record {
      in_key_order = ordered;
      holds = λ key.
          holds key
          ∙ ap (λ (o : Option Hold). if names key change then hold_put change else o) (left.holds key)
          ∙ sym (hold_left_more changes change key);
    }
