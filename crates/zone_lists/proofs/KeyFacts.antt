-- A set of the entries of a list of one column.
use Rattle.std.proofs.Common.{◌≡◌, ℕ, ◌∙◌, ◌↔◌, false, List, [], ◌∷◌, ◌++◌, Ok, refl, sym, ap}
use Rattle.std.specs.BTreeSet.{insert_key}
use Rattle.std.specs.Cmp.Lexicographic.{slice_cmp}
use Rattle.std.specs.List.{Contains, list_any}
use Rattle.std.specs.Ordering.{is_eq, nat_cmp}
use Rattle.std.specs.declared.cmp.Ordering.TheVariants.{Equal}
use Rattle.std.proofs.lemmas.Map.Text.{is_eq-slice_cmp}
use Rattle.std.proofs.lemmas.Slice.Eq.{bytes_eq-Decides}
use Rattle.zone_lists.specs.Fields.{Record}
use Rattle.zone_lists.specs.Lists.{IsListed, ListKind, answer, in_order, never}
use Rattle.zone_lists.specs.PatternList.{pattern_list}
use Rattle.zone_lists.specs.ReceivedList.{received_list}
use Rattle.zone_lists.proofs.EachFacts.{each}
use Rattle.zone_lists.proofs.ListFacts.{in_order_more}

pub calm : {Entry : Type 0} (entry : Entry) (came : List Entry) → list_any (never entry) came ≡ false
calm entry [] = refl
calm entry (x ∷ xs) = calm entry xs

-- one more entry, put into a set in order
pub key_added : (kind : ListKind (List ℕ)) (came keys keys2 : List (List ℕ)) (key : List ℕ) → keys ≡ in_order kind came → keys2 ≡ insert_key kind.order keys key
    → keys2 ≡ in_order kind (came ++ key ∷ [])
key_added kind came keys keys2 key listed added = added ∙ ap (λ entries. insert_key kind.order entries key) listed ∙ sym (in_order_more kind came key)

-- ---- keys as entries of a list

keys_exact : (a b : List ℕ) → slice_cmp nat_cmp a b ≡ Equal → b ≡ a
keys_exact a b at = sym ((bytes_eq-Decides a b).0 (sym (is_eq-slice_cmp a b) ∙ ap is_eq at))

pub each_received : (records : List Record) (ids : List (List ℕ)) → answer received_list records ≡ Ok ids → (id : List ℕ) → Contains ids id ↔ IsListed received_list records id
each_received records ids answers id =
    each received_list (λ a b at calm. keys_exact a b at) records ids answers id

pub each_pattern : (records : List Record) (texts : List (List ℕ)) → answer pattern_list records ≡ Ok texts → (text : List ℕ) → Contains texts text ↔ IsListed pattern_list records text
each_pattern records texts answers text =
    each pattern_list (λ a b at calm. keys_exact a b at) records texts answers text
