-- What a value says is what it was written as: each reading of a column, the other way round.
use Rattle.std.proofs.Common.{◌≡◌, ◌==◌, ℕ, ◌&&◌, Bool, true, false, cond, List, [], ◌∷◌, refl, sym, ◌∙◌, ap, ap₂, subst, pos, negsuc, IsTrue}
use Rattle.std.specs.Prelude.{map, Option, Some, None, IfSome, option_map, option_and_then}
use Rattle.std.specs.List.{AllByRecursion, join_with_byte, list_all}
use Rattle.std.proofs.lemmas.Bool.{eqb-true}
use Rattle.std.proofs.lemmas.List.Splits.{join_with_byte-slice_split}
use Rattle.holddata.specs.Categories.{are_categories}
use Rattle.holddata.specs.Date.{is_date}
use Rattle.holddata.specs.declared.key.Kind.{Kind}
use Rattle.holddata.specs.declared.key.Kind.TheVariants.{ErrorHold, SystemHold, UserHold, FixcatHold}
use Rattle.mcs_reader.specs.Id.{IsId, id_of, is_id_text, padded, text_of}
use Rattle.mcs_reader.proofs.IdFacts.{id_over_blanks, padded_over_blanks}
use Rattle.catalogue.specs.declared.sysmod.SysmodKind.{SysmodKind}
use Rattle.catalogue.specs.declared.sysmod.SysmodKind.TheVariants.{Func, Ptf, Apar, Usermod}
use Rattle.zone_lists.specs.Pattern.{is_pattern}
use Rattle.zone_lists.specs.declared.zones.ZoneState.{ZoneState}
use Rattle.zone_lists.specs.declared.zones.ZoneState.TheVariants.{Applied, Accepted, Superseded}
use Rattle.sqlite_value.specs.declared.value.Value.{Value}
use Rattle.sqlite_value.specs.declared.value.Value.TheVariants.{Null, Int, Real, Text, Blob}
use Rattle.sql_tables.specs.Fit.{AreIds}
use Rattle.sql_tables.specs.Values.{categories_in, categories_of, date_in, date_value, hold_kind_in, hold_kind_value, id_in, id_value, ids_in, ids_of, ids_value, number_in, optional_id_in, optional_id_value, parts_of, patterns_in, patterns_of, state_in, state_value, sysmod_kind_in, sysmod_kind_value, texts_in, texts_value, with_number}
use Rattle.sql_tables.proofs.TextFacts.{text_again}

-- ---- ids

id_padded : (t : List ℕ) → is_id_text t ≡ true → IsId (padded t)
id_padded t is = subst IsId (padded_over_blanks t) (id_over_blanks t t is refl)

-- the id of a text
pub text_said : (t id : List ℕ) → id_of t ≡ Some id → IsId id × (t ≡ text_of id)
text_said t id h = by (is_id_text t) refl h
  where
    by : (b : Bool) → is_id_text t ≡ b → cond b (Some (padded t)) None ≡ Some id → IsId id × (t ≡ text_of id)
    by true is e = let same : padded t ≡ id = cc in (subst IsId same (id_padded t is), sym (text_again t is) ∙ ap text_of same)
    by false is e = cc

pub id_said : (value : Value) (id : List ℕ) → id_in value ≡ Some id → IsId id × (value ≡ id_value id)
id_said (Text t) id h = let said = text_said t id h in (said.0, ap Text said.1)
id_said (Blob b) id h = cc
id_said (Int n) id h = cc
id_said (Real x) id h = cc
id_said Null id h = cc

pub optional_said : (value : Value) (o : Option (List ℕ)) → optional_id_in value ≡ Some o → IfSome o IsId × (value ≡ optional_id_value o)
optional_said (Text []) o h = let same : None ≡ o = cc in subst (λ x. IfSome x IsId × (Text [] ≡ optional_id_value x)) same (tt, refl)
optional_said (Text (b ∷ t)) o h = by (id_of (b ∷ t)) refl h
  where
    by : (found : Option (List ℕ)) → id_of (b ∷ t) ≡ found → option_map Some found ≡ Some o → IfSome o IsId × (Text (b ∷ t) ≡ optional_id_value o)
    by None is e = cc
    by (Some id) is e =
        let said = text_said (b ∷ t) id is in
        let same : Some id ≡ o = cc in subst (λ x. IfSome x IsId × (Text (b ∷ t) ≡ optional_id_value x)) same (said.0, ap Text said.1)
optional_said (Blob b) o h = cc
optional_said (Int n) o h = cc
optional_said (Real x) o h = cc
optional_said Null o h = cc

-- ---- numbers

pub number_said : (value : Value) (n : ℕ) → number_in value ≡ Some n → value ≡ Int (pos n)
number_said (Int (pos m)) n h = let same : m ≡ n = cc in ap (λ x. Int (pos x)) same
number_said (Int (negsuc m)) n h = cc
number_said (Text t) n h = cc
number_said (Blob b) n h = cc
number_said (Real x) n h = cc
number_said Null n h = cc

-- where each entry has the number of its value, so has the one that is found by a number
borne : {X : Type 0} (value_of : X → Value) (entries : List (ℕ × X)) → AllByRecursion (λ entry. Int (pos entry.0) ≡ value_of entry.1) entries → (n : ℕ) (x : X)
    → with_number entries n ≡ Some x → Int (pos n) ≡ value_of x
borne value_of [] all n x h = cc
borne value_of (entry ∷ entries) all n x h = by (n == entry.0) refl h (borne value_of entries all.1 n x)
  where
    by : (b : Bool) → (n == entry.0) ≡ b → cond b (Some entry.1) (with_number entries n) ≡ Some x → (with_number entries n ≡ Some x → Int (pos n) ≡ value_of x) → Int (pos n) ≡ value_of x
    by true is e rest = let same : entry.1 ≡ x = cc in ap (λ m. Int (pos m)) (eqb-true n entry.0 is) ∙ all.0 ∙ ap value_of same
    by false is e rest = rest e

-- what is told by a number, if the value has one
numbered : {X : Type 0} (read : ℕ → Option X) (value : Value) (x : X) → option_and_then read (number_in value) ≡ Some x → (n : ℕ) × (value ≡ Int (pos n)) × (read n ≡ Some x)
numbered read (Int (pos n)) x h = (n, refl, h)
numbered read (Int (negsuc n)) x h = cc
numbered read (Text t) x h = cc
numbered read (Blob b) x h = cc
numbered read (Real r) x h = cc
numbered read Null x h = cc

kind_said : {X : Type 0} (value_of : X → Value) (entries : List (ℕ × X)) → AllByRecursion (λ entry. Int (pos entry.0) ≡ value_of entry.1) entries → (value : Value) (x : X)
    → option_and_then (with_number entries) (number_in value) ≡ Some x → value ≡ value_of x
kind_said value_of entries all value x h = let it = numbered (with_number entries) value x h in it.1 ∙ borne value_of entries all it.0 x it.2

pub sysmod_kind_said : (value : Value) (kind : SysmodKind) → sysmod_kind_in value ≡ Some kind → value ≡ sysmod_kind_value kind
sysmod_kind_said = kind_said sysmod_kind_value ((0, Func) ∷ (1, Ptf) ∷ (2, Apar) ∷ (3, Usermod) ∷ []) (refl, (refl, (refl, (refl, tt))))

pub hold_kind_said : (value : Value) (kind : Kind) → hold_kind_in value ≡ Some kind → value ≡ hold_kind_value kind
hold_kind_said = kind_said hold_kind_value ((0, ErrorHold) ∷ (1, SystemHold) ∷ (2, UserHold) ∷ (3, FixcatHold) ∷ []) (refl, (refl, (refl, (refl, tt))))

pub state_said : (value : Value) (state : ZoneState) → state_in value ≡ Some state → value ≡ state_value state
state_said = kind_said state_value ((0, Applied) ∷ (1, Accepted) ∷ (2, Superseded) ∷ []) (refl, (refl, (refl, tt)))

pub date_said : (value : Value) (date : Option ℕ) → date_in value ≡ Some date → IfSome date (λ number. IsTrue (is_date number)) × (value ≡ date_value date)
date_said (Int (pos n)) date h = by (is_date n) refl h
  where
    by : (b : Bool) → is_date n ≡ b → option_map Some (cond b (Some n) None) ≡ Some date → IfSome date (λ number. IsTrue (is_date number)) × (Int (pos n) ≡ date_value date)
    by true is e = let same : Some n ≡ date = cc in subst (λ x. IfSome x (λ number. IsTrue (is_date number)) × (Int (pos n) ≡ date_value x)) same (is, refl)
    by false is e = cc
date_said (Int (negsuc n)) date h = by (n == 0) refl h
  where
    by : (b : Bool) → (n == 0) ≡ b → cond b (Some None) None ≡ Some date → IfSome date (λ number. IsTrue (is_date number)) × (Int (negsuc n) ≡ date_value date)
    by true is e =
        let same : None ≡ date = cc in
        subst (λ x. IfSome x (λ number. IsTrue (is_date number)) × (Int (negsuc n) ≡ date_value x)) same (tt, ap (λ x. Int (negsuc x)) (eqb-true n 0 is))
    by false is e = cc
date_said (Text t) date h = cc
date_said (Blob b) date h = cc
date_said (Real x) date h = cc
date_said Null date h = cc

-- ---- lists

joined : (t : List ℕ) → join_with_byte 0x2C (parts_of t) ≡ t
joined [] = refl
joined (b ∷ t) = join_with_byte-slice_split 0x2C (b ∷ t)

texts_said : (value : Value) (texts : List (List ℕ)) → texts_in value ≡ Some texts → value ≡ texts_value texts
texts_said (Text t) texts h = let same : parts_of t ≡ texts = cc in ap Text (sym (joined t)) ∙ ap texts_value same
texts_said (Blob b) texts h = cc
texts_said (Int n) texts h = cc
texts_said (Real x) texts h = cc
texts_said Null texts h = cc

-- what is made of the texts of a value, if it has some
listed : {X : Type 0} (read : List (List ℕ) → Option X) (value : Value) (x : X) → option_and_then read (texts_in value) ≡ Some x
    → (texts : List (List ℕ)) × (value ≡ texts_value texts) × (read texts ≡ Some x)
listed read value x h = by (texts_in value) refl h
  where
    by : (o : Option (List (List ℕ))) → texts_in value ≡ o → option_and_then read o ≡ Some x → (texts : List (List ℕ)) × (value ≡ texts_value texts) × (read texts ≡ Some x)
    by None is e = cc
    by (Some texts) is e = (texts, texts_said value texts is, e)

ids_of_said : (texts ids : List (List ℕ)) → ids_of texts ≡ Some ids → AreIds ids × (texts ≡ map text_of ids)
ids_of_said [] ids h = let same : [] ≡ ids = cc in subst (λ x. AreIds x × ([] ≡ map text_of x)) same (tt, refl)
ids_of_said (text ∷ texts) ids h = by (id_of text) (ids_of texts) refl refl h (ids_of_said texts)
  where
    by : (o : Option (List ℕ)) (others : Option (List (List ℕ))) → id_of text ≡ o → ids_of texts ≡ others
        → option_and_then (λ id. option_map (λ more. id ∷ more) others) o ≡ Some ids
        → ((more : List (List ℕ)) → ids_of texts ≡ Some more → AreIds more × (texts ≡ map text_of more)) → AreIds ids × (text ∷ texts ≡ map text_of ids)
    by None others is are e later = cc
    by (Some id) None is are e later = cc
    by (Some id) (Some more) is are e later =
        let first = text_said text id is in
        let rest = later more are in
        let same : id ∷ more ≡ ids = cc in
        subst (λ x. AreIds x × (text ∷ texts ≡ map text_of x)) same ((first.0, rest.0), ap₂ ◌∷◌ first.1 rest.1)

pub ids_said : (value : Value) (ids : List (List ℕ)) → ids_in value ≡ Some ids → AreIds ids × (value ≡ ids_value ids)
ids_said value ids h =
    let it = listed ids_of value ids h in
    let said = ids_of_said it.0 ids it.2 in (said.0, it.1 ∙ ap texts_value said.1)

patterns_of_said : (texts patterns : List (List ℕ)) → patterns_of texts ≡ Some patterns → (list_all is_pattern patterns ≡ true) × (texts ≡ patterns)
patterns_of_said [] patterns h = let same : [] ≡ patterns = cc in subst (λ x. (list_all is_pattern x ≡ true) × ([] ≡ x)) same (refl, refl)
patterns_of_said (text ∷ texts) patterns h = by (is_pattern text) (patterns_of texts) refl refl h (patterns_of_said texts)
  where
    by : (b : Bool) (others : Option (List (List ℕ))) → is_pattern text ≡ b → patterns_of texts ≡ others
        → option_and_then (λ pattern. option_map (λ more. pattern ∷ more) others) (cond b (Some text) None) ≡ Some patterns
        → ((more : List (List ℕ)) → patterns_of texts ≡ Some more → (list_all is_pattern more ≡ true) × (texts ≡ more))
        → (list_all is_pattern patterns ≡ true) × (text ∷ texts ≡ patterns)
    by false others is are e later = cc
    by true None is are e later = cc
    by true (Some more) is are e later =
        let rest = later more are in
        let same : text ∷ more ≡ patterns = cc in
        let whole : list_all is_pattern (text ∷ more) ≡ true = ap₂ (λ x y. x && y) is rest.0 in
        subst (λ x. (list_all is_pattern x ≡ true) × (text ∷ texts ≡ x)) same (whole, ap (λ x. text ∷ x) rest.1)

pub patterns_said : (value : Value) (patterns : List (List ℕ)) → patterns_in value ≡ Some patterns → (list_all is_pattern patterns ≡ true) × (value ≡ texts_value patterns)
patterns_said value patterns h =
    let it = listed patterns_of value patterns h in
    let said = patterns_of_said it.0 patterns it.2 in (said.0, it.1 ∙ ap texts_value said.1)

pub categories_said : (value : Value) (categories : List (List ℕ)) → categories_in value ≡ Some categories → IsTrue (are_categories categories) × (value ≡ texts_value categories)
categories_said value categories h =
    let it = listed categories_of value categories h in by it.0 it.1 (are_categories it.0) refl it.2
  where
    by : (texts : List (List ℕ)) → value ≡ texts_value texts → (b : Bool) → are_categories texts ≡ b → cond b (Some texts) None ≡ Some categories
        → IsTrue (are_categories categories) × (value ≡ texts_value categories)
    by texts at true is e = let same : texts ≡ categories = cc in subst (λ x. IsTrue (are_categories x) × (value ≡ texts_value x)) same (is, at)
    by texts at false is e = cc
