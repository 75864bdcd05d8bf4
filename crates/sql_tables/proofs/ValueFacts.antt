-- What is written is read again.
use Rattle.std.proofs.Common.{◌≡◌, ℕ, Bool, true, false, cond, List, refl, sym, ◌∙◌, ap, IsTrue}
use Rattle.std.specs.Prelude.{Option, Some, None, option_map, unwrap_or}
use Rattle.mcs_reader.specs.Id.{IsId, padded, text_of}
use Rattle.holddata.specs.Date.{is_date}
use Rattle.holddata.specs.declared.key.Kind.{Kind}
use Rattle.holddata.specs.declared.key.Kind.TheVariants.{ErrorHold, SystemHold, UserHold, FixcatHold}
use Rattle.catalogue.specs.Ids.{same_id}
use Rattle.catalogue.specs.declared.sysmod.SysmodKind.{SysmodKind}
use Rattle.catalogue.specs.declared.sysmod.SysmodKind.TheVariants.{Func, Ptf, Apar, Usermod}
use Rattle.catalogue.proofs.IdFacts.{itself, one_id}
use Rattle.zone_lists.specs.declared.zones.ZoneState.{ZoneState}
use Rattle.zone_lists.specs.declared.zones.ZoneState.TheVariants.{Applied, Accepted, Superseded}
use Rattle.sqlite_value.specs.declared.value.Value.{Value}
use Rattle.sql_tables.specs.Stored.{is_named}
use Rattle.sql_tables.specs.Values.{date_in, date_value, hold_kind_in, hold_kind_value, id_in, id_value, state_in, state_value, sysmod_kind_in, sysmod_kind_value}

pub id_again : (id : List ℕ) → IsId id → id_in (id_value id) ≡ Some id
id_again id is = ap (λ b. cond b (Some (padded (text_of id))) None) is.0 ∙ ap Some (sym is.1)

-- ---- which id a value is

pub named_value : (id other : List ℕ) → IsId id → is_named other (id_value id) ≡ same_id id other
named_value id other is = ap (λ found. unwrap_or (option_map (λ x. same_id x other) found) false) (id_again id is)

pub named_itself : (id : List ℕ) → IsId id → is_named id (id_value id) ≡ true
named_itself id is = named_value id id is ∙ itself id

pub named_one : (a b : List ℕ) (value : Value) → is_named a value ≡ true → is_named b value ≡ true → a ≡ b
named_one a b value at is = by (id_in value) at is
  where
    by : (o : Option (List ℕ)) → unwrap_or (option_map (λ x. same_id x a) o) false ≡ true → unwrap_or (option_map (λ x. same_id x b) o) false ≡ true → a ≡ b
    by None at is = cc
    by (Some x) at is = sym (one_id x a at) ∙ one_id x b is

pub named_apart : (a b : List ℕ) (value : Value) → same_id a b ≡ false → is_named a value ≡ true → is_named b value ≡ false
named_apart a b value other at = by (is_named b value) refl
  where
    by : (c : Bool) → is_named b value ≡ c → is_named b value ≡ false
    by true is = let e : same_id a b ≡ true = ap (same_id a) (sym (named_one a b value at is)) ∙ itself a in cc
    by false is = is

-- ---- kinds, states and dates

pub sysmod_kind_again : (kind : SysmodKind) → sysmod_kind_in (sysmod_kind_value kind) ≡ Some kind
sysmod_kind_again Func = refl
sysmod_kind_again Ptf = refl
sysmod_kind_again Apar = refl
sysmod_kind_again Usermod = refl

pub hold_kind_again : (kind : Kind) → hold_kind_in (hold_kind_value kind) ≡ Some kind
hold_kind_again ErrorHold = refl
hold_kind_again SystemHold = refl
hold_kind_again UserHold = refl
hold_kind_again FixcatHold = refl

pub state_again : (state : ZoneState) → state_in (state_value state) ≡ Some state
state_again Applied = refl
state_again Accepted = refl
state_again Superseded = refl

pub no_date_again : date_in (date_value None) ≡ Some None
no_date_again = refl

pub date_again : (number : ℕ) → IsTrue (is_date number) → date_in (date_value (Some number)) ≡ Some (Some number)
date_again number is = ap (λ b. option_map Some (cond b (Some number) None)) is
