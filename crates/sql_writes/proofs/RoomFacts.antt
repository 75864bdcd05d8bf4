-- Why the statement is refused that inserts a row of one of the bureau's tables.
use Rattle.std.proofs.Common.{sym, ◌≡◌, ◌≤◌, ◌<◌, ℕ, ℤ, pos, negsuc, false, true, List, [], ◌∷◌, Option, None, Some, Result, length, refl, ◌∙◌, ap, subst, arith}
use Rattle.std.specs.Prelude.{IfSome}
use Rattle.std.specs.List.{list_any}
use Rattle.std.proofs.lemmas.Bool.Decides.{nat_tests}
use Rattle.holddata.specs.HoldKey.{kind_order}
use Rattle.holddata.specs.declared.hold.Hold.{Hold}
use Rattle.mcs_reader.specs.Id.{IsId, text_of}
use Rattle.bureau_store.specs.Tables.{LastChange}
use Rattle.sqlite.specs.Order.{Row}
use Rattle.sqlite.specs.State.{HasCleanDisk, State}
use Rattle.sqlite.specs.Values.{bound, bound_value}
use Rattle.sqlite.specs.declared.error.Error.{Error}
use Rattle.sqlite.specs.declared.types.Value.{Value}
use Rattle.sqlite.specs.declared.types.Value.TheVariants.{Blob, Int, Text}
use Rattle.sqlite_value.specs.Value.{owned}
use Rattle.sqlite_value.specs.declared.value.ValueRef.{ValueRef}
use Rattle.sql_texts.specs.Meaning.{Means}
use Rattle.sql_texts.specs.Schema as schema
use Rattle.sql_texts.specs.Schema.{bureau}
use Rattle.sql_texts.specs.Writes.{insert_given}
use Rattle.sql_tables.specs.Changes.{is_under}
use Rattle.sql_tables.specs.Fit.{IsHold}
use Rattle.sql_tables.specs.Rows.{change_row}
use Rattle.sql_tables.specs.Stored.{is_of}
use Rattle.sql_tables.specs.Values.{date_value, hold_kind_value, id_value, optional_id_value, texts_value}
use Rattle.sql_writes.specs.Excused.{Takes}
use Rattle.sql_writes.specs.Room.{are_short, is_short}
use Rattle.sql_rows.specs.Running.{FailsInside, Ran}
use Rattle.sql_rows.proofs.AbsentFacts.{unique_by, unique_hold}
use Rattle.sql_rows.proofs.FittingFacts.{above_passes, few, kind_low, row_fits, up_to_passes}
use Rattle.sql_writes.proofs.StepFacts.{comes_takes}

-- ---- lengths and numbers

pub short_enough : (text : List ℕ) → is_short text ≡ true → length text ≤ 300000000
short_enough text is = grind (arith, nat_tests)

pub text_short : (a b : List ℕ) → ◌≡◌ {A = Value} (Text a) (Text b) → is_short b ≡ true → length a ≤ 300000000
text_short a b same short = let one : a ≡ b = cc in subst (λ text. length text ≤ 300000000) (sym one) (short_enough b short)

-- ---- what may be absent

abbrev optional_text : Option (List ℕ) → List ℕ
optional_text None = []
optional_text (Some id) = text_of id

optional_few : (id : Option (List ℕ)) → IfSome id IsId → length (optional_text id) ≤ 7
optional_few None is = omega arith
optional_few (Some id) is = few id is

bound_optional : (id : Option (List ℕ)) → bound_value (optional_id_value id) ≡ Text (optional_text id)
bound_optional None = refl
bound_optional (Some id) = refl

abbrev date_number : Option ℕ → ℤ
date_number None = negsuc 0
date_number (Some number) = pos number

bound_date : (date : Option ℕ) → bound_value (date_value date) ≡ Int (date_number date)
bound_date None = refl
bound_date (Some number) = refl

-- ---- one row each

module _ (old new : State) (text : List ℕ) (result : Result (Unit {0}) Error) where
  pub last_takes : (name : List ℕ) (last : LastChange) (a b c : ValueRef) → IsId name → owned a ≡ id_value name → owned b ≡ Int (pos last.number) → owned c ≡ Blob last.reply
      → (HasCleanDisk old → Means bureau text (insert_given 2 3) 3) → Ran text (bound (a ∷ b ∷ c ∷ [])) old new result → FailsInside text (bound (a ∷ b ∷ c ∷ [])) old new result
      → 0 < last.number → is_short last.reply ≡ true → Takes old new result 1 (λ stored. list_any (is_of name) stored.changes ≡ false)
  last_takes name last a b c is at_a at_b at_c means ran fails some short =
      let given : bound (a ∷ b ∷ c ∷ []) ≡ change_row name last = λ i. bound_value (at_a i) ∷ bound_value (at_b i) ∷ bound_value (at_c i) ∷ [] in
      comes_takes text old new result 2 schema.last_change refl (λ database known. known.numbered.1.1.0) (λ most trees low. low.1.1.0) 3 (change_row name last) (λ stored. list_any (is_of name) stored.changes ≡ false)
      means refl refl refl refl
      (row_fits schema.last_change (7 ∷ 0 ∷ 300000000 ∷ []) (change_row name last) refl (λ n. refl) (λ n. above_passes last.number some) (few name is, (tt, (short_enough last.reply short, tt))))
      (λ database known none. unique_by schema.last_change database.trees (database.trees 4) name [] (change_row name last) refl ((is, refl), tt) none)
      (subst (λ row. Ran text row old new result) given ran) (subst (λ row. FailsInside text row old new result) given fails)

  pub hold_takes : (hold : Hold) (a b c d e f h k : ValueRef) → owned a ≡ id_value hold.key.sysmod → owned b ≡ hold_kind_value hold.key.kind → owned c ≡ id_value hold.key.reason → owned d ≡ optional_id_value hold.fmid → owned e ≡ optional_id_value hold.class → owned f ≡ date_value hold.dated → owned h ≡ optional_id_value hold.resolver → owned k ≡ texts_value hold.categories
      → (HasCleanDisk old → Means bureau text (insert_given 5 8) 8) → Ran text (bound (a ∷ b ∷ c ∷ d ∷ e ∷ f ∷ h ∷ k ∷ [])) old new result → FailsInside text (bound (a ∷ b ∷ c ∷ d ∷ e ∷ f ∷ h ∷ k ∷ [])) old new result
      → IsHold hold → are_short hold.categories ≡ true → Takes old new result 1 (λ stored. list_any (is_under hold.key) stored.holds ≡ false)
  hold_takes hold a b c d e f h k at_a at_b at_c at_d at_e at_f at_h at_k means ran fails is short =
      let rest : Row = Text (optional_text hold.fmid) ∷ Text (optional_text hold.class) ∷ Int (date_number hold.dated) ∷ Text (optional_text hold.resolver) ∷ texts_value hold.categories ∷ [] in
      let values : Row = id_value hold.key.sysmod ∷ hold_kind_value hold.key.kind ∷ id_value hold.key.reason ∷ rest in
      let given : bound (a ∷ b ∷ c ∷ d ∷ e ∷ f ∷ h ∷ k ∷ []) ≡ values = λ i. bound_value (at_a i) ∷ bound_value (at_b i) ∷ bound_value (at_c i) ∷ (ap bound_value at_d ∙ bound_optional hold.fmid) i ∷ (ap bound_value at_e ∙ bound_optional hold.class) i ∷ (ap bound_value at_f ∙ bound_date hold.dated) i ∷ (ap bound_value at_h ∙ bound_optional hold.resolver) i ∷ bound_value (at_k i) ∷ [] in
      comes_takes text old new result 5 schema.hold_row refl (λ database known. known.numbered.1.1.1.1.1.0) (λ most trees low. low.1.1.1.1.1.0) 8 values (λ stored. list_any (is_under hold.key) stored.holds ≡ false)
      means refl refl refl refl
      (row_fits schema.hold_row (7 ∷ 0 ∷ 7 ∷ 7 ∷ 7 ∷ 0 ∷ 7 ∷ 300000000 ∷ []) values refl (λ n. refl) (λ n. up_to_passes (kind_order hold.key.kind) 3 (kind_low hold.key.kind))
      (few hold.key.sysmod is.sysmod, (tt, (few hold.key.reason is.reason, (optional_few hold.fmid is.fmid, (optional_few hold.class is.class, (tt, (optional_few hold.resolver is.resolver, (short_enough _ short, tt)))))))))
      (λ database known none. unique_hold database known hold.key rest is.sysmod is.reason none)
      (subst (λ row. Ran text row old new result) given ran) (subst (λ row. FailsInside text row old new result) given fails)
