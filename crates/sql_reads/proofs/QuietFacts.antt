-- A text that reads the bureau's tables writes nothing under any schema.
use Rattle.std.proofs.Common.{◌≡◌, ◌==◌, ◌⊎◌, ℕ, Bool, true, false, cond, List, [], ◌∷◌, length, refl, sym, ◌∙◌, ap, arith, inl, inr, Ok, Err, Some, None}
use Rattle.std.specs.Prelude.{Option}
use Rattle.std.proofs.lemmas.Bool.Decides.{nat_tests}
use Rattle.sqlite_ast.specs.declared.Shown.{Shown as WrittenShown}
use Rattle.sqlite_ast.specs.declared.Statement.{Statement}
use Rattle.sqlite_ast.specs.declared.Statement.TheVariants as written
use Rattle.sqlite_syntax.specs.declared.statement.Parsed.{Parsed}
use Rattle.sqlite_schema.specs.declared.command.Command.{Command}
use Rattle.sqlite_schema.specs.declared.command.Returning.{Returning}
use Rattle.sqlite_schema.specs.declared.schema.Schema.{Schema}
use Rattle.sqlite_resolve.specs.Body.{table_at}
use Rattle.sqlite_resolve.specs.Compile.{compiled, first, meaning, planned, returning, shows, source_of, target}
use Rattle.sqlite_resolve.specs.Given.{returned}
use Rattle.sqlite_resolve.specs.declared.error.CompileError.TheVariants.{NoSuchTable}
use Rattle.sqlite_resolve.specs.Lowering.{Checked, and_then}
use Rattle.sqlite_resolve.specs.Scope.{Name}
use Rattle.sqlite_resolve.specs.declared.compiled.Compiled.{Compiled}
use Rattle.sqlite.specs.Listing.{if_select, is_select, listing_schema, reads_listing, understood}
use Rattle.sql_texts.specs.Meaning.{Reads, selection, statement}
use Rattle.sql_texts.specs.Schema.{bureau}
use Rattle.sqlite.specs.Query.{Query}

-- what follows a first part that gave something
parts : {A B : Type 0} (first : Checked A) (next : A → Checked B) (b : B) → and_then first next ≡ Ok b → (a : A) × (first ≡ Ok a) × (next a ≡ Ok b)
parts (Ok a) next b h = (a, refl, h)
parts (Err e) next b h = cc

-- what a statement shows of what it writes
abbrev shown_by : Statement → List WrittenShown
shown_by (written.Insert how name columns rows clauses shown) = shown
shown_by (written.Update name sets test shown) = shown
shown_by (written.Delete name test shown) = shown
shown_by _ = []

shows_nothing : (schema : Schema) (base : ℕ) (name : Name) (shown : List WrittenShown) (o : Option Returning) → (length shown == 0) ≡ true → shows schema base name shown ≡ Ok o → o ≡ None
unfolding shows
shows_nothing schema base name [] o none h = cc
shows_nothing schema base name (s ∷ shown) o none h = cc

never_none : {A : Type 0} (first : Checked A) (next : A → Returning) → and_then first (λ a. Ok (Some (next a))) ≡ Ok None → ⊥
never_none (Ok a) next h = cc
never_none (Err e) next h = cc

through_none : {A : Type 0} (first : Checked A) (next : A → Checked (Option Returning)) → ((a : A) → next a ≡ Ok None → ⊥) → and_then first next ≡ Ok None → ⊥
through_none (Ok a) next never h = never a h
through_none (Err e) next never h = cc

off : {A : Type 0} (b : Bool) (x y : A) → b ≡ false → y ≡ cond b x y
off true x y h = cc
off false x y h = refl

nothing_shown : (schema : Schema) (base : ℕ) (name : Name) (shown : List WrittenShown) → shows schema base name shown ≡ Ok None → (length shown == 0) ≡ true
unfolding shows
nothing_shown schema base name [] h = refl
nothing_shown schema base name (s ∷ shown) h =
    let some : (length (s ∷ shown) == 0) ≡ false = grind (arith, nat_tests) in
    absurd (through_none (target schema name) _ (λ at. through_none (table_at schema at) _ (λ table. through_none (returned schema table base (s ∷ shown)) _
    (λ r. never_none (source_of schema (length r.0) r.1) (λ row. record { names = r.0; row = row })))) (off (length (s ∷ shown) == 0) (Ok None) _ some ∙ h))

statement_quiet : (schema : Schema) (base : ℕ) (s : Statement) (o : Option Returning) → (length (shown_by s) == 0) ≡ true → returning schema base s ≡ Ok o → o ≡ None
unfolding returning
statement_quiet schema base (written.Insert how name columns rows clauses shown) o none h = shows_nothing schema base name shown o none h
statement_quiet schema base (written.Update name sets test shown) o none h = shows_nothing schema base name shown o none h
statement_quiet schema base (written.Delete name test shown) o none h = shows_nothing schema base name shown o none h
statement_quiet schema base _ o none h = cc

quiet_statement : (schema : Schema) (base : ℕ) (s : Statement) → returning schema base s ≡ Ok None → (length (shown_by s) == 0) ≡ true
unfolding returning
quiet_statement schema base (written.Insert how name columns rows clauses shown) h = nothing_shown schema base name shown h
quiet_statement schema base (written.Update name sets test shown) h = nothing_shown schema base name shown h
quiet_statement schema base (written.Delete name test shown) h = nothing_shown schema base name shown h
quiet_statement schema base _ h = refl

abbrev of_meaning : Checked (Command × Option Returning) → Option Returning
of_meaning (Ok x) = x.1
of_meaning (Err e) = None

said_last : (command : Checked Command) (shown : Option Returning) (found : Command × Option Returning)
    → ◌≡◌ {A = Checked (Command × Option Returning)} (and_then command (λ c. Ok (c, shown))) (Ok found) → shown ≡ found.1
said_last (Ok c) shown found h = ap of_meaning h
said_last (Err e) shown found h = cc

abbrev of_plan : Checked (List Name × (Command × Option Returning)) → Option Returning
of_plan (Ok x) = x.1.1
of_plan (Err e) = None

abbrev of_compiled : Checked Compiled → Option Returning
of_compiled (Ok c) = c.returning
of_compiled (Err e) = None

-- a text is parsed before any schema is looked at
compiled_parts : (schema : Schema) (text : List ℕ) (c : Compiled) → compiled schema text ≡ Ok c
    → (p : Parsed) × (first text ≡ Ok p) × (base : ℕ) × (returning schema base p.statement ≡ Ok c.returning)
unfolding compiled planned meaning
compiled_parts schema text c h =
    let p = parts (first text) _ c h in
    let plan = parts _ _ c p.2 in
    let found = parts _ _ plan.0 plan.1 in
    let shown = parts _ _ found.0 found.1 in
    (p.0, p.1, _, shown.1 ∙ ap Ok (said_last _ shown.0 found.0 shown.2 ∙ ap of_plan found.2 ∙ ap of_compiled plan.2))

never_shows : (schema : Schema) (text : List ℕ) (p : Parsed) → first text ≡ Ok p → (length (shown_by p.statement) == 0) ≡ true → (c : Compiled) → compiled schema text ≡ Ok c → c.returning ≡ None
never_shows schema text p parsed quiet c h =
    let its = compiled_parts schema text c h in
    let same : its.0 ≡ p = ok_same its.0 p (sym its.1 ∙ parsed) in
    statement_quiet schema its.2 its.0.statement c.returning (ap (λ (q : Parsed). length (shown_by q.statement) == 0) same ∙ quiet) its.3
  where
    ok_same : (a b : Parsed) → ◌≡◌ {A = Checked Parsed} (Ok a) (Ok b) → a ≡ b
    ok_same a b e = cc

selected : (r : Checked Compiled) (c : Compiled) → if_select r ≡ Ok c → r ≡ Ok c
selected (Ok found) c e = kept found c (is_select found.command) e
  where
    kept : (x y : Compiled) (b : Bool) → ◌≡◌ {A = Checked Compiled} (cond b (Ok x) (Err NoSuchTable)) (Ok y) → ◌≡◌ {A = Checked Compiled} (Ok x) (Ok y)
    kept x y true h = h
    kept x y false h = cc
selected (Err x) c e = cc

-- what is understood of a text, under a schema or of the list of its tables
compiled_somewhere : (schema : Schema) (text : List ℕ) (c : Compiled) → understood schema text ≡ Ok c → (compiled schema text ≡ Ok c) ⊎ (compiled listing_schema text ≡ Ok c)
unfolding understood
compiled_somewhere schema text c h = by (reads_listing schema text) h
  where
    by : (b : Bool) → cond b (if_select (compiled listing_schema text)) (compiled schema text) ≡ Ok c → (compiled schema text ≡ Ok c) ⊎ (compiled listing_schema text ≡ Ok c)
    by true e = inr (selected (compiled listing_schema text) c e)
    by false e = inl e

bureau_compiles : (text : List ℕ) (query : Query) (names : List (List ℕ)) (parameters : ℕ) → Reads bureau text query names parameters
    → compiled bureau text ≡ Ok (statement (selection query names) parameters text)
unfolding understood
bureau_compiles text query names parameters reads =
    sym (ap (λ b. cond b (if_select (compiled listing_schema text)) (compiled bureau text)) reads.unlisted) ∙ reads.statement

pub quiet : (text : List ℕ) (query : Query) (names : List (List ℕ)) (parameters : ℕ) → Reads bureau text query names parameters
    → (schema : Schema) (c : Compiled) → understood schema text ≡ Ok c → c.returning ≡ None
quiet text query names parameters reads schema c h =
    let plain : (q : Compiled) × (compiled bureau text ≡ Ok q) × (q.returning ≡ None) =
    (statement (selection query names) parameters text, bureau_compiles text query names parameters reads, refl) in
    let its = compiled_parts bureau text plain.0 plain.1 in
    let silent = quiet_statement bureau its.2 its.0.statement (its.3 ∙ ap Ok plain.2) in
    elim (compiled_somewhere schema text c h) [
      | inl e ↦ never_shows schema text its.0 its.1 silent c e
      | inr e ↦ never_shows listing_schema text its.0 its.1 silent c e
    ]
