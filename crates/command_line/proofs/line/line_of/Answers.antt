use Rattle.std.proofs.Common.{◌≡◌, ◌≢◌, [], ◌∷◌, List, Option, inl, inr, refl, true, ap, ◌∙◌, sym, Result, Ok, Err, IfErr, IfOk, OnOk, map, string_bytes, subst}
use Rattle.clap.specs.Words.{App, HasKind, HasMatchesOf, Kinds, Row, Text, fault_of, is_simple, kind_of, subcommand_of, subcommand_rows_of}
use Rattle.clap.specs.declared.error.Error.{Error}
use Rattle.clap.specs.declared.error.kind.ErrorKind.TheVariants as kind
use Rattle.clap.specs.Faults.{is_simple_and_free}
use Rattle.clap.proofs.OnLiterals.{clap_on_literals}
use Rattle.faults.specs.Refusal.{IsRefusal}
use Rattle.command_line.specs.Line.{IsLineIn, IsLineOf, bureau_app}
use Rattle.command_line.specs.Wanted.{IsRead}
use Rattle.command_line.specs.declared.line.Line.{Line}
use Rattle.command_line.specs.declared.line.LineFault.{LineFault}
use Rattle.command_line.specs.declared.line.LineFault.TheVariants.{Memory}
use Rattle.command_line.proofs.LineFacts.{one_line}
use Rattle.command_line.proofs.line.line_of.Goals as goal

-- clap defines both outcomes of the commands that there are
is_defined : is_simple_and_free bureau_app ≡ true
unfolding clap_on_literals
is_defined = refl

is_clear : is_simple bureau_app ≡ true
unfolding clap_on_literals
is_clear = refl

on_any : {T E P : Type 0} (outcome : Result T E) → P → OnOk outcome P
on_any (Ok _) fact = fact
on_any (Err _) fact = tt

-- the line that the matches have is that of the words
line_found : (result : Result Line LineFault) (met asked : Option (Text × List Row)) → met ≡ asked
    → IsRead met result → IfOk result (λ line. IsLineIn asked line)
line_found (Ok found) met asked same is = subst (λ rows. IsLineIn rows found) same is
line_found (Err fault) met asked same is = tt

pub returns-in-Ok-clause-line : goal.returns-in-Ok-clause-line
returns-in-Ok-clause-line c =
    let words = map string_bytes c.args.words.now in
    let app = c.in_ok-command.ensures in
    let found = subst (λ (app : App). HasMatchesOf app words c.in-Ok.matches) app c.in-Ok.ensures.matches in
    line_found c.line_in.result (subcommand_rows_of c.in-Ok.matches) (subcommand_of bureau_app words) (found is_clear).1 c.line_in.ensures

pub returns-in-Ok-clause-understood : goal.returns-in-Ok-clause-understood
returns-in-Ok-clause-understood c =
    let app = c.in_ok-command.ensures in
    let none = c.in-Ok.ensures.kinds (ap is_simple_and_free app ∙ is_defined) in
    on_any c.line_in.result (subst (λ (app : App). fault_of app (map string_bytes c.args.words.now) ≡ []) app none)

pub returns-in-Ok-clause-one_line : goal.returns-in-Ok-clause-one_line
returns-in-Ok-clause-one_line c = one_line (map string_bytes c.args.words.now)

pub returns-in-Err-clause-one_line : goal.returns-in-Err-clause-one_line
returns-in-Err-clause-one_line c = one_line (map string_bytes c.args.words.now)

pub returns-in_err-command-clause-one_line : goal.returns-in_err-command-clause-one_line
returns-in_err-command-clause-one_line c = one_line (map string_bytes c.args.words.now)

refused_line : (Is : Line → Type 0) (kinds : Kinds) (error : Error) (result : LineFault) → HasKind kinds error → (kind_of error ≡ kind.OutOfMemory → result ≡ Memory)
    → IsRefusal Memory (λ (_ : LineFault). (line : Line) → Is line → kinds ≢ []) result
refused_line Is kinds error result (inl memory) told = inl (told memory)
refused_line Is [] error result (inr among) told = inr (λ line is none. among)
refused_line Is (k ∷ kinds) error result (inr among) told = inr (λ line is none. cc)

-- matches that are no line's come from words that are none
no_line : (result : Result Line LineFault) (met asked : Option (Text × List Row)) (kinds : Kinds) → met ≡ asked
    → IsRead met result → IfErr result (IsRefusal Memory (λ _. (line : Line) → IsLineIn asked line → kinds ≢ []))
no_line (Ok found) met asked kinds same none = tt
no_line (Err fault) met asked kinds same (inl memory) = inl memory
no_line (Err fault) met asked kinds same (inr none) = inr (λ line is. absurd (none line (subst (λ rows. IsLineIn rows line) (sym same) is)))

pub returns-in-Ok-clause-refused : goal.returns-in-Ok-clause-refused
returns-in-Ok-clause-refused c =
    let words = map string_bytes c.args.words.now in
    let app = c.in_ok-command.ensures in
    let found = subst (λ (app : App). HasMatchesOf app words c.in-Ok.matches) app c.in-Ok.ensures.matches in
    no_line c.line_in.result (subcommand_rows_of c.in-Ok.matches) (subcommand_of bureau_app words) (fault_of bureau_app words) (found is_clear).1 c.line_in.ensures

pub returns-in-Err-clause-refused : goal.returns-in-Err-clause-refused
returns-in-Err-clause-refused c =
    let words = map string_bytes c.args.words.now in
    let app = c.in_ok-command.ensures in
    let kinds = c.in-Err.ensures.kinds (ap is_simple_and_free app ∙ is_defined) in
    refused_line (IsLineOf words) (fault_of bureau_app words) c.in-Err.error c.told.result (subst (λ (app : App). HasKind (fault_of app words) c.in-Err.error) app kinds) c.told.ensures
