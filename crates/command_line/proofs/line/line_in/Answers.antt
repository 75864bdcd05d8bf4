use Rattle.std.proofs.Common.{◌≡◌, List, Option, Some, arith, option_map, subst}
use Rattle.std.proofs.lemmas.Grind.{common_steps}
use Rattle.clap.specs.Matches.{subcommand_name_of}
use Rattle.clap.specs.Words.{Row, Text, subcommand_rows_of}
use Rattle.clap.specs.declared.parser.matches.ArgMatches.{ArgMatches}
use Rattle.command_line.specs.Wanted.{IsRead, rows_in}
use Rattle.command_line.proofs.line.line_in.Goals as goal

-- the name and the matches of the command that was met, together
met : (matches : ArgMatches) (name : Text) (rows : List Row) → Some name ≡ subcommand_name_of matches
    → Some rows ≡ option_map (λ (found : Text × List Row). found.1) (subcommand_rows_of matches) → Some (name, rows) ≡ subcommand_rows_of matches
met matches name rows is also = grind (arith, common_steps)

pub returns-in-Some : goal.returns-in-Some
returns-in-Some c =
    let name = c.in-Some.name.now in
    let rows = rows_in c.in-Some.found.now in
    subst (λ (found : Option (Text × List Row)). IsRead found c.line_with.result) (met c.args.matches.now name rows c.in-Some.ensures.name c.in-Some.ensures.rows) c.line_with.ensures
