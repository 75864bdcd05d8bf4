use Rattle.std.proofs.Common.{rules, ◌≡◌, List, Ok, ℕ, refl, subst, sym, string_bytes}
use Rattle.std.proofs.KnownBytes.{Keeps-refl}
use Rattle.sqlite_wal.specs.Files.{image_at}
use Rattle.command_line.specs.declared.line.Line.TheVariants.{Callers, Check, Init, Migrate, Serve}
use Rattle.bureau_program.specs.Program.{Found, IsAnswered, IsServe, found_in}
use Rattle.run_parts.specs.Outputs.{Outputs, outputs_of}
use Rattle.bureau_program.specs.declared.serving.Service.{Service}
use Rattle.store_runs.specs.Checking.{IsCheck}
use Rattle.store_runs.specs.NamedStore.{IsMigrate}
use Rattle.store_runs.proofs.CallersFacts.{same_callers_run}
use Rattle.store_runs.proofs.DeskFacts.{same_init}
use Rattle.bureau_program.proofs.program.answer.Goals as goal

pub returns-in-Ok-Init : goal.returns-in-Ok-Init
returns-in-Ok-Init g c =
    let at = c.args.surroundings.now in
    let of : Found = found_in (g.S.Files.known_file at) (g.T.Stores.asked c.args.stores.now) (g.T.Stores.asked c.do_init.new.stores) (g.S.Surroundings.known_port at) (g.S.Rounds.is_over at) (g.S.Rounds.log at) (g.S.Rounds.log at) in
    let input = g.I.Read.remaining c.args.input.now in
    let outputs : Outputs =
    outputs_of g.O.Write.contents g.E.Write.contents c.args.output.now c.do_init.new.output c.args.errors.now c.do_init.new.errors in
    let is : c.args.line.now ≡ Ok (Init c.in-Ok-Init.store c.in-Ok-Init.callers c.in-Ok-Init.sums) = search rules in
    subst (λ line. IsAnswered of (image_at g.D.Start) line input input outputs c.do_init.result.0 c.do_init.result.1) (sym is) (
      Keeps-refl input,
      refl,
      same_init of.files of.asked of.asked_after (image_at g.D.Start) c.do_init.result.1 c.in-Ok-Init.sums (string_bytes c.in-Ok-Init.store) c.as_str-store.result.now (string_bytes c.in-Ok-Init.callers) c.as_str-callers-in-Ok-Init.result.now
          outputs c.do_init.result.0 c.as_str-store.ensures.value c.as_str-callers-in-Ok-Init.ensures.value c.do_init.ensures,
    )

pub returns-in-Ok-Serve : goal.returns-in-Ok-Serve
returns-in-Ok-Serve g c =
    let at = c.args.surroundings.now in
    let of : Found = found_in (g.S.Files.known_file at) (g.T.Stores.asked c.args.stores.now) (g.T.Stores.asked c.run_serve.new.stores) (g.S.Surroundings.known_port at) (g.S.Rounds.is_over c.run_serve.new.surroundings) (g.S.Rounds.log at) (g.S.Rounds.log c.run_serve.new.surroundings) in
    let input = g.I.Read.remaining c.args.input.now in
    let service : Service = record { port = c.in-Ok-Serve.port; cache = c.in-Ok-Serve.cache; connections = c.in-Ok-Serve.connections; most_open = c.in-Ok-Serve.most_open; memory = c.in-Ok-Serve.memory; log = c.in-Ok-Serve.log } in
    let outputs : Outputs =
    outputs_of g.O.Write.contents g.E.Write.contents c.args.output.now c.run_serve.new.writer c.args.errors.now c.run_serve.new.errors in
    let is : c.args.line.now ≡ Ok (Serve c.in-Ok-Serve.port c.in-Ok-Serve.cache c.in-Ok-Serve.connections c.in-Ok-Serve.most_open c.in-Ok-Serve.memory c.in-Ok-Serve.log c.in-Ok-Serve.store) = search rules in
    subst (λ line. IsAnswered of (image_at g.D.Start) line input input outputs c.run_serve.result.0 c.run_serve.result.1) (sym is) (
      Keeps-refl input,
      subst (λ (name : List ℕ). IsServe of (image_at g.D.Start) service name outputs c.run_serve.result.0 c.run_serve.result.1) c.as_str-store-in-Ok-Serve.ensures.value c.run_serve.ensures,
    )

pub returns-in-Ok-Migrate : goal.returns-in-Ok-Migrate
returns-in-Ok-Migrate g c =
    let at = c.args.surroundings.now in
    let of : Found = found_in (g.S.Files.known_file at) (g.T.Stores.asked c.args.stores.now) (g.T.Stores.asked c.migrate_file.new.stores) (g.S.Surroundings.known_port at) (g.S.Rounds.is_over at) (g.S.Rounds.log at) (g.S.Rounds.log at) in
    let input = g.I.Read.remaining c.args.input.now in
    let outputs : Outputs =
    outputs_of g.O.Write.contents g.E.Write.contents c.args.output.now c.migrate_file.new.writer c.args.errors.now c.migrate_file.new.errors in
    let is : c.args.line.now ≡ Ok (Migrate c.in-Ok-Migrate.store) = search rules in
    subst (λ line. IsAnswered of (image_at g.D.Start) line input input outputs c.migrate_file.result.0 c.migrate_file.result.1) (sym is) (
      Keeps-refl input,
      refl,
      subst (λ (name : List ℕ). IsMigrate of.asked of.asked_after (image_at g.D.Start) name outputs c.migrate_file.result.0 c.migrate_file.result.1) c.as_str-in-Ok-Migrate.ensures.value c.migrate_file.ensures,
    )

pub returns-in-Ok-Check : goal.returns-in-Ok-Check
returns-in-Ok-Check g c =
    let at = c.args.surroundings.now in
    let of : Found = found_in (g.S.Files.known_file at) (g.T.Stores.asked c.args.stores.now) (g.T.Stores.asked c.check_file.new.stores) (g.S.Surroundings.known_port at) (g.S.Rounds.is_over at) (g.S.Rounds.log at) (g.S.Rounds.log at) in
    let input = g.I.Read.remaining c.args.input.now in
    let outputs : Outputs =
    outputs_of g.O.Write.contents g.E.Write.contents c.args.output.now c.check_file.new.writer c.args.errors.now c.check_file.new.errors in
    let is : c.args.line.now ≡ Ok (Check c.in-Ok-Check.store c.in-Ok-Check.explain) = search rules in
    subst (λ line. IsAnswered of (image_at g.D.Start) line input input outputs c.check_file.result.0 c.check_file.result.1) (sym is) (
      Keeps-refl input,
      refl,
      subst (λ (name : List ℕ). IsCheck c.in-Ok-Check.explain of.asked of.asked_after (image_at g.D.Start) name outputs c.check_file.result.0 c.check_file.result.1) c.as_str-store-in-Ok-Check.ensures.value c.check_file.ensures,
    )

pub returns-in-Ok-Callers : goal.returns-in-Ok-Callers
returns-in-Ok-Callers g c =
    let at = c.args.surroundings.now in
    let of : Found = found_in (g.S.Files.known_file at) (g.T.Stores.asked c.args.stores.now) (g.T.Stores.asked c.callers_file.new.stores) (g.S.Surroundings.known_port at) (g.S.Rounds.is_over at) (g.S.Rounds.log at) (g.S.Rounds.log at) in
    let input = g.I.Read.remaining c.args.input.now in
    let outputs : Outputs =
    outputs_of g.O.Write.contents g.E.Write.contents c.args.output.now c.callers_file.new.output c.args.errors.now c.callers_file.new.errors in
    let is : c.args.line.now ≡ Ok (Callers c.in-Ok-Callers.store c.in-Ok-Callers.callers) = search rules in
    subst (λ line. IsAnswered of (image_at g.D.Start) line input input outputs c.callers_file.result.0 c.callers_file.result.1) (sym is) (
      Keeps-refl input,
      refl,
      same_callers_run of.files of.asked of.asked_after (image_at g.D.Start) c.callers_file.result.1 (string_bytes c.in-Ok-Callers.store) c.as_str-store-in-Ok-Callers.result.now (string_bytes c.in-Ok-Callers.callers)
          c.as_str-callers-in-Ok-Callers.result.now outputs c.callers_file.result.0 c.as_str-store-in-Ok-Callers.ensures.value c.as_str-callers-in-Ok-Callers.ensures.value c.callers_file.ensures,
    )
