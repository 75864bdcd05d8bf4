use Rattle.std.proofs.Common.{sym, ◌∙◌, ap}
use Rattle.mcs_reader.specs.Gathered.{is_wanted}
use Rattle.mcs_reader.specs.declared.asked.Asked.{Asked}
use Rattle.mcs_reader.proofs.GatheredFacts.{any_named}
use Rattle.mcs_reader.proofs.asked.Asked.asks_for.Goals as goal

pub returns-in-Named : goal.returns-in-Named
returns-in-Named c values =
    c.is_among.ensures
    ∙ any_named c.args.name.now c.in-Named.names.now
    ∙ sym (ap (λ (asked : Asked). is_wanted asked (record { name = c.args.name.now; values = values })) c.in-Named.is)
