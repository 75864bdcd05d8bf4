use Rattle.std.proofs.Common.{◌++◌, ◌∷◌, [], refl, sym, ◌∙◌, ap}
use Rattle.catalogue.specs.declared.change.Change.{Change}
use Rattle.catalogue.specs.Publication.{catalogue_of, content_of}
use Rattle.flat_content.proofs.GatherFacts.{hold_gathered, record_gathered}
use Rattle.flat_content.proofs.gathered.Gathered.with_one.Goals as goal

pub returns-in_ok-with-in-Whole : goal.returns-in_ok-with-in-Whole
returns-in_ok-with-in-Whole c = λ earlier was.
    record_gathered earlier c.in-Whole.sysmod c.self.inside.records c.in_ok-with-in-Whole.field-0 c.self.inside.book
    (c.self.view_is ∙ was) c.in_ok-with-in-Whole.ensures
    ∙ ap (λ (change : Change). content_of (earlier ++ change ∷ [])) (sym c.in-Whole.is)

pub returns-in_ok-apply-in-OfHold : goal.returns-in_ok-apply-in-OfHold
returns-in_ok-apply-in-OfHold c = λ earlier was.
    hold_gathered earlier c.in-OfHold.change (record { sysmods = catalogue_of c.self.inside.records; holds = c.self.inside.book })
    (record { sysmods = catalogue_of c.self.inside.records; holds = c.apply.new.self }) (c.self.view_is ∙ was)
    refl c.in_ok-apply-in-OfHold.ensures.book
    ∙ ap (λ (change : Change). content_of (earlier ++ change ∷ [])) (sym c.in-OfHold.is)
